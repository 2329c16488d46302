-- Modes of regions.
use Rattle.std.specs.Prelude.{ℕ, ◌≡◌, ◌+◌, ◌<◌, ◌≤◌, false, List, [], ◌∷◌, Some}
use Rattle.hyb_base.specs.declared.ops.RedOp.{RedOp}
use Rattle.interleaving.specs.Traces.{Read, Write, Move, is_written}
use Rattle.dependence.specs.declared.modes.Mode.{Mode}
use Rattle.dependence.specs.declared.modes.Mode.TheVariants.{Untouched, ReadOnly, Shared, Private, Reduce}
use Rattle.dependence.specs.Conflicts.{HasNoConflict, HasNoFlow}
use Rattle.dependence.specs.Executions.{Trace, trace_of, is_touched}

-- a region: an interval of addresses
pub record Interval : Type 0 where
  pub start : ℕ
  pub len : ℕ

abbrev pub IsIn : Interval → ℕ → Type 0
IsIn region a = (region.start ≤ a) × (a < region.start + region.len)

-- each access of a trace to a region is an accumulation by one operator
abbrev pub OnlyBy : RedOp → Interval → Trace → Type 0
OnlyBy op region [] = Unit {0}
OnlyBy op region (Read a by ∷ trace) = (IsIn region a → by ≡ Some op) × OnlyBy op region trace
OnlyBy op region (Write a by ∷ trace) = (IsIn region a → by ≡ Some op) × OnlyBy op region trace
OnlyBy op region (Move ∷ trace) = OnlyBy op region trace

-- what each mode says of a region: no trace has an address of it; no trace writes one; no conflict is at one; no flow pair is at one; each
-- access to it is an accumulation by the one operator
abbrev pub Applies : List Trace → Interval → Mode → Type 0
Applies traces region Untouched = (k a : ℕ) → IsIn region a → is_touched (trace_of traces k) a ≡ false
Applies traces region ReadOnly = (k a : ℕ) → IsIn region a → is_written (trace_of traces k) a ≡ false
Applies traces region Shared = (a : ℕ) → IsIn region a → HasNoConflict traces a
Applies traces region Private = (a : ℕ) → IsIn region a → HasNoFlow traces a
Applies traces region (Reduce op) = (k : ℕ) → OnlyBy op region (trace_of traces k)

-- the order in which modes are tried
abbrev pub row : Mode → ℕ
row Untouched = 0
row ReadOnly = 1
row Shared = 2
row Private = 3
row (Reduce op) = 4

-- the mode of a region: the first that applies
pub record IsModeOf (traces : List Trace) (region : Interval) (mode : Mode) : Type 0 where
  pub applies : Applies traces region mode
  pub first : (earlier : Mode) → row earlier < row mode → Applies traces region earlier → ⊥

-- a region that can't be reduced: it has no mode
abbrev pub HasNoMode : List Trace → Interval → Type 0
HasNoMode traces region = (mode : Mode) → Applies traces region mode → ⊥

-- a listed mode fits: no conflict where it is Untouched, ReadOnly or Shared, no flow pair where it is Private, accumulations by the one
-- operator alone where it is Reduce
abbrev pub ModeFits : List Trace → Interval → Mode → Type 0
ModeFits traces region Untouched = Applies traces region Shared
ModeFits traces region ReadOnly = Applies traces region Shared
ModeFits traces region Shared = Applies traces region Shared
ModeFits traces region Private = Applies traces region Private
ModeFits traces region (Reduce op) = Applies traces region (Reduce op)

-- a list of modes, one a region, fits
abbrev pub ModesFit : List Trace → List Interval → List Mode → Type 0
ModesFit traces [] [] = Unit {0}
ModesFit traces (region ∷ regions) (mode ∷ modes) = ModeFits traces region mode × ModesFit traces regions modes
ModesFit traces _ _ = ⊥
