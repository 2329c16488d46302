-- The laws.
use Rattle.std.specs.Prelude.{ℕ, ◌≡◌, ◌+◌, ◌<◌, ◌⊎◌, ◌↔◌, ◌&&◌, nat_le, nat_lt, true, false, List, [], ◌∷◌, ◌++◌, map, Some, if◌then◌else◌}
use Rattle.std.specs.List.{Contains}
use Rattle.interleaving.specs.Modes.{Fits}
use Rattle.interleaving.specs.Modes as cells
use Rattle.interleaving.specs.Traces.{Read, Write, Move, is_written, is_exposed}
use Rattle.hyb_base.specs.declared.ops.RedOp.{RedOp}
use Rattle.dependence.specs.declared.modes.Judged.{Judged}
use Rattle.dependence.specs.declared.modes.Mode.{Mode}
use Rattle.dependence.specs.declared.modes.Mode.TheVariants.{Untouched, ReadOnly, Shared, Private, Reduce}
use Rattle.dependence.specs.declared.modes.Pair.{Pair}
use Rattle.dependence.specs.declared.modes.Verdict.{Verdict}
use Rattle.dependence.specs.Conflicts.{IsFlowPair, HasNoConflict, IsOfOne, IsFirst, IsLast}
use Rattle.dependence.specs.Executions.{Trace, trace_of, is_touched, without_moves}
use Rattle.dependence.specs.Regions.{Interval, IsIn, OnlyBy, Applies, row, IsModeOf, ModesFit}
use Rattle.dependence.specs.Verdicts.{IsNamed, AreJudged, IsFlow, IsRight}

-- an address has no conflict exactly where no iteration writes it or one alone accesses it
abbrev pub ConflictsAre : Type 0
ConflictsAre = (traces : List Trace) (a : ℕ) → HasNoConflict traces a ↔ (((k : ℕ) → is_written (trace_of traces k) a ≡ false) ⊎ IsOfOne traces a)

-- iterations between which values flow: the first that writes an address comes before the last with an exposed read of it
pub record FlowsThrough (traces : List Trace) (a : ℕ) : Type 0 where
  pub first : ℕ
  pub last : ℕ
  pub writes : IsFirst (λ k. is_written (trace_of traces k) a) first
  pub exposes : IsLast (λ k. is_exposed (trace_of traces k) a) last
  pub before : first < last

-- an address has a flow pair exactly where the first iteration that writes it comes before the last one with an exposed read of it
abbrev pub FlowsAre : Type 0
FlowsAre = (traces : List Trace) (a : ℕ) → ((k : ℕ) × ((j : ℕ) × IsFlowPair traces a k j)) ↔ FlowsThrough traces a

-- exactly one of the two kinds of right verdict exists, and the modes of a region are one
pub record VerdictsAre : Type 0 where
  pub some : (traces : List Trace) (regions : List Interval) → ((modes : List Judged) × AreJudged traces regions modes) ⊎ ((pair : Pair) × IsFlow traces regions pair)
  pub not_both : (traces : List Trace) (regions : List Interval) (modes : List Judged) (pair : Pair) → AreJudged traces regions modes → IsFlow traces regions pair → ⊥
  pub one_mode : (traces : List Trace) (region : Interval) (mode other : Mode) → IsModeOf traces region mode → IsModeOf traces region other → mode ≡ other

-- the modes of judged regions fit
abbrev pub JudgedFit : Type 0
JudgedFit = (traces : List Trace) (regions : List Interval) (modes : List Judged) → AreJudged traces regions modes → ModesFit traces regions (map (λ judged. judged.mode) modes)

-- the pair that comes with a mode rules out each mode before it
abbrev pub PairsRuleOut : Type 0
PairsRuleOut = (traces : List Trace) (region : Interval) (mode earlier : Mode) (pair : Pair) → IsNamed traces region mode (Some pair) → row earlier < row mode → Applies traces region earlier → ⊥

-- how the cells of a region are used in the interleaving of iterations, by the mode of the region
abbrev pub cell_mode : Mode → cells.Mode RedOp
cell_mode Untouched = cells.Shared
cell_mode ReadOnly = cells.Shared
cell_mode Shared = cells.Shared
cell_mode Private = cells.Private
cell_mode (Reduce op) = cells.Reduce op

-- each cell of a region has its mode
abbrev pub CellsAre : (ℕ → cells.Mode RedOp) → List Interval → List Mode → Type 0
CellsAre modes [] [] = Unit {0}
CellsAre modes (region ∷ regions) (mode ∷ listed) = ((a : ℕ) → IsIn region a → modes a ≡ cell_mode mode) × CellsAre modes regions listed
CellsAre modes _ _ = ⊥

-- each address that is accessed is in a region
abbrev pub AreCovered : List Trace → List Interval → Type 0
AreCovered traces regions = (k a : ℕ) → is_touched (trace_of traces k) a ≡ true → (region : Interval) × (Contains regions region × IsIn region a)

-- modes fit exactly where each cell, under the mode of its region, fits as the laws on interleaving have it
abbrev pub CellsFit : Type 0
CellsFit = (traces : List Trace) (regions : List Interval) (listed : List Mode) (modes : ℕ → cells.Mode RedOp) → CellsAre modes regions listed → AreCovered traces regions → ModesFit traces regions listed ↔ Fits modes traces

-- the accesses of a trace to a region
abbrev pub accesses_in : Interval → Trace → Trace
accesses_in region [] = []
accesses_in region (Read a by ∷ trace) = if nat_le region.start a && nat_lt a (region.start + region.len) then Read a by ∷ accesses_in region trace else accesses_in region trace
accesses_in region (Write a by ∷ trace) = if nat_le region.start a && nat_lt a (region.start + region.len) then Write a by ∷ accesses_in region trace else accesses_in region trace
accesses_in region (Move ∷ trace) = accesses_in region trace

-- the mode of a region rests on the accesses to it alone
abbrev pub ModesRest : Type 0
ModesRest = (traces others : List Trace) (region : Interval) → ((k : ℕ) → accesses_in region (trace_of traces k) ≡ accesses_in region (trace_of others k)) → (mode : Mode) → IsModeOf traces region mode → IsModeOf others region mode

-- a last trace without accesses changes neither a mode nor a right verdict
pub record LastCountsNot : Type 0 where
  pub modes : (traces : List Trace) (region : Interval) (mode : Mode) → IsModeOf (traces ++ [] ∷ []) region mode ↔ IsModeOf traces region mode
  pub verdicts : (traces : List Trace) (regions : List Interval) (verdict : Verdict) → IsRight (traces ++ [] ∷ []) regions verdict ↔ IsRight traces regions verdict

-- moves count for nothing
pub record MovesCountNot : Type 0 where
  pub touched : (trace : Trace) (a : ℕ) → is_touched (without_moves trace) a ≡ is_touched trace a
  pub written : (trace : Trace) (a : ℕ) → is_written (without_moves trace) a ≡ is_written trace a
  pub exposed : (trace : Trace) (a : ℕ) → is_exposed (without_moves trace) a ≡ is_exposed trace a
  pub only : (op : RedOp) (region : Interval) (trace : Trace) → OnlyBy op region (without_moves trace) ↔ OnlyBy op region trace
