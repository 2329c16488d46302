-- What is known of a region.
use Rattle.std.specs.Prelude.{◌≡◌, ◌⊎◌, Bool, true, false, List, [], ◌∷◌, ◌++◌, Option, None, Some, Result, Ok, Err}
use Rattle.hyb_base.specs.declared.ops.RedOp.{RedOp}
use Rattle.dependence.specs.declared.modes.Judged.{Judged}
use Rattle.dependence.specs.declared.modes.Mode.TheVariants.{Untouched, ReadOnly, Shared, Private, Reduce}
use Rattle.dependence.specs.declared.modes.Pair.{Pair}
use Rattle.dependence.specs.declared.modes.Verdict.{Verdict}
use Rattle.dependence.specs.declared.modes.Verdict.TheVariants.{Independent, Flow}
use Rattle.dependence.specs.Executions.{Trace}
use Rattle.dependence.specs.Regions.{Interval, Applies}
use Rattle.dependence.specs.Verdicts.{ConflictsIn, FlowsIn}
use Rattle.loop_trace.specs.declared.marks.Marks.{Marks}
use Rattle.loop_trace.specs.declared.marks.Uses.{Uses}
use Rattle.loop_trace.specs.declared.marks.Uses.TheVariants.{Unused, Only, Mixed}

-- uses with one access more
abbrev pub IsWith : Uses → Option RedOp → Uses → Type 0
IsWith Unused None new = new ≡ Mixed
IsWith Unused (Some op) new = new ≡ Only op
IsWith (Only one) None new = new ≡ Mixed
IsWith (Only one) (Some op) new = ((new ≡ Only one) × (one ≡ op)) ⊎ ((new ≡ Mixed) × (one ≡ op → ⊥))
IsWith Mixed by new = new ≡ Mixed

abbrev pub or_found : Option Pair → Option Pair → Option Pair
or_found None found = found
or_found (Some pair) found = Some pair

pub record IsAfterRead (old : Marks) (by : Option RedOp) (found : Option Pair) (new : Marks) : Type 0 where
  pub uses : IsWith old.uses by new.uses
  pub written : new.written ≡ old.written
  pub conflict : new.conflict ≡ or_found old.conflict found
  pub flow : new.flow ≡ or_found old.flow found

pub record IsAfterWrite (old : Marks) (by : Option RedOp) (found : Option Pair) (new : Marks) : Type 0 where
  pub uses : IsWith old.uses by new.uses
  pub written : new.written ≡ true
  pub conflict : new.conflict ≡ or_found old.conflict found
  pub flow : new.flow ≡ old.flow

-- the judgement of a region by what is known of it
abbrev pub judged_written : (uses : Uses) → (conflict flow : Option Pair) → Result Judged Pair
judged_written uses None flow = Ok (record { mode = Shared; pair = None })
judged_written uses (Some pair) None = Ok (record { mode = Private; pair = Some pair })
judged_written (Only op) (Some pair) (Some other) = Ok (record { mode = Reduce op; pair = Some other })
judged_written Unused (Some pair) (Some other) = Err other
judged_written Mixed (Some pair) (Some other) = Err other

abbrev pub judged_used : (uses : Uses) → (written : Bool) → (conflict flow : Option Pair) → Result Judged Pair
judged_used uses false conflict flow = Ok (record { mode = ReadOnly; pair = None })
judged_used uses true conflict flow = judged_written uses conflict flow

abbrev pub judged_by : (uses : Uses) → (written : Bool) → (conflict flow : Option Pair) → Result Judged Pair
judged_by Unused written conflict flow = Ok (record { mode = Untouched; pair = None })
judged_by (Only op) written conflict flow = judged_used (Only op) written conflict flow
judged_by Mixed written conflict flow = judged_used Mixed written conflict flow

abbrev pub judged_of : Marks → Result Judged Pair
judged_of m = judged_by m.uses m.written m.conflict m.flow

-- the verdict by what is known of each region
abbrev pub verdict_by : Result Judged Pair → (Judged → Verdict) → Verdict
verdict_by (Ok judged) go = go judged
verdict_by (Err pair) go = Flow pair

abbrev pub verdict_from : List Marks → List Judged → Verdict
verdict_from [] modes = Independent modes
verdict_from (m ∷ rest) modes = verdict_by (judged_of m) (λ judged. verdict_from rest (modes ++ judged ∷ []))

-- what is known is true of traces
abbrev pub UsesAre : List Trace → Interval → Uses → Type 0
UsesAre traces region Unused = Applies traces region Untouched
UsesAre traces region (Only op) = (Applies traces region Untouched → ⊥) × Applies traces region (Reduce op)
UsesAre traces region Mixed = (Applies traces region Untouched → ⊥) × ((op : RedOp) → Applies traces region (Reduce op) → ⊥)

abbrev pub WrittenIs : List Trace → Interval → Bool → Type 0
WrittenIs traces region false = Applies traces region ReadOnly
WrittenIs traces region true = Applies traces region ReadOnly → ⊥

abbrev pub ConflictIs : List Trace → Interval → Option Pair → Type 0
ConflictIs traces region None = Applies traces region Shared
ConflictIs traces region (Some pair) = ConflictsIn traces region pair

abbrev pub FlowIs : List Trace → Interval → Option Pair → Type 0
FlowIs traces region None = Applies traces region Private
FlowIs traces region (Some pair) = FlowsIn traces region pair

pub record IsMarked (traces : List Trace) (region : Interval) (m : Marks) : Type 0 where
  pub uses : UsesAre traces region m.uses
  pub written : WrittenIs traces region m.written
  pub conflict : ConflictIs traces region m.conflict
  pub flow : FlowIs traces region m.flow

abbrev pub AreMarked : List Trace → List Interval → List Marks → Type 0
AreMarked traces [] [] = Unit {0}
AreMarked traces (region ∷ regions) (m ∷ rest) = IsMarked traces region m × AreMarked traces regions rest
AreMarked traces _ _ = ⊥

-- a region without accesses
abbrev pub unused : Marks
unused = record { uses = Unused; written = false; conflict = None; flow = None }
