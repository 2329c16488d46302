-- Right verdicts.
use Rattle.std.specs.Prelude.{List, [], ◌∷◌, Option, None, Some}
use Rattle.std.specs.List.{Contains}
use Rattle.dependence.specs.declared.modes.Judged.{Judged}
use Rattle.dependence.specs.declared.modes.Mode.{Mode}
use Rattle.dependence.specs.declared.modes.Mode.TheVariants.{Untouched, ReadOnly, Shared, Private, Reduce}
use Rattle.dependence.specs.declared.modes.Pair.{Pair}
use Rattle.dependence.specs.declared.modes.Verdict.{Verdict}
use Rattle.dependence.specs.declared.modes.Verdict.TheVariants.{Independent, Flow}
use Rattle.dependence.specs.Conflicts.{IsConflict, IsFlowPair}
use Rattle.dependence.specs.Executions.{Trace}
use Rattle.dependence.specs.Regions.{Interval, IsIn, IsModeOf, HasNoMode}

-- a conflict, and a flow pair, at an address of a region
pub record ConflictsIn (traces : List Trace) (region : Interval) (pair : Pair) : Type 0 where
  pub inside : IsIn region pair.address
  pub conflict : IsConflict traces pair.address pair.earlier pair.later

pub record FlowsIn (traces : List Trace) (region : Interval) (pair : Pair) : Type 0 where
  pub inside : IsIn region pair.address
  pub flow : IsFlowPair traces pair.address pair.earlier pair.later

-- the pair that comes with a mode: a conflict with Private, a flow pair with Reduce, none with the others
abbrev pub IsNamed : List Trace → Interval → Mode → Option Pair → Type 0
IsNamed traces region Untouched None = Unit {0}
IsNamed traces region ReadOnly None = Unit {0}
IsNamed traces region Shared None = Unit {0}
IsNamed traces region Private (Some pair) = ConflictsIn traces region pair
IsNamed traces region (Reduce op) (Some pair) = FlowsIn traces region pair
IsNamed traces region Untouched (Some pair) = ⊥
IsNamed traces region ReadOnly (Some pair) = ⊥
IsNamed traces region Shared (Some pair) = ⊥
IsNamed traces region Private None = ⊥
IsNamed traces region (Reduce op) None = ⊥

-- a region that is rightly judged
pub record IsJudged (traces : List Trace) (region : Interval) (judged : Judged) : Type 0 where
  pub mode : IsModeOf traces region judged.mode
  pub named : IsNamed traces region judged.mode judged.pair

-- one judged mode a region
abbrev pub AreJudged : List Trace → List Interval → List Judged → Type 0
AreJudged traces [] [] = Unit {0}
AreJudged traces (region ∷ regions) (judged ∷ modes) = IsJudged traces region judged × AreJudged traces regions modes
AreJudged traces _ _ = ⊥

-- a flow pair at an address of a region that has no mode
pub record IsFlow (traces : List Trace) (regions : List Interval) (pair : Pair) : Type 0 where
  pub region : Interval
  pub listed : Contains regions region
  pub no_mode : HasNoMode traces region
  pub flows : FlowsIn traces region pair

-- a right verdict on the traces of an execution
abbrev pub IsRight : List Trace → List Interval → Verdict → Type 0
IsRight traces regions (Independent modes) = AreJudged traces regions modes
IsRight traces regions (Flow pair) = IsFlow traces regions pair
