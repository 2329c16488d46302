use Rattle.std.proofs.Common.{◌≡◌, ℕ, List, take}
use Rattle.f77_ast.specs.Refusal.{sooner}
use Rattle.f77_ast.specs.declared.rule.Rule.TheVariants.{DoVariableAssigned}
use Rattle.f77_structure.specs.Targets.{AreTargets}
use Rattle.f77_uses.specs.Ends.{is_reached}
use Rattle.f77_uses.specs.Running.{assigns_a_running, is_run_among}
use Rattle.f77_uses.proofs.Turns.{first_from}
use Rattle.f77_uses.proofs.running.assigned_running.Given as goal

abbrev pub invariant-loop-place : goal.invariant-loop-place
invariant-loop-place l = record {
  targets : AreTargets l.unit l.targets;
  first : sooner l.first (first_from DoVariableAssigned (assigns_a_running l.unit) l.unit l.place) ≡ first_from DoVariableAssigned (assigns_a_running l.unit) l.unit 0;
  running : (name : List ℕ) (later : ℕ) → is_reached l.running name later ≡ is_run_among l.unit name later 0 (take l.place l.unit);
}
