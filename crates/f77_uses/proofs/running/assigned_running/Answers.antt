use Rattle.std.proofs.Common.{ap, ◌∙◌}
use Rattle.std.specs.List.{list_any}
use Rattle.f77_ast.specs.declared.rule.Rule.TheVariants.{DoVariableAssigned}
use Rattle.f77_leaves.specs.Leaves.{leaves_of}
use Rattle.f77_uses.specs.Ends.{is_reached, assigns_reached}
use Rattle.f77_uses.specs.Running.{assigns_a_running}
use Rattle.f77_uses.specs.Uses.{on_name}
use Rattle.f77_uses.proofs.RunLemmas.{run_turn, broken_is}
use Rattle.f77_uses.proofs.Turns.{turned, first_from}
use Rattle.f77_uses.proofs.running.assigned_running.Goals as goal

pub loop-place-preserved : goal.loop-place-preserved
loop-place-preserved c =
    let unit = c.args.unit.now in
    let place = c.loop-place.place in
    let listed = c.index-unit-place.result in
    let kept = c.loop-place.invariant in
    record {
      targets = kept.targets;
      first = turned DoVariableAssigned (assigns_a_running unit) unit place listed c.loop-place.first (first_from DoVariableAssigned (assigns_a_running unit) unit 0) c.refused_if.result c.sooner-first.result c.breaks-breaks.result c.loop-place-test.true c.index-unit-place.is c.sooner-first.ensures c.refused_if.ensures
          (c.breaks-breaks.ensures ∙ ap (list_any (on_name (assigns_reached c.loop-place.running place))) (c.as_slice.ensures ∙ c.in_ok-leaves.ensures) ∙ broken_is unit c.loop-place.running place (leaves_of listed.stmt) kept.running)
          kept.first;
      running = λ name later.
          run_turn unit c.in_ok-targets.targets name later place listed c.terminal_place.result c.last_by-last.result (is_reached c.loop-place.running name later) (is_reached c.take.new.self name later) kept.targets c.loop-place-test.true c.index-unit-place.is c.terminal_place.ensures c.last_by-last.ensures (c.in_ok-take.ensures name later) (kept.running name later);
    }
