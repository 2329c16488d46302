use Rattle.std.proofs.Common.{◌≡◌, List, ap, ◌∙◌}
use Rattle.std.specs.List.{flat_map}
use Rattle.f77_ast.specs.declared.program.Listed.{Listed}
use Rattle.f77_uses.specs.Uses.{leaves_in, uses_of}
use Rattle.f77_due.specs.Unit.{facts_of_unit}
use Rattle.f77_names.specs.Entities.{entities_of, entity_named}
use Rattle.f77_names.specs.Growing.{with_names}
use Rattle.f77_names.proofs.GrowthLemmas.{before_turn, units_turn}
use Rattle.f77_names.proofs.entities.entities_of.Goals as goal

pub loop-number-preserved : goal.loop-number-preserved
loop-number-preserved c =
    let units = c.args.units.now in
    let i = c.loop-number.number in
    let x = c.index-units-number.result in
    let before = c.loop-number.entities in
    let after = c.add_unit.new.entities in
    let kept = c.loop-number.invariant in
    let more : after ≡ with_names (facts_of_unit x.listing) i before (flat_map (entity_named (uses_of x.listing)) (leaves_in x.listing)) =
    c.in_ok-add_unit.ensures ∙ ap (λ (l : List Listed). with_names (facts_of_unit l) i before (flat_map (entity_named (uses_of l)) (leaves_in l))) c.as_slice.ensures in
    record {
      before = before_turn i x.listing before after more kept.before;
      rest = units_turn units i x before after (entities_of units) c.loop-number-test.true c.index-units-number.is more kept.before kept.rest;
    }
