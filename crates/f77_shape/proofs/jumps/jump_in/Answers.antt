use Rattle.f77_ast.specs.declared.rule.Rule.TheVariants.{JumpIntoRange}
use Rattle.std.proofs.Common.{ap, ◌∙◌}
use Rattle.std.specs.List.{list_any}
use Rattle.f77_shape.specs.Jumps.{enters, jumps_in}
use Rattle.f77_structure.specs.Labels.{gone_to, target_in}
use Rattle.f77_shape.proofs.Firsts.{turned, first_from}
use Rattle.f77_shape.proofs.jumps.jump_in.Goals as goal

pub loop-place-preserved : goal.loop-place-preserved
loop-place-preserved c =
    let unit = c.args.unit.now in
    let listed = c.index-unit-place.result in
    turned JumpIntoRange (jumps_in unit) unit c.loop-place.place listed c.loop-place.first (first_from JumpIntoRange (jumps_in unit) unit 0) c.refused_if.result c.sooner-first.result c.goes_in-breaks.result c.loop-place-test.true c.index-unit-place.is c.sooner-first.ensures c.refused_if.ensures
    (c.goes_in-breaks.ensures unit c.requires ∙ ap (λ s. list_any (λ label. enters unit c.loop-place.place (target_in label unit)) (gone_to s)) c.inner_of.ensures)
    c.loop-place.invariant
