use Rattle.f77_ast.specs.declared.rule.Rule.TheVariants.{DoNesting}
use Rattle.f77_shape.specs.Ranges.{breaks_range}
use Rattle.f77_shape.proofs.Firsts.{turned, first_from}
use Rattle.f77_shape.proofs.ranges.bad_range.Goals as goal

pub loop-place-preserved : goal.loop-place-preserved
loop-place-preserved c =
    let unit = c.args.unit.now in
    turned DoNesting (breaks_range unit) unit c.loop-place.place c.index-unit-place.result c.loop-place.first (first_from DoNesting (breaks_range unit) unit 0) c.refused_if.result c.sooner-first.result c.breaks_range-breaks.result c.loop-place-test.true c.index-unit-place.is c.sooner-first.ensures c.refused_if.ensures c.breaks_range-breaks.ensures c.loop-place.invariant
