use Rattle.std.proofs.Common.{not, ap}
use Rattle.f77_ast.specs.declared.rule.Rule.TheVariants.{LeftOut}
use Rattle.f77_built.specs.Built.{is_unbuilt}
use Rattle.f77_uses.proofs.Turns.{first_from, turned}
use Rattle.f77_built.proofs.built.unbuilt_in.Goals as goal

pub loop-listed-preserved : goal.loop-listed-preserved
loop-listed-preserved c =
    let listing = c.args.listing.now in
    let breaking = is_unbuilt c.args.units.now c.args.entities.now c.args.unit in
    turned LeftOut breaking listing c.loop-listed.listed-index c.listed-item.result c.loop-listed.first (first_from LeftOut breaking listing 0) c.refused_if.result c.sooner-first.result (not c.is_built-unbuilt.result) c.loop-listed-test.true c.listed-item.is c.sooner-first.ensures c.refused_if.ensures (ap not c.is_built-unbuilt.ensures) c.loop-listed.invariant
