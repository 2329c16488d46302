use Rattle.f77_ast.specs.declared.rule.Rule.TheVariants.{ConstantExpected}
use Rattle.f77_uses.proofs.Turns.{turned, first_from}
use Rattle.f77_due.specs.Breaks.{lacks_one}
use Rattle.f77_due.specs.Starts.{facts_in}
use Rattle.f77_due.proofs.lacking.first_lacking.Goals as goal

pub loop-listed-preserved : goal.loop-listed-preserved
loop-listed-preserved c =
    let unit = c.args.unit.now in
    let facts = facts_in c.args.tables.now in
    turned ConstantExpected (lacks_one facts) unit c.loop-listed.listed-index c.listed-item.result c.loop-listed.first (first_from ConstantExpected (lacks_one facts) unit 0) c.refused_if.result c.sooner-first.result c.in_ok-lacks.lacks c.loop-listed-test.true c.listed-item.is c.sooner-first.ensures c.refused_if.ensures
    c.in_ok-lacks.ensures
    c.loop-listed.invariant
