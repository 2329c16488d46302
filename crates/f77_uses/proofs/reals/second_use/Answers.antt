use Rattle.std.proofs.Common.{ap, ◌∙◌}
use Rattle.std.specs.List.{list_any}
use Rattle.f77_ast.specs.declared.rule.Rule.TheVariants.{DoubleName}
use Rattle.f77_uses.specs.Breaks.{uses_twice, is_second_use}
use Rattle.f77_uses.specs.Tables.{told_by}
use Rattle.f77_uses.specs.UseTables.{uses_in}
use Rattle.f77_uses.specs.Uses.{on_name}
use Rattle.f77_uses.proofs.Turns.{turned, first_from}
use Rattle.f77_uses.proofs.reals.second_use.Goals as goal

pub loop-listed-preserved : goal.loop-listed-preserved
loop-listed-preserved c =
    let unit = c.args.unit.now in
    let told = told_by c.args.tables.now in
    let uses = uses_in c.args.uses.now in
    turned DoubleName (uses_twice told uses) unit c.loop-listed.listed-index c.listed-item.result c.loop-listed.first (first_from DoubleName (uses_twice told uses) unit 0) c.refused_if.result c.sooner-first.result c.has_second_use-breaks.result c.loop-listed-test.true c.listed-item.is c.sooner-first.ensures c.refused_if.ensures
    (c.has_second_use-breaks.ensures ∙ ap (list_any (on_name (is_second_use told uses))) (c.as_slice.ensures ∙ c.in_ok-leaves.ensures))
    c.loop-listed.invariant
