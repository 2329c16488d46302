use Rattle.f77_constants.specs.Constants.{constant_names}
use Rattle.f77_constants.proofs.NamesOfLemmas.{names_turn}
use Rattle.f77_constants.proofs.naming.constant_names.Goals as goal

pub loop-listed-preserved : goal.loop-listed-preserved
loop-listed-preserved c =
    let unit = c.args.unit.now in
    names_turn unit c.loop-listed.listed-index c.listed-item.result c.loop-listed.names c.add_names.new.names (constant_names unit) c.loop-listed-test.true c.listed-item.is c.in_ok-add_names.ensures c.loop-listed.invariant
