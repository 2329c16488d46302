use Rattle.std.proofs.Common.{◌∙◌}
use Rattle.f77_built.specs.Built.{first_past, past_limit, unbuilt_from}
use Rattle.f77_uses.proofs.Turns.{joined_first}
use Rattle.f77_built.proofs.built.first_unbuilt.Goals as goal

pub returns : goal.returns
returns c =
    let units = c.args.units.now in
    let entities = c.args.entities.now in
    c.sooner.ensures
    ∙ joined_first c.unbuilt_among-statements.result c.in_ok-storage.storage (unbuilt_from units entities 0 units) (past_limit units (first_past 0 entities)) c.unbuilt_among-statements.ensures c.in_ok-storage.ensures
