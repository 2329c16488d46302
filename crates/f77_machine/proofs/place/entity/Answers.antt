use Rattle.std.proofs.Common.{sym}
use Rattle.f77_meaning.proofs.Begins.{entity_lies}
use Rattle.f77_machine.proofs.place.entity.Goals as goal

-- what is found is one of the entities, which all lie in storage
pub returns-clause-lies : goal.returns-clause-lies
returns-clause-lies c = entity_lies _ c.args.layout.now.regions c.args.layout.now.entities c.args.unit c.args.name.now c.in_ok-found.found.now c.requires.storage.lie (sym c.in_ok-found.ensures)
