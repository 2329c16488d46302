use Rattle.std.proofs.Common.{◌≡◌, drop}
use Rattle.std.specs.List.{flat_map}
use Rattle.f77_uses.specs.UseTables.{uses_in}
use Rattle.f77_uses.specs.Uses.{leaves_in}
use Rattle.f77_due.specs.Starts.{facts_in}
use Rattle.f77_names.specs.Entities.{entity_named}
use Rattle.f77_names.specs.Growing.{with_names}
use Rattle.f77_names.proofs.entities.add_statements.Given as goal

-- with those of the other statements there are all
abbrev pub invariant-loop-listed : goal.invariant-loop-listed
invariant-loop-listed l = with_names (facts_in l.unit) l.number l.entities (flat_map (entity_named (uses_in l.unit.uses)) (leaves_in (drop l.listed-index l.listing))) ≡ with_names (facts_in l.unit) l.number l.initial.entities (flat_map (entity_named (uses_in l.unit.uses)) (leaves_in l.listing))
