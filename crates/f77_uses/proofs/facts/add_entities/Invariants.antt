use Rattle.std.proofs.Common.{◌≡◌, ◌++◌, drop}
use Rattle.std.specs.List.{flat_map}
use Rattle.f77_leaves.specs.Declarations.{entity_facts}
use Rattle.f77_uses.proofs.facts.add_entities.Given as goal

-- what the others declare is still to be added
abbrev pub invariant-loop-entity : goal.invariant-loop-entity
invariant-loop-entity l = l.into ++ flat_map (entity_facts l.typ) (drop l.entity-index l.entities) ≡ l.initial.into ++ flat_map (entity_facts l.typ) l.entities
