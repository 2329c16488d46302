use Rattle.std.proofs.Common.{◌≡◌, ◌++◌, drop}
use Rattle.std.specs.List.{flat_map}
use Rattle.f77_leaves.specs.Leaves.{entity_leaves}
use Rattle.f77_leaves.proofs.leaves.add_entities.Given as goal

-- what is in the others is still to be added
abbrev pub invariant-loop-entity : goal.invariant-loop-entity
invariant-loop-entity l = l.into ++ flat_map entity_leaves (drop l.entity-index l.entities) ≡ l.initial.into ++ flat_map entity_leaves l.entities
