use Rattle.std.proofs.Common.{◌≡◌, drop}
use Rattle.std.specs.List.{flat_map}
use Rattle.f77_uses.specs.UseTables.{uses_in}
use Rattle.f77_due.specs.Starts.{facts_in}
use Rattle.f77_names.specs.Entities.{entity_named}
use Rattle.f77_names.specs.Growing.{with_names}
use Rattle.f77_names.proofs.entities.add_leaves.Given as goal

-- with those of the other leaves there are all
abbrev pub invariant-loop-leaf : goal.invariant-loop-leaf
invariant-loop-leaf l = with_names (facts_in l.unit) l.number l.entities (flat_map (entity_named (uses_in l.unit.uses)) (drop l.leaf-index l.leaves)) ≡ with_names (facts_in l.unit) l.number l.initial.entities (flat_map (entity_named (uses_in l.unit.uses)) l.leaves)
