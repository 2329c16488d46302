use Rattle.std.proofs.Common.{◌≡◌, ◌++◌, drop}
use Rattle.std.specs.List.{flat_map}
use Rattle.f77_leaves.specs.Declarations.{group_facts}
use Rattle.f77_uses.proofs.facts.add_groups.Given as goal

-- what the others declare is still to be added
abbrev pub invariant-loop-group : goal.invariant-loop-group
invariant-loop-group l = l.into ++ flat_map group_facts (drop l.group-index l.groups) ≡ l.initial.into ++ flat_map group_facts l.groups
