use Rattle.std.proofs.Common.{◌≡◌, ◌++◌, drop}
use Rattle.std.specs.List.{flat_map}
use Rattle.f77_leaves.specs.Declarations.{common_facts}
use Rattle.f77_uses.proofs.facts.add_members.Given as goal

-- what the others declare is still to be added
abbrev pub invariant-loop-member : goal.invariant-loop-member
invariant-loop-member l = l.into ++ flat_map common_facts (drop l.member-index l.members) ≡ l.initial.into ++ flat_map common_facts l.members
