use Rattle.std.proofs.Common.{◌≡◌, ◌++◌, drop}
use Rattle.std.specs.List.{flat_map}
use Rattle.f77_leaves.specs.Declarations.{declarator_facts}
use Rattle.f77_uses.proofs.facts.add_declarators.Given as goal

-- what the others declare is still to be added
abbrev pub invariant-loop-declarator : goal.invariant-loop-declarator
invariant-loop-declarator l = l.into ++ flat_map declarator_facts (drop l.declarator-index l.declarators) ≡ l.initial.into ++ flat_map declarator_facts l.declarators
