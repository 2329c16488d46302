use Rattle.std.proofs.Common.{◌≡◌, ◌++◌, drop}
use Rattle.std.specs.List.{flat_map}
use Rattle.f77_leaves.specs.Leaves.{declarator_leaves}
use Rattle.f77_leaves.proofs.leaves.add_declarators.Given as goal

-- what is in the others is still to be added
abbrev pub invariant-loop-declarator : goal.invariant-loop-declarator
invariant-loop-declarator l = l.into ++ flat_map (declarator_leaves l.role) (drop l.declarator-index l.declarators) ≡ l.initial.into ++ flat_map (declarator_leaves l.role) l.declarators
