use Rattle.std.proofs.Common.{◌≡◌, ◌++◌, drop}
use Rattle.f77_leaves.specs.Leaves.{refs_leaves}
use Rattle.f77_leaves.proofs.leaves.add_refs.Given as goal

-- what is in the others is still to be added
abbrev pub invariant-loop-reference : goal.invariant-loop-reference
invariant-loop-reference l = l.into ++ refs_leaves l.role (drop l.reference-index l.references) ≡ l.initial.into ++ refs_leaves l.role l.references
