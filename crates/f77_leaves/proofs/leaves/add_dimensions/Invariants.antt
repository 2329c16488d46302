use Rattle.std.proofs.Common.{◌≡◌, ◌++◌, drop}
use Rattle.std.specs.List.{flat_map}
use Rattle.f77_leaves.specs.Leaves.{bound_leaves}
use Rattle.f77_leaves.proofs.leaves.add_dimensions.Given as goal

-- what is in the others is still to be added
abbrev pub invariant-loop-bound : goal.invariant-loop-bound
invariant-loop-bound l = l.into ++ flat_map bound_leaves (drop l.bound-index l.bounds) ≡ l.initial.into ++ flat_map bound_leaves l.bounds
