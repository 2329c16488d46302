use Rattle.std.proofs.Common.{◌≡◌, ◌++◌, drop}
use Rattle.std.specs.List.{flat_map}
use Rattle.f77_leaves.specs.Leaves.{named_leaves}
use Rattle.f77_leaves.proofs.leaves.add_constants.Given as goal

-- what is in the others is still to be added
abbrev pub invariant-loop-constant : goal.invariant-loop-constant
invariant-loop-constant l = l.into ++ flat_map named_leaves (drop l.constant-index l.constants) ≡ l.initial.into ++ flat_map named_leaves l.constants
