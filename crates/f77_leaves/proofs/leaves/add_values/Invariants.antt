use Rattle.std.proofs.Common.{◌≡◌, ◌++◌, drop}
use Rattle.std.specs.List.{flat_map}
use Rattle.f77_leaves.specs.Leaves.{value_leaves}
use Rattle.f77_leaves.proofs.leaves.add_values.Given as goal

-- what is in the others is still to be added
abbrev pub invariant-loop-value : goal.invariant-loop-value
invariant-loop-value l = l.into ++ flat_map value_leaves (drop l.value-index l.values) ≡ l.initial.into ++ flat_map value_leaves l.values
