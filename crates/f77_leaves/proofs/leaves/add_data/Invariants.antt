use Rattle.std.proofs.Common.{◌≡◌, ◌++◌, drop}
use Rattle.std.specs.List.{flat_map}
use Rattle.f77_leaves.specs.Leaves.{data_leaves}
use Rattle.f77_leaves.proofs.leaves.add_data.Given as goal

-- what is in the others is still to be added
abbrev pub invariant-loop-group : goal.invariant-loop-group
invariant-loop-group l = l.into ++ flat_map data_leaves (drop l.group-index l.groups) ≡ l.initial.into ++ flat_map data_leaves l.groups
