use Rattle.std.proofs.Common.{◌≡◌, ◌++◌, drop, map}
use Rattle.f77_leaves.specs.Leaves.{item_leaves, inner_leaves}
use Rattle.f77_leaves.proofs.leaves.+items.Given as goal

-- what is in the other items is still to be added
abbrev pub invariant-add_inner-loop-item : goal.invariant-add_inner-loop-item
invariant-add_inner-loop-item l = l.into ++ inner_leaves l.role (map item_leaves (drop l.item-index l.item-items)) ≡ l.initial.into ++ inner_leaves l.role (map item_leaves l.item-items)
