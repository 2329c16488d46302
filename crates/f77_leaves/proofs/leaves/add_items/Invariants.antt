use Rattle.std.proofs.Common.{◌≡◌, ◌++◌, drop}
use Rattle.f77_leaves.specs.Leaves.{items_leaves}
use Rattle.f77_leaves.proofs.leaves.add_items.Given as goal

-- what is in the others is still to be added
abbrev pub invariant-loop-item : goal.invariant-loop-item
invariant-loop-item l = l.into ++ items_leaves l.role (drop l.item-index l.items) ≡ l.initial.into ++ items_leaves l.role l.items
