use Rattle.std.proofs.Common.{◌≤◌, ◌+◌, ◌*◌, ◌-◌, length}
use Rattle.f77_exprs.proofs.Turns.{Turns}
use Rattle.f77_parts.specs.Items.{items_within, item_of, items_behind}
use Rattle.f77_parts.proofs.items.+items.Given as goal

abbrev pub decreases-implied : goal.decreases-implied
decreases-implied l = 3 * l.depth

abbrev pub decreases-item : goal.decreases-item
decreases-item l = 3 * l.depth + 1

abbrev pub decreases-list_of_items : goal.decreases-list_of_items
decreases-list_of_items l = 3 * l.depth + 2

abbrev pub invariant-list_of_items-loop-alloc : goal.invariant-list_of_items-loop-alloc
invariant-list_of_items-loop-alloc l = record {
  rest : Turns (items_within l.refs l.depth l.fn.reader) (λ n. items_behind (item_of l.refs l.depth (items_within l.refs (l.depth - 1))) n l.found l.reader) (length l.reader);
  within : length l.reader ≤ length l.fn.reader;
}

abbrev pub decreases-list_of_items-loop-alloc : goal.decreases-list_of_items-loop-alloc
decreases-list_of_items-loop-alloc l = length l.reader
