use Rattle.std.proofs.Common.{◌+◌, ◌/◌, rules}
use Rattle.slot_rows.proofs.Bits.{none_at_first}
use Rattle.slot_rows.proofs.marks.Marks.reserve.Goals as goal

pub returns-clause-none : goal.returns-clause-none
returns-clause-none c = none_at_first c.in_ok-words.words.items (c.args.units / 64 + 1) (c.in_ok-words.ensures.items_if_clones_equal (search rules))
