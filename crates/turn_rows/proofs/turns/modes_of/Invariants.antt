use Rattle.std.proofs.Common.{◌≡◌, ◌≤◌, length}
use Rattle.turn_rows.specs.Memory.{values_of}
use Rattle.turn_rows.proofs.turns.modes_of.Given as goal

-- no more modes than cells, and as many cells as at first
abbrev pub invariant-loop-line : goal.invariant-loop-line
invariant-loop-line l =
    (goal.iterator-loop-line).can_next l.line-iterator ×
    (goal.iterator-loop-line).is_finite l.line-iterator ×
    (length l.modes.items ≤ 256) ×
    (length (values_of l.cells) ≡ 256)
