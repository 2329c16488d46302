use Rattle.std.proofs.Common.{◌≡◌, ◌++◌}
use Rattle.slot_rows.specs.Spans.{run}
use Rattle.slot_rows.proofs.table.push_run.Given as goal

-- the numbers before the offset were added
abbrev pub invariant-loop-offset : goal.invariant-loop-offset
invariant-loop-offset l = l.into.items ≡ l.initial.into.items ++ run l.first l.offset
