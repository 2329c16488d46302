use Rattle.std.proofs.Common.{◌≡◌, ◌+◌, ◌≤◌, ◌^◌, length}
use Rattle.std.specs.Str.Lines.{lines}
use Rattle.sched_text.specs.Reading.{bad_end}
use Rattle.sched_text.proofs.reader.first_filled.Given as goal

-- the first line that isn't empty is among those that are left
abbrev pub invariant-loop-line : goal.invariant-loop-line
invariant-loop-line l = record {
  number : l.number + length l.left ≤ 2 ^ 32;
  rest : bad_end (lines l.left) l.number ≡ bad_end (lines l.text) l.first;
}

abbrev pub decreases-loop-line : goal.decreases-loop-line
decreases-loop-line l = length l.left
