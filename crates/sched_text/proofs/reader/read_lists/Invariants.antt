use Rattle.std.proofs.Common.{◌≡◌, ◌+◌, ◌≤◌, ◌^◌, [], length}
use Rattle.std.specs.Str.Lines.{lines}
use Rattle.sched_text.specs.Form.{list_of, pushed}
use Rattle.sched_text.specs.Reading.{lists, after_list}
use Rattle.sched_text.proofs.reader.read_lists.Given as goal

-- whatever the rest of the lines makes of the picks is made of the whole
abbrev pub invariant-loop-line : goal.invariant-loop-line
invariant-loop-line l = record {
  number : l.number + length l.left ≤ 2 ^ 32;
  rest : lists (lines l.left) l.number l.picks ≡ after_list (pushed (list_of l.first) []) (lists (lines l.text) 3) 2;
}

abbrev pub decreases-loop-line : goal.decreases-loop-line
decreases-loop-line l = length l.left
