use Rattle.std.proofs.Common.{◌≡◌, length}
use Rattle.sched_text.specs.Form.{number_of}
use Rattle.sched_text.proofs.number.read_number.Given as goal

-- what is left has the number of the whole
abbrev pub invariant-loop-left : goal.invariant-loop-left
invariant-loop-left l = number_of l.left ≡ number_of l.text

abbrev pub decreases-loop-left : goal.decreases-loop-left
decreases-loop-left l = length l.left
