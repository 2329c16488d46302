use Rattle.std.proofs.Common.{◌≡◌, Some}
use Rattle.std.specs.Option.{option_copied}
use Rattle.sched_text.specs.Form.{numbers_of, parts_after, pushed}
use Rattle.sched_text.proofs.Pushes.{left_over}
use Rattle.sched_text.proofs.spelling.push_numbers.Given as goal

-- whatever what is left adds is added by the whole
abbrev pub invariant-loop-left : goal.invariant-loop-left
invariant-loop-left l = pushed (numbers_of (parts_after 32 (option_copied l.left))) l.into ≡ pushed (numbers_of (parts_after 32 (Some l.texts))) l.initial.into

abbrev pub decreases-loop-left : goal.decreases-loop-left
decreases-loop-left l = left_over (option_copied l.left)
