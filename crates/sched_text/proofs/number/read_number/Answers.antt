use Rattle.std.proofs.Common.{rules, arith, ◌∙◌}
use Rattle.sched_text.proofs.Numbers.{from_read, zero_first, other_first}
use Rattle.sched_text.proofs.number.read_number.Goals as goal

pub loop-left-preserved : goal.loop-left-preserved
loop-left-preserved c =
    zero_first c.loop-left.left.now c.in-Some.rest.now c.in-Some.first.now c.loop-left-test.true (search rules) (search rules) ∙ c.loop-left.invariant

pub returns-then-first-ne48 : goal.returns-then-first-ne48
returns-then-first-ne48 c =
    other_first c.loop-left.left.now c.in-Some.rest.now c.in-Some.first.now c.loop-left-test.true (search rules) (search rules) ∙ c.loop-left.invariant

pub returns : goal.returns
returns c = from_read c.loop-left.left.now c.read_u64.result (omega arith) c.read_u64.ensures ∙ c.loop-left.invariant
