use Rattle.std.proofs.Common.{rules}
use Rattle.sched_text.proofs.LineLemmas.{only_line, first_line}
use Rattle.sched_text.proofs.lines.next_line.Goals as goal

pub returns-in-None-clause-lines : goal.returns-in-None-clause-lines
returns-in-None-clause-lines c =
    only_line c.args.text.now c.split_at_first.result.0.now (search rules) (search rules) (search rules)

pub returns-in-Some-clause-lines : goal.returns-in-Some-clause-lines
returns-in-Some-clause-lines c =
    rw c.without_return.ensures
    (first_line c.args.text.now c.split_at_first.result.0.now c.in-Some.rest.now (search rules))
