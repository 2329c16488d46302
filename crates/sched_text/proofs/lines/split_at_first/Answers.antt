use Rattle.std.proofs.Common.{rules}
use Rattle.sched_text.proofs.LineLemmas.{one_part, first_part, all_of}
use Rattle.sched_text.proofs.lines.split_at_first.Goals as goal

pub returns-in-None-clause-parts : goal.returns-in-None-clause-parts
returns-in-None-clause-parts c =
    one_part c.args.sign c.args.bytes.now c.split_at.result.0.now c.split_at.result.1.now c.length_before.result c.length_before.ensures.before c.length_before.ensures.within c.split_at.ensures.front c.split_at.ensures.back c.in-None.ensures.cases

pub returns-in-None-clause-whole : goal.returns-in-None-clause-whole
returns-in-None-clause-whole c =
    all_of c.args.sign c.args.bytes.now c.split_at.result.0.now c.split_at.result.1.now c.length_before.result c.length_before.ensures.before c.length_before.ensures.within c.split_at.ensures.front c.split_at.ensures.back c.in-None.ensures.cases

pub returns-in-Some-clause-parts : goal.returns-in-Some-clause-parts
returns-in-Some-clause-parts c =
    first_part c.args.sign c.args.bytes.now c.split_at.result.0.now c.split_at.result.1.now c.in-Some.rest.now c.length_before.result c.in-Some._sign.now c.length_before.ensures.before c.length_before.ensures.within c.length_before.ensures.found c.split_at.ensures.front c.split_at.ensures.back (search rules)
