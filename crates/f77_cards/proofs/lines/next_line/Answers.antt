use Rattle.std.proofs.Common.{rules}
use Rattle.f77_cards.proofs.LineLemmas.{next_whole, next_cut}
use Rattle.f77_cards.proofs.lines.next_line.Goals as goal

pub returns-in-None-clause-lines : goal.returns-in-None-clause-lines
returns-in-None-clause-lines c =
    next_whole c.args.bytes.now c.split_at.result.0.now c.split_at.result.1.now c.line_length-end.result (search rules) c.line_length-end.ensures.before c.line_length-end.ensures.within c.split_at.ensures.front c.split_at.ensures.back c.in-None.ensures.cases

pub returns-in-Some-clause-lines : goal.returns-in-Some-clause-lines
returns-in-Some-clause-lines c =
    rw c.without_return.ensures
    (next_cut c.args.bytes.now c.split_at.result.0.now c.split_at.result.1.now c.in-Some.rest.now c.line_length-end.result c.in-Some._feed.now c.line_length-end.ensures.before c.line_length-end.ensures.within c.line_length-end.ensures.feed c.split_at.ensures.front c.split_at.ensures.back (search rules))
