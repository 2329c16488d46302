use Rattle.std.proofs.Common.{rules}
use Rattle.f77_cards.proofs.LineLemmas.{before_return, before_other}
use Rattle.f77_cards.proofs.lines.without_return.Goals as goal

pub returns-then-last-eq13 : goal.returns-then-last-eq13
returns-then-last-eq13 c =
    before_return c.args.line.now c.in-Some.front.now c.in-Some.last.now (search rules) c.if-last-eq13.true

pub returns-else-last-eq13 : goal.returns-else-last-eq13
returns-else-last-eq13 c =
    before_other c.args.line.now c.in-Some.front.now c.in-Some.last.now (search rules) c.if-last-eq13.false
