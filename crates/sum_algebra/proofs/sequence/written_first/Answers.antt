use Rattle.std.proofs.lemmas.Result.{IfOk-weaker}
use Rattle.sum_algebra.proofs.Statements.{written_first_is}
use Rattle.sum_algebra.proofs.sequence.written_first.Goals as goal

pub returns-clause-ok : goal.returns-clause-ok
returns-clause-ok c = IfOk-weaker c.add-3.result _ _
    (λ id h. written_first_is c.args.graph.now c.add.new.self c.add-2.new.self c.add-3.new.self c.args.first.now c.args.later.now c.in_ok-read.read c.in_ok-of_later.of_later id
    c.requires.first c.requires.later c.add.ensures.keeps c.in_ok-read.ensures.added c.add-2.ensures.keeps c.in_ok-of_later.ensures.added h) c.add-3.ensures.added
