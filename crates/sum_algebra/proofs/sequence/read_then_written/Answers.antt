use Rattle.std.proofs.lemmas.Result.{IfOk-weaker}
use Rattle.sum_algebra.proofs.Statements.{read_then_written_is}
use Rattle.sum_algebra.proofs.sequence.read_then_written.Goals as goal

pub returns-clause-ok : goal.returns-clause-ok
returns-clause-ok c = IfOk-weaker c.add-4.result _ _
    (λ id h. read_then_written_is c.args.graph.now c.add.new.self c.add-2.new.self c.add-3.new.self c.add-4.new.self c.args.first.now c.args.later.now c.in_ok-of_later.of_later c.in_ok-of_both.of_both c.in_ok-either.either id
    c.requires.first c.requires.later c.add.ensures.keeps c.in_ok-of_later.ensures.added c.add-2.ensures.keeps c.in_ok-of_both.ensures.added c.add-3.ensures.keeps c.in_ok-either.ensures.added h) c.add-4.ensures.added
