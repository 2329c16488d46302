use Rattle.std.proofs.lemmas.Result.{IfOk-weaker}
use Rattle.sum_algebra.proofs.Statements.{read_only_is}
use Rattle.sum_algebra.proofs.sequence.read_only.Goals as goal

pub returns-clause-ok : goal.returns-clause-ok
returns-clause-ok c = IfOk-weaker c.add-5.result _ _
    (λ id h. read_only_is c.args.graph.now c.add.new.self c.add-2.new.self c.add-3.new.self c.add-4.new.self c.add-5.new.self c.args.first.now c.args.later.now c.in_ok-written_later.written_later c.in_ok-of_first.of_first c.in_ok-written_before.written_before c.in_ok-of_later.of_later id
    c.requires.first c.requires.later c.add.ensures.keeps c.in_ok-written_later.ensures.added c.add-2.ensures.keeps c.in_ok-of_first.ensures.added c.add-3.ensures.keeps c.in_ok-written_before.ensures.added c.add-4.ensures.keeps c.in_ok-of_later.ensures.added h) c.add-5.ensures.added
