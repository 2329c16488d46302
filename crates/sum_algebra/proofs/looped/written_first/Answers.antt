use Rattle.std.proofs.lemmas.Result.{IfOk-weaker}
use Rattle.sum_algebra.proofs.Loops.{written_first_is}
use Rattle.sum_algebra.proofs.looped.written_first.Goals as goal

pub returns-clause-ok : goal.returns-clause-ok
returns-clause-ok c = IfOk-weaker c.add-4.result _ _
    (λ id h. written_first_is c.args.graph.now c.add.new.self c.add-2.new.self c.add-3.new.self c.add-4.new.self c.args.index c.args.count c.args.body.now c.in_ok-read.read c.in_ok-before.before c.in_ok-first.first id
    c.requires c.add.ensures.keeps c.in_ok-read.ensures.added c.add-2.ensures.keeps c.in_ok-before.ensures.added c.in_ok-first.ensures.added h) c.add-4.ensures.added
