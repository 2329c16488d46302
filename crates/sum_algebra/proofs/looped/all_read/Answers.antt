use Rattle.std.proofs.lemmas.Result.{IfOk-weaker}
use Rattle.sum_algebra.proofs.Loops.{all_read_is}
use Rattle.sum_algebra.proofs.looped.all_read.Goals as goal

pub returns-clause-ok : goal.returns-clause-ok
returns-clause-ok c = IfOk-weaker c.add-2.result _ _ (λ id h. all_read_is c.args.graph.now c.add.new.self c.add-2.new.self c.args.index c.args.count c.args.body.now c.in_ok-body.body id c.in_ok-body.ensures.added h) c.add-2.ensures.added
