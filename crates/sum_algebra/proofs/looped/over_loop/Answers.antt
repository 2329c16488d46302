use Rattle.std.proofs.lemmas.Result.{IfOk-weaker}
use Rattle.sum_algebra.proofs.Telling.{loop_in, loop_tells}
use Rattle.sum_algebra.proofs.looped.over_loop.Goals as goal

pub returns-clause-there : goal.returns-clause-there
returns-clause-there c = IfOk-weaker c.repeat.result _ _ (λ t h. loop_in c.args.graph.now c.args.index c.args.count c.args.body.now c.repeat.new.graph t h) c.repeat.ensures.ok

pub returns-clause-uses : goal.returns-clause-uses
returns-clause-uses c = IfOk-weaker c.repeat.result _ _ (λ t h. loop_tells c.args.graph.now c.args.index c.args.count c.args.body.now c.repeat.new.graph t h) c.repeat.ensures.ok
