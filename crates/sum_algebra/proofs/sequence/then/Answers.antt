use Rattle.std.proofs.lemmas.Result.{IfOk-weaker}
use Rattle.sum_algebra.proofs.Telling.{then_in, then_tells}
use Rattle.sum_algebra.proofs.sequence.then.Goals as goal

pub returns-clause-there : goal.returns-clause-there
returns-clause-there c = IfOk-weaker c.sequence.result _ _ (λ t h. then_in c.args.graph.now c.args.first.now c.args.later.now c.sequence.new.graph t h) c.sequence.ensures.ok

pub returns-clause-uses : goal.returns-clause-uses
returns-clause-uses c = IfOk-weaker c.sequence.result _ _ (λ t h. then_tells c.args.graph.now c.args.first.now c.args.later.now c.sequence.new.graph t h) c.sequence.ensures.ok
