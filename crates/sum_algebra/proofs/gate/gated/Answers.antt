use Rattle.std.proofs.lemmas.Result.{IfOk-weaker}
use Rattle.sum_algebra.proofs.Telling.{gated_in, gated_tells}
use Rattle.sum_algebra.proofs.gate.gated.Goals as goal

pub returns-clause-there : goal.returns-clause-there
returns-clause-there c = IfOk-weaker c.gates.result _ _ (λ t h. gated_in c.args.graph.now c.args.cond c.args.body.now c.gates.new.graph t h) c.gates.ensures.ok

pub returns-clause-uses : goal.returns-clause-uses
returns-clause-uses c = IfOk-weaker c.gates.result _ _ (λ t h. gated_tells c.args.graph.now c.args.cond c.args.body.now c.gates.new.graph t h) c.gates.ensures.ok
