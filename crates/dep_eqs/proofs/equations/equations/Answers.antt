use Rattle.std.proofs.lemmas.Result.{IfOk-weaker}
use Rattle.dep_eqs.proofs.Pairs.{equations_in, equations_tell}
use Rattle.dep_eqs.proofs.equations.equations.Goals as goal

pub returns-clause-there : goal.returns-clause-there
returns-clause-there c = IfOk-weaker c.all_pairs.result _ _ (λ eqs h. equations_in c.args.graph.now c.args.index c.args.count c.args.triple.now c.all_pairs.new.graph eqs h) c.all_pairs.ensures.ok

pub returns-clause-uses : goal.returns-clause-uses
returns-clause-uses c = IfOk-weaker c.all_pairs.result _ _ (λ eqs h. equations_tell c.args.graph.now c.args.index c.args.count c.args.triple.now c.all_pairs.new.graph eqs h) c.all_pairs.ensures.ok
