use Rattle.hyb_base.proofs.Reductions.{operators_reduce}
use Rattle.hyb_base.proofs.reduction.law_of_operators.Goals as goal

pub returns : goal.returns
returns c = operators_reduce
