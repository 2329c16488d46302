use Rattle.red_ops.proofs.Orders.{truth_decides}
use Rattle.red_ops.proofs.laws.law_of_truth.Goals as goal

pub returns : goal.returns
returns c = truth_decides
