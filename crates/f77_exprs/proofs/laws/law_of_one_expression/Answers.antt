use Rattle.f77_exprs.proofs.Induction.{one_tree}
use Rattle.f77_exprs.proofs.laws.law_of_one_expression.Goals as goal

pub returns : goal.returns
returns c = one_tree
