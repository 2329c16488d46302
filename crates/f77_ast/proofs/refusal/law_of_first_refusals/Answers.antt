use Rattle.f77_ast.proofs.Refusals.{first_is_earliest}
use Rattle.f77_ast.proofs.refusal.law_of_first_refusals.Goals as goal

pub returns : goal.returns
returns c = first_is_earliest
