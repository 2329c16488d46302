use Rattle.f77_ast.proofs.Refusals.{first_of-append}
use Rattle.f77_ast.proofs.refusal.law_of_sooner_refusals.Goals as goal

pub returns : goal.returns
returns c = first_of-append
