use Rattle.f77_stmts.proofs.Induction.{one_statement}
use Rattle.f77_stmts.proofs.laws.law_of_one_statement.Goals as goal

pub returns : goal.returns
returns c = one_statement
