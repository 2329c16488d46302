use Rattle.f77_stmts.proofs.Induction.{spelled_is_read}
use Rattle.f77_stmts.proofs.laws.law_of_spelling.Goals as goal

pub returns : goal.returns
returns c = spelled_is_read
