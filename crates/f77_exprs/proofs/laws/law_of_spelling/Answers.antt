use Rattle.f77_exprs.proofs.Induction.{spelled_is_read}
use Rattle.f77_exprs.proofs.laws.law_of_spelling.Goals as goal

pub returns : goal.returns
returns c = spelled_is_read
