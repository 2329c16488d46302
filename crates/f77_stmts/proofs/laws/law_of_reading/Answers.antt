use Rattle.f77_stmts.proofs.Induction.{read_is_spelled}
use Rattle.f77_stmts.proofs.laws.law_of_reading.Goals as goal

pub returns : goal.returns
returns c = read_is_spelled
