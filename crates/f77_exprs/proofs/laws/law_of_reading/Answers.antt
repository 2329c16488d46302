use Rattle.f77_exprs.proofs.Sound.{read_is_spelled}
use Rattle.f77_exprs.proofs.laws.law_of_reading.Goals as goal

pub returns : goal.returns
returns c = read_is_spelled
