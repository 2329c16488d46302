use Rattle.f77_operands.proofs.LimitLemmas.{accepted_within}
use Rattle.f77_operands.proofs.laws.law_of_accepted_files.Goals as goal

pub returns : goal.returns
returns c = accepted_within
