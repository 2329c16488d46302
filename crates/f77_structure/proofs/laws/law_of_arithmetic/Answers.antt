use Rattle.f77_structure.proofs.ValueLemmas.{arithmetic_numeric}
use Rattle.f77_structure.proofs.laws.law_of_arithmetic.Goals as goal

pub returns : goal.returns
returns c = arithmetic_numeric
