use Rattle.f77_structure.proofs.ValueLemmas.{signs_numeric}
use Rattle.f77_structure.proofs.laws.law_of_signs.Goals as goal

pub returns : goal.returns
returns c = signs_numeric
