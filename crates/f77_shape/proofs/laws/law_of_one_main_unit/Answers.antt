use Rattle.f77_shape.proofs.AcceptedUnits.{one_main}
use Rattle.f77_shape.proofs.laws.law_of_one_main_unit.Goals as goal

pub returns : goal.returns
returns c = one_main
