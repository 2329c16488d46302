use Rattle.f77_shape.proofs.AcceptedUnits.{units_end}
use Rattle.f77_shape.proofs.laws.law_of_units_that_end.Goals as goal

pub returns : goal.returns
returns c = units_end
