use Rattle.f77_constants.proofs.Least.{values_are_least}
use Rattle.f77_constants.proofs.laws.law_of_constants.Goals as goal

pub returns : goal.returns
returns c = values_are_least
