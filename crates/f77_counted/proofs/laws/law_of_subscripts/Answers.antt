use Rattle.f77_counted.proofs.Subscripts.{elements_have_subscripts}
use Rattle.f77_counted.proofs.laws.law_of_subscripts.Goals as goal

pub returns : goal.returns
returns c = elements_have_subscripts
