use Rattle.f77_constants.proofs.LengthLemmas.{lengths_are_own}
use Rattle.f77_constants.proofs.laws.law_of_lengths.Goals as goal

pub returns : goal.returns
returns c = lengths_are_own
