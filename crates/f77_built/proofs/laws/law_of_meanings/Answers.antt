use Rattle.f77_built.proofs.Files.{statements_mean}
use Rattle.f77_built.proofs.laws.law_of_meanings.Goals as goal

pub returns : goal.returns
returns c = statements_mean
