use Rattle.f77_layout.proofs.StorageLemmas.{apart_law}
use Rattle.f77_layout.proofs.laws.law_of_apart.Goals as goal

pub returns : goal.returns
returns c = apart_law
