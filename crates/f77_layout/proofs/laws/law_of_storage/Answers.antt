use Rattle.f77_layout.proofs.StorageLemmas.{storage_law}
use Rattle.f77_layout.proofs.laws.law_of_storage.Goals as goal

pub returns : goal.returns
returns c = storage_law
