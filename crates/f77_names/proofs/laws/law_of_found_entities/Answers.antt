use Rattle.f77_names.proofs.FoundLemmas.{entities_are_found}
use Rattle.f77_names.proofs.laws.law_of_found_entities.Goals as goal

pub returns : goal.returns
returns c = entities_are_found
