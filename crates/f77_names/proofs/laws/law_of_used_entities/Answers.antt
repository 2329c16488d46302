use Rattle.f77_names.proofs.UsedLemmas.{uses_have_entities}
use Rattle.f77_names.proofs.laws.law_of_used_entities.Goals as goal

pub returns : goal.returns
returns c = uses_have_entities
