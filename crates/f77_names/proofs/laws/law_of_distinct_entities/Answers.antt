use Rattle.f77_names.proofs.DistinctLemmas.{entities_are_distinct}
use Rattle.f77_names.proofs.laws.law_of_distinct_entities.Goals as goal

pub returns : goal.returns
returns c = entities_are_distinct
