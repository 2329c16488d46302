use Rattle.f77_sizes.proofs.Elements.{elements_within, elements_differ, elements_all}
use Rattle.f77_sizes.proofs.laws.law_of_elements.Goals as goal

pub returns : goal.returns
returns c = record { within = elements_within; differ = elements_differ; all = elements_all }
