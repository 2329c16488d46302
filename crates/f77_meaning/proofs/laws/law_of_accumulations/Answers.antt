-- The law, by its lemma.
use Rattle.f77_meaning.proofs.Marks.{accumulations_combine}
use Rattle.f77_meaning.proofs.laws.law_of_accumulations.Goals as goal

pub returns : goal.returns
returns c = accumulations_combine
