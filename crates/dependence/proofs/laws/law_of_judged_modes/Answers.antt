-- The law, by its lemma.
use Rattle.dependence.proofs.Judging.{judged_modes_fit}
use Rattle.dependence.proofs.laws.law_of_judged_modes.Goals as goal

pub returns : goal.returns
returns c = judged_modes_fit
