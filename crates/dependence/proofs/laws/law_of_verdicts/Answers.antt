-- The law, by its lemma.
use Rattle.dependence.proofs.Judging.{verdicts_are}
use Rattle.dependence.proofs.laws.law_of_verdicts.Goals as goal

pub returns : goal.returns
returns c = verdicts_are
