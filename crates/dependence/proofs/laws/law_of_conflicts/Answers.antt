-- The law, by its lemma.
use Rattle.dependence.proofs.Pairs.{the_conflicts}
use Rattle.dependence.proofs.laws.law_of_conflicts.Goals as goal

pub returns : goal.returns
returns c = the_conflicts
