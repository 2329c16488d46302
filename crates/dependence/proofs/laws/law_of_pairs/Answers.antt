-- The law, by its lemma.
use Rattle.dependence.proofs.Naming.{pairs_rule_out}
use Rattle.dependence.proofs.laws.law_of_pairs.Goals as goal

pub returns : goal.returns
returns c = pairs_rule_out
