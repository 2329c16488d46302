-- The law, by its lemma.
use Rattle.dependence.proofs.Pairs.{the_flows}
use Rattle.dependence.proofs.laws.law_of_flows.Goals as goal

pub returns : goal.returns
returns c = the_flows
