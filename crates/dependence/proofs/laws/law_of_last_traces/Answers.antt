-- The law, by its lemma.
use Rattle.dependence.proofs.Agreeing.{last_counts_not}
use Rattle.dependence.proofs.laws.law_of_last_traces.Goals as goal

pub returns : goal.returns
returns c = last_counts_not
