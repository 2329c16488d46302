-- The law, by its lemma.
use Rattle.dependence.proofs.Agreeing.{modes_rest}
use Rattle.dependence.proofs.laws.law_of_regions.Goals as goal

pub returns : goal.returns
returns c = modes_rest
