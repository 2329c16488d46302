-- The law, by its lemma.
use Rattle.interleaving.proofs.Passing.{passes}
use Rattle.interleaving.proofs.law_of_passing.Goals as goal

pub returns : goal.returns
returns g c = passes g.row.P.Denot g.row.O.Denot g.row.V.Denot
