-- The law, by its lemma.
use Rattle.interleaving.proofs.Determined.{has_one_run}
use Rattle.interleaving.proofs.law_of_one_run.Goals as goal

pub returns : goal.returns
returns g c = has_one_run g.row.P.Denot g.row.O.Denot g.row.V.Denot
