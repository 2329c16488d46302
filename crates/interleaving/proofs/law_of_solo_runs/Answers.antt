-- The law, by its lemma.
use Rattle.interleaving.proofs.Solos.{are_runs}
use Rattle.interleaving.proofs.law_of_solo_runs.Goals as goal

pub returns : goal.returns
returns g c = are_runs g.row.P.Denot g.row.O.Denot g.row.V.Denot
