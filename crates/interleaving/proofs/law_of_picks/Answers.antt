-- The law, by its lemma.
use Rattle.interleaving.proofs.Picks.{picks_name}
use Rattle.interleaving.proofs.law_of_picks.Goals as goal

pub returns : goal.returns
returns g c = picks_name g.row.P.Denot g.row.O.Denot g.row.V.Denot
