-- The law, by its lemma.
use Rattle.std.proofs.Common.{IsTrue}
use Rattle.interleaving.proofs.Regions.{runs_alone}
use Rattle.interleaving.proofs.law_of_running_alone.Goals as goal

pub returns : goal.returns
returns g c = λ sound. runs_alone g.row.P.Denot g.row.O.Denot g.row.V.Denot (λ p. IsTrue (sound p))
