-- The law, by its lemma.
use Rattle.std.proofs.Common.{IsTrue}
use Rattle.interleaving.proofs.Regions.{is_whole}
use Rattle.interleaving.proofs.law_of_whole_executions.Goals as goal

pub returns : goal.returns
returns g c = λ sound. is_whole g.row.P.Denot g.row.O.Denot g.row.V.Denot (λ p. IsTrue (sound p))
