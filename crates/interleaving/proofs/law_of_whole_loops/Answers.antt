-- The law, by its lemma.
use Rattle.std.proofs.Common.{IsTrue}
use Rattle.interleaving.proofs.LoopRegions.{loop_is_whole}
use Rattle.interleaving.proofs.law_of_whole_loops.Goals as goal

pub returns : goal.returns
returns g c = λ sound. loop_is_whole g.row.P.Denot g.row.O.Denot g.row.V.Denot (λ p. IsTrue (sound p))
