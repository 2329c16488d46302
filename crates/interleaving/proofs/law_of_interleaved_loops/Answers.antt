-- The law, by its lemma.
use Rattle.std.proofs.Common.{IsTrue}
use Rattle.interleaving.proofs.LoopRegions.{loop_interleaves}
use Rattle.interleaving.proofs.law_of_interleaved_loops.Goals as goal

pub returns : goal.returns
returns g c = λ sound. loop_interleaves g.row.P.Denot g.row.O.Denot g.row.V.Denot (λ p. IsTrue (sound p))
