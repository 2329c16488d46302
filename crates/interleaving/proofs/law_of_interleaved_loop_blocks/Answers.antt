-- The law, by its lemma.
use Rattle.std.proofs.Common.{IsTrue}
use Rattle.interleaving.proofs.LoopBlocks.{loop_blocks_interleave}
use Rattle.interleaving.proofs.law_of_interleaved_loop_blocks.Goals as goal

pub returns : goal.returns
returns g c = λ sound. loop_blocks_interleave g.row.P.Denot g.row.O.Denot g.row.V.Denot (λ p. IsTrue (sound p))
