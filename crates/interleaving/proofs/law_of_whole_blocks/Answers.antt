-- The law, by its lemma.
use Rattle.std.proofs.Common.{IsTrue}
use Rattle.interleaving.proofs.BlockRegions.{blocks_are_whole}
use Rattle.interleaving.proofs.law_of_whole_blocks.Goals as goal

pub returns : goal.returns
returns g c = λ sound. blocks_are_whole g.row.P.Denot g.row.O.Denot g.row.V.Denot (λ p. IsTrue (sound p))
