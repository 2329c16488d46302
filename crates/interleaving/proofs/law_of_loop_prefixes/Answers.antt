-- The law, by its lemma.
use Rattle.std.proofs.Common.{IsTrue}
use Rattle.interleaving.proofs.LoopRegions.{loop_do_prefixes}
use Rattle.interleaving.proofs.law_of_loop_prefixes.Goals as goal

pub returns : goal.returns
returns g c = λ sound. loop_do_prefixes g.row.P.Denot g.row.O.Denot g.row.V.Denot (λ p. IsTrue (sound p))
