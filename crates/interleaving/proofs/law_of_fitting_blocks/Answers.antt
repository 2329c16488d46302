-- The law, by its lemma.
use Rattle.interleaving.proofs.BlockFits.{are_blocks}
use Rattle.interleaving.proofs.law_of_fitting_blocks.Goals as goal

pub returns : goal.returns
returns g c = are_blocks g.row.P.Denot g.row.O.Denot
