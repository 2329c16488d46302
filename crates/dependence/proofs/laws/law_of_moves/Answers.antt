-- The law, by its lemma.
use Rattle.dependence.proofs.Touches.{moves_count_not}
use Rattle.dependence.proofs.laws.law_of_moves.Goals as goal

pub returns : goal.returns
returns c = moves_count_not
