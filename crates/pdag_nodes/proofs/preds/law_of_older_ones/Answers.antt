use Rattle.pdag_nodes.proofs.NodeLaws.{older_ones_stay}
use Rattle.pdag_nodes.proofs.preds.law_of_older_ones.Goals as goal

pub returns : goal.returns
returns c = older_ones_stay
