use Rattle.usr_graph.proofs.Naming.{bounds_stay}
use Rattle.usr_graph.proofs.laws.law_of_bounds.Goals as goal

pub returns : goal.returns
returns c = bounds_stay
