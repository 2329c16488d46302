use Rattle.usr_graph.proofs.Runs.{runs_extend}
use Rattle.usr_graph.proofs.laws.law_of_runs.Goals as goal

pub returns : goal.returns
returns c = runs_extend
