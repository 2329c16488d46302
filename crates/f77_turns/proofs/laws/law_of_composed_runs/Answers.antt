-- The law, by its lemma.
use Rattle.f77_turns.proofs.Runs.{runs_compose}
use Rattle.f77_turns.proofs.laws.law_of_composed_runs.Goals as goal

pub returns : goal.returns
returns c = runs_compose
