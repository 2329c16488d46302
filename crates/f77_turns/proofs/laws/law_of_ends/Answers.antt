-- The law, by its lemma.
use Rattle.f77_turns.proofs.Ends.{runs_end_at_end}
use Rattle.f77_turns.proofs.laws.law_of_ends.Goals as goal

pub returns : goal.returns
returns c = runs_end_at_end
