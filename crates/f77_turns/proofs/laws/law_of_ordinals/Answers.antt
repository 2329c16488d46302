-- The law, by its lemma.
use Rattle.f77_turns.proofs.Ordinals.{active_loops_differ}
use Rattle.f77_turns.proofs.laws.law_of_ordinals.Goals as goal

pub returns : goal.returns
returns c = active_loops_differ
