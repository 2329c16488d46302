-- The law, by its lemma.
use Rattle.f77_turns.proofs.Loops.{active_loops_are_of_program}
use Rattle.f77_turns.proofs.laws.law_of_active_loops.Goals as goal

pub returns : goal.returns
returns c = active_loops_are_of_program
