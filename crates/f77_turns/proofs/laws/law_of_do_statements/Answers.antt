-- The law, by its lemma.
use Rattle.f77_turns.proofs.Loops.{do_statements_have_loops}
use Rattle.f77_turns.proofs.laws.law_of_do_statements.Goals as goal

pub returns : goal.returns
returns c = do_statements_have_loops
