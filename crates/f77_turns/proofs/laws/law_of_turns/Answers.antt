-- The law, by its lemma.
use Rattle.f77_turns.proofs.Marks.{turns_marked}
use Rattle.f77_turns.proofs.laws.law_of_turns.Goals as goal

pub returns : goal.returns
returns c = turns_marked
