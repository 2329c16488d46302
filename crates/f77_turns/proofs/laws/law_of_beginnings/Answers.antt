-- The law, by its lemma.
use Rattle.f77_turns.proofs.Marks.{beginnings_marked}
use Rattle.f77_turns.proofs.laws.law_of_beginnings.Goals as goal

pub returns : goal.returns
returns c = beginnings_marked
