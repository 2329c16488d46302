-- The law, by its lemma.
use Rattle.f77_turns.proofs.Turns.{turns_clear}
use Rattle.f77_turns.proofs.laws.law_of_frames_after_turns.Goals as goal

pub returns : goal.returns
returns c = turns_clear
