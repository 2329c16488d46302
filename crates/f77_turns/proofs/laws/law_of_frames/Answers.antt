-- The law, by its lemma.
use Rattle.f77_turns.proofs.Steps.{steps_keep_frames}
use Rattle.f77_turns.proofs.laws.law_of_frames.Goals as goal

pub returns : goal.returns
returns c = steps_keep_frames
