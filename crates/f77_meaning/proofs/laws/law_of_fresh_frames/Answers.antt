-- The law, by its lemma.
use Rattle.f77_meaning.proofs.Marks.{fresh_frames_write_none}
use Rattle.f77_meaning.proofs.laws.law_of_fresh_frames.Goals as goal

pub returns : goal.returns
returns c = fresh_frames_write_none
