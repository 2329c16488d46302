-- The law, by its lemma.
use Rattle.f77_turns.proofs.Kept.{steps_keep_settings}
use Rattle.f77_turns.proofs.laws.law_of_settings.Goals as goal

pub returns : goal.returns
returns c = steps_keep_settings
