-- The law, by its lemma.
use Rattle.f77_turns.proofs.Kept.{only_prints_change_lines}
use Rattle.f77_turns.proofs.laws.law_of_lines.Goals as goal

pub returns : goal.returns
returns c = only_prints_change_lines
