-- The law, by its lemma.
use Rattle.f77_turns.proofs.Steps.{lines_and_numbers}
use Rattle.f77_turns.proofs.laws.law_of_lines_and_numbers.Goals as goal

pub returns : goal.returns
returns c = lines_and_numbers
