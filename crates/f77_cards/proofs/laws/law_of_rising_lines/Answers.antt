use Rattle.f77_cards.proofs.RisingLines.{lines_rise}
use Rattle.f77_cards.proofs.laws.law_of_rising_lines.Goals as goal

pub returns : goal.returns
returns c = lines_rise
