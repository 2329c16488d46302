use Rattle.std.proofs.Common.{◌≡◌, ◌+◌, ◌≤◌, length}
use Rattle.f77_cards.specs.Cards.{cards_of}
use Rattle.f77_cards.specs.Columns.{numbered}
use Rattle.f77_cards.specs.Lines.{lines_of}
use Rattle.f77_cards.proofs.Scans.{scan}
use Rattle.f77_cards.proofs.cards.cards.Given as goal

-- whatever the rest of the lines makes of what was read is made of the whole file
abbrev pub invariant-loop-line : goal.invariant-loop-line
invariant-loop-line l = record {
  number : l.number + length l.left ≤ 1 + length l.bytes;
  rest : cards_of l.bytes ≡ scan l.reader (numbered l.number (lines_of l.left));
}

abbrev pub decreases-loop-line : goal.decreases-loop-line
decreases-loop-line l = length l.left
