-- Grouped lines with one line more, by whether that is an initial line.
use Rattle.std.proofs.Common.{Bool, [], ◌∷◌, if◌then◌else◌}
use Rattle.f77_cards.specs.declared.line.Line.{Line}
use Rattle.f77_cards.specs.Cards.{Grouped}

-- a line before grouped lines, where it is an initial line or a continuation line
abbrev pub with_by : Bool → Line → Grouped → Grouped
with_by first line g = if first then record { leading = []; statements = record { initial = line; continuations = g.leading } ∷ g.statements } else record { leading = line ∷ g.leading; statements = g.statements }
