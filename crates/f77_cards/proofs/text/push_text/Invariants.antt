use Rattle.std.proofs.Common.{◌≡◌, ◌++◌, drop}
use Rattle.f77_cards.specs.Text.{text_from}
use Rattle.f77_cards.proofs.text.push_text.Given as goal

-- with what the rest of the bytes leaves there the text is what they all make of it
abbrev pub invariant-loop-byte : goal.invariant-loop-byte
invariant-loop-byte l = l.text ++ text_from l.inside (drop l.byte-index l.bytes) ≡ l.initial.text ++ text_from l.starts_inside l.bytes
