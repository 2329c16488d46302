use Rattle.std.proofs.Common.{◌≡◌, drop}
use Rattle.f77_cards.specs.Rules.{has_bad_character}
use Rattle.f77_cards.proofs.rules.has_bad_character.Given as goal

-- the rest of the bytes has a bad character where they all have one
abbrev pub invariant-loop-byte : goal.invariant-loop-byte
invariant-loop-byte l = has_bad_character l.inside (drop l.byte-index l.bytes) ≡ has_bad_character l.starts_inside l.bytes
