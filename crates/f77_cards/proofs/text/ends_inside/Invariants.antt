use Rattle.std.proofs.Common.{◌≡◌, drop}
use Rattle.f77_cards.specs.Text.{ends_inside}
use Rattle.f77_cards.proofs.text.ends_inside.Given as goal

-- the rest of the bytes ends as they all do
abbrev pub invariant-loop-byte : goal.invariant-loop-byte
invariant-loop-byte l = ends_inside l.inside (drop l.byte-index l.bytes) ≡ ends_inside l.starts_inside l.bytes
