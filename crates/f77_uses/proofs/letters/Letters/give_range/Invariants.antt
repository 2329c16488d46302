use Rattle.std.proofs.Common.{◌≡◌, ℕ, ◌&&◌, nat_le, nat_lt, Some, None, if◌then◌else◌}
use Rattle.std.specs.Option.{option_or}
use Rattle.f77_uses.specs.Letters.{given}
use Rattle.f77_uses.proofs.letters.Letters.give_range.Given as goal

-- the letters before this one have the type, unless they had one
abbrev pub invariant-loop-letter : goal.invariant-loop-letter
invariant-loop-letter l = (other : ℕ) → given l.self other ≡ option_or (given l.initial.self other) (if nat_le l.fn.range.first other && nat_lt other l.letter then Some l.typing else None)
