use Rattle.std.proofs.Common.{◌≡◌, ℕ, drop, Some, None, if◌then◌else◌}
use Rattle.std.specs.List.{list_any}
use Rattle.std.specs.Option.{option_or}
use Rattle.f77_leaves.specs.Declarations.{holds_letter}
use Rattle.f77_uses.specs.Letters.{given}
use Rattle.f77_uses.proofs.letters.Letters.give_ranges.Given as goal

-- with the other ranges the letters have what they have with all
abbrev pub invariant-loop-range : goal.invariant-loop-range
invariant-loop-range l = (other : ℕ) → option_or (given l.self other) (if list_any (holds_letter other) (drop l.range-index l.ranges) then Some l.typing else None) ≡ option_or (given l.initial.self other) (if list_any (holds_letter other) l.ranges then Some l.typing else None)
