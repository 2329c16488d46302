use Rattle.std.proofs.Common.{◌≡◌, ◌++◌, ◌-◌}
use Rattle.f77_kinds.specs.Letters.{letters_from}
use Rattle.f77_kinds.proofs.letters.add_range.Given as goal

-- the other letters are still to be added
abbrev pub invariant-loop-letter : goal.invariant-loop-letter
invariant-loop-letter l = l.into ++ letters_from l.letter (l.past - l.letter) ≡ l.initial.into ++ letters_from l.first (l.past - l.first)
