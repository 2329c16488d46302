use Rattle.std.proofs.Common.{◌≡◌, ℕ, ◌||◌, drop}
use Rattle.f77_kinds.specs.Letters.{is_among, has_again}
use Rattle.f77_kinds.specs.Named.{is_named}
use Rattle.f77_kinds.proofs.letters.Named.note_all.Given as goal

-- the other letters are still to be looked at, and to be named
abbrev pub invariant-loop-letter : goal.invariant-loop-letter
invariant-loop-letter l = record {
  again : (l.again || has_again (is_named l.self) (drop l.letter-index l.letters)) ≡ has_again (is_named l.initial.self) l.letters;
  noted : (other : ℕ) → (is_named l.self other || is_among (drop l.letter-index l.letters) other) ≡ (is_named l.initial.self other || is_among l.letters other);
}
