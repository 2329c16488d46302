use Rattle.std.proofs.Common.{◌≡◌, ℕ, ◌+◌, max, Bool, ◌&&◌, nat_le, nat_lt, Some, None, if◌then◌else◌, ap, ◌∙◌, arith}
use Rattle.std.proofs.lemmas.Bool.Decides.{nat_tests}
use Rattle.std.specs.Option.{option_or}
use Rattle.f77_leaves.specs.Declarations.{last_letter}
use Rattle.f77_uses.specs.Letters.{given}
use Rattle.f77_uses.proofs.letters.Letters.give_range.Goals as goal

letters_are : (first last other letter : ℕ) → letter ≡ max first (last + 1) → (nat_le first other && nat_lt other letter) ≡ (nat_le first other && nat_le other last)
letters_are first last other letter e = grind (arith, nat_tests)

pub returns : goal.returns
returns c = λ other.
    let ended : c.loop-letter.letter ≡ max c.args.range.first (last_letter c.args.range c.args.range.last + 1) = omega arith in
    c.loop-letter.invariant other
    ∙ ap (λ (b : Bool). option_or (given c.args.self.now other) (if b then Some c.args.typing.now else None)) (letters_are c.args.range.first (last_letter c.args.range c.args.range.last) other c.loop-letter.letter ended)
