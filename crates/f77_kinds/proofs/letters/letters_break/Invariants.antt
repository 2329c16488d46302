use Rattle.std.proofs.Common.{◌≡◌, ℕ, take}
use Rattle.f77_ast.specs.Refusal.{sooner}
use Rattle.f77_ast.specs.declared.rule.Rule.TheVariants.{TypeClash}
use Rattle.f77_kinds.specs.Letters.{letters_of, is_among, breaks_letters}
use Rattle.f77_kinds.specs.Named.{is_named}
use Rattle.f77_uses.proofs.Turns.{first_from}
use Rattle.f77_kinds.proofs.letters.letters_break.Given as goal

abbrev pub invariant-loop-listed : goal.invariant-loop-listed
invariant-loop-listed l = record {
  named : (letter : ℕ) → is_named l.named letter ≡ is_among (letters_of (take l.listed-index l.unit)) letter;
  first : sooner l.first (first_from TypeClash (breaks_letters l.unit) l.unit l.listed-index) ≡ first_from TypeClash (breaks_letters l.unit) l.unit 0;
}
