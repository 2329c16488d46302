-- Values in cells, and operators on numbers.
use Rattle.std.proofs.Common.{◌≡◌, ℕ, suc, ◌<◌, ℤ, pos, true, false, List, [], ◌∷◌, map, Option, None, Some, All, refl, ap, arith}
use Rattle.f77_ast.specs.declared.expr.Op.TheVariants as op
use Rattle.hyb_base.specs.Wrap.{quotient_of, power_of}
use Rattle.f77_structure.specs.Laws.{WrittenValuesAreRead, IsNumeric, SignsAreNumeric, ArithmeticIsNumeric}
use Rattle.f77_structure.specs.Values.{integer, truth, chars, character_of, number_or_zero_divisor}

-- the character of a number of eight bits
character_is : (c : ℕ) → c < 256 → character_of (pos c) ≡ c
character_is c h = grind (arith, h)

text_is : (text : List ℕ) → All (λ character. character < 256) text → map character_of (map pos text) ≡ text
text_is [] all = refl
text_is (c ∷ text) all = λ i. character_is c (all 0 c (omega arith)) i ∷ text_is text (λ k d h. all (suc k) d (omega (arith, h))) i

pub written_is_read : WrittenValuesAreRead
written_is_read (integer number) h = refl
written_is_read (truth true) h = refl
written_is_read (truth false) h = refl
written_is_read (chars text) h = ap chars (text_is text h)

quotient_numeric : (o : Option ℤ) → IsNumeric (number_or_zero_divisor o)
quotient_numeric (Some number) = tt
quotient_numeric None = tt

pub signs_numeric : SignsAreNumeric
signs_numeric op.Plus x e = tt
signs_numeric op.Neg x e = tt
signs_numeric _ x e = absurd (cc)

pub arithmetic_numeric : ArithmeticIsNumeric
arithmetic_numeric op.Add x y e = tt
arithmetic_numeric op.Sub x y e = tt
arithmetic_numeric op.Mul x y e = tt
arithmetic_numeric op.Div x y e = quotient_numeric (quotient_of x y)
arithmetic_numeric op.Pow x y e = quotient_numeric (power_of x y)
arithmetic_numeric _ x y e = absurd (cc)
