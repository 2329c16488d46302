-- What the arithmetic operators (ANSI X3.9-1978, section 6.1) give of numbers of 64 bits.
use Rattle.std.specs.Prelude.{◌≡◌, ℕ, zero, suc, ◌*◌, ◌^◌, ℤ, pos, negsuc, ◌+ℤ◌, ◌-ℤ◌, ◌*ℤ◌, neg_ℤ, int_div, FitsSigned, Option, Some, None}
use Rattle.std.specs.Int.{w64, int_wrap, int_pow}

-- what is left of an integer in 64 bits: the number from -2 ^ 63 to 2 ^ 63 - 1 that differs from it by a multiple of 2 ^ 64
abbrev pub wrapped : ℤ → ℤ
wrapped z = int_wrap w64 z

-- r is in the range of 64 bits, and differs from z by a multiple of 2 ^ 64
pub record IsWrapped (z r : ℤ) : Type 0 where
  pub in_range : FitsSigned w64 r
  pub apart : (i : ℕ) × ((j : ℕ) × (z +ℤ pos (i * 2 ^ 64) ≡ r +ℤ pos (j * 2 ^ 64)))

-- `wrapped` gives of each integer what the words above say
abbrev pub WrapsEach : Type 0
WrapsEach = (z : ℤ) → IsWrapped z (wrapped z)

-- `a + b`
abbrev pub sum_of : ℤ → ℤ → ℤ
sum_of a b = wrapped (a +ℤ b)

-- `a - b`
abbrev pub difference_of : ℤ → ℤ → ℤ
difference_of a b = wrapped (a -ℤ b)

-- `a * b`
abbrev pub product_of : ℤ → ℤ → ℤ
product_of a b = wrapped (a *ℤ b)

-- `-a`
abbrev pub negation_of : ℤ → ℤ
negation_of a = wrapped (neg_ℤ a)

-- `a / b`: the quotient without its fraction, wrapped; there is none by 0
abbrev pub quotient_of : ℤ → ℤ → Option ℤ
quotient_of a (pos zero) = None
quotient_of a (pos (suc n)) = Some (wrapped (int_div a (pos (suc n))))
quotient_of a (negsuc n) = Some (wrapped (int_div a (negsuc n)))

-- `a ** k`: the power, wrapped, or, where k is negative, the quotient without its fraction of 1 by the power to -k; there is none of 0
unfoldable pub power_of : ℤ → ℤ → Option ℤ
power_of a (pos k) = Some (wrapped (int_pow a k))
power_of a (negsuc k) = quotient_of (pos 1) (int_pow a (suc k))
