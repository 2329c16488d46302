-- Decimal texts, in ASCII: `0` to `9` are 48 to 57, and `-` is 45.
use Rattle.std.specs.Prelude.{◌≡◌, ◌≢◌, ℕ, ◌+◌, ◌-◌, ◌*◌, ◌^◌, ◌<◌, ℤ, pos, negsuc, suc, List, [], ◌∷◌, length, slice_index, IsTrue, FitsSigned}
use Rattle.std.specs.Int.{w64}
use Rattle.std.specs.Fmt.{signed_decimal}
use Rattle.std.specs.Char.{is_ascii_digit}
use Rattle.std.specs.List.{list_all}

-- digits alone, and one at least
abbrev pub IsDigits : List ℕ → Type 0
IsDigits text = IsTrue (list_all is_ascii_digit text) × (0 < length text)

-- the number that digits stand for: the first is worth ten times as much as the next
abbrev pub value_of : List ℕ → ℕ
value_of [] = 0
value_of (c ∷ cs) = (c - 48) * 10 ^ length cs + value_of cs

-- the text of a number: `-` where it is negative, and its digits, as `{}` writes it
abbrev pub decimal_of : ℤ → List ℕ
decimal_of z = signed_decimal z

-- digits that stand for n, the first of several being no `0`
pub record AreDigitsOf (n : ℕ) (text : List ℕ) : Type 0 where
  pub digits : IsDigits text
  pub value : value_of text ≡ n
  pub no_zero : 1 < length text → slice_index text 0 ≢ 48

-- a number's text: its digits, behind `-` where it is negative
abbrev pub IsTextOf : ℤ → List ℕ → Type 0
IsTextOf (pos n) text = AreDigitsOf n text
IsTextOf (negsuc n) text = (digits : List ℕ) × (text ≡ 45 ∷ digits) × AreDigitsOf (suc n) digits

-- the text of a number of 64 bits reads back as that number
abbrev pub DecimalReadsBack : Type 0
DecimalReadsBack = (z : ℤ) → FitsSigned w64 z → IsTextOf z (decimal_of z)
