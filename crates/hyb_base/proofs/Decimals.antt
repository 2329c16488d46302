-- Digits and the numbers that they stand for.
use Rattle.std.proofs.Common.{◌≢◌, ℕ, zero, suc, ◌<◌, ◌≤◌, ◌^◌, pos, negsuc, List, length, get_or, refl, ap, arith, lit<, Result, Ok, Err, rules}
use Rattle.std.specs.Prelude.{SomeIff, OkIff, IsTrue}
use Rattle.std.specs.Char.{is_ascii_digit}
use Rattle.std.specs.List.{list_all}
use Rattle.std.specs.Result.{result_ok}
use Rattle.std.specs.Str.Parse.{ParsesUnsigned}
use Rattle.std.proofs.lemmas.Str.Parse.{IsNumeralModel, numerals_by_weight, parse_digits}
use Rattle.std.specs.Fmt.{decimal}
use Rattle.std.specs.Str.{IsUtf8}
use Rattle.std.proofs.lemmas.Fmt.{IsAscii-from_digits, decimal_digit, first_decimal, digits_decimal, decimal_nonempty, digits_value-decimal}
use Rattle.std.proofs.lemmas.Str.{IsUtf8-from_ascii}
use Rattle.hyb_base.specs.Decimal.{IsDigits, value_of, AreDigitsOf, DecimalReadsBack}

-- digits and their value, as std reads them
pub numerals : IsNumeralModel (λ ds. IsTrue (list_all is_ascii_digit ds)) value_of
numerals = numerals_by_weight _ (search rules) value_of (search rules)

-- what `parse` gives at digits
from_parse : {E : Type 0} (bs : List ℕ) (r : Result ℕ E) → IsTrue (list_all is_ascii_digit bs) → length bs ≤ 20 → OkIff r ((0 < length bs) × (value_of bs < 2 ^ 64)) (value_of bs) → SomeIff (result_ok r) (IsDigits bs × (length bs ≤ 20) × (value_of bs < 2 ^ 64)) (value_of bs)
from_parse bs (Ok x) d s h = (((d, h.0.0), s, h.0.1), h.1)
from_parse bs (Err e) d s h = λ p. h (p.0.1, p.2)

pub read_by_parse : {E : Type 0} (bs : List ℕ) (r : Result ℕ E) → IsTrue (list_all is_ascii_digit bs) → length bs ≤ 20 → ParsesUnsigned 64 10 bs r → SomeIff (result_ok r) (IsDigits bs × (length bs ≤ 20) × (value_of bs < 2 ^ 64)) (value_of bs)
read_by_parse bs r d s h = from_parse bs r d s (parse_digits numerals 64 bs r h d)

-- digits are a text
pub IsUtf8-from_digits : (bs : List ℕ) → IsTrue (list_all is_ascii_digit bs) → IsUtf8 bs
IsUtf8-from_digits bs d = IsUtf8-from_ascii bs (IsAscii-from_digits bs (numerals.to bs d))

-- the first of several digits is no zero
first_no_zero : (n : ℕ) → n < 2 ^ 64 → 1 < length (decimal n) → get_or (decimal n) 0 0 ≢ 48
first_no_zero zero h l e = absurd (omega (arith, ap length (decimal_digit 0 (lit< tt))))
first_no_zero (suc n) h l e = absurd (omega (arith, first_decimal (suc n) (omega arith) h))

decimal_digits : (n : ℕ) → n < 2 ^ 64 → AreDigitsOf n (decimal n)
decimal_digits n h = record {
  digits = (digits_decimal numerals n h, decimal_nonempty n h);
  value = digits_value-decimal numerals n h;
  no_zero = first_no_zero n h;
}

pub reads_back : DecimalReadsBack
reads_back (pos n) f = decimal_digits n (omega (arith, f.sfits))
reads_back (negsuc n) f = (decimal (suc n), refl, decimal_digits (suc n) (omega (arith, f.sfits)))
