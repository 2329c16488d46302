-- Digits and the numbers that they stand for.
use Rattle.std.proofs.Common.{◌≡◌, ℕ, ◌≢◌, ◌==◌, ◌<◌, ◌^◌, pos, ℤ, Bool, true, false, nat_lt, List, [], ◌∷◌, length, take, drop, Result, Ok, Err, Some, None, refl, arith, one-add, to_z, of_z}
use Rattle.std.specs.Prelude.{SomeIff, OkIff, IsTrue, FitsSigned}
use Rattle.std.specs.Char.{is_ascii_digit}
use Rattle.std.specs.List.{list_all}
use Rattle.std.specs.Int.{w64}
use Rattle.std.specs.Result.{result_ok}
use Rattle.std.specs.Str.Parse.{ParsesSigned}
use Rattle.std.proofs.lemmas.Bool.{and_from, and_parts, ltb-true}
use Rattle.std.proofs.lemmas.Int.{to_z-of_z}
use Rattle.std.proofs.lemmas.Str.Parse.{parse_signed_digits}
use Rattle.hyb_base.specs.Decimal.{IsDigits, value_of}
use Rattle.hyb_base.proofs.Decimals.{numerals}
use Rattle.f77_ast.specs.declared.expr.Expr.TheVariants as expr
use Rattle.f77_exprs.specs.Operators.{Text}
use Rattle.f77_exprs.specs.Reading.{digits, is_number, number}

-- what `parse` gives at digits
from_parse : {E : Type 0} (bs : List ℕ) (r : Result ℤ E) → IsTrue (list_all is_ascii_digit bs) → OkIff r ((0 < length bs) × (value_of bs < 2 ^ 63)) (pos (value_of bs)) → SomeIff (result_ok r) (IsDigits bs × (value_of bs < 2 ^ 63)) (pos (value_of bs))
from_parse bs (Ok x) d h = (((d, h.0.0), h.0.1), h.1)
from_parse bs (Err e) d h = λ p. h (p.0.1, p.1)

pub read_by_parse : {E : Type 0} (bs : List ℕ) (r : Result ℤ E) → IsTrue (list_all is_ascii_digit bs) → ParsesSigned w64 10 bs r → SomeIff (result_ok r) (IsDigits bs × (value_of bs < 2 ^ 63)) (pos (value_of bs))
read_by_parse bs r d h = from_parse bs r d (parse_signed_digits numerals w64 bs r h d)

-- ---- the number that a text begins with

-- they are digits
pub digits_all : (i : Text) → list_all is_ascii_digit (take (digits i) i) ≡ true
digits_all [] = refl
digits_all (c ∷ i) = by (digits_all i) (is_ascii_digit c) refl
  where
    by : list_all is_ascii_digit (take (digits i) i) ≡ true → (t : Bool) → is_ascii_digit c ≡ t → list_all is_ascii_digit (take (digits (c ∷ i)) (c ∷ i)) ≡ true
    by all true e = rw (e, one-add, e) all
    by all false e = rw e refl

pub number_is : (s : Text) → 0 < length s → value_of s < 2 ^ 63 → is_number s ≡ true
number_is s some fits = and_from (nat_lt 0 (length s)) (nat_lt (value_of s) (2 ^ 63)) (grind (arith, some)) (grind (arith, fits))

number_isnt : (s : Text) → ¬ ((0 < length s) × (value_of s < 2 ^ 63)) → is_number s ≡ false
number_isnt s none = by (is_number s) refl
  where
    by : (t : Bool) → is_number s ≡ t → is_number s ≡ false
    by false e = e
    by true e =
        let p = and_parts (nat_lt 0 (length s)) (nat_lt (value_of s) (2 ^ 63)) e in
        absurd (none (ltb-true 0 (length s) p.0, ltb-true (value_of s) (2 ^ 63) p.1))

-- no digit comes next
pub number_none : (i : Text) → digits i ≡ 0 → number i ≡ Some (None, i)
unfolding number
number_none i e = rw e refl

-- what is read at digits, by whether they are a number
pub number_there : (i s rest : Text) (v : ℤ) → digits i ≢ 0 → s ≡ take (digits i) i → rest ≡ drop (digits i) i → SomeIff (Some v) (IsDigits s × (value_of s < 2 ^ 63)) (pos (value_of s)) → number i ≡ Some (Some (expr.Int v), rest)
unfolding number
number_there i s rest v some front back h =
    let z : (digits i == 0) ≡ false = grind (arith, some) in
    let n : is_number s ≡ true = number_is s h.0.0.1 h.0.1 in
    rw (z, ← front, ← back, n, h.1) refl

pub number_missing : (i s : Text) → digits i ≢ 0 → s ≡ take (digits i) i → SomeIff None (IsDigits s × (value_of s < 2 ^ 63)) (pos (value_of s)) → number i ≡ None
unfolding number
number_missing i s some front h =
    let z : (digits i == 0) ≡ false = grind (arith, some) in
    let all : list_all is_ascii_digit s ≡ true = rw front (digits_all i) in
    let n : is_number s ≡ false = number_isnt s (λ p. h ((all, p.0), p.1)) in
    rw (z, ← front, n) refl

-- a number of 64 bits stays itself
pub kept : (z : ℤ) → FitsSigned w64 z → to_z w64 (of_z w64 z) ≡ z
kept z f = to_z-of_z w64 z f
