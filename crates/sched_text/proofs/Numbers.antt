-- Lemmas on numbers with any zeros in front.
use Rattle.std.proofs.Common.{◌≡◌, ◌≢◌, ℕ, ◌-◌, ◌*◌, ◌^◌, ◌<◌, ◌≤◌, true, ◌&&◌, List, ◌∷◌, length, Option, Some, None, if◌then◌else◌, sym, ap, ◌∙◌, arith, inl, inr, lit<}
use Rattle.std.specs.Prelude.{SomeIff, nat_lt, nat_le}
use Rattle.std.specs.Char.{is_ascii_digit}
use Rattle.std.specs.List.{list_all, IsFirstAndRest}
use Rattle.std.proofs.lemmas.Bool.{and_parts, and_from, ltb-true, lt-ltb, false_from_ne_true, leb-true, cases_Bool, both_ways}
use Rattle.std.proofs.Math.Nat.{pow-le-pow_right, mul-le-mul_right}
use Rattle.hyb_base.specs.Decimal.{IsDigits, value_of}
use Rattle.sched_text.specs.Form.{is_number, number_of}

-- what a number is made of
pub record Parts (text : List ℕ) : Type 0 where
  pub digits : list_all is_ascii_digit text ≡ true
  pub some : 0 < length text
  pub small : value_of text < 2 ^ 64

parts_of : (text : List ℕ) → is_number text ≡ true → Parts text
parts_of text h =
    let outer = and_parts (list_all is_ascii_digit text && nat_lt 0 (length text)) (nat_lt (value_of text) (2 ^ 64)) h in
    let inner = and_parts (list_all is_ascii_digit text) (nat_lt 0 (length text)) outer.0 in
    record { digits = inner.0; some = ltb-true 0 (length text) inner.1; small = ltb-true (value_of text) (2 ^ 64) outer.1 }

number_from : (text : List ℕ) → Parts text → is_number text ≡ true
number_from text p =
    and_from (list_all is_ascii_digit text && nat_lt 0 (length text)) (nat_lt (value_of text) (2 ^ 64))
    (and_from (list_all is_ascii_digit text) (nat_lt 0 (length text)) p.digits (lt-ltb 0 (length text) p.some))
    (lt-ltb (value_of text) (2 ^ 64) p.small)

pub is_some : (text : List ℕ) → Parts text → number_of text ≡ Some (value_of text)
unfolding number_of
is_some text p = ap (λ t. if t then Some (value_of text) else None) (number_from text p)

pub is_none : (text : List ℕ) → (Parts text → ⊥) → number_of text ≡ None
unfolding number_of
is_none text without =
    ap (λ t. if t then Some (value_of text) else None) (false_from_ne_true (is_number text) (λ h. without (parts_of text h)))

-- what the reading of at most 20 digits gives
pub from_read : (text : List ℕ) (r : Option ℕ) → length text ≤ 20 → SomeIff r (IsDigits text × (length text ≤ 20) × (value_of text < 2 ^ 64)) (value_of text) → r ≡ number_of text
from_read text (Some n) short h = ap (λ m. Some m) h.1 ∙ sym (is_some text (record { digits = h.0.0.0; some = h.0.0.1; small = h.0.2 }))
from_read text None short h = sym (is_none text (λ p. h ((p.digits, p.some), short, p.small)))

-- ---- a zero in front

zero_value : (cs : List ℕ) → value_of (48 ∷ cs) ≡ value_of cs
zero_value cs = omega arith

by_parts : (s t : List ℕ) → (Parts s → Parts t) → (Parts t → Parts s) → value_of s ≡ value_of t → number_of s ≡ number_of t
unfolding number_of
by_parts s t there back same =
    elim (cases_Bool (is_number s)) [
      | inl h ↦ is_some s (parts_of s h) ∙ ap (λ m. Some m) same ∙ sym (is_some t (there (parts_of s h)))
      | inr h ↦ is_none s (λ p. both_ways (is_number s) h (number_from s p)) ∙ sym (is_none t (λ p. both_ways (is_number s) h (number_from s (back p))))
    ]

pub zero_dropped : (cs : List ℕ) → 0 < length cs → number_of (48 ∷ cs) ≡ number_of cs
zero_dropped cs some =
    by_parts (48 ∷ cs) cs
    (λ p. record { digits = p.digits; some = some; small = omega (arith, zero_value cs, p.small) })
    (λ p. record { digits = p.digits; some = omega arith; small = omega (arith, zero_value cs, p.small) })
    (zero_value cs)

-- ---- another byte in front of 20 more

large : (k : ℕ) → 20 ≤ k → 2 ^ 64 ≤ 10 ^ k
large k h =
    let powers : 10 ^ 20 ≤ 10 ^ k = pow-le-pow_right {n = 10} (lit< tt) h in
    omega (arith, powers)

digit_above : (c : ℕ) → is_ascii_digit c ≡ true → c ≢ 48 → 1 ≤ c - 48
digit_above c d n =
    let parts = and_parts (nat_le 48 c) (nat_le c 57) d in
    let above : 48 ≤ c = leb-true 48 c parts.0 in
    omega (arith, above, n)

whole_power : (a k : ℕ) → 1 ≤ a → 10 ^ k ≤ a * 10 ^ k
whole_power a k h =
    let e : 1 * 10 ^ k ≤ a * 10 ^ k = mul-le-mul_right (10 ^ k) h in
    omega (arith, e)

no_room : (c : ℕ) (cs : List ℕ) → c ≢ 48 → 20 ≤ length cs → Parts (c ∷ cs) → ⊥
no_room c cs other long p =
    let d = and_parts (is_ascii_digit c) (list_all is_ascii_digit cs) p.digits in
    let one : 1 ≤ c - 48 = digit_above c d.0 other in
    let big : 2 ^ 64 ≤ 10 ^ length cs = large (length cs) long in
    let whole : 10 ^ length cs ≤ (c - 48) * 10 ^ length cs = whole_power (c - 48) (length cs) one in
    omega (arith, p.small, big, whole)

too_long : (c : ℕ) (cs : List ℕ) → c ≢ 48 → 20 ≤ length cs → number_of (c ∷ cs) ≡ None
too_long c cs other long = is_none (c ∷ cs) (no_room c cs other long)

-- the first byte of a text of more than 20: a zero may go, and any other makes it no number
pub zero_first : (text rest : List ℕ) (c : ℕ) → 20 < length text → IsFirstAndRest text c rest → c ≡ 48 → number_of rest ≡ number_of text
zero_first text rest c long first zero =
    let e : text ≡ 48 ∷ rest = first.0 ∙ ap (λ b. b ∷ rest) zero in
    sym (ap number_of e ∙ zero_dropped rest (omega (arith, ap length e)))

pub other_first : (text rest : List ℕ) (c : ℕ) → 20 < length text → IsFirstAndRest text c rest → c ≢ 48 → None ≡ number_of text
other_first text rest c long first other =
    sym (ap number_of first.0 ∙ too_long c rest other (omega (arith, ap length first.0)))
