-- Numbers of an input, as std reads them.
use Rattle.std.proofs.Common.{◌≡◌, ℕ, zero, suc, ◌<◌, ◌≤◌, ◌^◌, ℤ, pos, neg_ℤ, w64, Bool, true, false, List, [], ◌∷◌, ◌==◌, refl, arith, lit<, Result, Ok, Err}
use Rattle.std.specs.Prelude.{SomeIff, IsTrue, FitsSigned, if◌then◌else◌, ◌||◌}
use Rattle.std.specs.Bool.{Decides}
use Rattle.std.proofs.lemmas.Bool.Decides.{Decides-eqb}
use Rattle.std.specs.Char.{is_ascii_digit}
use Rattle.std.specs.List.{list_all}
use Rattle.std.specs.Result.{result_ok, OkIff}
use Rattle.std.specs.Str.Parse.{ParsesSigned}
use Rattle.std.proofs.lemmas.Str.Parse.{parse_signed_plain, parse_signed_plus, parse_signed_minus}
use Rattle.std.specs.Str.{IsUtf8}
use Rattle.std.proofs.lemmas.Str.{IsUtf8-from_ascii}
use Rattle.std.proofs.lemmas.Str.Ascii.{IsAscii-cons}
use Rattle.std.proofs.lemmas.Fmt.{IsAscii-from_digits}
use Rattle.hyb_base.proofs.Decimals.{numerals, IsUtf8-from_digits}
use Rattle.hyb_base.specs.Decimal.{IsDigits, value_of}
use Rattle.f77_io.specs.Number.{IsNumber, number_of}

-- a number from 0 on fits where it is below 2 ^ 63
fits_pos : (n : ℕ) → n < 2 ^ 63 → FitsSigned w64 (pos n)
fits_pos n h = record { sfits = h }

pos_fits : (n : ℕ) → FitsSigned w64 (pos n) → n < 2 ^ 63
pos_fits n f = f.sfits

-- a number from 0 down fits where it is 2 ^ 63 at most
fits_neg : (n : ℕ) → n ≤ 2 ^ 63 → FitsSigned w64 (neg_ℤ (pos n))
fits_neg zero h = record { sfits = lit< tt }
fits_neg (suc n) h = record { sfits = omega (arith, h) }

neg_fits : (n : ℕ) → FitsSigned w64 (neg_ℤ (pos n)) → n ≤ 2 ^ 63
neg_fits zero f = omega arith
neg_fits (suc n) f = omega (arith, f.sfits)

-- an answer under other words for the same
answer_by : {E P Q : Type 0} (v : ℤ) (r : Result ℤ E) → (P → Q) → (Q → P) → OkIff r P v → SomeIff (result_ok r) Q v
answer_by v (Ok x) to from h = (to h.0, h.1)
answer_by v (Err e) to from h = λ q. h (from q)

-- what `parse` reads is the number of a word
pub number_by_parse : {E : Type 0} (word : List ℕ) (r : Result ℤ E) → ParsesSigned w64 10 word r → SomeIff (result_ok r) (IsNumber word) (number_of word)
number_by_parse [] r h =
    answer_by _ r (λ p. ((p.0, p.1), fits_pos 0 (lit< tt))) (λ q. (q.0.0, q.0.1, lit< tt))
    (parse_signed_plain numerals w64 [] r h (λ e. omega (arith, e)) (λ e. omega (arith, e)))
number_by_parse (c ∷ cs) r h = by (c == 43) (c == 45) (Decides-eqb c 43) (Decides-eqb c 45)
  where
    by : (plus minus : Bool) → Decides plus (c ≡ 43) → Decides minus (c ≡ 45) → SomeIff (result_ok r) (IsDigits (if plus || minus then cs else c ∷ cs) × FitsSigned w64 (if minus then neg_ℤ (pos (value_of cs)) else pos (value_of (if plus || minus then cs else c ∷ cs)))) (if minus then neg_ℤ (pos (value_of cs)) else pos (value_of (if plus || minus then cs else c ∷ cs)))
    by true true p m = absurd (omega (arith, p.0 refl, m.0 refl))
    by false true p m =
        answer_by _ r (λ q. ((q.0, q.1), fits_neg (value_of cs) q.2)) (λ q. (q.0.0, q.0.1, neg_fits (value_of cs) q.1))
        (parse_signed_minus numerals w64 (c ∷ cs) r h (m.0 refl))
    by true false p m =
        answer_by _ r (λ q. ((q.0, q.1), fits_pos (value_of cs) q.2)) (λ q. (q.0.0, q.0.1, pos_fits (value_of cs) q.1))
        (parse_signed_plus numerals w64 (c ∷ cs) r h (p.0 refl))
    by false false p m =
        answer_by _ r (λ q. ((q.0, q.1), fits_pos (value_of (c ∷ cs)) q.2)) (λ q. (q.0.0, q.0.1, pos_fits (value_of (c ∷ cs)) q.1))
        (parse_signed_plain numerals w64 (c ∷ cs) r h (λ e. ne_true (p.1 e)) (λ e. ne_true (m.1 e)))
      where
        ne_true : false ≡ true → ⊥
        ne_true e = absurd cc

-- a number is a text
pub IsUtf8-from_number : (word : List ℕ) → IsNumber word → IsUtf8 word
IsUtf8-from_number [] n = absurd (omega (arith, n.0.1))
IsUtf8-from_number (c ∷ cs) n = by (c == 43) (c == 45) (Decides-eqb c 43) (Decides-eqb c 45) n.0.0
  where
    by : (plus minus : Bool) → Decides plus (c ≡ 43) → Decides minus (c ≡ 45) → IsTrue (list_all is_ascii_digit (if plus || minus then cs else c ∷ cs)) → IsUtf8 (c ∷ cs)
    by true minus p m d = IsUtf8-from_ascii (c ∷ cs) (IsAscii-cons c cs (omega (arith, p.0 refl)) (IsAscii-from_digits cs (numerals.to cs d)))
    by false true p m d = IsUtf8-from_ascii (c ∷ cs) (IsAscii-cons c cs (omega (arith, m.0 refl)) (IsAscii-from_digits cs (numerals.to cs d)))
    by false false p m d = IsUtf8-from_digits (c ∷ cs) d
