-- The loops that blank out constants and dotted words, and that look for a cause.
use Rattle.std.proofs.Common.{◌≡◌, ℕ, ◌<◌, ◌-◌, ◌^◌, ℤ, Bool, true, false, not, ◌||◌, ◌==◌, nat_le, nat_lt, if◌then◌else◌, [], ◌∷◌, ◌++◌, length, take, Option, Some, None, refl, sym, ap, ◌∙◌, arith}
use Rattle.std.specs.Prelude.{SomeIff}
use Rattle.std.specs.List.{list_all}
use Rattle.std.specs.Char.{is_ascii_digit}
use Rattle.std.specs.Option.{is_some}
use Rattle.std.proofs.lemmas.List.{append_assoc, append-nil}
use Rattle.hyb_base.specs.Decimal.{IsDigits, value_of}
use Rattle.f77_ast.specs.Name.{is_alphanumeric}
use Rattle.f77_exprs.specs.Operators.{Text}
use Rattle.f77_exprs.specs.Reading.{digits}
use Rattle.f77_exprs.specs.Cause.{unless, inside_after, without_constants, dotted_from, without_words, number_run}
use Rattle.f77_exprs.proofs.Numbers.{digits_all}

-- one byte more of a text whose end is known
shifts : (whole found more tail : Text) (x : ℕ) → whole ≡ found ++ x ∷ tail → more ≡ found ++ x ∷ [] → whole ≡ more ++ tail
shifts whole found more tail x w is = w ∙ sym (append_assoc found (x ∷ []) tail) ∙ ap (λ y. y ++ tail) (sym is)

pub constants_step : (whole found more rest i : Text) (inside now : Bool) (b x : ℕ) → whole ≡ found ++ without_constants inside rest → rest ≡ b ∷ i → x ≡ unless (inside || b == 39) b → more ≡ found ++ x ∷ [] → now ≡ inside_after inside b → whole ≡ more ++ without_constants now i
constants_step whole found more rest i inside now b x w s e is n =
    shifts whole found more (without_constants now i) x (w ∙ ap (λ y. found ++ without_constants inside y) s ∙ ap (λ y. found ++ y ∷ without_constants (inside_after inside b) i) (sym e) ∙ ap (λ y. found ++ x ∷ without_constants y i) (sym n)) is

pub constants_end : (whole found rest : Text) (inside : Bool) → whole ≡ found ++ without_constants inside rest → rest ≡ [] → found ≡ whole
constants_end whole found rest inside w s = sym (w ∙ ap (λ y. found ++ without_constants inside y) s ∙ append-nil found)

pub words_step : (whole found more rest i : Text) (left now b x : ℕ) → whole ≡ found ++ without_words left rest → rest ≡ b ∷ i → x ≡ unless (nat_lt 0 (dotted_from left rest)) b → more ≡ found ++ x ∷ [] → now ≡ dotted_from left rest - 1 → whole ≡ more ++ without_words now i
words_step whole found more rest i left now b x w s e is n =
    shifts whole found more (without_words now i) x
    (w ∙ ap (λ y. found ++ without_words left y) s
    ∙ ap (λ y. found ++ unless (nat_lt 0 (dotted_from left y)) b ∷ without_words (dotted_from left y - 1) i) (sym s)
    ∙ ap (λ y. found ++ y ∷ without_words (dotted_from left rest - 1) i) (sym e)
    ∙ ap (λ y. found ++ x ∷ without_words y i) (sym n))
    is

pub words_end : (whole found rest : Text) (left : ℕ) → whole ≡ found ++ without_words left rest → rest ≡ [] → found ≡ whole
words_end whole found rest left w s = sym (w ∙ ap (λ y. found ++ without_words left y) s ∙ append-nil found)

-- ---- numbers out of range

pub run_digits : (before : ℕ) (i : Text) → list_all is_ascii_digit (number_run before i) ≡ true
run_digits before i = by (is_alphanumeric before)
  where
    by : (t : Bool) → list_all is_ascii_digit (if t then [] else take (digits i) i) ≡ true
    by true = refl
    by false = digits_all i

flipped : (t b : Bool) → t ≡ not b → b ≡ not t
flipped true true e = cc
flipped true false e = refl
flipped false true e = refl
flipped false false e = cc

pub not_empty : (s : Text) → false ≡ (length s == 0) → 0 < length s
not_empty [] e = cc
not_empty (b ∷ s) e = omega arith

pub none_in_range : (s : Text) (r : Option ℤ) (v : ℤ) (b : Bool) → list_all is_ascii_digit s ≡ true → 0 < length s → SomeIff r (IsDigits s × (value_of s < 2 ^ 63)) v → is_some r ≡ not b → b ≡ nat_le (2 ^ 63) (value_of s)
none_in_range s (Some x) v b all some h e = flipped true b e ∙ by (nat_le (2 ^ 63) (value_of s)) refl
  where
    by : (t : Bool) → nat_le (2 ^ 63) (value_of s) ≡ t → false ≡ t
    by false e = refl
    by true e = absurd (grind (arith, e, h.0.1))
none_in_range s None v b all some h e = flipped false b e ∙ by (nat_le (2 ^ 63) (value_of s)) refl
  where
    by : (t : Bool) → nat_le (2 ^ 63) (value_of s) ≡ t → true ≡ t
    by true e = refl
    by false e = absurd (h ((all, some), grind (arith, e)))
