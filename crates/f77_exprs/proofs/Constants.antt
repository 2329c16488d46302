-- Character constants, as they are read.
use Rattle.std.proofs.Common.{◌≡◌, ◌≢◌, true, false, ◌==◌, [], ◌∷◌, ◌++◌, drop, Some, None, ℕ, refl, sym, ap, ◌∙◌, arith}
use Rattle.std.proofs.lemmas.Bool.{eqb-true}
use Rattle.f77_exprs.specs.Operators.{Text}
use Rattle.f77_exprs.specs.Reading.{Outcome, sees, after, characters}

-- an apostrophe that ends the constant
pub closed : (b : ℕ) (found j : Text) → (b == 39) ≡ true → sees 39 j ≡ false → characters found (b ∷ j) ≡ Some (found, j)
unfolding characters
closed b found [] e f = rw e refl
closed b found (c ∷ j) e f = rw (e, f) refl

-- two apostrophes
pub twice : (b : ℕ) (found j : Text) → (b == 39) ≡ true → sees 39 j ≡ true → characters found (b ∷ j) ≡ characters (found ++ b ∷ []) (drop 1 j)
unfolding characters
twice b found [] e f = cc
twice b found (c ∷ j) e f = rw (e, f) (ap (λ x. characters (found ++ x ∷ []) j) (by (eqb-true b 39 e)))
  where
    by : b ≡ 39 → 39 ≡ b
    by g = cc

-- another byte
pub another : (b : ℕ) (found j : Text) → (b == 39) ≡ false → characters found (b ∷ j) ≡ characters (found ++ b ∷ []) j
unfolding characters
another b found [] e = rw e refl
another b found (c ∷ j) e = rw e refl

-- no byte is left
pub unclosed : (found : Text) → characters found [] ≡ None
unfolding characters
unclosed found = refl

-- ---- the same, for the loop that reads

equal : (b : ℕ) → b ≡ 39 → (b == 39) ≡ true
equal b e = rw e refl

unequal : (b : ℕ) → b ≢ 39 → (b == 39) ≡ false
unequal b e = grind (arith, e)

after_none : (j : Text) → sees 39 j ≡ false → after 39 j ≡ j
after_none j f = rw f refl

after_one : (j : Text) → sees 39 j ≡ true → after 39 j ≡ drop 1 j
after_one j f = rw f refl

pub closes : (whole : Outcome Text) (b : ℕ) (found i j k : Text) → whole ≡ characters found i → i ≡ b ∷ j → b ≡ 39 → sees 39 j ≡ false → k ≡ after 39 j → whole ≡ Some (found, k)
closes whole b found i j k w s e f at = w ∙ ap (characters found) s ∙ closed b found j (equal b e) f ∙ ap (λ x. Some (found, x)) (sym (at ∙ after_none j f))

pub goes_twice : (whole : Outcome Text) (b : ℕ) (found more i j k : Text) → whole ≡ characters found i → i ≡ b ∷ j → b ≡ 39 → sees 39 j ≡ true → k ≡ after 39 j → more ≡ found ++ b ∷ [] → whole ≡ characters more k
goes_twice whole b found more i j k w s e f at is = w ∙ ap (characters found) s ∙ twice b found j (equal b e) f ∙ ap (characters (found ++ b ∷ [])) (sym (at ∙ after_one j f)) ∙ ap (λ x. characters x k) (sym is)

pub goes_on : (whole : Outcome Text) (b : ℕ) (found more i j : Text) → whole ≡ characters found i → i ≡ b ∷ j → b ≢ 39 → more ≡ found ++ b ∷ [] → whole ≡ characters more j
goes_on whole b found more i j w s e is = w ∙ ap (characters found) s ∙ another b found j (unequal b e) ∙ ap (λ x. characters x j) (sym is)

pub never : (whole : Outcome Text) (found i : Text) → whole ≡ characters found i → i ≡ [] → whole ≡ None
never whole found i w s = w ∙ ap (characters found) s ∙ unclosed found
