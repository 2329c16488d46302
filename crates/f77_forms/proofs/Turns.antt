-- The turns of the loops that read lists.
use Rattle.std.proofs.Common.{◌≡◌, ℕ, zero, suc, ◌+◌, ◌-◌, ◌≤◌, ◌<◌, [], ◌∷◌, ◌++◌, List, true, false, length, drop, Result, if◌then◌else◌, Some, None, refl, sym, ap, subst, ◌∙◌, arith}
use Rattle.f77_exprs.specs.declared.unread.Unread.{Unread}
use Rattle.f77_exprs.specs.Operators.{Text, begins}
use Rattle.f77_exprs.specs.Read.{Reads}
use Rattle.f77_exprs.specs.Reading.{Outcome, Parser, and_then, sees, after, after_word, eat_word, is_empty}
use Rattle.f77_exprs.proofs.Complete.{bind}
use Rattle.f77_exprs.proofs.Turns.{Turns}
use Rattle.f77_forms.specs.Form.{more_of, list_of, many_of}
use Rattle.f77_forms.proofs.Forms.{no_comma}

module _ {A : Type 0} (p : Parser A) where
  pub list_starts : (a : A) (found : List A) (i j : Text) → found ≡ a ∷ [] → p i ≡ Some (a, j) → Turns (list_of p i) (λ n. more_of p n found j) (length j)
  list_starts a found i j is first = record { turns = length j; enough = omega arith; same = bind (p i) (λ a. λ i. more_of p (length i) (a ∷ []) i) a j first ∙ ap (λ x. more_of p (length j) x j) (sym is) }

  pub list_missing : (i : Text) → p i ≡ None → list_of p i ≡ None
  list_missing i e = ap (λ o. and_then o (λ a. λ i. more_of p (length i) (a ∷ []) i)) e

  pub list_ended : (whole : Outcome (List A)) (found : List A) (i j : Text) → Turns whole (λ n. more_of p n found i) (length i) → sees 44 i ≡ false → j ≡ after 44 i → whole ≡ Some (found, j)
  list_ended whole found i j t e at = rw (at, e) (t.same ∙ no_comma p t.turns found i e)

  one_more : (n : ℕ) (found : List A) (i : Text) → sees 44 i ≡ true → more_of p (suc n) found i ≡ and_then (p (drop 1 i)) (λ a. more_of p n (found ++ a ∷ []))
  unfolding more_of
  one_more n found i e = rw e refl

  shorter : (i : Text) → sees 44 i ≡ true → length (drop 1 i) < length i
  shorter [] e = cc
  shorter (b ∷ i) e = omega arith

  turned : (whole : Outcome (List A)) (found : List A) (i : Text) → Turns whole (λ n. more_of p n found i) (length i) → sees 44 i ≡ true → (m : ℕ) × (length (drop 1 i) ≤ m) × (whole ≡ and_then (p (drop 1 i)) (λ a. more_of p m (found ++ a ∷ [])))
  turned whole found i t e = by t.turns t.enough t.same
    where
      by : (n : ℕ) → length i ≤ n → whole ≡ more_of p n found i → (m : ℕ) × (length (drop 1 i) ≤ m) × (whole ≡ and_then (p (drop 1 i)) (λ a. more_of p m (found ++ a ∷ [])))
      by zero le w = let s : length (drop 1 i) < length i = shorter i e in absurd (omega arith)
      by (suc n) le w = let s : length (drop 1 i) < length i = shorter i e in (n, omega arith, w ∙ one_more n found i e)

  pub list_fails : (whole : Outcome (List A)) (found : List A) (i j : Text) → Turns whole (λ n. more_of p n found i) (length i) → sees 44 i ≡ true → j ≡ after 44 i → p j ≡ None → whole ≡ None
  list_fails whole found i j t e at none =
      let w = turned whole found i t e in
      let same : j ≡ drop 1 i = at ∙ (rw e refl) in
      w.2 ∙ ap (λ x. and_then x (λ a. more_of p w.0 (found ++ a ∷ []))) (ap p (sym same) ∙ none)

  pub list_goes : (whole : Outcome (List A)) (found more : List A) (a : A) (i j r : Text) → more ≡ found ++ a ∷ [] → Turns whole (λ n. more_of p n found i) (length i) → sees 44 i ≡ true → j ≡ after 44 i → p j ≡ Some (a, r) → length r ≤ length j → Turns whole (λ n. more_of p n more r) (length r)
  list_goes whole found more a i j r is t e at got le =
      let w = turned whole found i t e in
      let same : j ≡ drop 1 i = at ∙ (rw e refl) in
      let l : length j ≡ length (drop 1 i) = ap length same in
      record {
        turns = w.0;
        enough = omega arith;
        same = w.2 ∙ ap (λ x. and_then x (λ a. more_of p w.0 (found ++ a ∷ []))) (ap p (sym same) ∙ got) ∙ ap (λ x. more_of p w.0 x r) (sym is);
      }

  pub many_ended : (n : ℕ) (found : List A) (i : Text) → is_empty i ≡ true → many_of p n found i ≡ Some (found, i)
  unfolding many_of
  many_ended zero found i e = refl
  many_ended (suc n) found i e = rw e refl

  pub many_spent : (whole : Outcome (List A)) (n t : ℕ) (found : List A) (i : Text) → whole ≡ many_of p (n - t) found i → n ≤ t → whole ≡ Some (found, i)
  unfolding many_of
  many_spent whole n t found i e le = let z : n - t ≡ 0 = omega arith in e ∙ ap (λ k. many_of p k found i) z

  many_turned : (whole : Outcome (List A)) (n t : ℕ) (found : List A) (i : Text) → whole ≡ many_of p (n - t) found i → t < n → is_empty i ≡ false → whole ≡ and_then (p i) (λ a. many_of p (n - (t + 1)) (found ++ a ∷ []))
  unfolding many_of
  many_turned whole n t found i e lt some =
      let z : n - t ≡ suc (n - (t + 1)) = omega arith in
      e ∙ ap (λ k. many_of p k found i) z ∙ (rw some refl)

  pub many_fails : (whole : Outcome (List A)) (n t : ℕ) (found : List A) (i : Text) → whole ≡ many_of p (n - t) found i → t < n → is_empty i ≡ false → p i ≡ None → whole ≡ None
  many_fails whole n t found i e lt some none = many_turned whole n t found i e lt some ∙ ap (λ o. and_then o (λ a. many_of p (n - (t + 1)) (found ++ a ∷ []))) none

  pub many_goes : (whole : Outcome (List A)) (n t : ℕ) (found more : List A) (a : A) (i r : Text) → more ≡ found ++ a ∷ [] → whole ≡ many_of p (n - t) found i → t < n → is_empty i ≡ false → p i ≡ Some (a, r) → whole ≡ many_of p (n - (t + 1)) more r
  many_goes whole n t found more a i r is e lt some got = many_turned whole n t found i e lt some ∙ ap (λ o. and_then o (λ a. many_of p (n - (t + 1)) (found ++ a ∷ []))) got ∙ ap (λ x. many_of p (n - (t + 1)) x r) (sym is)

-- ---- what is read where a word doesn't come next

pub reads_else : {A : Type 0} (w i j : Text) (go other : Parser A) (result : Result A Unread) (new : Text) → begins w i ≡ false → j ≡ after_word w i → Reads (other j) result new → Reads (and_then (eat_word w i) (λ found. if found then go else other)) result new
reads_else w i j go other result new none at h =
    let same : j ≡ i = at ∙ (rw none refl) in
    subst (λ o. Reads o result new) (ap other same ∙ sym (rw none refl)) h
