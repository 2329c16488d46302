-- Lemmas on the number of addresses at which something is written.
use Rattle.std.proofs.Common.{◌≡◌, ◌≢◌, ℕ, zero, suc, ◌<◌, inl, inr, Bool, true, false, if◌then◌else◌, refl, sym, ap, ◌∙◌, arith, ℤ, Option, Some, None}
use Rattle.std.specs.Prelude.{is_some}
use Rattle.std.proofs.lemmas.Bool.{cases_eq}
use Rattle.slot_rows.specs.Counts.{count_below}

moved : (t : Bool) (k : ℕ) → (if t then suc (suc k) else suc k) ≡ suc (if t then suc k else k)
moved true k = refl
moved false k = refl

-- tests that give the same below n count the same
pub same_count : (f g : ℕ → Bool) (n : ℕ) → ((a : ℕ) → a < n → f a ≡ g a) → count_below f n ≡ count_below g n
unfolding count_below
same_count f g zero h = refl
same_count f g (suc n) h =
    let less : count_below f n ≡ count_below g n = same_count f g n (λ a l. h a (omega arith)) in
    ap (λ t. if t then suc (count_below f n) else count_below f n) (h n (omega arith)) ∙ ap (λ k. if g n then suc k else k) less

-- and one less where one of them fails at one more
pub one_less : (f g : ℕ → Bool) (n a : ℕ) → a < n → f a ≡ true → g a ≡ false → ((b : ℕ) → b ≢ a → f b ≡ g b) → count_below f n ≡ suc (count_below g n)
unfolding count_below
one_less f g zero a l p q h = absurd (omega arith)
one_less f g (suc n) a l p q h =
    elim (cases_eq a n) [
      | inl e ↦ (
          let here : f n ≡ true = ap f (sym e) ∙ p in
          let there : g n ≡ false = ap g (sym e) ∙ q in
          ap (λ t. if t then suc (count_below f n) else count_below f n) here
          ∙ ap (λ k. suc k) (same_count f g n (λ b m. h b (λ s. omega (arith, e, s, m))))
          ∙ sym (ap (λ t. suc (if t then suc (count_below g n) else count_below g n)) there))
      | inr e ↦ (
          let less : count_below f n ≡ suc (count_below g n) = one_less f g n a (omega arith) p q h in
          let same : f n ≡ g n = h n (λ s. e (sym s)) in
          ap (λ t. if t then suc (count_below f n) else count_below f n) same
          ∙ ap (λ k. if g n then suc k else k) less
          ∙ moved (g n) (count_below g n))
    ]

pub none_count : (f : ℕ → Bool) (n : ℕ) → ((a : ℕ) → f a ≡ false) → count_below f n ≡ 0
unfolding count_below
none_count f zero h = refl
none_count f (suc n) h = ap (λ t. if t then suc (count_below f n) else count_below f n) (h n) ∙ none_count f n h

-- how many are written, when one is taken
pub taken_count : (old new : ℕ → Option ℤ) (n address : ℕ) (value : ℤ) → old address ≡ Some value → new address ≡ None → ((a : ℕ) → a ≢ address → new a ≡ old a) → address < n → count_below (λ a. is_some (old a)) n ≡ suc (count_below (λ a. is_some (new a)) n)
taken_count old new n address value was taken others l =
    one_less (λ a. is_some (old a)) (λ a. is_some (new a)) n address l (ap (λ o. is_some o) was) (ap (λ o. is_some o) taken) (λ b h. sym (ap (λ o. is_some o) (others b h)))
