-- Lemmas on a commit, step by step.
use Rattle.std.proofs.Common.{◌≡◌, ◌≢◌, ℕ, ℤ, ◌<◌, inl, inr, List, length, get_or, Option, Some, None, sym, ap, ◌∙◌}
use Rattle.std.specs.Prelude.{slice_set, unwrap_or}
use Rattle.std.proofs.lemmas.Bool.{cases_eq}
use Rattle.std.proofs.lemmas.List.{get_or-set_same, get_or-set_other}

-- what is left to be put, over the values so far, stays the same when one number is put
pub one_put : (old new : ℕ → Option ℤ) (values after : List ℤ) (address : ℕ) (value : ℤ) → old address ≡ Some value → new address ≡ None → ((a : ℕ) → a ≢ address → new a ≡ old a) → after ≡ slice_set values address value → address < length values → (a : ℕ) (d : ℤ) → unwrap_or (new a) (get_or after a d) ≡ unwrap_or (old a) (get_or values a d)
one_put old new values after address value was taken others put within a d =
    elim (cases_eq a address) [
      | inl e ↦
          ap (λ o. unwrap_or o (get_or after a d)) (ap new e ∙ taken)
          ∙ ap (λ z. get_or z a d) put ∙ ap (λ k. get_or (slice_set values address value) k d) e ∙ get_or-set_same values address value d within
          ∙ sym (ap (λ o. unwrap_or o (get_or values a d)) (ap old e ∙ was))
      | inr e ↦
          ap (λ o. unwrap_or o (get_or after a d)) (others a e)
          ∙ ap (unwrap_or (old a)) (ap (λ z. get_or z a d) put ∙ get_or-set_other values address a value d e)
    ]
