-- Unfinished iterations of a window.
use Rattle.std.proofs.Common.{ℕ, zero, suc, ◌<◌, ◌≤◌, ◌≡◌, true, false, List, [], ◌∷◌, take, if◌then◌else◌, refl, sym, subst, arith}
use Rattle.interleaving.specs.Region.{Iteration, unfinished}
use Rattle.interleaving.proofs.Commits.{LeadGoes}

module _ {P V : Type 0} where
  pub unfinished-take : (n : ℕ) (pending : List (Iteration P V)) → unfinished (take n pending) ≤ unfinished pending
  unfinished-take zero pending = omega arith
  unfinished-take (suc n) [] = omega arith
  unfinished-take (suc n) (it ∷ pending) =
      let ih : unfinished (take n pending) ≤ unfinished pending = unfinished-take n pending in
      elim it.finished as (λ t. (if t then unfinished (take n pending) else suc (unfinished (take n pending))) ≤ (if t then unfinished pending else suc (unfinished pending)))
      [ true ↦ ih | false ↦ omega (arith, ih) ]

  -- where the first iteration is unfinished, a window has an unfinished one
  pub some_unfinished : (n : ℕ) (pending : List (Iteration P V)) → 0 < n → LeadGoes pending → (pending ≡ [] → ⊥) → 0 < unfinished (take n pending)
  some_unfinished zero pending h l e = absurd (omega (arith, h))
  some_unfinished (suc n) [] h l e = absurd (e refl)
  some_unfinished (suc n) (it ∷ pending) h l e = subst (λ t. 0 < (if t then unfinished (take n pending) else suc (unfinished (take n pending)))) (sym l) (omega arith)
