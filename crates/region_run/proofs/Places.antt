-- The place of a pick among the live iterations.
use Rattle.std.proofs.Common.{ℕ, zero, suc, ◌+◌, ◌<◌, ◌≤◌, ◌≡◌, true, false, List, [], ◌∷◌, ◌++◌, length, get_or, set, Option, None, Some, if◌then◌else◌, refl, sym, ap, ◌∙◌, subst, arith, add-zero}
use Rattle.std.specs.List.{remove}
use Rattle.interleaving.specs.Machine.{Machine, Store}
use Rattle.interleaving.specs.Modes.{Mode}
use Rattle.interleaving.specs.Picks.{index_at, iteration_at}
use Rattle.interleaving.specs.Region.{Iteration, step_by, step_at, with_before, with_after, unfinished}
use Rattle.region_run.specs.Places.{numbers, spliced}

module _ {P V : Type 0} where
  pub length_numbers : (from : ℕ) (slots : List (Iteration P V)) → length (numbers from slots) ≡ unfinished slots
  length_numbers from [] = refl
  length_numbers from (slot ∷ more) = elim slot.finished as (λ t. length (if t then numbers (suc from) more else from ∷ numbers (suc from) more) ≡ (if t then unfinished more else suc (unfinished more)))
      [ true ↦ length_numbers (suc from) more | false ↦ ap suc (length_numbers (suc from) more) ]

  pub numbers_fit : (from : ℕ) (slots : List (Iteration P V)) → length (numbers from slots) ≤ length slots
  numbers_fit from [] = omega arith
  numbers_fit from (slot ∷ more) = let b = numbers_fit (suc from) more in elim slot.finished as (λ t. length (if t then numbers (suc from) more else from ∷ numbers (suc from) more) ≤ suc (length more))
      [ true ↦ omega (arith, b) | false ↦ omega (arith, b) ]

  pub number_at : (from : ℕ) (slots : List (Iteration P V)) (place d : ℕ) → place < unfinished slots → get_or (numbers from slots) place d ≡ from + index_at place slots
  number_at from [] place d l = absurd (omega arith)
  number_at from (slot ∷ more) zero d l = (elim slot.finished as (λ t. 0 < (if t then unfinished more else suc (unfinished more)) → get_or (if t then numbers (suc from) more else from ∷ numbers (suc from) more) 0 d ≡ from + (if t then suc (index_at 0 more) else 0))
      [ true ↦ λ k. (let e : get_or (numbers (suc from) more) 0 d ≡ suc from + index_at 0 more = number_at (suc from) more 0 d k in e ∙ omega arith) | false ↦ λ k. sym (add-zero from) ]) l
  number_at from (slot ∷ more) (suc place) d l = (elim slot.finished as (λ t. suc place < (if t then unfinished more else suc (unfinished more)) → get_or (if t then numbers (suc from) more else from ∷ numbers (suc from) more) (suc place) d ≡ from + suc (index_at (if t then suc place else place) more)) [
    | true ↦ λ k. (let e : get_or (numbers (suc from) more) (suc place) d ≡ suc from + index_at (suc place) more = number_at (suc from) more (suc place) d k in e ∙ omega arith)
    | false ↦ λ k. (let e : get_or (numbers (suc from) more) place d ≡ suc from + index_at place more = number_at (suc from) more place d (omega arith) in e ∙ omega arith)
  ]) l

  pub index_below : (slots : List (Iteration P V)) (place : ℕ) → place < unfinished slots → index_at place slots < length slots
  index_below [] place l = absurd (omega arith)
  index_below (slot ∷ more) zero l = (elim slot.finished as (λ t. 0 < (if t then unfinished more else suc (unfinished more)) → (if t then suc (index_at 0 more) else 0) < suc (length more))
      [ true ↦ λ k. (let b = index_below more 0 k in omega (arith, b)) | false ↦ λ k. omega arith ]) l
  index_below (slot ∷ more) (suc place) l = (elim slot.finished as (λ t. suc place < (if t then unfinished more else suc (unfinished more)) → suc (index_at (if t then suc place else place) more) < suc (length more))
      [ true ↦ λ k. (let b = index_below more (suc place) k in omega (arith, b)) | false ↦ λ k. (let b = index_below more place (omega arith) in omega (arith, b)) ]) l

  -- the one at the place isn't finished
  pub going_at : (slots : List (Iteration P V)) (place : ℕ) (d : Iteration P V) → place < unfinished slots → (get_or slots (index_at place slots) d).finished ≡ false
  going_at [] place d l = absurd (omega arith)
  going_at (slot ∷ more) zero d l = (elim slot.finished as (λ t. slot.finished ≡ t → 0 < (if t then unfinished more else suc (unfinished more)) → (get_or (slot ∷ more) (if t then suc (index_at 0 more) else 0) d).finished ≡ false)
      [ true ↦ λ h k. going_at more 0 d k | false ↦ λ h k. h ]) refl l
  going_at (slot ∷ more) (suc place) d l = (elim slot.finished as (λ t. suc place < (if t then unfinished more else suc (unfinished more)) → (get_or more (index_at (if t then suc place else place) more) d).finished ≡ false)
      [ true ↦ λ k. going_at more (suc place) d k | false ↦ λ k. going_at more place d (omega arith) ]) l

  -- a slot put at the place of a pick: the numbers stay where it isn't finished, and lose the one at the place where it is
  pub numbers_going : (from : ℕ) (slots : List (Iteration P V)) (place : ℕ) (new : Iteration P V) → place < unfinished slots → new.finished ≡ false → numbers from (set slots (index_at place slots) new) ≡ numbers from slots
  numbers_going from [] place new l f = refl
  numbers_going from (slot ∷ more) zero new l f = (elim slot.finished as (λ t. slot.finished ≡ t → 0 < (if t then unfinished more else suc (unfinished more)) → numbers from (set (slot ∷ more) (if t then suc (index_at 0 more) else 0) new) ≡ (if t then numbers (suc from) more else from ∷ numbers (suc from) more))
      [ true ↦ λ h k. rw h (numbers_going (suc from) more 0 new k f) | false ↦ λ h k. rw f refl ]) refl l
  numbers_going from (slot ∷ more) (suc place) new l f = (elim slot.finished as (λ t. suc place < (if t then unfinished more else suc (unfinished more)) → (if t then numbers (suc from) (set more (index_at (if t then suc place else place) more) new) else from ∷ numbers (suc from) (set more (index_at (if t then suc place else place) more) new)) ≡ (if t then numbers (suc from) more else from ∷ numbers (suc from) more))
      [ true ↦ λ k. numbers_going (suc from) more (suc place) new k f | false ↦ λ k. ap (λ ns. from ∷ ns) (numbers_going (suc from) more place new (omega arith) f) ]) l

  pub numbers_done : (from : ℕ) (slots : List (Iteration P V)) (place : ℕ) (new : Iteration P V) → place < unfinished slots → new.finished ≡ true → numbers from (set slots (index_at place slots) new) ≡ remove (numbers from slots) place
  numbers_done from [] place new l f = absurd (omega arith)
  numbers_done from (slot ∷ more) zero new l f = (elim slot.finished as (λ t. slot.finished ≡ t → 0 < (if t then unfinished more else suc (unfinished more)) → numbers from (set (slot ∷ more) (if t then suc (index_at 0 more) else 0) new) ≡ remove (if t then numbers (suc from) more else from ∷ numbers (suc from) more) 0)
      [ true ↦ λ h k. rw h (numbers_done (suc from) more 0 new k f) | false ↦ λ h k. rw f refl ]) refl l
  numbers_done from (slot ∷ more) (suc place) new l f = (elim slot.finished as (λ t. suc place < (if t then unfinished more else suc (unfinished more)) → (if t then numbers (suc from) (set more (index_at (if t then suc place else place) more) new) else from ∷ numbers (suc from) (set more (index_at (if t then suc place else place) more) new)) ≡ remove (if t then numbers (suc from) more else from ∷ numbers (suc from) more) (suc place))
      [ true ↦ λ k. numbers_done (suc from) more (suc place) new k f | false ↦ λ k. ap (λ ns. from ∷ ns) (numbers_done (suc from) more place new (omega arith) f) ]) l

  -- a list with a slot more at its end
  pub numbers_more : (from : ℕ) (slots : List (Iteration P V)) (new : Iteration P V) → new.finished ≡ false → numbers from (slots ++ new ∷ []) ≡ numbers from slots ++ (from + length slots) ∷ []
  numbers_more from [] new f = rw f (ap (λ n. n ∷ []) (sym (add-zero from)))
  numbers_more from (slot ∷ more) new f =
      let again : numbers (suc from) (more ++ new ∷ []) ≡ numbers (suc from) more ++ (from + suc (length more)) ∷ [] = subst (λ n. numbers (suc from) (more ++ new ∷ []) ≡ numbers (suc from) more ++ n ∷ []) (omega arith) (numbers_more (suc from) more new f) in
      elim slot.finished as (λ t. (if t then numbers (suc from) (more ++ new ∷ []) else from ∷ numbers (suc from) (more ++ new ∷ [])) ≡ (if t then numbers (suc from) more else from ∷ numbers (suc from) more) ++ (from + suc (length more)) ∷ [])
      [ true ↦ again | false ↦ ap (λ ns. from ∷ ns) again ]

  -- others after the unfinished ones don't count
  pub index_front : (its rest : List (Iteration P V)) (place : ℕ) → place < unfinished its → index_at place (its ++ rest) ≡ index_at place its
  index_front [] rest place l = absurd (omega arith)
  index_front (it ∷ more) rest zero l = (elim it.finished as (λ t. 0 < (if t then unfinished more else suc (unfinished more)) → (if t then suc (index_at 0 (more ++ rest)) else 0) ≡ (if t then suc (index_at 0 more) else 0))
      [ true ↦ λ k. ap suc (index_front more rest 0 k) | false ↦ λ k. refl ]) l
  index_front (it ∷ more) rest (suc place) l = (elim it.finished as (λ t. suc place < (if t then unfinished more else suc (unfinished more)) → suc (index_at (if t then suc place else place) (more ++ rest)) ≡ suc (index_at (if t then suc place else place) more))
      [ true ↦ λ k. ap suc (index_front more rest (suc place) k) | false ↦ λ k. ap suc (index_front more rest place (omega arith)) ]) l

  pub iteration_front : (its rest : List (Iteration P V)) (index : ℕ) (d : Iteration P V) → index < length its → iteration_at (its ++ rest) index ≡ Some (get_or its index d)
  iteration_front [] rest index d l = absurd (omega arith)
  iteration_front (it ∷ more) rest zero d l = refl
  iteration_front (it ∷ more) rest (suc index) d l = iteration_front more rest index d (omega arith)

module _ {P O V : Type 0} (m : Machine P O V) (modes : ℕ → Mode O) where
  after_spliced : (slot : Iteration P V) (more : List (Iteration P V)) (at : ℕ) (rest : List (Iteration P V)) (o : Option (Store V × Iteration P V)) → with_before slot (spliced more at rest o) ≡ spliced (slot ∷ more) (suc at) rest o
  after_spliced slot more at rest None = refl
  after_spliced slot more at rest (Some r) = refl

  before_spliced : (slot : Iteration P V) (more rest : List (Iteration P V)) (o : Option (Store V × Iteration P V)) → with_after o (more ++ rest) ≡ spliced (slot ∷ more) 0 rest o
  before_spliced slot more rest None = refl
  before_spliced slot more rest (Some r) = refl

  abbrev by : Store V → Iteration P V → Option (Store V × Iteration P V)
  by s slot = step_by m modes (m.event slot.process) s slot

  pub step_at_index : (place : ℕ) (s : Store V) (slots rest : List (Iteration P V)) (d : Iteration P V) → place < unfinished slots →
      step_at m modes place s (slots ++ rest) ≡ spliced slots (index_at place slots) rest (by s (get_or slots (index_at place slots) d))
  step_at_index place s [] rest d l = absurd (omega arith)
  step_at_index zero s (slot ∷ more) rest d l = (elim slot.finished as (λ t. 0 < (if t then unfinished more else suc (unfinished more)) → (if t then with_before slot (step_at m modes zero s (more ++ rest)) else with_after (by s slot) (more ++ rest)) ≡ spliced (slot ∷ more) (if t then suc (index_at 0 more) else 0) rest (by s (get_or (slot ∷ more) (if t then suc (index_at 0 more) else 0) d))) [
    | true ↦ λ k. ap (with_before slot) (step_at_index zero s more rest d k) ∙ after_spliced slot more (index_at 0 more) rest (by s (get_or more (index_at 0 more) d))
    | false ↦ λ k. before_spliced slot more rest (by s slot)
  ]) l
  step_at_index (suc place) s (slot ∷ more) rest d l = (elim slot.finished as (λ t. suc place < (if t then unfinished more else suc (unfinished more)) → with_before slot (step_at m modes (if t then suc place else place) s (more ++ rest)) ≡ spliced (slot ∷ more) (suc (index_at (if t then suc place else place) more)) rest (by s (get_or more (index_at (if t then suc place else place) more) d))) [
    | true ↦ λ k. ap (with_before slot) (step_at_index (suc place) s more rest d k) ∙ after_spliced slot more (index_at (suc place) more) rest (by s (get_or more (index_at (suc place) more) d))
    | false ↦ λ k. ap (with_before slot) (step_at_index place s more rest d (omega arith)) ∙ after_spliced slot more (index_at place more) rest (by s (get_or more (index_at place more) d))
  ]) l
