-- What each step and each commit keeps, a region keeps; and what a region always is.
use Rattle.std.proofs.Common.{ℕ, zero, suc, ◌≡◌, true, false, List, [], ◌∷◌, Option, None, Some, if◌then◌else◌, refl, subst}
use Rattle.interleaving.specs.Machine.{Machine, Store}
use Rattle.interleaving.specs.Modes.{Mode}
use Rattle.interleaving.specs.Region.{Iteration, Region, commit, step_by, step_at, with_before, with_after, settled, settled_from, place_of, advanced, advanced_all}

module _ {P O V : Type 0} (m : Machine P O V) (modes : ℕ → Mode O) (KeptStore : Store V → Type 0) (KeptIn : Iteration P V → Type 0)
    (steps : (s t : Store V) (it next : Iteration P V) → KeptStore s → KeptIn it → step_by m modes (m.event it.process) s it ≡ Some (t, next) → KeptStore t × KeptIn next)
    (commits : (s : Store V) (it : Iteration P V) → KeptStore s → KeptIn it → KeptStore (commit m modes s it.own)) where
  abbrev pub KeptInAll : List (Iteration P V) → Type 0
  KeptInAll [] = Unit {0}
  KeptInAll (it ∷ more) = KeptIn it × KeptInAll more

  before_keeps : (it : Iteration P V) (came : Option (Store V × List (Iteration P V))) (r : Store V × List (Iteration P V)) → KeptIn it → ((q : Store V × List (Iteration P V)) → came ≡ Some q → KeptStore q.0 × KeptInAll q.1) → with_before it came ≡ Some r → KeptStore r.0 × KeptInAll r.1
  before_keeps it None r h k e = absurd (cc)
  before_keeps it (Some q) r h k e =
      let same : (q.0, it ∷ q.1) ≡ r = cc in
      let f : KeptStore q.0 × KeptInAll q.1 = k q refl in
      subst (λ x. KeptStore x.0 × KeptInAll x.1) same (f.0, (h, f.1))

  after_keeps : (came : Option (Store V × Iteration P V)) (more : List (Iteration P V)) (r : Store V × List (Iteration P V)) → KeptInAll more → ((q : Store V × Iteration P V) → came ≡ Some q → KeptStore q.0 × KeptIn q.1) → with_after came more ≡ Some r → KeptStore r.0 × KeptInAll r.1
  after_keeps None more r h k e = absurd (cc)
  after_keeps (Some q) more r h k e =
      let same : (q.0, q.1 ∷ more) ≡ r = cc in
      let f : KeptStore q.0 × KeptIn q.1 = k q refl in
      subst (λ x. KeptStore x.0 × KeptInAll x.1) same (f.0, (f.1, h))

  step_keeps : (place : ℕ) (s : Store V) (pending : List (Iteration P V)) (r : Store V × List (Iteration P V)) → KeptStore s → KeptInAll pending → step_at m modes place s pending ≡ Some r → KeptStore r.0 × KeptInAll r.1
  step_keeps place s [] r h k e = absurd (cc)
  step_keeps zero s (it ∷ more) r h k e =
      (elim it.finished as (λ w. (if w then with_before it (step_at m modes zero s more) else with_after (step_by m modes (m.event it.process) s it) more) ≡ Some r → KeptStore r.0 × KeptInAll r.1) [
        | true ↦ λ f. before_keeps it (step_at m modes zero s more) r k.0 (λ q g. step_keeps zero s more q h k.1 g) f
        | false ↦ λ f. after_keeps (step_by m modes (m.event it.process) s it) more r k.1 (λ q g. steps s q.0 it q.1 h k.0 g) f
      ]) e
  step_keeps (suc place) s (it ∷ more) r h k e = before_keeps it (step_at m modes (if it.finished then suc place else place) s more) r k.0 (λ q g. step_keeps (if it.finished then suc place else place) s more q h k.1 g) e

  settled_keeps : (c : ℕ) (s : Store V) (pending : List (Iteration P V)) → KeptStore s → KeptInAll pending → KeptStore (settled m modes c s pending).store × KeptInAll (settled m modes c s pending).pending
  settled_keeps c s [] h k = (h, tt)
  settled_keeps c s (it ∷ more) h k =
      elim it.finished as (λ w. let r : Region P V = if w then settled m modes (suc c) (commit m modes s it.own) more else record { committed = c; store = s; pending = it ∷ more } in KeptStore r.store × KeptInAll r.pending)
      [ true ↦ settled_keeps (suc c) (commit m modes s it.own) more (commits s it h k.0) k.1 | false ↦ (h, k) ]

  pub advance_keeps : (window : ℕ) (r c : Region P V) (pick : ℕ) → KeptStore r.store → KeptInAll r.pending → advanced m modes window r pick ≡ Some c → KeptStore c.store × KeptInAll c.pending
  advance_keeps window r c pick h k e = go (step_at m modes (place_of window r pick) r.store r.pending) refl e
    where
      go : (came : Option (Store V × List (Iteration P V))) → step_at m modes (place_of window r pick) r.store r.pending ≡ came → settled_from m modes r.committed came ≡ Some c → KeptStore c.store × KeptInAll c.pending
      go None f g = absurd (cc)
      go (Some q) f g =
          let same : settled m modes r.committed q.0 q.1 ≡ c = cc in
          let kept : KeptStore q.0 × KeptInAll q.1 = step_keeps (place_of window r pick) r.store r.pending q h k f in
          subst (λ x. KeptStore x.store × KeptInAll x.pending) same (settled_keeps r.committed q.0 q.1 kept.0 kept.1)

  pub picks_keep : (window : ℕ) (picks : List ℕ) (r c : Region P V) → KeptStore r.store → KeptInAll r.pending → advanced_all m modes window picks (Some r) ≡ Some c → KeptStore c.store × KeptInAll c.pending
  picks_keep window [] r c h k e = let same : r ≡ c = cc in subst (λ x. KeptStore x.store × KeptInAll x.pending) same (h, k)
  picks_keep window (pick ∷ picks) r c h k e = go (advanced m modes window r pick) refl e (λ q h2 k2 g. picks_keep window picks q c h2 k2 g)
    where
      none_stays : (picks : List ℕ) → advanced_all m modes window picks None ≡ Some c → ⊥
      none_stays [] g = cc
      none_stays (pick ∷ picks) g = cc

      go : (came : Option (Region P V)) → advanced m modes window r pick ≡ came → advanced_all m modes window picks came ≡ Some c → ((q : Region P V) → KeptStore q.store → KeptInAll q.pending → advanced_all m modes window picks (Some q) ≡ Some c → KeptStore c.store × KeptInAll c.pending) → KeptStore c.store × KeptInAll c.pending
      go None f g ih = absurd (none_stays picks g)
      go (Some q) f g ih = let kept : KeptStore q.store × KeptInAll q.pending = advance_keeps window r q pick h k f in ih q kept.0 kept.1 g
