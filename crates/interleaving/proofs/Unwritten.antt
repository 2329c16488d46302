-- A cell that no process writes holds in a region's store what it holds at the entry.
use Rattle.std.proofs.Common.{ℕ, ◌≡◌, ◌==◌, true, false, List, [], ◌∷◌, Option, None, Some, if◌then◌else◌, refl, ap, ◌∙◌, subst}
use Rattle.interleaving.specs.Machine.{Event, reads, writes, moves, ends, faults, Machine, Store}
use Rattle.interleaving.specs.Modes.{Mode, Shared, Private, Reduce}
use Rattle.interleaving.specs.Region.{Iteration, Region, answer_of, merged, commit, store_after, own_after, step_by, advanced_all, all_fresh, begun}
use Rattle.interleaving.proofs.Kept.{KeptInAll, picks_keep}

module _ {P O V : Type 0} (m : Machine P O V) (modes : ℕ → Mode O) (cell : ℕ) (Spares : P → Type 0)
    (writes_another : (p : P) (a : ℕ) (v : V) (by : Option O) → Spares p → m.event p ≡ writes a v by → (a == cell) ≡ false)
    (resumed_spares : (p : P) (x : V) → Spares p → Spares (m.resumed p x))
    (done_spares : (p : P) → Spares p → Spares (m.done p)) where
  -- an iteration whose process doesn't write it, and that has no copy and no partial of it
  abbrev SparesIt : Iteration P V → Type 0
  SparesIt it = Spares it.process × (it.own cell ≡ None)

  other_store : (md : Mode O) (s : Store V) (a : ℕ) (v : V) → (a == cell) ≡ false → store_after md s a v cell ≡ s cell
  other_store Shared s a v e = ap (λ w. if w then v else s cell) e
  other_store Private s a v e = refl
  other_store (Reduce op) s a v e = refl

  other_own : (md : Mode O) (own : ℕ → Option V) (a : ℕ) (v : V) → (a == cell) ≡ false → own_after md own a v cell ≡ own cell
  other_own Shared own a v e = refl
  other_own Private own a v e = ap (λ w. if w then Some v else own cell) e
  other_own (Reduce op) own a v e = ap (λ w. if w then Some v else own cell) e

  unmerged : (md : Mode O) (x : V) (own : Option V) → own ≡ None → merged m md x own ≡ x
  unmerged Shared x own e = refl
  unmerged Private x None e = refl
  unmerged Private x (Some y) e = absurd (cc)
  unmerged (Reduce op) x None e = refl
  unmerged (Reduce op) x (Some y) e = absurd (cc)

  module _ (x : V) where
    keeps : (s t : Store V) (it next : Iteration P V) → s cell ≡ x → SparesIt it → step_by m modes (m.event it.process) s it ≡ Some (t, next) → (t cell ≡ x) × SparesIt next
    keeps s t it next h k e = go (m.event it.process) refl e
      where
        so : (u : Store V) (mid : Iteration P V) → ◌≡◌ {A = Option (Store V × Iteration P V)} (Some (u, mid)) (Some (t, next)) → u cell ≡ x → SparesIt mid → (t cell ≡ x) × SparesIt next
        so u mid e a b = let same : ◌≡◌ {A = Store V × Iteration P V} (u, mid) (t, next) = cc in (subst (λ w. w.0 cell ≡ x) same a, subst (λ w. SparesIt w.1) same b)

        go : (ev : Event O V) → m.event it.process ≡ ev → step_by m modes ev s it ≡ Some (t, next) → (t cell ≡ x) × SparesIt next
        go (reads a by) f g = let answer : V = answer_of m (modes a) (s a) (it.own a) in so s (record it { process = m.resumed it.process answer }) g h (resumed_spares it.process answer k.0, k.1)
        go (writes a v by) f g =
            let d : (a == cell) ≡ false = writes_another it.process a v by k.0 f in
            so (store_after (modes a) s a v) (record { process = m.done it.process; own = own_after (modes a) it.own a v; finished = it.finished }) g
            (other_store (modes a) s a v d ∙ h) (done_spares it.process k.0, other_own (modes a) it.own a v d ∙ k.1)
        go moves f g = so s (record it { process = m.done it.process }) g h (done_spares it.process k.0, k.1)
        go ends f g = so s (record it { finished = true }) g h k
        go faults f g = absurd (cc)

    commits : (s : Store V) (it : Iteration P V) → s cell ≡ x → SparesIt it → commit m modes s it.own cell ≡ x
    commits s it h k = unmerged (modes cell) (s cell) (it.own cell) k.1 ∙ h

  abbrev pub AllSpare : List P → Type 0
  AllSpare [] = Unit {0}
  AllSpare (p ∷ starts) = Spares p × AllSpare starts

  all_spare : (starts : List P) (x : V) → AllSpare starts → KeptInAll m modes (λ s. s cell ≡ x) SparesIt (keeps x) (commits x) (all_fresh starts)
  all_spare [] x h = tt
  all_spare (p ∷ starts) x h = ((h.0, refl), all_spare starts x h.1)

  -- after any picks, in any modes
  pub stands_as_at_entry : (window : ℕ) (picks : List ℕ) (starts : List P) (entry : Store V) (r : Region P V) → AllSpare starts → advanced_all m modes window picks (Some (begun starts entry)) ≡ Some r → r.store cell ≡ entry cell
  stands_as_at_entry window picks starts entry r h e = (picks_keep m modes (λ s. s cell ≡ entry cell) SparesIt (keeps (entry cell)) (commits (entry cell)) window picks (begun starts entry) r refl (all_spare starts (entry cell) h) e).0
