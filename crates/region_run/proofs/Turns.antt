-- Lists of live iterations as one of them takes a step, is committed, or begins.
use Rattle.std.proofs.Common.{ℕ, zero, suc, ℤ, ◌<◌, ◌≡◌, ◌≢◌, true, false, List, [], ◌∷◌, ◌++◌, length, map, get_or, set, Option, None, Some, refl, sym, ap, ◌∙◌, subst, arith, All}
use Rattle.std.proofs.lemmas.List.Elements.{All-append, All-set}
use mathlib.Core.Path.{fun_ext}
use Rattle.hyb_base.specs.declared.ops.RedOp.{RedOp}
use Rattle.interleaving.specs.Machine.{Event, Store}
use Rattle.interleaving.specs.Modes.{Mode, Shared, Private, Reduce}
use Rattle.interleaving.specs.OwnCells.{Owner, with_own}
use Rattle.interleaving.specs.Region.{Iteration, merged, commit, settled}
use Rattle.region_run.specs.declared.live.Live.{Live}
use Rattle.region_run.specs.Live.{iteration_of}
use Rattle.region_run.specs.Running.{HaveOwnRows}
use Rattle.region_run.specs.Machine.{machine_of, operators}

pub All-tail : {X : Type 0} (P : X → Type 0) (x : X) (xs : List X) → All P (x ∷ xs) → All P xs
All-tail P x xs h = λ k d l. h (suc k) d (omega arith)

pub All-head : {X : Type 0} (P : X → Type 0) (x : X) (xs : List X) → All P (x ∷ xs) → P x
All-head P x xs h = h 0 x (omega arith)

pub All-one : {X : Type 0} (P : X → Type 0) (x : X) → P x → All P (x ∷ [])
All-one P x p = λ k d l. let e : k ≡ 0 = omega arith in subst (λ i. P (get_or (x ∷ []) i d)) (sym e) p

module _ {P M : Type 0} (meant : P → M) (own own' : ℕ → ℕ → Option ℤ) (variable : ℕ) where
  -- a live iteration whose row stays stands for what it stood for
  pub slot_other : (row : ℕ) (live : Live P) → live.row ≢ row → ((other : ℕ) → other ≢ row → own' other ≡ own other) → iteration_of meant own' variable live ≡ iteration_of meant own variable live
  slot_other row live ne others = rw (others live.row ne)

  pub map_others : (row : ℕ) (lives : List (Live P)) → All (λ other. other.row ≢ row) lives → ((other : ℕ) → other ≢ row → own' other ≡ own other) → map (iteration_of meant own' variable) lives ≡ map (iteration_of meant own variable) lives
  map_others row [] h others = refl
  map_others row (live ∷ more) h others = rw (slot_other row live (All-head (λ (o : Live P). o.row ≢ row) live more h) others, map_others row more (All-tail (λ (o : Live P). o.row ≢ row) live more h) others)

  -- one of them became another, in its row
  pub map_changed : (lives : List (Live P)) (at : ℕ) (was is : Live P) → HaveOwnRows lives → at < length lives → was ≡ get_or lives at was → ((other : ℕ) → other ≢ was.row → own' other ≡ own other) →
      map (iteration_of meant own' variable) (set lives at is) ≡ set (map (iteration_of meant own variable) lives) at (iteration_of meant own' variable is)
  map_changed [] at was is rows l e others = absurd (omega arith)
  map_changed (live ∷ more) zero was is rows l e others = ap (λ slots. iteration_of meant own' variable is ∷ slots) (map_others was.row more (subst (λ (w : Live P). All (λ other. other.row ≢ w.row) more) (sym e) rows.0) others)
  map_changed (live ∷ more) (suc at) was is rows l e others =
      let ne : was.row ≢ live.row = subst (λ (w : Live P). w.row ≢ live.row) (sym e) (rows.0 at was (omega arith)) in
      rw (slot_other was.row live (λ q. ne (sym q)) others, map_changed more at was is rows.1 (omega arith) e others)

-- rows stay apart as one of them becomes another in its row
pub rows_set : {P : Type 0} (lives : List (Live P)) (at : ℕ) (was is : Live P) → HaveOwnRows lives → at < length lives → was ≡ get_or lives at was → is.row ≡ was.row → HaveOwnRows (set lives at is)
rows_set [] at was is rows l e r = absurd (omega arith)
rows_set {P} (live ∷ more) zero was is rows l e r = (subst (λ (n : ℕ). All (λ (other : Live P). other.row ≢ n) more) (sym (r ∙ ap (λ (w : Live P). w.row) e)) rows.0, rows.1)
rows_set {P} (live ∷ more) (suc at) was is rows l e r = (All-set (λ (other : Live P). other.row ≢ live.row) more at is (subst (λ (n : ℕ). n ≢ live.row) (sym (r ∙ ap (λ (w : Live P). w.row) e)) (rows.0 at was (omega arith))) rows.0, rows_set more at was is rows.1 (omega arith) e r)

-- and as one is added in a row that none has
pub rows_more : {P : Type 0} (lives : List (Live P)) (row : ℕ) (next : Live P) → HaveOwnRows lives → All (λ other. other.row ≢ row) lives → next.row ≡ row → HaveOwnRows (lives ++ next ∷ [])
rows_more [] row next rows h r = ((λ k d l. absurd (omega arith)), tt)
rows_more {P} (live ∷ more) row next rows h r =
    let ne : next.row ≢ live.row = (λ q. All-head (λ (o : Live P). o.row ≢ row) live more h (sym q ∙ r)) in
    (All-append (λ (o : Live P). o.row ≢ live.row) more (next ∷ []) rows.0 (All-one (λ (o : Live P). o.row ≢ live.row) next ne), rows_more more row next rows.1 (All-tail (λ (o : Live P). o.row ≢ row) live more h) r)

module _ {M : Type 0} (event : M → Event RedOp ℤ) (resumed : M → ℤ → M) (done : M → M) (modes : ℕ → Mode RedOp) where
  merged_is : (mode : Mode RedOp) (x : ℤ) (own : Option ℤ) → merged (with_own (machine_of event resumed done)) mode x own ≡ merged operators mode x own
  merged_is Shared x own = refl
  merged_is Private x own = refl
  merged_is (Reduce o) x None = refl
  merged_is (Reduce o) x (Some y) = refl

  pub committed_is : (s : Store ℤ) (own : ℕ → Option ℤ) → commit (with_own (machine_of event resumed done)) modes s own ≡ commit operators modes s own
  committed_is s own = fun_ext (λ a. merged_is (modes a) (s a) (own a))

  pub settled_first : (c c' : ℕ) (s s' : Store ℤ) (first : Iteration (Owner M ℤ) ℤ) (more more' : List (Iteration (Owner M ℤ) ℤ)) → first.finished ≡ true → s' ≡ commit operators modes s first.own → more' ≡ more → c' ≡ suc c →
      settled (with_own (machine_of event resumed done)) modes c s (first ∷ more) ≡ settled (with_own (machine_of event resumed done)) modes c' s' more'
  settled_first c c' s s' first more more' f e o n = rw (f, o, e, n, committed_is s first.own)

  pub settled_going : (c : ℕ) (s : Store ℤ) (first : Iteration (Owner M ℤ) ℤ) (more : List (Iteration (Owner M ℤ) ℤ)) → first.finished ≡ false → settled (with_own (machine_of event resumed done)) modes c s (first ∷ more) ≡ record { committed = c; store = s; pending = first ∷ more }
  settled_going c s first more f = rw f
