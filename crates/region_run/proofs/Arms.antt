-- One step of a live iteration, by what its process does.
use Rattle.std.proofs.Common.{ℕ, ℤ, ◌≡◌, ◌==◌, Bool, true, false, List, Option, None, Some, if◌then◌else◌, refl, sym, ap, ◌∙◌, subst, eqb-true}
use mathlib.Core.Path.{fun_ext}
use Rattle.hyb_base.specs.declared.ops.RedOp.{RedOp}
use Rattle.interleaving.specs.Machine.{Event, reads, writes, moves, ends, faults, Machine, Store}
use Rattle.interleaving.specs.Modes.{Mode, Shared, Private, Reduce}
use Rattle.interleaving.specs.OwnCells.{Owner, with_own}
use Rattle.interleaving.specs.Region.{Iteration, answer_of, store_after, own_after, step_by}
use Rattle.region_run.specs.Asked.{asked_of}
use Rattle.region_run.specs.declared.asks.Asked.TheVariants.{Reads, Writes, Moves, Ends, Faults}
use Rattle.region_run.specs.Live.{only}
use Rattle.region_run.specs.Machine.{machine_of, operators, store_of_cells}

-- what was asked tells the event
pub was_reads : {F : Type 0} (f : F) (ev : Event RedOp ℤ) (a : ℕ) (by : Option RedOp) → Reads a by ≡ asked_of f ev → ev ≡ reads a by
was_reads f (reads b c) a by e = cc
was_reads f (writes b v c) a by e = absurd (cc)
was_reads f moves a by e = absurd (cc)
was_reads f ends a by e = absurd (cc)
was_reads f faults a by e = absurd (cc)

pub was_writes : {F : Type 0} (f : F) (ev : Event RedOp ℤ) (a : ℕ) (v : ℤ) (by : Option RedOp) → Writes a v by ≡ asked_of f ev → ev ≡ writes a v by
was_writes f (reads b c) a v by e = absurd (cc)
was_writes f (writes b w c) a v by e = cc
was_writes f moves a v by e = absurd (cc)
was_writes f ends a v by e = absurd (cc)
was_writes f faults a v by e = absurd (cc)

pub was_moves : {F : Type 0} (f : F) (ev : Event RedOp ℤ) → Moves ≡ asked_of f ev → ev ≡ moves
was_moves f (reads b c) e = absurd (cc)
was_moves f (writes b w c) e = absurd (cc)
was_moves f moves e = refl
was_moves f ends e = absurd (cc)
was_moves f faults e = absurd (cc)

pub was_ends : {F : Type 0} (f : F) (ev : Event RedOp ℤ) → Ends ≡ asked_of f ev → ev ≡ ends
was_ends f (reads b c) e = absurd (cc)
was_ends f (writes b w c) e = absurd (cc)
was_ends f moves e = absurd (cc)
was_ends f ends e = refl
was_ends f faults e = absurd (cc)

pub was_faults : {F : Type 0} (f : F) (ev : Event RedOp ℤ) (g : F) → Faults g ≡ asked_of f ev → ev ≡ faults
was_faults f (reads b c) g e = absurd (cc)
was_faults f (writes b w c) g e = absurd (cc)
was_faults f moves g e = absurd (cc)
was_faults f ends g e = absurd (cc)
was_faults f faults g e = refl

-- a new value of the one unit
once_more : (variable a : ℕ) (value new : ℤ) → variable ≡ a → (b : ℕ) → (if a == b then Some new else only variable value b) ≡ only variable new b
once_more variable a value new e b = subst (λ w. (if w == b then Some new else only variable value b) ≡ only variable new b) e (elim (variable == b) as (λ t. (if t then Some new else (if t then Some value else None)) ≡ (if t then Some new else None)) [ true ↦ refl | false ↦ refl ])

module _ {M : Type 0} (event : M → Event RedOp ℤ) (resumed : M → ℤ → M) (done : M → M) (modes : ℕ → Mode RedOp) (variable : ℕ) where
  base : Machine (Owner M ℤ) RedOp ℤ
  base = with_own (machine_of event resumed done)

  pub seen_is : (mode : Mode RedOp) (x : ℤ) (own : Option ℤ) → answer_of (with_own (machine_of event resumed done)) mode x own ≡ answer_of operators mode x own
  seen_is Shared x own = refl
  seen_is Private x own = refl
  seen_is (Reduce o) x own = refl

  abbrev slot : M → ℤ → (ℕ → Option ℤ) → Bool → Iteration (Owner M ℤ) ℤ
  slot p value own fin = record { process = record { process = p; value = only variable value }; own = own; finished = fin }

  pub read_own_arm : (p q : M) (value : ℤ) (own : ℕ → Option ℤ) (fin : Bool) (s : Store ℤ) (a : ℕ) (by : Option RedOp) → event p ≡ reads a by → (variable == a) ≡ true → q ≡ resumed p value →
      step_by (with_own (machine_of event resumed done)) modes ((with_own (machine_of event resumed done)).event (record { process = p; value = only variable value })) s (slot p value own fin) ≡ Some (s, slot q value own fin)
  read_own_arm p q value own fin s a by e h r = rw (e, h, e, h, r)

  pub read_arm : (p q : M) (value : ℤ) (own : ℕ → Option ℤ) (fin : Bool) (s : Store ℤ) (a : ℕ) (by : Option RedOp) → event p ≡ reads a by → (variable == a) ≡ false → q ≡ resumed p (answer_of operators (modes a) (s a) (own a)) →
      step_by (with_own (machine_of event resumed done)) modes ((with_own (machine_of event resumed done)).event (record { process = p; value = only variable value })) s (slot p value own fin) ≡ Some (s, slot q value own fin)
  read_arm p q value own fin s a by e h r = rw (e, h, seen_is (modes a) (s a) (own a), r)

  pub write_own_arm : (p q : M) (value new : ℤ) (own : ℕ → Option ℤ) (fin : Bool) (s : Store ℤ) (a : ℕ) (by : Option RedOp) → event p ≡ writes a new by → (variable == a) ≡ true → q ≡ done p →
      step_by (with_own (machine_of event resumed done)) modes ((with_own (machine_of event resumed done)).event (record { process = p; value = only variable value })) s (slot p value own fin) ≡ Some (s, slot q new own fin)
  write_own_arm p q value new own fin s a by e h r = rw (e, h, e, h, r) (ap (λ f. Some (s, record { process = record { process = done p; value = f }; own = own; finished = fin })) (fun_ext (once_more variable a value new (eqb-true variable a h))))

  pub write_arm : (p q : M) (value v : ℤ) (own : ℕ → Option ℤ) (fin : Bool) (s : Store ℤ) (a : ℕ) (by : Option RedOp) → event p ≡ writes a v by → (variable == a) ≡ false → q ≡ done p →
      step_by (with_own (machine_of event resumed done)) modes ((with_own (machine_of event resumed done)).event (record { process = p; value = only variable value })) s (slot p value own fin) ≡ Some (store_after (modes a) s a v, slot q value (own_after (modes a) own a v) fin)
  write_arm p q value v own fin s a by e h r = rw (e, h, e, h, r)

  pub move_arm : (p q : M) (value : ℤ) (own : ℕ → Option ℤ) (fin : Bool) (s : Store ℤ) → event p ≡ moves → q ≡ done p →
      step_by (with_own (machine_of event resumed done)) modes ((with_own (machine_of event resumed done)).event (record { process = p; value = only variable value })) s (slot p value own fin) ≡ Some (s, slot q value own fin)
  move_arm p q value own fin s e r = rw (e, e, r)

  pub end_arm : (p q : M) (value : ℤ) (own : ℕ → Option ℤ) (fin : Bool) (s : Store ℤ) → event p ≡ ends → q ≡ p →
      step_by (with_own (machine_of event resumed done)) modes ((with_own (machine_of event resumed done)).event (record { process = p; value = only variable value })) s (slot p value own fin) ≡ Some (s, slot q value own true)
  end_arm p q value own fin s e r = rw (e, r)

  pub fault_arm : (p : M) (value : ℤ) (own : ℕ → Option ℤ) (fin : Bool) (s : Store ℤ) → event p ≡ faults →
      step_by (with_own (machine_of event resumed done)) modes ((with_own (machine_of event resumed done)).event (record { process = p; value = only variable value })) s (slot p value own fin) ≡ None
  fault_arm p value own fin s e = rw e

  -- the process that was asked, p', means what it meant before, p
  pub read_case : (p p' q : M) (value value' : ℤ) (own own' : ℕ → Option ℤ) (fin fin' : Bool) (s s' : List ℤ) (a : ℕ) (by : Option RedOp) → event p ≡ reads a by → p' ≡ p →
      q ≡ resumed p' (if variable == a then value else answer_of operators (modes a) (store_of_cells s a) (own a)) → value' ≡ value → own' ≡ own → fin' ≡ fin → s' ≡ s →
      step_by (with_own (machine_of event resumed done)) modes ((with_own (machine_of event resumed done)).event (record { process = p; value = only variable value })) (store_of_cells s) (slot p value own fin) ≡ Some (store_of_cells s', slot q value' own' fin')
  read_case p p' q value value' own own' fin fin' s s' a by e pe r ve oe fe se = rw (ve, oe, fe, se) ((elim (variable == a) as (λ t. (variable == a) ≡ t → q ≡ resumed p (if t then value else answer_of operators (modes a) (store_of_cells s a) (own a)) → step_by (with_own (machine_of event resumed done)) modes ((with_own (machine_of event resumed done)).event (record { process = p; value = only variable value })) (store_of_cells s) (slot p value own fin) ≡ Some (store_of_cells s, slot q value own fin))
      [ true ↦ λ h k. read_own_arm p q value own fin (store_of_cells s) a by e h k | false ↦ λ h k. read_arm p q value own fin (store_of_cells s) a by e h k ]) refl (r ∙ ap (λ x. resumed x (if variable == a then value else answer_of operators (modes a) (store_of_cells s a) (own a))) pe))

  pub write_case : (p p' q : M) (value value' v : ℤ) (own own' : ℕ → Option ℤ) (fin fin' : Bool) (s s' : List ℤ) (a : ℕ) (by : Option RedOp) → event p ≡ writes a v by → p' ≡ p → q ≡ done p' →
      value' ≡ (if variable == a then v else value) → own' ≡ (if variable == a then own else own_after (modes a) own a v) → fin' ≡ fin → store_of_cells s' ≡ (if variable == a then store_of_cells s else store_after (modes a) (store_of_cells s) a v) →
      step_by (with_own (machine_of event resumed done)) modes ((with_own (machine_of event resumed done)).event (record { process = p; value = only variable value })) (store_of_cells s) (slot p value own fin) ≡ Some (store_of_cells s', slot q value' own' fin')
  write_case p p' q value value' v own own' fin fin' s s' a by e pe r ve oe fe se = rw (ve, oe, fe) (subst (λ st. step_by (with_own (machine_of event resumed done)) modes ((with_own (machine_of event resumed done)).event (record { process = p; value = only variable value })) (store_of_cells s) (slot p value own fin) ≡ Some (st, slot q (if variable == a then v else value) (if variable == a then own else own_after (modes a) own a v) fin)) (sym se) ((elim (variable == a) as (λ t. (variable == a) ≡ t → step_by (with_own (machine_of event resumed done)) modes ((with_own (machine_of event resumed done)).event (record { process = p; value = only variable value })) (store_of_cells s) (slot p value own fin) ≡ Some ((if t then store_of_cells s else store_after (modes a) (store_of_cells s) a v), slot q (if t then v else value) (if t then own else own_after (modes a) own a v) fin))
      [ true ↦ λ h. write_own_arm p q value v own fin (store_of_cells s) a by e h (r ∙ ap done pe) | false ↦ λ h. write_arm p q value v own fin (store_of_cells s) a by e h (r ∙ ap done pe) ]) refl))
