-- The trace of an owner: what is hidden changes no other cell.
use Rattle.std.proofs.Common.{ℕ, suc, ◌+◌, ◌≡◌, ◌==◌, Bool, true, false, List, [], ◌∷◌, length, Option, if◌then◌else◌, refl, sym, ap, ap₂, ◌∙◌, subst, eqb-true}
use Rattle.interleaving.specs.Modes.{Mode, Compatible, CompatibleWithAll, OnlyAccumulates, Fits}
use Rattle.interleaving.specs.OwnCells.{hidden, all_hidden}
use Rattle.interleaving.specs.Traces.{Access, Read, Write, Move, AtEnd, all_at_end, is_exposed, is_written, steps_of, steps_of_all}

module _ (own : ℕ → Bool) where
  same_unit : (a b : ℕ) → own a ≡ true → own b ≡ false → (b == a) ≡ false
  same_unit a b o n = (elim (b == a) as (λ w. (b == a) ≡ w → w ≡ false) [ true ↦ λ e. let g : own a ≡ false = subst (λ c. own c ≡ false) (eqb-true b a e) n in absurd (cc) | false ↦ λ e. refl ]) refl

  -- the first access of a trace, by whether its cell is one's own
  step_own : (a b : ℕ) (x y : Bool) → own a ≡ true → y ≡ false → (if own b then y else (if b == a then x else y)) ≡ false
  step_own a b x y o e = (elim (own b) as (λ w. own b ≡ w → (if w then y else (if b == a then x else y)) ≡ false)
      [ true ↦ λ f. e | false ↦ λ f. ap (λ t. if t then x else y) (same_unit a b o f) ∙ e ]) refl

  step_other : (a b : ℕ) (x y z : Bool) → own a ≡ false → y ≡ z → (if own b then y else (if b == a then x else y)) ≡ (if b == a then x else z)
  step_other a b x y z o e = (elim (own b) as (λ w. own b ≡ w → (if w then y else (if b == a then x else y)) ≡ (if b == a then x else z))
      [ true ↦ λ f. e ∙ sym (ap (λ t. if t then x else z) (unlike f)) | false ↦ λ f. ap (λ t. if b == a then x else t) e ]) refl
    where
      unlike : own b ≡ true → (b == a) ≡ false
      unlike f = (elim (b == a) as (λ w. (b == a) ≡ w → w ≡ false) [ true ↦ λ e. let g : own a ≡ true = subst (λ c. own c ≡ true) (eqb-true b a e) f in absurd (cc) | false ↦ λ e. refl ]) refl

module _ {O : Type 0} (own : ℕ → Bool) where
  -- an access to a cell of one's own is none once it is hidden, and any other stays
  hide_read : (a b : ℕ) (by : Option O) (trace : List (Access O)) → is_exposed ((if own b then Move else Read b by) ∷ trace) a ≡ (if own b then is_exposed trace a else (if b == a then true else is_exposed trace a))
  hide_read a b by trace = elim (own b) as (λ w. is_exposed ((if w then Move else Read b by) ∷ trace) a ≡ (if w then is_exposed trace a else (if b == a then true else is_exposed trace a))) [ true ↦ refl | false ↦ refl ]

  hide_read_wrote : (a b : ℕ) (by : Option O) (trace : List (Access O)) → is_exposed ((if own b then Move else Write b by) ∷ trace) a ≡ (if own b then is_exposed trace a else (if b == a then false else is_exposed trace a))
  hide_read_wrote a b by trace = elim (own b) as (λ w. is_exposed ((if w then Move else Write b by) ∷ trace) a ≡ (if w then is_exposed trace a else (if b == a then false else is_exposed trace a))) [ true ↦ refl | false ↦ refl ]

  hide_write : (a b : ℕ) (by : Option O) (trace : List (Access O)) → is_written ((if own b then Move else Write b by) ∷ trace) a ≡ (if own b then is_written trace a else (if b == a then true else is_written trace a))
  hide_write a b by trace = elim (own b) as (λ w. is_written ((if w then Move else Write b by) ∷ trace) a ≡ (if w then is_written trace a else (if b == a then true else is_written trace a))) [ true ↦ refl | false ↦ refl ]

  hide_write_looked : (a b : ℕ) (by : Option O) (trace : List (Access O)) → is_written ((if own b then Move else Read b by) ∷ trace) a ≡ is_written trace a
  hide_write_looked a b by trace = elim (own b) as (λ w. is_written ((if w then Move else Read b by) ∷ trace) a ≡ is_written trace a) [ true ↦ refl | false ↦ refl ]

  reads_own : (a : ℕ) (trace : List (Access O)) → own a ≡ true → is_exposed (hidden own trace) a ≡ false
  reads_own a [] o = refl
  reads_own a (Read b by ∷ trace) o = hide_read a b by (hidden own trace) ∙ step_own own a b true (is_exposed (hidden own trace) a) o (reads_own a trace o)
  reads_own a (Write b by ∷ trace) o = hide_read_wrote a b by (hidden own trace) ∙ step_own own a b false (is_exposed (hidden own trace) a) o (reads_own a trace o)
  reads_own a (Move ∷ trace) o = reads_own a trace o

  reads_other : (a : ℕ) (trace : List (Access O)) → own a ≡ false → is_exposed (hidden own trace) a ≡ is_exposed trace a
  reads_other a [] o = refl
  reads_other a (Read b by ∷ trace) o = hide_read a b by (hidden own trace) ∙ step_other own a b true (is_exposed (hidden own trace) a) (is_exposed trace a) o (reads_other a trace o)
  reads_other a (Write b by ∷ trace) o = hide_read_wrote a b by (hidden own trace) ∙ step_other own a b false (is_exposed (hidden own trace) a) (is_exposed trace a) o (reads_other a trace o)
  reads_other a (Move ∷ trace) o = reads_other a trace o

  writes_own : (a : ℕ) (trace : List (Access O)) → own a ≡ true → is_written (hidden own trace) a ≡ false
  writes_own a [] o = refl
  writes_own a (Read b by ∷ trace) o = hide_write_looked a b by (hidden own trace) ∙ writes_own a trace o
  writes_own a (Write b by ∷ trace) o = hide_write a b by (hidden own trace) ∙ step_own own a b true (is_written (hidden own trace) a) o (writes_own a trace o)
  writes_own a (Move ∷ trace) o = writes_own a trace o

  writes_other : (a : ℕ) (trace : List (Access O)) → own a ≡ false → is_written (hidden own trace) a ≡ is_written trace a
  writes_other a [] o = refl
  writes_other a (Read b by ∷ trace) o = hide_write_looked a b by (hidden own trace) ∙ writes_other a trace o
  writes_other a (Write b by ∷ trace) o = hide_write a b by (hidden own trace) ∙ step_other own a b true (is_written (hidden own trace) a) (is_written trace a) o (writes_other a trace o)
  writes_other a (Move ∷ trace) o = writes_other a trace o

  pub reads_hidden : (a : ℕ) (trace : List (Access O)) → is_exposed (hidden own trace) a ≡ true → is_exposed trace a ≡ true
  reads_hidden a trace h = (elim (own a) as (λ w. own a ≡ w → is_exposed trace a ≡ true) [ true ↦ λ o. let f : is_exposed (hidden own trace) a ≡ false = reads_own a trace o in absurd (cc) | false ↦ λ o. sym (reads_other a trace o) ∙ h ]) refl

  pub writes_hidden : (a : ℕ) (trace : List (Access O)) → is_written (hidden own trace) a ≡ true → is_written trace a ≡ true
  writes_hidden a trace h = (elim (own a) as (λ w. own a ≡ w → is_written trace a ≡ true) [ true ↦ λ o. let f : is_written (hidden own trace) a ≡ false = writes_own a trace o in absurd (cc) | false ↦ λ o. sym (writes_other a trace o) ∙ h ]) refl

  steps_hidden : (trace : List (Access O)) → steps_of (hidden own trace) ≡ steps_of trace
  steps_hidden [] = refl
  steps_hidden (Read b by ∷ trace) = ap suc (steps_hidden trace)
  steps_hidden (Write b by ∷ trace) = ap suc (steps_hidden trace)
  steps_hidden (Move ∷ trace) = ap suc (steps_hidden trace)

  pub all_steps_hidden : (traces : List (List (Access O))) → steps_of_all (all_hidden own traces) ≡ steps_of_all traces
  all_steps_hidden [] = refl
  all_steps_hidden (trace ∷ traces) = ap₂ (λ x y. x + y) (steps_hidden trace) (all_steps_hidden traces)

  module _ (modes : ℕ → Mode O) where
    only_hidden : (trace : List (Access O)) → OnlyAccumulates modes trace → OnlyAccumulates modes (hidden own trace)
    only_hidden [] h = tt
    only_hidden (Read b by ∷ trace) h = elim (own b) as (λ w. OnlyAccumulates modes ((if w then Move else Read b by) ∷ hidden own trace)) [ true ↦ only_hidden trace h.1 | false ↦ (h.0, only_hidden trace h.1) ]
    only_hidden (Write b by ∷ trace) h = elim (own b) as (λ w. OnlyAccumulates modes ((if w then Move else Write b by) ∷ hidden own trace)) [ true ↦ only_hidden trace h.1 | false ↦ (h.0, only_hidden trace h.1) ]
    only_hidden (Move ∷ trace) h = only_hidden trace h

    apart_hidden : (early late : List (Access O)) → Compatible modes early late → Compatible modes (hidden own early) (hidden own late)
    apart_hidden early late h = record {
      no_flow = λ a p w. h.no_flow a p (writes_hidden a early w.0, reads_hidden a late w.1);
      no_anti = λ a p w. h.no_anti a p (reads_hidden a early w.0, writes_hidden a late w.1);
      no_output = λ a p w. h.no_output a p (writes_hidden a early w.0, writes_hidden a late w.1);
    }

    all_apart_hidden : (early : List (Access O)) (traces : List (List (Access O))) → CompatibleWithAll modes early traces → CompatibleWithAll modes (hidden own early) (all_hidden own traces)
    all_apart_hidden early [] h = tt
    all_apart_hidden early (late ∷ traces) h = (apart_hidden early late h.0, all_apart_hidden early traces h.1)

    pub fit_hidden : (traces : List (List (Access O))) → Fits modes traces → Fits modes (all_hidden own traces)
    fit_hidden [] h = tt
    fit_hidden (trace ∷ traces) h = (only_hidden trace h.0, all_apart_hidden trace traces h.1, fit_hidden traces h.2)

pub length_hidden : {O : Type 0} (own : ℕ → Bool) (trace : List (Access O)) → length (hidden own trace) ≡ length trace
length_hidden own [] = refl
length_hidden own (Read a by ∷ trace) = ap suc (length_hidden own trace)
length_hidden own (Write a by ∷ trace) = ap suc (length_hidden own trace)
length_hidden own (Move ∷ trace) = ap suc (length_hidden own trace)

pub ends_hidden : {O : Type 0} (own : ℕ → Bool) (traces : List (List (Access O))) → all_at_end (all_hidden own traces) ≡ all_at_end traces
ends_hidden own [] = refl
ends_hidden own (trace ∷ traces) = ap (λ r. AtEnd ∷ r) (ends_hidden own traces)
