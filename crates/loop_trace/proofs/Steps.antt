-- Traces with one access more.
use Rattle.std.proofs.Common.{ℕ, zero, suc, ◌≡◌, ◌==◌, ◌<◌, Bool, true, false, List, [], ◌∷◌, ◌++◌, length, Option, Some, if◌then◌else◌, refl, sym, ap, ◌∙◌, arith, true≢false, eq-eqb, length-append}
use Rattle.interleaving.specs.Traces.{Access, Read, Write, Move, is_written, is_exposed}
use Rattle.hyb_base.specs.declared.ops.RedOp.{RedOp}
use Rattle.dependence.specs.Executions.{Trace, trace_of, is_touched}
use Rattle.dependence.specs.Regions.{Interval, IsIn, OnlyBy}
use Rattle.dependence.proofs.Bounds.{beyond}

-- an access to an address
pub data IsAt (a : ℕ) (by : Option RedOp) : Access RedOp → Type 0 where
  reading : IsAt a by (Read a by)
  writing : IsAt a by (Write a by)

here : (a : ℕ) (s t : Bool) → (if a == a then s else t) ≡ s
here a s t = ap (λ w. if w then s else t) (eq-eqb a a refl)

away : (b a : ℕ) (s t : Bool) → (b == a) ≡ false → (if b == a then s else t) ≡ t
away b a s t e = ap (λ w. if w then s else t) e

either : (c a : ℕ) (r : Bool) → r ≡ true → (if c == a then true else r) ≡ true
either c a r h = elim (c == a) as (λ w. (if w then true else r) ≡ true) [ true ↦ refl | false ↦ h ]

module _ (a : ℕ) (by : Option RedOp) where
  pub touched_here : (x : Access RedOp) → IsAt a by x → (trace : Trace) → is_touched (trace ++ x ∷ []) a ≡ true
  touched_here x reading [] = here a true false
  touched_here x writing [] = here a true false
  touched_here x at (Read c o ∷ trace) = either c a (is_touched (trace ++ x ∷ []) a) (touched_here x at trace)
  touched_here x at (Write c o ∷ trace) = either c a (is_touched (trace ++ x ∷ []) a) (touched_here x at trace)
  touched_here x at (Move ∷ trace) = touched_here x at trace

  pub touched_other : (x : Access RedOp) → IsAt a by x → (b : ℕ) → (a == b) ≡ false → (trace : Trace) → is_touched (trace ++ x ∷ []) b ≡ is_touched trace b
  touched_other x reading b e [] = away a b true false e
  touched_other x writing b e [] = away a b true false e
  touched_other x at b e (Read c o ∷ trace) = ap (λ r. if c == b then true else r) (touched_other x at b e trace)
  touched_other x at b e (Write c o ∷ trace) = ap (λ r. if c == b then true else r) (touched_other x at b e trace)
  touched_other x at b e (Move ∷ trace) = touched_other x at b e trace

  pub written_here : (trace : Trace) → is_written (trace ++ Write a by ∷ []) a ≡ true
  written_here [] = here a true false
  written_here (Read c o ∷ trace) = written_here trace
  written_here (Write c o ∷ trace) = either c a (is_written (trace ++ Write a by ∷ []) a) (written_here trace)
  written_here (Move ∷ trace) = written_here trace

  pub written_other : (x : Access RedOp) → IsAt a by x → (b : ℕ) → (a == b) ≡ false → (trace : Trace) → is_written (trace ++ x ∷ []) b ≡ is_written trace b
  written_other x reading b e [] = refl
  written_other x writing b e [] = away a b true false e
  written_other x at b e (Read c o ∷ trace) = written_other x at b e trace
  written_other x at b e (Write c o ∷ trace) = ap (λ r. if c == b then true else r) (written_other x at b e trace)
  written_other x at b e (Move ∷ trace) = written_other x at b e trace

  pub written_read : (b : ℕ) (trace : Trace) → is_written (trace ++ Read a by ∷ []) b ≡ is_written trace b
  written_read b [] = refl
  written_read b (Read c o ∷ trace) = written_read b trace
  written_read b (Write c o ∷ trace) = ap (λ r. if c == b then true else r) (written_read b trace)
  written_read b (Move ∷ trace) = written_read b trace

  pub exposed_other : (x : Access RedOp) → IsAt a by x → (b : ℕ) → (a == b) ≡ false → (trace : Trace) → is_exposed (trace ++ x ∷ []) b ≡ is_exposed trace b
  exposed_other x reading b e [] = away a b true false e
  exposed_other x writing b e [] = away a b false false e
  exposed_other x at b e (Read c o ∷ trace) = ap (λ r. if c == b then true else r) (exposed_other x at b e trace)
  exposed_other x at b e (Write c o ∷ trace) = ap (λ r. if c == b then false else r) (exposed_other x at b e trace)
  exposed_other x at b e (Move ∷ trace) = exposed_other x at b e trace

  pub exposed_write : (b : ℕ) (trace : Trace) → is_exposed (trace ++ Write a by ∷ []) b ≡ is_exposed trace b
  exposed_write b [] = elim (a == b) as (λ w. (if w then false else false) ≡ false) [ true ↦ refl | false ↦ refl ]
  exposed_write b (Read c o ∷ trace) = ap (λ r. if c == b then true else r) (exposed_write b trace)
  exposed_write b (Write c o ∷ trace) = ap (λ r. if c == b then false else r) (exposed_write b trace)
  exposed_write b (Move ∷ trace) = exposed_write b trace

  pub exposed_new : (trace : Trace) → is_touched trace a ≡ false → is_exposed (trace ++ Read a by ∷ []) a ≡ true
  exposed_new [] h = here a true false
  exposed_new (Read c o ∷ trace) h = (elim (c == a) as (λ w. (if w then true else is_touched trace a) ≡ false → (if w then true else is_exposed (trace ++ Read a by ∷ []) a) ≡ true) [ true ↦ λ e. refl | false ↦ λ e. exposed_new trace e ]) h
  exposed_new (Write c o ∷ trace) h = (elim (c == a) as (λ w. (if w then true else is_touched trace a) ≡ false → (if w then false else is_exposed (trace ++ Read a by ∷ []) a) ≡ true) [ true ↦ λ e. absurd (true≢false e) | false ↦ λ e. exposed_new trace e ]) h
  exposed_new (Move ∷ trace) h = exposed_new trace h

-- what an address that is touched exposes stays
pub exposed_old : (x : Access RedOp) (a : ℕ) (trace : Trace) → is_touched trace a ≡ true → is_exposed (trace ++ x ∷ []) a ≡ is_exposed trace a
exposed_old x a [] h = absurd (true≢false (sym h))
exposed_old x a (Read c o ∷ trace) h = (elim (c == a) as (λ w. (if w then true else is_touched trace a) ≡ true → (if w then true else is_exposed (trace ++ x ∷ []) a) ≡ (if w then true else is_exposed trace a)) [ true ↦ λ e. refl | false ↦ λ e. exposed_old x a trace e ]) h
exposed_old x a (Write c o ∷ trace) h = (elim (c == a) as (λ w. (if w then true else is_touched trace a) ≡ true → (if w then false else is_exposed (trace ++ x ∷ []) a) ≡ (if w then false else is_exposed trace a)) [ true ↦ λ e. refl | false ↦ λ e. exposed_old x a trace e ]) h
exposed_old x a (Move ∷ trace) h = exposed_old x a trace h

pub written_more : (x : Access RedOp) (a : ℕ) (trace : Trace) → is_written trace a ≡ true → is_written (trace ++ x ∷ []) a ≡ true
written_more x a [] h = absurd (true≢false (sym h))
written_more x a (Read c o ∷ trace) h = written_more x a trace h
written_more x a (Write c o ∷ trace) h = (elim (c == a) as (λ w. (if w then true else is_written trace a) ≡ true → (if w then true else is_written (trace ++ x ∷ []) a) ≡ true) [ true ↦ λ e. refl | false ↦ λ e. written_more x a trace e ]) h
written_more x a (Move ∷ trace) h = written_more x a trace h

-- accumulations alone
module _ (op : RedOp) (region : Interval) (a : ℕ) (by : Option RedOp) where
  pub only_init : (x : Access RedOp) (trace : Trace) → OnlyBy op region (trace ++ x ∷ []) → OnlyBy op region trace
  only_init x [] h = tt
  only_init x (Read c o ∷ trace) h = (h.0, only_init x trace h.1)
  only_init x (Write c o ∷ trace) h = (h.0, only_init x trace h.1)
  only_init x (Move ∷ trace) h = only_init x trace h

  pub only_last : (x : Access RedOp) → IsAt a by x → (trace : Trace) → OnlyBy op region (trace ++ x ∷ []) → IsIn region a → by ≡ Some op
  only_last x reading [] h = h.0
  only_last x writing [] h = h.0
  only_last x at (Read c o ∷ trace) h = only_last x at trace h.1
  only_last x at (Write c o ∷ trace) h = only_last x at trace h.1
  only_last x at (Move ∷ trace) h = only_last x at trace h

  pub only_more : (x : Access RedOp) → IsAt a by x → (IsIn region a → by ≡ Some op) → (trace : Trace) → OnlyBy op region trace → OnlyBy op region (trace ++ x ∷ [])
  only_more x reading e [] h = (e, tt)
  only_more x writing e [] h = (e, tt)
  only_more x at e (Read c o ∷ trace) h = (h.0, only_more x at e trace h.1)
  only_more x at e (Write c o ∷ trace) h = (h.0, only_more x at e trace h.1)
  only_more x at e (Move ∷ trace) h = only_more x at e trace h

-- a trace that touches no address of a region
pub only_untouched : (op : RedOp) (region : Interval) (trace : Trace) → ((a : ℕ) → IsIn region a → is_touched trace a ≡ false) → OnlyBy op region trace
only_untouched op region [] h = tt
only_untouched op region (Read c o ∷ trace) h = (λ i. absurd (true≢false (sym (here c true (is_touched trace c)) ∙ h c i)), only_untouched op region trace (λ a i. less_touched c a (is_touched trace a) (h a i)))
  where
    less_touched : (c a : ℕ) (t : Bool) → (if c == a then true else t) ≡ false → t ≡ false
    less_touched c a t h = (elim (c == a) as (λ w. (if w then true else t) ≡ false → t ≡ false) [ true ↦ λ e. absurd (true≢false e) | false ↦ λ e. e ]) h
only_untouched op region (Write c o ∷ trace) h = (λ i. absurd (true≢false (sym (here c true (is_touched trace c)) ∙ h c i)), only_untouched op region trace (λ a i. less_touched c a (is_touched trace a) (h a i)))
  where
    less_touched : (c a : ℕ) (t : Bool) → (if c == a then true else t) ≡ false → t ≡ false
    less_touched c a t h = (elim (c == a) as (λ w. (if w then true else t) ≡ false → t ≡ false) [ true ↦ λ e. absurd (true≢false e) | false ↦ λ e. e ]) h
only_untouched op region (Move ∷ trace) h = only_untouched op region trace h

-- the last iteration of an execution
pub last_of : (ended : List Trace) (trace : Trace) → trace_of (ended ++ trace ∷ []) (suc (length ended)) ≡ trace
last_of [] trace = refl
last_of (first ∷ ended) trace = last_of ended trace

others_of : (ended : List Trace) (trace other : Trace) (k : ℕ) → (k ≡ suc (length ended) → ⊥) → trace_of (ended ++ trace ∷ []) k ≡ trace_of (ended ++ other ∷ []) k
others_of [] trace other zero h = refl
others_of [] trace other (suc zero) h = absurd (h refl)
others_of [] trace other (suc (suc k)) h = refl
others_of (first ∷ ended) trace other zero h = refl
others_of (first ∷ ended) trace other (suc zero) h = refl
others_of (first ∷ ended) trace other (suc (suc k)) h = others_of ended trace other (suc k) (λ e. h (ap suc e))

-- executions of which one has an access more, in its last iteration
pub record Next (old new : List Trace) (n : ℕ) (x : Access RedOp) : Type 0 where
  pub now : trace_of new n ≡ trace_of old n ++ x ∷ []
  pub others : (k : ℕ) → (k ≡ n → ⊥) → trace_of new k ≡ trace_of old k
  pub after : (k : ℕ) → n < k → trace_of old k ≡ []

pub next_of : (ended : List Trace) (current : Trace) (x : Access RedOp) → Next (ended ++ current ∷ []) (ended ++ (current ++ x ∷ []) ∷ []) (suc (length ended)) x
next_of ended current x = record {
  now = last_of ended (current ++ x ∷ []) ∙ ap (λ t. t ++ x ∷ []) (sym (last_of ended current));
  others = λ k h. others_of ended (current ++ x ∷ []) current k h;
  after = λ k l. beyond (ended ++ current ∷ []) k (omega (arith, l, length-append ended (current ∷ [])));
}
