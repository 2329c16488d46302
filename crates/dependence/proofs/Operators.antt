-- Operators can be told apart, and so can regions that one operator reduces.
use Rattle.std.proofs.Common.{ℕ, zero, suc, ◌≡◌, ◌+◌, ◌<◌, ◌⊎◌, inl, inr, true, false, List, [], ◌∷◌, length, Option, None, Some, nat_eq, refl, sym, ap, ◌∙◌, subst, arith, eqb-true}
use borrow.Author.Tests.{eqb-false}
use Rattle.interleaving.specs.Traces.{Read, Write, Move}
use Rattle.hyb_base.specs.declared.ops.RedOp.{RedOp}
use Rattle.hyb_base.specs.declared.ops.RedOp.TheVariants.{Add, Mul, Max, Min, And, Or, Eqv, Neqv}
use Rattle.dependence.specs.declared.modes.Mode.TheVariants.{Reduce}
use Rattle.dependence.specs.Executions.{Trace, trace_of}
use Rattle.dependence.specs.Regions.{Interval, IsIn, OnlyBy, Applies}
use Rattle.dependence.proofs.Bounds.{lt_or_le, all_or, beyond}

abbrev number : RedOp → ℕ
number Add = 0
number Mul = 1
number Max = 2
number Min = 3
number And = 4
number Or = 5
number Eqv = 6
number Neqv = 7

abbrev operator : ℕ → RedOp
operator zero = Add
operator (suc zero) = Mul
operator (suc (suc zero)) = Max
operator (suc (suc (suc zero))) = Min
operator (suc (suc (suc (suc zero)))) = And
operator (suc (suc (suc (suc (suc zero))))) = Or
operator (suc (suc (suc (suc (suc (suc zero)))))) = Eqv
operator (suc (suc (suc (suc (suc (suc (suc n))))))) = Neqv

numbered : (op : RedOp) → operator (number op) ≡ op
numbered Add = refl
numbered Mul = refl
numbered Max = refl
numbered Min = refl
numbered And = refl
numbered Or = refl
numbered Eqv = refl
numbered Neqv = refl

few : (op : RedOp) → number op < 8
few Add = omega arith
few Mul = omega arith
few Max = omega arith
few Min = omega arith
few And = omega arith
few Or = omega arith
few Eqv = omega arith
few Neqv = omega arith

same_or : (o p : RedOp) → (o ≡ p) ⊎ (o ≡ p → ⊥)
same_or o p = (elim (nat_eq (number o) (number p)) as (λ w. nat_eq (number o) (number p) ≡ w → (o ≡ p) ⊎ (o ≡ p → ⊥)) [
  | true ↦ λ e. inl (sym (numbered o) ∙ ap operator (eqb-true (number o) (number p) e) ∙ numbered p)
  | false ↦ λ e. inr (λ h. eqb-false (number o) (number p) e (ap number h))
]) refl

by_or : (op : RedOp) (by : Option RedOp) → (by ≡ Some op) ⊎ (by ≡ Some op → ⊥)
by_or op None = inr (λ e. cc)
by_or op (Some o) = elim (same_or o op) [ inl e ↦ inl (ap Some e) | inr h ↦ inr (λ e. h (cc)) ]

pub in_or : (region : Interval) (a : ℕ) → IsIn region a ⊎ (IsIn region a → ⊥)
in_or region a = elim (lt_or_le a region.start) [
  | inl l ↦ inr (λ h. omega (arith, l, h.0))
  | inr g ↦ elim (lt_or_le a (region.start + region.len)) [ inl l ↦ inl (g, l) | inr above ↦ inr (λ h. omega (arith, above, h.1)) ]
]

access_or : (op : RedOp) (region : Interval) (a : ℕ) (by : Option RedOp) → (IsIn region a → by ≡ Some op) ⊎ ((IsIn region a → by ≡ Some op) → ⊥)
access_or op region a by = elim (in_or region a) [
  | inl h ↦ elim (by_or op by) [ inl e ↦ inl (λ _. e) | inr other ↦ inr (λ f. other (f h)) ]
  | inr out ↦ inl (λ h. absurd (out h))
]

only_or : (op : RedOp) (region : Interval) (trace : Trace) → OnlyBy op region trace ⊎ (OnlyBy op region trace → ⊥)
only_or op region [] = inl tt
only_or op region (Read a by ∷ trace) = elim (access_or op region a by) [ inl h ↦ elim (only_or op region trace) [ inl t ↦ inl (h, t) | inr other ↦ inr (λ f. other f.1) ] | inr other ↦ inr (λ f. other f.0) ]
only_or op region (Write a by ∷ trace) = elim (access_or op region a by) [ inl h ↦ elim (only_or op region trace) [ inl t ↦ inl (h, t) | inr other ↦ inr (λ f. other f.1) ] | inr other ↦ inr (λ f. other f.0) ]
only_or op region (Move ∷ trace) = only_or op region trace

module _ (traces : List Trace) (region : Interval) where
  reduced_or : (op : RedOp) → ((k : ℕ) → OnlyBy op region (trace_of traces k)) ⊎ (((k : ℕ) → OnlyBy op region (trace_of traces k)) → ⊥)
  reduced_or op = elim (all_or (λ k. OnlyBy op region (trace_of traces k)) (λ k. OnlyBy op region (trace_of traces k) → ⊥) (λ k. only_or op region (trace_of traces k)) (suc (length traces))) [
    | inl all ↦ inl (λ k. elim (lt_or_le k (suc (length traces))) [ inl l ↦ all k l | inr g ↦ subst (λ (t : Trace). OnlyBy op region t) (sym (beyond traces k (omega (arith, g)))) tt ])
    | inr one ↦ inr (λ h. one.1.1 (h one.0))
  ]

  -- no operator reduces a region, or one does
  pub operator_or : ((op : RedOp) → Applies traces region (Reduce op) → ⊥) ⊎ ((op : RedOp) × Applies traces region (Reduce op))
  operator_or = elim (all_or (λ n. Applies traces region (Reduce (operator n)) → ⊥) (λ n. Applies traces region (Reduce (operator n))) (λ n. elim (reduced_or (operator n)) [ inl reduced ↦ inr reduced | inr other ↦ inl other ]) 8) [
    | inl none ↦ inl (λ op h. none (number op) (few op) (subst (λ (o : RedOp). Applies traces region (Reduce o)) (sym (numbered op)) h))
    | inr one ↦ inr (operator one.0, one.1.1)
  ]
