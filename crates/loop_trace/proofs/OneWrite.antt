-- A write more.
use Rattle.std.proofs.Common.{ℕ, ◌≡◌, ◌==◌, ◌<◌, ◌≤◌, inl, inr, Bool, true, false, List, Option, None, Some, nat_lt, if◌then◌else◌, refl, sym, ap, ◌∙◌, subst, arith, true≢false, eq-eqb, eqb-true, ltb-true, ltb-false}
use Rattle.interleaving.specs.Traces.{Write, is_written, is_exposed}
use Rattle.hyb_base.specs.declared.ops.RedOp.{RedOp}
use Rattle.dependence.specs.declared.modes.Pair.{Pair}
use Rattle.dependence.specs.Conflicts.{IsConflict, anti, output, HasNoConflict, HasNoFlow}
use Rattle.dependence.specs.Executions.{Trace, trace_of, is_touched}
use Rattle.dependence.specs.Regions.{Interval, IsIn}
use Rattle.dependence.proofs.Bounds.{less, same, more, order_of, by_test}
use Rattle.dependence.proofs.Pairs.{of_one}
use Rattle.dependence.proofs.Touches.{used}
use Rattle.loop_trace.specs.declared.cell.Cell.{Cell}
use Rattle.loop_trace.specs.declared.marks.Marks.{Marks}
use Rattle.loop_trace.specs.Cells.{after_write, pair_at, before, first_some, found_by_write, IsFirstOr, IsCell}
use Rattle.loop_trace.specs.Marks.{IsAfterWrite, WrittenIs, ConflictIs, FlowIs, IsMarked}
use Rattle.loop_trace.proofs.Known.{alike_other, no_flow_alike, first_so, test_all, touched_now, first_now, written_up, exposed_up, flow_up, later_empty, uses_next, Finds, conflict_next}
use Rattle.loop_trace.proofs.Steps.{writing, written_here, exposed_write, Next}

-- the number that passes a test and is below another, or that none below it does
abbrev BeforeIs : (ℕ → Bool) → ℕ → Option ℕ → Type 0
BeforeIs test n None = (k : ℕ) → k < n → test k ≡ false
BeforeIs test n (Some m) = (m < n) × (test m ≡ true)

before_is : (test : ℕ → Bool) (n : ℕ) (o : Option ℕ) → IsFirstOr test o → BeforeIs test n (before n o)
before_is test n None h = λ k _. h k
before_is test n (Some m) h = (elim (nat_lt m n) as (λ w. nat_lt m n ≡ w → BeforeIs test n (if w then Some m else None)) [
  | true ↦ λ e. (ltb-true m n e, h.passes)
  | false ↦ λ e k l. elim (by_test (test k)) [ inl no_more ↦ no_more | inr passes ↦ let g : n ≤ m = ltb-false m n e in let f : m ≤ k = h.least k passes in absurd (omega (arith, g, f, l)) ]
]) refl

module _ (old new : List Trace) (n a : ℕ) (by : Option RedOp) (next : Next old new n (Write a by)) where
  exposes_alike : (b k : ℕ) → is_exposed (trace_of new k) b ≡ is_exposed (trace_of old k) b
  exposes_alike b = test_all old new n a by (Write a by) writing next (λ t. is_exposed t b) (exposed_write a by b (trace_of old n))

  written_now : is_written (trace_of new n) a ≡ true
  written_now = ap (λ t. is_written t a) next.now ∙ written_here a by (trace_of old n)

  no_flow : HasNoFlow old a → HasNoFlow new a
  no_flow h = λ k j p. elim (order_of k n) [
    | less l ↦ h k j (record { earlier = p.earlier; pair = (sym (ap (λ t. is_written t a) (next.others k (λ e. omega (arith, l, e)))) ∙ p.pair.0, sym (exposes_alike a j) ∙ p.pair.1) })
    | same e ↦ true≢false (sym p.pair.1 ∙ later_empty old new n a by (Write a by) writing next (λ t. is_exposed t a) refl j (omega (arith, e, p.earlier)))
    | more l ↦ true≢false (sym p.pair.0 ∙ later_empty old new n a by (Write a by) writing next (λ t. is_written t a) refl k l)
  ]

  module _ (c : Cell) (cell : IsCell old n a c) where
    pub write_cell : IsCell new n a (after_write n c)
    write_cell = record {
      writes = first_now old new n a by (Write a by) writing next (λ t. is_written t a) refl written_now (written_up old new n a by (Write a by) writing next a) c.first_write cell.writes;
      exposes = first_so (λ k. is_exposed (trace_of old k) a) (λ k. is_exposed (trace_of new k) a) (exposes_alike a) c.first_exposed cell.exposes;
      now = touched_now old new n a by (Write a by) writing next ∙ sym (eq-eqb n n refl);
      last = omega arith;
    }

    abbrev Found : Option Pair → Type 0
    Found None = HasNoConflict old a → HasNoConflict new a
    Found (Some pair) = (pair.address ≡ a) × IsConflict new a pair.earlier pair.later

    -- no earlier iteration touches the address
    alone : BeforeIs (λ k. is_written (trace_of old k) a) n None → BeforeIs (λ k. is_exposed (trace_of old k) a) n None → (k : ℕ) → is_touched (trace_of new k) a ≡ true → k ≡ n
    alone w e k t = elim (order_of k n) [
      | less l ↦ elim (used (trace_of old k) a (sym (ap (λ s. is_touched s a) (next.others k (λ q. omega (arith, l, q)))) ∙ t)) [ inl h ↦ absurd (true≢false (sym h ∙ w k l)) | inr h ↦ absurd (true≢false (sym h ∙ e k l)) ]
      | same q ↦ q
      | more l ↦ absurd (true≢false (sym t ∙ later_empty old new n a by (Write a by) writing next (λ s. is_touched s a) refl k l))
    ]

    found_of : (x y : Option ℕ) → BeforeIs (λ k. is_written (trace_of old k) a) n x → BeforeIs (λ k. is_exposed (trace_of old k) a) n y → Found (pair_at a n (first_some x y))
    found_of (Some m) y p q = (refl, output (record { earlier = p.0; pair = (written_up old new n a by (Write a by) writing next a m p.1, written_now) }))
    found_of None (Some m) p q = (refl, anti (record { earlier = q.0; pair = (exposed_up old new n a by (Write a by) writing next a m q.1, written_now) }))
    found_of None None p q = λ _. of_one new a (n, alone p q)

    found : Found (found_by_write a n c)
    found = found_of (before n c.first_write) (before n c.first_exposed) (before_is (λ k. is_written (trace_of old k) a) n c.first_write cell.writes) (before_is (λ k. is_exposed (trace_of old k) a) n c.first_exposed cell.exposes)

    module _ (region : Interval) (i : IsIn region a) where
      conflicts : (o : Option Pair) → Found o → Finds old new n a by (Write a by) writing next region i (IsConflict new) HasNoConflict o
      conflicts None h = h
      conflicts (Some pair) h = h

      flow_keep : (o : Option Pair) → FlowIs old region o → FlowIs new region o
      flow_keep (Some p) h = record { inside = h.inside; flow = flow_up old new n a by (Write a by) writing next p.address p.earlier p.later h.flow }
      flow_keep None h = λ b j. elim (by_test (a == b)) [
        | inl e ↦ no_flow_alike old new b (alike_other old new n a by (Write a by) writing next b e) (h b j)
        | inr e ↦ subst (λ (q : ℕ). HasNoFlow new q) (eqb-true a b e) (no_flow (h a i))
      ]

      pub write_marked : (m after : Marks) → IsMarked old region m → IsAfterWrite m by (found_by_write a n c) after → IsMarked new region after
      write_marked m after h g = record {
        uses = uses_next old new n a by (Write a by) writing next region i m.uses after.uses by refl g.uses h.uses;
        written = subst (λ (w : Bool). WrittenIs new region w) (sym g.written) (λ q. true≢false (sym written_now ∙ q n a i));
        conflict = subst (λ (o : Option Pair). ConflictIs new region o) (sym g.conflict) (conflict_next old new n a by (Write a by) writing next region i m.conflict (found_by_write a n c) h.conflict (conflicts (found_by_write a n c) found));
        flow = subst (λ (o : Option Pair). FlowIs new region o) (sym g.flow) (flow_keep m.flow h.flow);
      }
