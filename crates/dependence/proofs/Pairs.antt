-- Conflicts and flow pairs at an address.
use Rattle.std.proofs.Common.{ℕ, ◌≡◌, ◌<◌, ◌⊎◌, inl, inr, true, false, List, refl, sym, ◌∙◌, arith, true≢false, ◌↔◌}
use Rattle.interleaving.specs.Traces.{is_written, is_exposed}
use Rattle.dependence.specs.Conflicts.{IsFlowPair, IsConflict, flow, anti, output, HasNoConflict, HasNoFlow, IsOfOne}
use Rattle.dependence.specs.Executions.{Trace, trace_of, is_touched}
use Rattle.dependence.specs.Laws.{ConflictsAre, FlowsAre, FlowsThrough}
use Rattle.dependence.proofs.Bounds.{less, same, more, order_of, lt_or_le, first_test, last_test}
use Rattle.dependence.proofs.Touches.{used, written_touched, exposed_touched}

module _ (traces : List Trace) (a : ℕ) where
  abbrev pub Written : ℕ → Type 0
  Written k = is_written (trace_of traces k) a ≡ true

  abbrev pub Exposed : ℕ → Type 0
  Exposed k = is_exposed (trace_of traces k) a ≡ true

  abbrev pub Touched : ℕ → Type 0
  Touched k = is_touched (trace_of traces k) a ≡ true

  -- an iteration that touches an address conflicts with one that writes it, before or after
  pub before_write : (k w : ℕ) → k < w → Written w → Touched k → IsConflict traces a k w
  before_write k w l ww tk = elim (used (trace_of traces k) a tk) [ inl wk ↦ output (record { earlier = l; pair = (wk, ww) }) | inr ek ↦ anti (record { earlier = l; pair = (ek, ww) }) ]

  pub after_write : (w k : ℕ) → w < k → Written w → Touched k → IsConflict traces a w k
  after_write w k l ww tk = elim (used (trace_of traces k) a tk) [ inl wk ↦ output (record { earlier = l; pair = (ww, wk) }) | inr ek ↦ flow (record { earlier = l; pair = (ww, ek) }) ]

  alone : (w k : ℕ) → HasNoConflict traces a → Written w → Touched k → k ≡ w
  alone w k h ww tk = elim (order_of k w) [ less l ↦ absurd (h k w (before_write k w l ww tk)) | same e ↦ e | more l ↦ absurd (h w k (after_write w k l ww tk)) ]

  conflicts_to : HasNoConflict traces a → ((k : ℕ) → is_written (trace_of traces k) a ≡ false) ⊎ IsOfOne traces a
  conflicts_to h = elim (first_test traces (λ t. is_written t a) refl) [ inl none ↦ inl none | inr w ↦ inr (w.0, λ k tk. alone w.0 k h w.1.passes tk) ]

  -- the two iterations of a conflict, and one of them writes
  earlier_of : (k j : ℕ) → IsConflict traces a k j → k < j
  earlier_of k j (flow p) = p.earlier
  earlier_of k j (anti p) = p.earlier
  earlier_of k j (output p) = p.earlier

  pub first_touches : (k j : ℕ) → IsConflict traces a k j → Touched k
  first_touches k j (flow p) = written_touched (trace_of traces k) a p.pair.0
  first_touches k j (anti p) = exposed_touched (trace_of traces k) a p.pair.0
  first_touches k j (output p) = written_touched (trace_of traces k) a p.pair.0

  second_touches : (k j : ℕ) → IsConflict traces a k j → Touched j
  second_touches k j (flow p) = exposed_touched (trace_of traces j) a p.pair.1
  second_touches k j (anti p) = written_touched (trace_of traces j) a p.pair.1
  second_touches k j (output p) = written_touched (trace_of traces j) a p.pair.1

  pub none_written : ((k : ℕ) → is_written (trace_of traces k) a ≡ false) → HasNoConflict traces a
  none_written none k j (flow p) = true≢false (sym p.pair.0 ∙ none k)
  none_written none k j (anti p) = true≢false (sym p.pair.1 ∙ none j)
  none_written none k j (output p) = true≢false (sym p.pair.0 ∙ none k)

  pub of_one : IsOfOne traces a → HasNoConflict traces a
  of_one one k j c =
      let l : k < j = earlier_of k j c in
      let x : k ≡ one.0 = one.1 k (first_touches k j c) in
      let y : j ≡ one.0 = one.1 j (second_touches k j c) in
      omega (arith, l, x, y)

  pub conflicts_are : HasNoConflict traces a ↔ (((k : ℕ) → is_written (trace_of traces k) a ≡ false) ⊎ IsOfOne traces a)
  conflicts_are = (conflicts_to, λ s. elim s [ inl none ↦ none_written none | inr one ↦ of_one one ])

  -- flow pairs
  flows_to : (k j : ℕ) → IsFlowPair traces a k j → FlowsThrough traces a
  flows_to k j p = elim (first_test traces (λ t. is_written t a) refl) [
    | inl none ↦ absurd (true≢false (sym p.pair.0 ∙ none k))
    | inr f ↦ elim (last_test traces (λ t. is_exposed t a) refl) [
      | inl none ↦ absurd (true≢false (sym p.pair.1 ∙ none j))
      | inr l ↦ record { first = f.0; last = l.0; writes = f.1; exposes = l.1; before = omega (arith, f.1.least k p.pair.0, l.1.greatest j p.pair.1, p.earlier) }
    ]
  ]

  pub flows_are : ((k : ℕ) × ((j : ℕ) × IsFlowPair traces a k j)) ↔ FlowsThrough traces a
  flows_are = (λ p. flows_to p.0 p.1.0 p.1.1, λ f. (f.first, (f.last, record { earlier = f.before; pair = (f.writes.passes, f.exposes.passes) })))

  -- each address has no flow pair or one, and no conflict or one
  pub flow_or : HasNoFlow traces a ⊎ ((k : ℕ) × ((j : ℕ) × IsFlowPair traces a k j))
  flow_or = elim (first_test traces (λ t. is_written t a) refl) [
    | inl none ↦ inl (λ k j p. true≢false (sym p.pair.0 ∙ none k))
    | inr f ↦ elim (last_test traces (λ t. is_exposed t a) refl) [
      | inl none ↦ inl (λ k j p. true≢false (sym p.pair.1 ∙ none j))
      | inr l ↦ elim (lt_or_le f.0 l.0) [
        | inl lt ↦ inr (f.0, (l.0, record { earlier = lt; pair = (f.1.passes, l.1.passes) }))
        | inr ge ↦ inl (λ k j p. omega (arith, ge, f.1.least k p.pair.0, l.1.greatest j p.pair.1, p.earlier))
      ]
    ]
  ]

  pub conflict_or : HasNoConflict traces a ⊎ ((k : ℕ) × ((j : ℕ) × IsConflict traces a k j))
  conflict_or = elim (first_test traces (λ t. is_written t a) refl) [
    | inl none ↦ inl (none_written none)
    | inr w ↦ elim (last_test traces (λ t. is_touched t a) refl) [
      | inl none ↦ inl (λ k j c. true≢false (sym (first_touches k j c) ∙ none k))
      | inr l ↦ elim (lt_or_le w.0 l.0) [
        | inl lt ↦ inr (w.0, (l.0, after_write w.0 l.0 lt w.1.passes l.1.passes))
        | inr ge ↦ elim (first_test traces (λ t. is_touched t a) refl) [
          | inl none ↦ inl (λ k j c. true≢false (sym (first_touches k j c) ∙ none k))
          | inr f ↦ elim (lt_or_le f.0 w.0) [
            | inl lt ↦ inr (f.0, (w.0, before_write f.0 w.0 lt w.1.passes f.1.passes))
            | inr le ↦ inl (of_one (w.0, λ k tk. omega (arith, le, ge, f.1.least k tk, l.1.greatest k tk)))
          ]
        ]
      ]
    ]
  ]

pub the_conflicts : ConflictsAre
the_conflicts = λ traces a. conflicts_are traces a

pub the_flows : FlowsAre
the_flows = λ traces a. flows_are traces a
