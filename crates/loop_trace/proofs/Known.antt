-- What is known of addresses and of regions, after one access more.
use Rattle.std.proofs.Common.{ℕ, ◌≡◌, ◌==◌, ◌<◌, ◌≤◌, inl, inr, Bool, true, false, List, [], ◌∷◌, ◌++◌, Option, None, Some, sym, ap, ◌∙◌, subst, arith, true≢false, eqb-true, unwrap_or}
use Rattle.interleaving.specs.Traces.{Access, is_written, is_exposed}
use Rattle.hyb_base.specs.declared.ops.RedOp.{RedOp}
use Rattle.dependence.specs.declared.modes.Mode.TheVariants.{Untouched, ReadOnly, Shared, Private, Reduce}
use Rattle.dependence.specs.declared.modes.Pair.{Pair}
use Rattle.dependence.specs.Conflicts.{IsFlowPair, IsConflict, flow, anti, output, HasNoConflict, HasNoFlow, IsFirst}
use Rattle.dependence.specs.Executions.{Trace, trace_of, is_touched}
use Rattle.dependence.specs.Regions.{Interval, IsIn, OnlyBy, Applies}
use Rattle.dependence.proofs.Agreeing.{Agree, flip, flow_so, conflict_so, applies_so}
use Rattle.dependence.proofs.Bounds.{less, same, more, order_of, lt_or_le, by_test}
use Rattle.dependence.proofs.Judging.{one_reduced}
use Rattle.dependence.proofs.Touches.{exposed_touched}
use Rattle.loop_trace.specs.declared.cell.Cell.{Cell}
use Rattle.loop_trace.specs.declared.marks.Marks.{Marks}
use Rattle.loop_trace.specs.declared.marks.Uses.{Uses}
use Rattle.loop_trace.specs.declared.marks.Uses.TheVariants.{Unused, Only, Mixed}
use Rattle.loop_trace.specs.Cells.{IsFirstOr, IsCell}
use Rattle.loop_trace.specs.Marks.{IsWith, or_found, UsesAre, WrittenIs, ConflictIs, FlowIs, IsMarked}
use Rattle.loop_trace.proofs.Steps.{IsAt, touched_here, touched_other, written_other, exposed_other, exposed_old, written_more, only_init, only_last, only_more, only_untouched, Next}

pub first_so : (f g : ℕ → Bool) → ((k : ℕ) → g k ≡ f k) → (o : Option ℕ) → IsFirstOr f o → IsFirstOr g o
first_so f g e None h = λ k. e k ∙ h k
first_so f g e (Some m) h = record { passes = e m ∙ h.passes; least = λ k q. h.least k (sym (e k) ∙ q) }

-- the regions whose addresses are used alike
module _ (old new : List Trace) (region : Interval) (g : Agree old new region) where
  uses_agree : (u : Uses) → UsesAre old region u → UsesAre new region u
  uses_agree Unused h = applies_so old new region g Untouched h
  uses_agree (Only op) h = (λ q. h.0 (applies_so new old region (flip g) Untouched q), applies_so old new region g (Reduce op) h.1)
  uses_agree Mixed h = (λ q. h.0 (applies_so new old region (flip g) Untouched q), λ op q. h.1 op (applies_so new old region (flip g) (Reduce op) q))

  written_agree : (w : Bool) → WrittenIs old region w → WrittenIs new region w
  written_agree false h = applies_so old new region g ReadOnly h
  written_agree true h = λ q. h (applies_so new old region (flip g) ReadOnly q)

  conflict_agree : (o : Option Pair) → ConflictIs old region o → ConflictIs new region o
  conflict_agree None h = applies_so old new region g Shared h
  conflict_agree (Some p) h = record { inside = h.inside; conflict = conflict_so old new region g p.address p.earlier p.later h.inside h.conflict }

  flow_agree : (o : Option Pair) → FlowIs old region o → FlowIs new region o
  flow_agree None h = applies_so old new region g Private h
  flow_agree (Some p) h = record { inside = h.inside; flow = flow_so old new region g p.address p.earlier p.later h.inside h.flow }

  pub marked_agree : (m : Marks) → IsMarked old region m → IsMarked new region m
  marked_agree m h = record { uses = uses_agree m.uses h.uses; written = written_agree m.written h.written; conflict = conflict_agree m.conflict h.conflict; flow = flow_agree m.flow h.flow }

-- an address that is used alike
pub record Alike (old new : List Trace) (b : ℕ) : Type 0 where
  pub touched : (k : ℕ) → is_touched (trace_of new k) b ≡ is_touched (trace_of old k) b
  pub written : (k : ℕ) → is_written (trace_of new k) b ≡ is_written (trace_of old k) b
  pub exposed : (k : ℕ) → is_exposed (trace_of new k) b ≡ is_exposed (trace_of old k) b

module _ (old new : List Trace) (b : ℕ) (g : Alike old new b) where
  flow_back : (k j : ℕ) → IsFlowPair new b k j → IsFlowPair old b k j
  flow_back k j p = record { earlier = p.earlier; pair = (sym (g.written k) ∙ p.pair.0, sym (g.exposed j) ∙ p.pair.1) }

  conflict_back : (k j : ℕ) → IsConflict new b k j → IsConflict old b k j
  conflict_back k j (flow p) = flow (flow_back k j p)
  conflict_back k j (anti p) = anti (record { earlier = p.earlier; pair = (sym (g.exposed k) ∙ p.pair.0, sym (g.written j) ∙ p.pair.1) })
  conflict_back k j (output p) = output (record { earlier = p.earlier; pair = (sym (g.written k) ∙ p.pair.0, sym (g.written j) ∙ p.pair.1) })

  pub no_conflict_alike : HasNoConflict old b → HasNoConflict new b
  no_conflict_alike h = λ k j c. h k j (conflict_back k j c)

  pub no_flow_alike : HasNoFlow old b → HasNoFlow new b
  no_flow_alike h = λ k j p. h k j (flow_back k j p)

  pub cell_alike : (n : ℕ) (c : Cell) → IsCell old n b c → IsCell new n b c
  cell_alike n c h = record {
    writes = first_so (λ k. is_written (trace_of old k) b) (λ k. is_written (trace_of new k) b) g.written c.first_write h.writes;
    exposes = first_so (λ k. is_exposed (trace_of old k) b) (λ k. is_exposed (trace_of new k) b) g.exposed c.first_exposed h.exposes;
    now = g.touched n ∙ h.now;
    last = h.last;
  }

module _ (old new : List Trace) (n a : ℕ) (by : Option RedOp) (x : Access RedOp) (at : IsAt a by x) (next : Next old new n x) where
  every : (P : ℕ → Type 0) → P n → ((k : ℕ) → (k ≡ n → ⊥) → P k) → (k : ℕ) → P k
  every P p others k = elim (order_of k n) [ less l ↦ others k (λ e. omega (arith, l, e)) | same e ↦ subst P (sym e) p | more l ↦ others k (λ e. omega (arith, l, e)) ]

  pub test_all : (f : Trace → Bool) → f (trace_of old n ++ x ∷ []) ≡ f (trace_of old n) → (k : ℕ) → f (trace_of new k) ≡ f (trace_of old k)
  test_all f h = every (λ k. f (trace_of new k) ≡ f (trace_of old k)) (ap f next.now ∙ h) (λ k ne. ap f (next.others k ne))

  pub alike_other : (b : ℕ) → (a == b) ≡ false → Alike old new b
  alike_other b e = record {
    touched = test_all (λ t. is_touched t b) (touched_other a by x at b e (trace_of old n));
    written = test_all (λ t. is_written t b) (written_other a by x at b e (trace_of old n));
    exposed = test_all (λ t. is_exposed t b) (exposed_other a by x at b e (trace_of old n));
  }

  pub written_up : (b k : ℕ) → is_written (trace_of old k) b ≡ true → is_written (trace_of new k) b ≡ true
  written_up b = every (λ k. is_written (trace_of old k) b ≡ true → is_written (trace_of new k) b ≡ true)
      (λ h. ap (λ t. is_written t b) next.now ∙ written_more x b (trace_of old n) h) (λ k ne h. ap (λ t. is_written t b) (next.others k ne) ∙ h)

  pub exposed_up : (b k : ℕ) → is_exposed (trace_of old k) b ≡ true → is_exposed (trace_of new k) b ≡ true
  exposed_up b = every (λ k. is_exposed (trace_of old k) b ≡ true → is_exposed (trace_of new k) b ≡ true)
      (λ h. ap (λ t. is_exposed t b) next.now ∙ exposed_old x b (trace_of old n) (exposed_touched (trace_of old n) b h) ∙ h) (λ k ne h. ap (λ t. is_exposed t b) (next.others k ne) ∙ h)

  pub flow_up : (b k j : ℕ) → IsFlowPair old b k j → IsFlowPair new b k j
  flow_up b k j p = record { earlier = p.earlier; pair = (written_up b k p.pair.0, exposed_up b j p.pair.1) }

  conflict_up : (b k j : ℕ) → IsConflict old b k j → IsConflict new b k j
  conflict_up b k j (flow p) = flow (flow_up b k j p)
  conflict_up b k j (anti p) = anti (record { earlier = p.earlier; pair = (exposed_up b k p.pair.0, written_up b j p.pair.1) })
  conflict_up b k j (output p) = output (record { earlier = p.earlier; pair = (written_up b k p.pair.0, written_up b j p.pair.1) })

  pub touched_now : is_touched (trace_of new n) a ≡ true
  touched_now = ap (λ t. is_touched t a) next.now ∙ touched_here a by x at (trace_of old n)

  pub bound : (f : Trace → Bool) → f [] ≡ false → (k : ℕ) → f (trace_of old k) ≡ true → k ≤ n
  bound f none k h = elim (lt_or_le n k) [ inl l ↦ absurd (true≢false (sym h ∙ ap f (next.after k l) ∙ none)) | inr g ↦ g ]

  pub later_empty : (f : Trace → Bool) → f [] ≡ false → (k : ℕ) → n < k → f (trace_of new k) ≡ false
  later_empty f none k l = ap f (next.others k (λ e. omega (arith, l, e)) ∙ next.after k l) ∙ none

  -- the first iteration that passes a test, where the current one does now
  pub first_now : (f : Trace → Bool) → f [] ≡ false → f (trace_of new n) ≡ true → ((k : ℕ) → f (trace_of old k) ≡ true → f (trace_of new k) ≡ true) → (o : Option ℕ) → IsFirstOr (λ k. f (trace_of old k)) o → IsFirst (λ k. f (trace_of new k)) (unwrap_or o n)
  first_now f none now up None h = record {
    passes = now;
    least = λ k q. elim (lt_or_le k n) [ inl l ↦ absurd (true≢false (sym q ∙ ap f (next.others k (λ e. omega (arith, l, e))) ∙ h k)) | inr g ↦ g ];
  }
  first_now f none now up (Some m) h = record {
    passes = up m h.passes;
    least = λ k q. elim (order_of k n) [
      | less l ↦ h.least k (sym (ap f (next.others k (λ e. omega (arith, l, e)))) ∙ q)
      | same e ↦ omega (arith, e, bound f none m h.passes)
      | more l ↦ absurd (true≢false (sym q ∙ later_empty f none k l))
    ];
  }

  -- regions without the address
  module _ (region : Interval) (out : IsIn region a → ⊥) where
    apart : (b : ℕ) → IsIn region b → (a == b) ≡ false
    apart b i = elim (by_test (a == b)) [ inl e ↦ e | inr e ↦ absurd (out (subst (λ (q : ℕ). IsIn region q) (sym (eqb-true a b e)) i)) ]

    outside : Agree old new region
    outside = record {
      touched = λ k b i. sym ((alike_other b (apart b i)).touched k);
      written = λ k b i. sym ((alike_other b (apart b i)).written k);
      exposed = λ k b i. sym ((alike_other b (apart b i)).exposed k);
      only = λ op. every (λ k. OnlyBy op region (trace_of old k) → OnlyBy op region (trace_of new k))
          (λ h. subst (λ (t : Trace). OnlyBy op region t) (sym next.now) (only_more op region a by x at (λ i. absurd (out i)) (trace_of old n) h)) (λ k ne h. subst (λ (t : Trace). OnlyBy op region t) (sym (next.others k ne)) h);
      only_back = λ op. every (λ k. OnlyBy op region (trace_of new k) → OnlyBy op region (trace_of old k))
          (λ h. only_init op region a by x (trace_of old n) (subst (λ (t : Trace). OnlyBy op region t) next.now h)) (λ k ne h. subst (λ (t : Trace). OnlyBy op region t) (next.others k ne) h);
    }

    pub marked_outside : (m : Marks) → IsMarked old region m → IsMarked new region m
    marked_outside m h = marked_agree old new region outside m h

  -- the region of the address
  module _ (region : Interval) (i : IsIn region a) where
    used_now : Applies new region Untouched → ⊥
    used_now h = true≢false (sym touched_now ∙ h n a i)

    reduce_back : (op : RedOp) → Applies new region (Reduce op) → Applies old region (Reduce op)
    reduce_back op h = every (λ k. OnlyBy op region (trace_of old k)) (only_init op region a by x (trace_of old n) (subst (λ (t : Trace). OnlyBy op region t) next.now (h n))) (λ k ne. subst (λ (t : Trace). OnlyBy op region t) (next.others k ne) (h k))

    reduce_last : (op : RedOp) → Applies new region (Reduce op) → by ≡ Some op
    reduce_last op h = only_last op region a by x at (trace_of old n) (subst (λ (t : Trace). OnlyBy op region t) next.now (h n)) i

    reduce_more : (op : RedOp) → Applies old region (Reduce op) → by ≡ Some op → Applies new region (Reduce op)
    reduce_more op h e = every (λ k. OnlyBy op region (trace_of new k)) (subst (λ (t : Trace). OnlyBy op region t) (sym next.now) (only_more op region a by x at (λ _. e) (trace_of old n) (h n))) (λ k ne. subst (λ (t : Trace). OnlyBy op region t) (sym (next.others k ne)) (h k))

    pub uses_next : (u v : Uses) (o : Option RedOp) → by ≡ o → IsWith u o v → UsesAre old region u → UsesAre new region v
    uses_next Unused v None e w h = subst (λ (q : Uses). UsesAre new region q) (sym w) (used_now, λ op q. let f : by ≡ Some op = reduce_last op q in absurd (cc))
    uses_next Unused v (Some op) e w h = subst (λ (q : Uses). UsesAre new region q) (sym w) (used_now, reduce_more op (λ k. only_untouched op region (trace_of old k) (λ b j. h k b j)) e)
    uses_next (Only one) v None e w h = subst (λ (q : Uses). UsesAre new region q) (sym w) (used_now, λ op q. let f : by ≡ Some op = reduce_last op q in absurd (cc))
    uses_next (Only one) v (Some op) e w h = elim w [
      | inl s ↦ subst (λ (q : Uses). UsesAre new region q) (sym s.0) (used_now, reduce_more one h.1 (e ∙ ap Some (sym s.1)))
      | inr d ↦ subst (λ (q : Uses). UsesAre new region q) (sym d.0) (
        used_now,
        λ p q.
            let f : by ≡ Some p = reduce_last p q in
            let g : one ≡ p = one_reduced old region one p h.0 h.1 (reduce_back p q) in
            let s : one ≡ op = cc in
            d.1 s,
      )
    ]
    uses_next Mixed v None e w h = subst (λ (q : Uses). UsesAre new region q) (sym w) (used_now, λ op q. h.1 op (reduce_back op q))
    uses_next Mixed v (Some o) e w h = subst (λ (q : Uses). UsesAre new region q) (sym w) (used_now, λ op q. h.1 op (reduce_back op q))

    -- a conflict, or a flow pair, at the address, or none that is new
    abbrev pub Finds : (Q : ℕ → ℕ → ℕ → Type 0) → (Free : List Trace → ℕ → Type 0) → Option Pair → Type 0
    Finds Q Free None = Free old a → Free new a
    Finds Q Free (Some pair) = (pair.address ≡ a) × Q a pair.earlier pair.later

    pub conflict_next : (m found : Option Pair) → ConflictIs old region m → Finds (IsConflict new) HasNoConflict found → ConflictIs new region (or_found m found)
    conflict_next (Some p) found h f = record { inside = h.inside; conflict = conflict_up p.address p.earlier p.later h.conflict }
    conflict_next None None h f = λ b j. elim (by_test (a == b)) [ inl e ↦ no_conflict_alike old new b (alike_other b e) (h b j) | inr e ↦ subst (λ (q : ℕ). HasNoConflict new q) (eqb-true a b e) (f (h a i)) ]
    conflict_next None (Some p) h f = record { inside = subst (λ (q : ℕ). IsIn region q) (sym f.0) i; conflict = subst (λ (q : ℕ). IsConflict new q p.earlier p.later) (sym f.0) f.1 }

    pub flow_next : (m found : Option Pair) → FlowIs old region m → Finds (IsFlowPair new) HasNoFlow found → FlowIs new region (or_found m found)
    flow_next (Some p) found h f = record { inside = h.inside; flow = flow_up p.address p.earlier p.later h.flow }
    flow_next None None h f = λ b j. elim (by_test (a == b)) [ inl e ↦ no_flow_alike old new b (alike_other b e) (h b j) | inr e ↦ subst (λ (q : ℕ). HasNoFlow new q) (eqb-true a b e) (f (h a i)) ]
    flow_next None (Some p) h f = record { inside = subst (λ (q : ℕ). IsIn region q) (sym f.0) i; flow = subst (λ (q : ℕ). IsFlowPair new q p.earlier p.later) (sym f.0) f.1 }
