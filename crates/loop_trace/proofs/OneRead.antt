-- A read more.
use Rattle.std.proofs.Common.{ℕ, ◌≡◌, ◌==◌, ◌<◌, ◌≤◌, Bool, true, false, List, Option, None, Some, if◌then◌else◌, refl, sym, ap, ◌∙◌, subst, arith, true≢false, eq-eqb, unwrap_or}
use Rattle.interleaving.specs.Traces.{Read, is_written, is_exposed}
use Rattle.hyb_base.specs.declared.ops.RedOp.{RedOp}
use Rattle.dependence.specs.declared.modes.Pair.{Pair}
use Rattle.dependence.specs.Conflicts.{IsFlowPair, IsConflict, flow, HasNoConflict, HasNoFlow}
use Rattle.dependence.specs.Executions.{Trace, trace_of, is_touched}
use Rattle.dependence.specs.Regions.{Interval, IsIn}
use Rattle.dependence.proofs.Bounds.{less, same, more, order_of}
use Rattle.dependence.proofs.Pairs.{none_written}
use Rattle.dependence.proofs.Touches.{written_touched}
use Rattle.loop_trace.specs.declared.cell.Cell.{Cell}
use Rattle.loop_trace.specs.declared.marks.Marks.{Marks}
use Rattle.loop_trace.specs.Cells.{after_read, pair_at, found_by_read, IsFirstOr, IsCell}
use Rattle.loop_trace.specs.Marks.{IsAfterRead, WrittenIs, ConflictIs, FlowIs, IsMarked}
use Rattle.loop_trace.proofs.Known.{Alike, cell_alike, no_conflict_alike, no_flow_alike, first_so, test_all, touched_now, first_now, written_up, exposed_up, bound, uses_next, Finds, conflict_next, flow_next}
use Rattle.loop_trace.proofs.Steps.{reading, touched_here, written_read, exposed_new, exposed_old, Next}

module _ (old new : List Trace) (n a : ℕ) (by : Option RedOp) (next : Next old new n (Read a by)) where
  writes_alike : (b k : ℕ) → is_written (trace_of new k) b ≡ is_written (trace_of old k) b
  writes_alike b = test_all old new n a by (Read a by) reading next (λ t. is_written t b) (written_read a by b (trace_of old n))

  module _ (c : Cell) (cell : IsCell old n a c) where
    alike_here : (c.last == n) ≡ true → Alike old new a
    alike_here e = record {
      touched = test_all old new n a by (Read a by) reading next (λ t. is_touched t a) (touched_here a by (Read a by) reading (trace_of old n) ∙ sym (cell.now ∙ e));
      written = writes_alike a;
      exposed = test_all old new n a by (Read a by) reading next (λ t. is_exposed t a) (exposed_old (Read a by) a (trace_of old n) (cell.now ∙ e));
    }

    exposed_now : (c.last == n) ≡ false → is_exposed (trace_of new n) a ≡ true
    exposed_now e = ap (λ t. is_exposed t a) next.now ∙ exposed_new a by (trace_of old n) (cell.now ∙ e)

    first_read : (c.last == n) ≡ false → IsCell new n a (record { first_write = c.first_write; first_exposed = Some (unwrap_or c.first_exposed n); last = n })
    first_read e = record {
      writes = first_so (λ k. is_written (trace_of old k) a) (λ k. is_written (trace_of new k) a) (writes_alike a) c.first_write cell.writes;
      exposes = first_now old new n a by (Read a by) reading next (λ t. is_exposed t a) refl (exposed_now e) (exposed_up old new n a by (Read a by) reading next a) c.first_exposed cell.exposes;
      now = touched_now old new n a by (Read a by) reading next ∙ sym (eq-eqb n n refl);
      last = omega arith;
    }

    pub read_cell : IsCell new n a (after_read n c)
    read_cell = (elim (c.last == n) as (λ w. (c.last == n) ≡ w → IsCell new n a (if w then c else record { first_write = c.first_write; first_exposed = Some (unwrap_or c.first_exposed n); last = n })) [
      | true ↦ λ e. cell_alike old new a (alike_here e) n c cell
      | false ↦ λ e. first_read e
    ]) refl

    -- what is found of conflicts and of flow pairs
    abbrev Both : Option Pair → Type 0
    Both None = (HasNoConflict old a → HasNoConflict new a) × (HasNoFlow old a → HasNoFlow new a)
    Both (Some pair) = (pair.address ≡ a) × IsFlowPair new a pair.earlier pair.later

    found_first : (c.last == n) ≡ false → (o : Option ℕ) → IsFirstOr (λ k. is_written (trace_of old k) a) o → Both (pair_at a n o)
    found_first e None h = (λ _. none_written new a (λ k. writes_alike a k ∙ h k), λ _ k j p. true≢false (sym p.pair.0 ∙ writes_alike a k ∙ h k))
    found_first e (Some w) h = (refl, record { earlier = earlier; pair = (written_up old new n a by (Read a by) reading next a w h.passes, exposed_now e) })
      where
        earlier : w < n
        earlier = elim (order_of w n) [
          | less l ↦ l
          | same q ↦ absurd (true≢false (sym (written_touched (trace_of old n) a (subst (λ (k : ℕ). is_written (trace_of old k) a ≡ true) q h.passes)) ∙ cell.now ∙ e))
          | more l ↦ let g : w ≤ n = bound old new n a by (Read a by) reading next (λ t. is_written t a) refl w h.passes in absurd (omega (arith, l, g))
        ]

    both : Both (found_by_read a n c)
    both = (elim (c.last == n) as (λ w. (c.last == n) ≡ w → Both (if w then None else pair_at a n c.first_write)) [
      | true ↦ λ e. (no_conflict_alike old new a (alike_here e), no_flow_alike old new a (alike_here e))
      | false ↦ λ e. found_first e c.first_write cell.writes
    ]) refl

    module _ (region : Interval) (i : IsIn region a) where
      conflicts : (o : Option Pair) → Both o → Finds old new n a by (Read a by) reading next region i (IsConflict new) HasNoConflict o
      conflicts None h = h.0
      conflicts (Some pair) h = (h.0, flow h.1)

      flows : (o : Option Pair) → Both o → Finds old new n a by (Read a by) reading next region i (IsFlowPair new) HasNoFlow o
      flows None h = h.1
      flows (Some pair) h = h

      written_keep : (w : Bool) → WrittenIs old region w → WrittenIs new region w
      written_keep false h = λ k b j. writes_alike b k ∙ h k b j
      written_keep true h = λ q. h (λ k b j. sym (writes_alike b k) ∙ q k b j)

      pub read_marked : (m after : Marks) → IsMarked old region m → IsAfterRead m by (found_by_read a n c) after → IsMarked new region after
      read_marked m after h g = record {
        uses = uses_next old new n a by (Read a by) reading next region i m.uses after.uses by refl g.uses h.uses;
        written = subst (λ (w : Bool). WrittenIs new region w) (sym g.written) (written_keep m.written h.written);
        conflict = subst (λ (o : Option Pair). ConflictIs new region o) (sym g.conflict) (conflict_next old new n a by (Read a by) reading next region i m.conflict (found_by_read a n c) h.conflict (conflicts (found_by_read a n c) both));
        flow = subst (λ (o : Option Pair). FlowIs new region o) (sym g.flow) (flow_next old new n a by (Read a by) reading next region i m.flow (found_by_read a n c) h.flow (flows (found_by_read a n c) both));
      }
