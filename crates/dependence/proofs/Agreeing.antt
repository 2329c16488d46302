-- Traces that agree on a region give it the same modes.
use Rattle.std.proofs.Common.{ℕ, ◌≡◌, ◌+◌, ◌==◌, ◌&&◌, Bool, true, false, List, [], ◌∷◌, ◌++◌, Option, None, Some, nat_le, nat_lt, if◌then◌else◌, refl, sym, ap, ◌∙◌, subst, true≢false, eqb-true, le-leb, lt-ltb}
use Rattle.interleaving.specs.Traces.{Read, Write, Move, is_written, is_exposed}
use Rattle.hyb_base.specs.declared.ops.RedOp.{RedOp}
use Rattle.dependence.specs.declared.modes.Judged.{Judged}
use Rattle.dependence.specs.declared.modes.Mode.{Mode}
use Rattle.dependence.specs.declared.modes.Mode.TheVariants.{Untouched, ReadOnly, Shared, Private, Reduce}
use Rattle.dependence.specs.declared.modes.Pair.{Pair}
use Rattle.dependence.specs.declared.modes.Verdict.{Verdict}
use Rattle.dependence.specs.declared.modes.Verdict.TheVariants.{Independent, Flow}
use Rattle.dependence.specs.Conflicts.{IsFlowPair, IsConflict, flow, anti, output}
use Rattle.dependence.specs.Executions.{Trace, trace_of, is_touched}
use Rattle.dependence.specs.Laws.{accesses_in, ModesRest, LastCountsNot}
use Rattle.dependence.specs.Regions.{Interval, IsIn, OnlyBy, Applies, IsModeOf}
use Rattle.dependence.specs.Verdicts.{IsNamed, AreJudged, IsFlow, IsRight}
use Rattle.dependence.proofs.Bounds.{last_empty}

pub record Agree (traces others : List Trace) (region : Interval) : Type 0 where
  pub touched : (k a : ℕ) → IsIn region a → is_touched (trace_of traces k) a ≡ is_touched (trace_of others k) a
  pub written : (k a : ℕ) → IsIn region a → is_written (trace_of traces k) a ≡ is_written (trace_of others k) a
  pub exposed : (k a : ℕ) → IsIn region a → is_exposed (trace_of traces k) a ≡ is_exposed (trace_of others k) a
  pub only : (op : RedOp) (k : ℕ) → OnlyBy op region (trace_of traces k) → OnlyBy op region (trace_of others k)
  pub only_back : (op : RedOp) (k : ℕ) → OnlyBy op region (trace_of others k) → OnlyBy op region (trace_of traces k)

pub flip : {traces others : List Trace} {region : Interval} → Agree traces others region → Agree others traces region
flip g = record {
  touched = λ k a i. sym (g.touched k a i);
  written = λ k a i. sym (g.written k a i);
  exposed = λ k a i. sym (g.exposed k a i);
  only = λ op k h. g.only_back op k h;
  only_back = λ op k h. g.only op k h;
}

pub flow_so : (traces others : List Trace) (region : Interval) → Agree traces others region → (a k j : ℕ) → IsIn region a → IsFlowPair traces a k j → IsFlowPair others a k j
flow_so traces others region g a k j i p = record { earlier = p.earlier; pair = (sym (g.written k a i) ∙ p.pair.0, sym (g.exposed j a i) ∙ p.pair.1) }

pub conflict_so : (traces others : List Trace) (region : Interval) → Agree traces others region → (a k j : ℕ) → IsIn region a → IsConflict traces a k j → IsConflict others a k j
conflict_so traces others region g a k j i (flow p) = flow (flow_so traces others region g a k j i p)
conflict_so traces others region g a k j i (anti p) = anti (record { earlier = p.earlier; pair = (sym (g.exposed k a i) ∙ p.pair.0, sym (g.written j a i) ∙ p.pair.1) })
conflict_so traces others region g a k j i (output p) = output (record { earlier = p.earlier; pair = (sym (g.written k a i) ∙ p.pair.0, sym (g.written j a i) ∙ p.pair.1) })

pub applies_so : (traces others : List Trace) (region : Interval) → Agree traces others region → (mode : Mode) → Applies traces region mode → Applies others region mode
applies_so traces others region g Untouched h = λ k a i. sym (g.touched k a i) ∙ h k a i
applies_so traces others region g ReadOnly h = λ k a i. sym (g.written k a i) ∙ h k a i
applies_so traces others region g Shared h = λ a i k j c. h a i k j (conflict_so others traces region (flip g) a k j i c)
applies_so traces others region g Private h = λ a i k j p. h a i k j (flow_so others traces region (flip g) a k j i p)
applies_so traces others region g (Reduce op) h = λ k. g.only op k (h k)

pub mode_so : (traces others : List Trace) (region : Interval) → Agree traces others region → (mode : Mode) → IsModeOf traces region mode → IsModeOf others region mode
mode_so traces others region g mode h = record {
  applies = applies_so traces others region g mode h.applies;
  first = λ earlier l a. h.first earlier l (applies_so others traces region (flip g) earlier a);
}

-- the accesses to a region
module _ (region : Interval) where
  abbrev inside : ℕ → Bool
  inside b = nat_le region.start b && nat_lt b (region.start + region.len)

  both : (x y : Bool) → x ≡ true → y ≡ true → (x && y) ≡ true
  both true true e f = refl
  both true false e f = f
  both false y e f = e

  is_inside : (a : ℕ) → IsIn region a → inside a ≡ true
  is_inside a i = both (nat_le region.start a) (nat_lt a (region.start + region.len)) (le-leb region.start a i.0) (lt-ltb a (region.start + region.len) i.1)

  -- an address outside isn't one inside
  apart : (b a : ℕ) → IsIn region a → inside b ≡ false → (b == a) ≡ true → ⊥
  apart b a i e q = true≢false (sym (is_inside a i) ∙ ap inside (sym (eqb-true b a q)) ∙ e)

  skipped : (b a : ℕ) (w : Bool) → IsIn region a → inside b ≡ false → (r s : Bool) → r ≡ s → r ≡ (if b == a then w else s)
  skipped b a w i e r s h = (elim (b == a) as (λ v. (b == a) ≡ v → r ≡ (if v then w else s)) [ true ↦ λ q. absurd (apart b a i e q) | false ↦ λ q. h ]) refl

  touched_in : (trace : Trace) (a : ℕ) → IsIn region a → is_touched (accesses_in region trace) a ≡ is_touched trace a
  touched_in [] a i = refl
  touched_in (Read b by ∷ trace) a i = (elim (inside b) as (λ w. inside b ≡ w → is_touched (if w then Read b by ∷ accesses_in region trace else accesses_in region trace) a ≡ is_touched (Read b by ∷ trace) a) [
    | true ↦ λ e. ap (λ r. if b == a then true else r) (touched_in trace a i)
    | false ↦ λ e. skipped b a true i e (is_touched (accesses_in region trace) a) (is_touched trace a) (touched_in trace a i)
  ]) refl
  touched_in (Write b by ∷ trace) a i = (elim (inside b) as (λ w. inside b ≡ w → is_touched (if w then Write b by ∷ accesses_in region trace else accesses_in region trace) a ≡ is_touched (Write b by ∷ trace) a) [
    | true ↦ λ e. ap (λ r. if b == a then true else r) (touched_in trace a i)
    | false ↦ λ e. skipped b a true i e (is_touched (accesses_in region trace) a) (is_touched trace a) (touched_in trace a i)
  ]) refl
  touched_in (Move ∷ trace) a i = touched_in trace a i

  written_in : (trace : Trace) (a : ℕ) → IsIn region a → is_written (accesses_in region trace) a ≡ is_written trace a
  written_in [] a i = refl
  written_in (Read b by ∷ trace) a i = (elim (inside b) as (λ w. is_written (if w then Read b by ∷ accesses_in region trace else accesses_in region trace) a ≡ is_written trace a) [
    | true ↦ written_in trace a i
    | false ↦ written_in trace a i
  ])
  written_in (Write b by ∷ trace) a i = (elim (inside b) as (λ w. inside b ≡ w → is_written (if w then Write b by ∷ accesses_in region trace else accesses_in region trace) a ≡ is_written (Write b by ∷ trace) a) [
    | true ↦ λ e. ap (λ r. if b == a then true else r) (written_in trace a i)
    | false ↦ λ e. skipped b a true i e (is_written (accesses_in region trace) a) (is_written trace a) (written_in trace a i)
  ]) refl
  written_in (Move ∷ trace) a i = written_in trace a i

  exposed_in : (trace : Trace) (a : ℕ) → IsIn region a → is_exposed (accesses_in region trace) a ≡ is_exposed trace a
  exposed_in [] a i = refl
  exposed_in (Read b by ∷ trace) a i = (elim (inside b) as (λ w. inside b ≡ w → is_exposed (if w then Read b by ∷ accesses_in region trace else accesses_in region trace) a ≡ is_exposed (Read b by ∷ trace) a) [
    | true ↦ λ e. ap (λ r. if b == a then true else r) (exposed_in trace a i)
    | false ↦ λ e. skipped b a true i e (is_exposed (accesses_in region trace) a) (is_exposed trace a) (exposed_in trace a i)
  ]) refl
  exposed_in (Write b by ∷ trace) a i = (elim (inside b) as (λ w. inside b ≡ w → is_exposed (if w then Write b by ∷ accesses_in region trace else accesses_in region trace) a ≡ is_exposed (Write b by ∷ trace) a) [
    | true ↦ λ e. ap (λ r. if b == a then false else r) (exposed_in trace a i)
    | false ↦ λ e. skipped b a false i e (is_exposed (accesses_in region trace) a) (is_exposed trace a) (exposed_in trace a i)
  ]) refl
  exposed_in (Move ∷ trace) a i = exposed_in trace a i

  only_in : (op : RedOp) (trace : Trace) → OnlyBy op region trace → OnlyBy op region (accesses_in region trace)
  only_in op [] h = tt
  only_in op (Read b by ∷ trace) h = elim (inside b) as (λ w. OnlyBy op region (if w then Read b by ∷ accesses_in region trace else accesses_in region trace)) [ true ↦ (h.0, only_in op trace h.1) | false ↦ only_in op trace h.1 ]
  only_in op (Write b by ∷ trace) h = elim (inside b) as (λ w. OnlyBy op region (if w then Write b by ∷ accesses_in region trace else accesses_in region trace)) [ true ↦ (h.0, only_in op trace h.1) | false ↦ only_in op trace h.1 ]
  only_in op (Move ∷ trace) h = only_in op trace h

  only_of : (op : RedOp) (trace : Trace) → OnlyBy op region (accesses_in region trace) → OnlyBy op region trace
  only_of op [] h = tt
  only_of op (Read b by ∷ trace) h = (elim (inside b) as (λ w. inside b ≡ w → OnlyBy op region (if w then Read b by ∷ accesses_in region trace else accesses_in region trace) → OnlyBy op region (Read b by ∷ trace)) [
    | true ↦ λ e f. (f.0, only_of op trace f.1)
    | false ↦ λ e f. (λ i. absurd (true≢false (sym (is_inside b i) ∙ e)), only_of op trace f)
  ]) refl h
  only_of op (Write b by ∷ trace) h = (elim (inside b) as (λ w. inside b ≡ w → OnlyBy op region (if w then Write b by ∷ accesses_in region trace else accesses_in region trace) → OnlyBy op region (Write b by ∷ trace)) [
    | true ↦ λ e f. (f.0, only_of op trace f.1)
    | false ↦ λ e f. (λ i. absurd (true≢false (sym (is_inside b i) ∙ e)), only_of op trace f)
  ]) refl h
  only_of op (Move ∷ trace) h = only_of op trace h

  by_accesses : (traces others : List Trace) → ((k : ℕ) → accesses_in region (trace_of traces k) ≡ accesses_in region (trace_of others k)) → Agree traces others region
  by_accesses traces others e = record {
    touched = λ k a i. sym (touched_in (trace_of traces k) a i) ∙ ap (λ t. is_touched t a) (e k) ∙ touched_in (trace_of others k) a i;
    written = λ k a i. sym (written_in (trace_of traces k) a i) ∙ ap (λ t. is_written t a) (e k) ∙ written_in (trace_of others k) a i;
    exposed = λ k a i. sym (exposed_in (trace_of traces k) a i) ∙ ap (λ t. is_exposed t a) (e k) ∙ exposed_in (trace_of others k) a i;
    only = λ op k h. only_of op (trace_of others k) (subst (λ (t : Trace). OnlyBy op region t) (e k) (only_in op (trace_of traces k) h));
    only_back = λ op k h. only_of op (trace_of traces k) (subst (λ (t : Trace). OnlyBy op region t) (sym (e k)) (only_in op (trace_of others k) h));
  }

pub modes_rest : ModesRest
modes_rest = λ traces others region e mode h. mode_so traces others region (by_accesses region traces others e) mode h

-- equal traces
module _ (traces others : List Trace) (same : (k : ℕ) → trace_of traces k ≡ trace_of others k) where
  pub agree : (region : Interval) → Agree traces others region
  agree region = record {
    touched = λ k a i. ap (λ t. is_touched t a) (same k);
    written = λ k a i. ap (λ t. is_written t a) (same k);
    exposed = λ k a i. ap (λ t. is_exposed t a) (same k);
    only = λ op k h. subst (λ (t : Trace). OnlyBy op region t) (same k) h;
    only_back = λ op k h. subst (λ (t : Trace). OnlyBy op region t) (sym (same k)) h;
  }

  named_so : (region : Interval) (mode : Mode) (pair : Option Pair) → IsNamed traces region mode pair → IsNamed others region mode pair
  named_so region Untouched None h = tt
  named_so region ReadOnly None h = tt
  named_so region Shared None h = tt
  named_so region Private (Some pair) h = record { inside = h.inside; conflict = conflict_so traces others region (agree region) pair.address pair.earlier pair.later h.inside h.conflict }
  named_so region (Reduce op) (Some pair) h = record { inside = h.inside; flow = flow_so traces others region (agree region) pair.address pair.earlier pair.later h.inside h.flow }
  named_so region Untouched (Some pair) h = h
  named_so region ReadOnly (Some pair) h = h
  named_so region Shared (Some pair) h = h
  named_so region Private None h = h
  named_so region (Reduce op) None h = h

  judged_so : (regions : List Interval) (modes : List Judged) → AreJudged traces regions modes → AreJudged others regions modes
  judged_so [] [] h = tt
  judged_so (region ∷ regions) (judged ∷ modes) h =
      (record { mode = mode_so traces others region (agree region) judged.mode (h.0).mode; named = named_so region judged.mode judged.pair (h.0).named }, judged_so regions modes h.1)
  judged_so [] (judged ∷ modes) h = h
  judged_so (region ∷ regions) [] h = h

  flows_so : (regions : List Interval) (pair : Pair) → IsFlow traces regions pair → IsFlow others regions pair
  flows_so regions pair h = record {
    region = h.region;
    listed = h.listed;
    no_mode = λ mode a. h.no_mode mode (applies_so others traces h.region (flip (agree h.region)) mode a);
    flows = record { inside = h.flows.inside; flow = flow_so traces others h.region (agree h.region) pair.address pair.earlier pair.later h.flows.inside h.flows.flow };
  }

  pub right_so : (regions : List Interval) (verdict : Verdict) → IsRight traces regions verdict → IsRight others regions verdict
  right_so regions (Independent modes) h = judged_so regions modes h
  right_so regions (Flow pair) h = flows_so regions pair h

pub last_counts_not : LastCountsNot
last_counts_not = record {
  modes = λ traces region mode. (mode_so (traces ++ [] ∷ []) traces region (agree (traces ++ [] ∷ []) traces (last_empty traces) region) mode, mode_so traces (traces ++ [] ∷ []) region (agree traces (traces ++ [] ∷ []) (λ k. sym (last_empty traces k)) region) mode);
  verdicts = λ traces regions verdict. (right_so (traces ++ [] ∷ []) traces (last_empty traces) regions verdict, right_so traces (traces ++ [] ∷ []) (λ k. sym (last_empty traces k)) regions verdict);
}
