-- The laws on regions of iterations.
use Rattle.std.proofs.Common.{ℕ, zero, ◌+◌, ◌<◌, ◌≤◌, ◌≡◌, true, List, [], ◌∷◌, length, Some, refl, sym, subst, arith}
use Rattle.interleaving.specs.Interleaving.{HasLeft, InterleavesWhere, RunsAloneWhere, IsWholeWhere}
use Rattle.interleaving.specs.Machine.{Machine, IsMachine, AreReady, Store}
use Rattle.interleaving.specs.Modes.{Mode, Fits}
use Rattle.interleaving.specs.Prefixes.{AllDidFirst, DoPrefixesWhere}
use Rattle.interleaving.specs.Region.{Iteration, Region, begun, advanced_all}
use Rattle.interleaving.specs.Traces.{Access, Stop, InTurn, Alone, all_at_end, steps_of_all}
use Rattle.interleaving.proofs.Advances.{Ends, CutLate, has_left, turned, advances_all, reaches}
use Rattle.interleaving.proofs.Alone.{in_turn_same, alone_of}
use Rattle.interleaving.proofs.Begins.{Begins, begins_alone, end_of, first_holds}
use Rattle.interleaving.proofs.Commits.{AllStops, Invariant}
use Rattle.interleaving.proofs.Courses.{Course, traces_of, starts_of, AllOnCourse, none, going, gone}
use Rattle.interleaving.proofs.Histories.{did_first}

all_end : {O : Type 0} (traces : List (List (Access O))) → AllStops Ends (all_at_end traces) traces
all_end [] = tt
all_end (trace ∷ traces) = (refl, all_end traces)

module _ {P O V : Type 0} (m : Machine P O V) (modes : ℕ → Mode O) where
  -- iterations of a region did the first steps of their runs alone
  all_did_first : {entry t : Store V} {pending : List (Iteration P V)} {gs : List (Course P O V)} → AllOnCourse m modes entry t pending gs → AllDidFirst m modes entry zero (starts_of gs) (traces_of gs) pending
  all_did_first none = tt
  all_did_first {entry = entry} (going {p = p} {start = start} {own = own} {pre = pre} {rest = rest} {trace = trace} st hist f compatible more) = (did_first m modes entry start pre rest trace (record { process = p; own = own; finished = _ }) hist (λ e. absurd (cc)), all_did_first more)
  all_did_first {entry = entry} (gone {p = p} {start = start} {own = own} {pre = pre} {trace = trace} st hist compatible more) = (did_first m modes entry start pre [] trace (record { process = p; own = own; finished = true }) hist (λ e. refl), all_did_first more)

module _ (P O V : Type 0) (Sound : P → Type 0) where
  pub interleaves : InterleavesWhere P O V Sound
  interleaves m laws modes window w starts entry end traces ready turn fits picks left h =
      let stops : List Stop = all_at_end traces in
      let b : Begins m modes entry starts traces stops × AllStops (CutLate 0) stops traces = begins_alone m modes laws 0 starts entry traces stops ready (alone_of m modes laws 0 starts entry end traces ready turn fits) fits in
      let first : Invariant m modes Ends starts entry traces stops (end_of m modes b.0) (begun starts entry) (steps_of_all traces) 0 = first_holds m modes Ends starts entry traces stops b.0 (all_end traces) in
      let k : (q : Region P V) × (advanced_all m modes window picks (Some (begun starts entry)) ≡ Some q) × Invariant m modes Ends starts entry traces stops (end_of m modes b.0) q left (0 + length picks) =
      advances_all m modes starts entry traces stops (end_of m modes b.0) laws window w picks (begun starts entry) left 0 (subst (λ n. Invariant m modes Ends starts entry traces stops (end_of m modes b.0) (begun starts entry) n 0) (sym h) first) in
      let at : HasLeft k.0 (end_of m modes b.0) left = has_left m modes Ends starts entry traces stops (end_of m modes b.0) k.0 left (0 + length picks) k.2 in (
        k.0,
        k.1,
        record {
          over = at.over;
          store = λ e. in_turn_same m starts entry k.0.store end traces (turned m modes Ends starts entry traces stops (end_of m modes b.0) k.0 left (0 + length picks) k.2 (at.over e)).0 turn;
          going = at.going;
        },
      )

  pub runs_alone : RunsAloneWhere P O V Sound
  runs_alone m laws modes limit starts entry end traces ready turn fits = alone_of m modes laws limit starts entry end traces ready turn fits

  module _ (m : Machine P O V) (modes : ℕ → Mode O) (limit : ℕ) (starts : List P) (entry : Store V) (traces : List (List (Access O))) (stops : List Stop) where
    -- a region that some picks leave, no more than the steps alone
    record Reached (picks : List ℕ) (r : Region P V) : Type 0 where
      end : Store V
      left : ℕ
      count : length picks + left ≡ steps_of_all traces
      invariant : Invariant m modes (CutLate limit) starts entry traces stops end r left (length picks)

  reached : (m : Machine P O V) → IsMachine m Sound → (modes : ℕ → Mode O) (window : ℕ) → 0 < window →
      (limit : ℕ) (starts : List P) (entry : Store V) (traces : List (List (Access O))) (stops : List Stop) → AreReady m Sound starts → Alone m limit starts entry traces stops → Fits modes traces →
      (picks : List ℕ) → length picks ≤ limit → (r : Region P V) → advanced_all m modes window picks (Some (begun starts entry)) ≡ Some r → Reached m modes limit starts entry traces stops picks r
  reached m laws modes window w limit starts entry traces stops ready alone fits picks short r came =
      let b : Begins m modes entry starts traces stops × AllStops (CutLate limit) stops traces = begins_alone m modes laws limit starts entry traces stops ready alone fits in
      let first : Invariant m modes (CutLate limit) starts entry traces stops (end_of m modes b.0) (begun starts entry) (steps_of_all traces) 0 = first_holds m modes (CutLate limit) starts entry traces stops b.0 b.1 in
      let k : (left : ℕ) × (length picks + left ≡ steps_of_all traces) × Invariant m modes (CutLate limit) starts entry traces stops (end_of m modes b.0) r left (0 + length picks) =
      reaches m modes starts entry traces stops (end_of m modes b.0) laws window w limit picks (begun starts entry) (steps_of_all traces) 0 r first (omega (arith, short)) came in
      record { end = end_of m modes b.0; left = k.0; count = k.1; invariant = subst (λ n. Invariant m modes (CutLate limit) starts entry traces stops (end_of m modes b.0) r k.0 n) (omega arith) k.2 }

  pub is_whole : IsWholeWhere P O V Sound
  is_whole m laws modes window w limit starts entry traces stops ready alone fits picks short r came none_left =
      let k : Reached m modes limit starts entry traces stops picks r = reached m laws modes window w limit starts entry traces stops ready alone fits picks short r came in
      let t : InTurn m starts entry traces r.store × (k.left ≡ 0) × (stops ≡ all_at_end traces) = turned m modes (CutLate limit) starts entry traces stops k.end r k.left (length picks) k.invariant none_left in
      (t.0, omega (arith, k.count, t.1), t.2)

  pub do_prefixes : DoPrefixesWhere P O V Sound
  do_prefixes m laws modes window w limit starts entry traces stops ready alone fits picks short r came =
      let k : Reached m modes limit starts entry traces stops picks r = reached m laws modes window w limit starts entry traces stops ready alone fits picks short r came in
      let e : 0 + r.committed ≡ r.committed = omega arith in
      subst (λ n. AllDidFirst m modes entry n starts traces r.pending) e (k.invariant.did zero r.pending (all_did_first m modes k.invariant.on_course))
