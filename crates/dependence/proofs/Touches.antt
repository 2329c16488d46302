-- What a trace touches: what it writes or exposes.
use Rattle.std.proofs.Common.{ℕ, ◌≡◌, ◌==◌, ◌⊎◌, inl, inr, true, false, [], ◌∷◌, if◌then◌else◌, refl, sym, ap, true≢false}
use Rattle.interleaving.specs.Traces.{Read, Write, Move, is_written, is_exposed}
use Rattle.hyb_base.specs.declared.ops.RedOp.{RedOp}
use Rattle.dependence.specs.Executions.{Trace, is_touched, without_moves}
use Rattle.dependence.specs.Laws.{MovesCountNot}
use Rattle.dependence.specs.Regions.{Interval, OnlyBy}

pub used : (trace : Trace) (a : ℕ) → is_touched trace a ≡ true → (is_written trace a ≡ true) ⊎ (is_exposed trace a ≡ true)
used [] a h = absurd (true≢false (sym h))
used (Read b by ∷ trace) a h = (elim (b == a) as (λ w. (if w then true else is_touched trace a) ≡ true → (is_written trace a ≡ true) ⊎ ((if w then true else is_exposed trace a) ≡ true)) [ true ↦ λ e. inr refl | false ↦ λ e. used trace a e ]) h
used (Write b by ∷ trace) a h = (elim (b == a) as (λ w. (if w then true else is_touched trace a) ≡ true → ((if w then true else is_written trace a) ≡ true) ⊎ ((if w then false else is_exposed trace a) ≡ true)) [ true ↦ λ e. inl refl | false ↦ λ e. used trace a e ]) h
used (Move ∷ trace) a h = used trace a h

pub written_touched : (trace : Trace) (a : ℕ) → is_written trace a ≡ true → is_touched trace a ≡ true
written_touched [] a h = h
written_touched (Read b by ∷ trace) a h = (elim (b == a) as (λ w. (if w then true else is_touched trace a) ≡ true) [ true ↦ refl | false ↦ written_touched trace a h ])
written_touched (Write b by ∷ trace) a h = (elim (b == a) as (λ w. (if w then true else is_written trace a) ≡ true → (if w then true else is_touched trace a) ≡ true) [ true ↦ λ e. refl | false ↦ λ e. written_touched trace a e ]) h
written_touched (Move ∷ trace) a h = written_touched trace a h

pub exposed_touched : (trace : Trace) (a : ℕ) → is_exposed trace a ≡ true → is_touched trace a ≡ true
exposed_touched [] a h = h
exposed_touched (Read b by ∷ trace) a h = (elim (b == a) as (λ w. (if w then true else is_exposed trace a) ≡ true → (if w then true else is_touched trace a) ≡ true) [ true ↦ λ e. refl | false ↦ λ e. exposed_touched trace a e ]) h
exposed_touched (Write b by ∷ trace) a h = (elim (b == a) as (λ w. (if w then false else is_exposed trace a) ≡ true → (if w then true else is_touched trace a) ≡ true) [ true ↦ λ e. refl | false ↦ λ e. exposed_touched trace a e ]) h
exposed_touched (Move ∷ trace) a h = exposed_touched trace a h

touched : (trace : Trace) (a : ℕ) → is_touched (without_moves trace) a ≡ is_touched trace a
touched [] a = refl
touched (Read b by ∷ trace) a = ap (λ r. if b == a then true else r) (touched trace a)
touched (Write b by ∷ trace) a = ap (λ r. if b == a then true else r) (touched trace a)
touched (Move ∷ trace) a = touched trace a

written : (trace : Trace) (a : ℕ) → is_written (without_moves trace) a ≡ is_written trace a
written [] a = refl
written (Read b by ∷ trace) a = written trace a
written (Write b by ∷ trace) a = ap (λ r. if b == a then true else r) (written trace a)
written (Move ∷ trace) a = written trace a

exposed : (trace : Trace) (a : ℕ) → is_exposed (without_moves trace) a ≡ is_exposed trace a
exposed [] a = refl
exposed (Read b by ∷ trace) a = ap (λ r. if b == a then true else r) (exposed trace a)
exposed (Write b by ∷ trace) a = ap (λ r. if b == a then false else r) (exposed trace a)
exposed (Move ∷ trace) a = exposed trace a

only : (op : RedOp) (region : Interval) (trace : Trace) → OnlyBy op region (without_moves trace) → OnlyBy op region trace
only op region [] h = tt
only op region (Read b by ∷ trace) h = (h.0, only op region trace h.1)
only op region (Write b by ∷ trace) h = (h.0, only op region trace h.1)
only op region (Move ∷ trace) h = only op region trace h

only_back : (op : RedOp) (region : Interval) (trace : Trace) → OnlyBy op region trace → OnlyBy op region (without_moves trace)
only_back op region [] h = tt
only_back op region (Read b by ∷ trace) h = (h.0, only_back op region trace h.1)
only_back op region (Write b by ∷ trace) h = (h.0, only_back op region trace h.1)
only_back op region (Move ∷ trace) h = only_back op region trace h

pub moves_count_not : MovesCountNot
moves_count_not = record {
  touched = touched;
  written = written;
  exposed = exposed;
  only = λ op region trace. (only op region trace, only_back op region trace);
}
