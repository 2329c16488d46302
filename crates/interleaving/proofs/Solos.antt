-- The run of a number of steps is a run.
use Rattle.std.proofs.Common.{ℕ, zero, suc, ◌≡◌, List, [], ◌∷◌, length, refl, ap, arith}
use Rattle.interleaving.specs.Machine.{Event, reads, writes, moves, ends, faults, Machine, Store, put}
use Rattle.interleaving.specs.OwnCells.{Start, LoopAlone}
use Rattle.interleaving.specs.Solo.{Solo, solo, solo_by, solos, traces_of, stops_of, AreRuns}
use Rattle.interleaving.specs.Traces.{Cut, Runs, ended, faulted, cut, read_then, write_then, move_then}
use Rattle.interleaving.proofs.Alone.{runs_same}

module _ {P O V : Type 0} (m : Machine P O V) where
  by_event : (go : P → Store V → Solo O V) → ((q : P) (t : Store V) → Runs m q t (go q t).trace (go q t).stop (go q t).store) → (p : P) (s : Store V) (ev : Event O V) → m.event p ≡ ev → let r : Solo O V = solo_by m ev p s go in Runs m p s r.trace r.stop r.store
  by_event go ih p s (reads a by) e = read_then a by e (ih (m.resumed p (s a)) s)
  by_event go ih p s (writes a v by) e = write_then a v by e (ih (m.done p) (put s a v))
  by_event go ih p s moves e = move_then e (ih (m.done p) s)
  by_event go ih p s ends e = ended e
  by_event go ih p s faults e = faulted e

  solo_runs : (limit : ℕ) (p : P) (s : Store V) → Runs m p s (solo m limit p s).trace (solo m limit p s).stop (solo m limit p s).store
  solo_runs zero p s = cut
  solo_runs (suc limit) p s = by_event (λ q t. solo m limit q t) (λ q t. solo_runs limit q t) p s (m.event p) refl

  -- a run that is cut has taken all of its steps
  cut_length : (limit : ℕ) (p : P) (s : Store V) → (solo m limit p s).stop ≡ Cut → length (solo m limit p s).trace ≡ limit
  cut_length zero p s e = refl
  cut_length (suc limit) p s e = by (m.event p) (λ q t. cut_length limit q t) e
    where
      by : (ev : Event O V) → ((q : P) (t : Store V) → (solo m limit q t).stop ≡ Cut → length (solo m limit q t).trace ≡ limit) → (solo_by m ev p s (λ q t. solo m limit q t)).stop ≡ Cut → length (solo_by m ev p s (λ q t. solo m limit q t)).trace ≡ suc limit
      by (reads a op) rest h = ap suc (rest (m.resumed p (s a)) s h)
      by (writes a v op) rest h = ap suc (rest (m.done p) (put s a v) h)
      by moves rest h = ap suc (rest (m.done p) s h)
      by ends rest h = absurd (cc)
      by faults rest h = absurd (cc)

  solos_alone : (limit variable : ℕ) (starts : List (Start P V)) (s : Store V) → LoopAlone m limit variable starts s (traces_of (solos m limit variable starts s)) (stops_of (solos m limit variable starts s))
  solos_alone limit variable [] s = tt
  solos_alone limit variable (start ∷ starts) s =
      let r : Solo O V = solo m limit start.process (put s variable start.value) in
      (r.store, solo_runs limit start.process (put s variable start.value), (λ e. let long : length r.trace ≡ limit = cut_length limit start.process (put s variable start.value) e in omega (arith, long)), solos_alone limit variable starts s)

pub are_runs : (P O V : Type 0) → AreRuns P O V
are_runs P O V = record {
  is_run = λ m limit p s. solo_runs m limit p s;
  are_alone = λ m limit variable starts s. solos_alone m limit variable starts s;
  one_store = λ m p s t u trace stop other h k. runs_same m h k;
}
