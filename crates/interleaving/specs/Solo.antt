-- The run of a process alone, for a number of steps at most.
use Rattle.std.specs.Prelude.{ℕ, zero, suc, ◌≡◌, List, [], ◌∷◌}
use Rattle.interleaving.specs.Machine.{Event, reads, writes, moves, ends, faults, Machine, Store, put}
use Rattle.interleaving.specs.OwnCells.{Start, LoopAlone}
use Rattle.interleaving.specs.Traces.{Access, Read, Write, Move, Stop, AtEnd, AtFault, Cut, Runs}

-- the trace of a run, how it stops, and the store that it leaves
pub record Solo (O V : Type 0) : Type 0 where
  pub trace : List (Access O)
  pub stop : Stop
  pub store : Store V

-- a run with a step before it
abbrev pub after_step : {O V : Type 0} → Access O → Solo O V → Solo O V
after_step access run = record { trace = access ∷ run.trace; stop = run.stop; store = run.store }

-- the run of an event, and of what comes after it
abbrev pub solo_by : {P O V : Type 0} → Machine P O V → Event O V → P → Store V → (P → Store V → Solo O V) → Solo O V
solo_by m (reads a by) p s go = after_step (Read a by) (go (m.resumed p (s a)) s)
solo_by m (writes a v by) p s go = after_step (Write a by) (go (m.done p) (put s a v))
solo_by m moves p s go = after_step Move (go (m.done p) s)
solo_by m ends p s go = record { trace = []; stop = AtEnd; store = s }
solo_by m faults p s go = record { trace = []; stop = AtFault; store = s }

-- the run of a process over a store, cut after `limit` steps
abbrev pub solo : {P O V : Type 0} → Machine P O V → (limit : ℕ) → P → Store V → Solo O V
solo m zero p s = record { trace = []; stop = Cut; store = s }
solo m (suc limit) p s = solo_by m (m.event p) p s (λ q t. solo m limit q t)

-- the runs of a loop's iterations, each alone from the entry, where the loop's variable is set for it
abbrev pub solos : {P O V : Type 0} → Machine P O V → (limit variable : ℕ) → List (Start P V) → Store V → List (Solo O V)
solos m limit variable [] s = []
solos m limit variable (start ∷ starts) s = solo m limit start.process (put s variable start.value) ∷ solos m limit variable starts s

abbrev pub traces_of : {O V : Type 0} → List (Solo O V) → List (List (Access O))
traces_of [] = []
traces_of (run ∷ runs) = run.trace ∷ traces_of runs

abbrev pub stops_of : {O V : Type 0} → List (Solo O V) → List Stop
stops_of [] = []
stops_of (run ∷ runs) = run.stop ∷ stops_of runs

-- solo: the run of a number of steps is a run; those of a loop's iterations are the runs alone that the laws ask for; and two runs of one process
-- over one store that have one trace leave one store
pub record AreRuns (P O V : Type 0) : Type 0 where
  pub is_run : (m : Machine P O V) (limit : ℕ) (p : P) (s : Store V) → Runs m p s (solo m limit p s).trace (solo m limit p s).stop (solo m limit p s).store
  pub are_alone : (m : Machine P O V) (limit variable : ℕ) (starts : List (Start P V)) (s : Store V) → LoopAlone m limit variable starts s (traces_of (solos m limit variable starts s)) (stops_of (solos m limit variable starts s))
  pub one_store : (m : Machine P O V) (p : P) (s t u : Store V) (trace : List (Access O)) (stop other : Stop) → Runs m p s trace stop t → Runs m p s trace other u → t ≡ u
