-- Runs of processes over a store, their traces, and iterations in turn and alone.
use Rattle.std.specs.Prelude.{ℕ, suc, ◌+◌, ◌≤◌, ◌≡◌, ◌==◌, Bool, true, false, List, [], ◌∷◌, length, Option, if◌then◌else◌}
use Rattle.interleaving.specs.Machine.{reads, writes, moves, ends, faults, Machine, Store, put}

-- a step as a trace has it. An access is an accumulation where it carries an operator, and else plain
pub data Access (O : Type 0) : Type 0 where
  Read : (address : ℕ) (by : Option O) → Access O
  Write : (address : ℕ) (by : Option O) → Access O
  Move : Access O

-- how a run stops: at the end of its iteration, at a fault, or cut after any of its steps
pub data Stop : Type 0 where
  AtEnd : Stop
  AtFault : Stop
  Cut : Stop

-- a run: a process over a store has this trace, stops so, and leaves that store
pub data Runs {P O V : Type 0} (m : Machine P O V) : P → Store V → List (Access O) → Stop → Store V → Type 0 where
  ended : {p : P} {s : Store V} → m.event p ≡ ends → Runs m p s [] AtEnd s
  faulted : {p : P} {s : Store V} → m.event p ≡ faults → Runs m p s [] AtFault s
  cut : {p : P} {s : Store V} → Runs m p s [] Cut s
  read_then : {p : P} {s t : Store V} {trace : List (Access O)} {stop : Stop} (a : ℕ) (by : Option O) → m.event p ≡ reads a by → Runs m (m.resumed p (s a)) s trace stop t → Runs m p s (Read a by ∷ trace) stop t
  write_then : {p : P} {s t : Store V} {trace : List (Access O)} {stop : Stop} (a : ℕ) (v : V) (by : Option O) → m.event p ≡ writes a v by → Runs m (m.done p) (put s a v) trace stop t → Runs m p s (Write a by ∷ trace) stop t
  move_then : {p : P} {s t : Store V} {trace : List (Access O)} {stop : Stop} → m.event p ≡ moves → Runs m (m.done p) s trace stop t → Runs m p s (Move ∷ trace) stop t

-- iterations that begin with these processes run in turn from a store: each from the store that the one before leaves, to its end, with its
-- trace. The last leaves that store
abbrev pub InTurn : {P O V : Type 0} → Machine P O V → List P → Store V → List (List (Access O)) → Store V → Type 0
InTurn m [] s [] t = s ≡ t
InTurn {V = V} m (p ∷ starts) s (trace ∷ traces) t = (next : Store V) × Runs m p s trace AtEnd next × InTurn m starts next traces t
InTurn m _ s _ t = ⊥

-- iterations run each alone from one store: each has its trace and stops so, and where it is cut it has taken `limit` steps at least
abbrev pub Alone : {P O V : Type 0} → Machine P O V → (limit : ℕ) → List P → Store V → List (List (Access O)) → List Stop → Type 0
Alone m limit [] s [] [] = Unit {0}
Alone {V = V} m limit (p ∷ starts) s (trace ∷ traces) (stop ∷ stops) = (t : Store V) × Runs m p s trace stop t × (stop ≡ Cut → limit ≤ length trace) × Alone m limit starts s traces stops
Alone m limit _ s _ _ = ⊥

-- all of them run to their ends
abbrev pub all_at_end : {O : Type 0} → List (List (Access O)) → List Stop
all_at_end [] = []
all_at_end (trace ∷ traces) = AtEnd ∷ all_at_end traces

-- whether the read of a cell is exposed: the first access to it is a read
abbrev pub is_exposed : {O : Type 0} → List (Access O) → ℕ → Bool
is_exposed [] a = false
is_exposed (Read b by ∷ trace) a = if b == a then true else is_exposed trace a
is_exposed (Write b by ∷ trace) a = if b == a then false else is_exposed trace a
is_exposed (Move ∷ trace) a = is_exposed trace a

-- whether a cell is written
abbrev pub is_written : {O : Type 0} → List (Access O) → ℕ → Bool
is_written [] a = false
is_written (Read b by ∷ trace) a = is_written trace a
is_written (Write b by ∷ trace) a = if b == a then true else is_written trace a
is_written (Move ∷ trace) a = is_written trace a

-- the number of steps of an iteration with this trace: the step that ends it is one too
abbrev pub steps_of : {O : Type 0} → List (Access O) → ℕ
steps_of [] = 1
steps_of (_ ∷ trace) = suc (steps_of trace)

abbrev pub steps_of_all : {O : Type 0} → List (List (Access O)) → ℕ
steps_of_all [] = 0
steps_of_all (trace ∷ traces) = steps_of trace + steps_of_all traces
