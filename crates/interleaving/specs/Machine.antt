-- An abstract machine: processes that read and write a store, one cell a step.
use Rattle.std.specs.Prelude.{ℕ, ◌≡◌, ◌⊎◌, ◌==◌, List, [], ◌∷◌, Option, None, Some, if◌then◌else◌}

-- what a process does next: it reads a cell, writes a value to one, moves, comes to the end of its iteration, or meets a fault. A read and
-- a write of an accumulation carry its operator, and those of anything else carry none
pub data Event (O V : Type 0) : Type 0 where
  reads : (address : ℕ) (by : Option O) → Event O V
  writes : (address : ℕ) (value : V) (by : Option O) → Event O V
  moves : Event O V
  ends : Event O V
  faults : Event O V

-- a machine: the next event of a process, a function of the process alone; the process after a read that got an answer, and after a write
-- or a move; what an operator gives of two values, and its identity
pub record Machine (P O V : Type 0) : Type 0 where
  pub event : P → Event O V
  pub resumed : P → V → P
  pub done : P → P
  pub apply : O → V → V → V
  pub identity : O → V

-- a store: the value of the cell at each address
abbrev pub Store : Type 0 → Type 0
Store V = ℕ → V

-- a store after a write
abbrev pub put : {V : Type 0} → Store V → ℕ → V → Store V
put s a v = λ b. if a == b then v else s b

-- a process about to read a cell for an accumulation: whatever the answer, it then writes the answer combined with one value, `added`, and
-- goes on as one process, `after`. So what it accumulates reaches no decision and no address. Combined with the identity, `added` counts
-- as it does by itself
pub record Accumulates {P O V : Type 0} (m : Machine P O V) (p : P) (a : ℕ) (op : O) : Type 0 where
  pub added : V
  pub after : P
  pub combines : (x : V) → m.event (m.resumed p x) ≡ writes a (m.apply op x added) (Some op)
  pub goes_on : (x : V) → m.done (m.resumed p x) ≡ after
  pub begins : (x : V) → m.apply op x (m.apply op (m.identity op) added) ≡ m.apply op x added

-- a process that isn't between the read and the write of an accumulation
abbrev pub IsReady : {P O V : Type 0} → Machine P O V → P → Type 0
IsReady {O} {V} m p = (a : ℕ) (v : V) (op : O) → m.event p ≡ writes a v (Some op) → ⊥

-- what is asked of a machine, at its sound processes. They go on to sound ones. The read of an accumulation is followed by its write, or by
-- a fault whatever the answer; its write comes only after its read. Operators are associative
pub record IsMachine {P O V : Type 0} (m : Machine P O V) (Sound : P → Type 0) : Type 0 where
  pub sound_resumed : (p : P) (a : ℕ) (by : Option O) (x : V) → Sound p → m.event p ≡ reads a by → Sound (m.resumed p x)
  pub sound_written : (p : P) (a : ℕ) (v : V) (by : Option O) → Sound p → m.event p ≡ writes a v by → Sound (m.done p)
  pub sound_moved : (p : P) → Sound p → m.event p ≡ moves → Sound (m.done p)
  pub accumulates : (p : P) (a : ℕ) (op : O) → Sound p → m.event p ≡ reads a (Some op) → Accumulates m p a op ⊎ ((x : V) → m.event (m.resumed p x) ≡ faults)
  pub ready_resumed : (p : P) (a : ℕ) (x : V) → Sound p → m.event p ≡ reads a None → IsReady m (m.resumed p x)
  pub ready_written : (p : P) (a : ℕ) (v : V) (by : Option O) → Sound p → m.event p ≡ writes a v by → IsReady m (m.done p)
  pub ready_moved : (p : P) → Sound p → m.event p ≡ moves → IsReady m (m.done p)
  pub associates : (op : O) (x y z : V) → m.apply op (m.apply op x y) z ≡ m.apply op x (m.apply op y z)

-- processes at which iterations may begin: sound and ready
abbrev pub AreReady : {P O V : Type 0} → Machine P O V → (Sound : P → Type 0) → List P → Type 0
AreReady m Sound [] = Unit {0}
AreReady m Sound (p ∷ starts) = Sound p × IsReady m p × AreReady m Sound starts
