-- Cells of one's own: each process has its value of them, as each iteration has of its loop's variable.
use Rattle.std.specs.Prelude.{ℕ, ◌≤◌, ◌≡◌, ◌==◌, Bool, List, [], ◌∷◌, length, Option, None, Some, if◌then◌else◌, is_some}
use Rattle.interleaving.specs.Machine.{Event, reads, writes, moves, ends, faults, Machine, Store, put}
use Rattle.interleaving.specs.Traces.{Access, Read, Write, Move, Stop, AtEnd, Cut, Runs}

-- a process, and its values of the cells that are its own
pub record Owner (P V : Type 0) : Type 0 where
  pub process : P
  pub value : ℕ → Option V

-- the event of an owner: a read or a write of a cell of its own is a move to all others
abbrev pub event_outside : {O V : Type 0} → Event O V → (value : ℕ → Option V) → Event O V
event_outside (reads a by) value = if is_some (value a) then moves else reads a by
event_outside (writes a v by) value = if is_some (value a) then moves else writes a v by
event_outside moves value = moves
event_outside ends value = ends
event_outside faults value = faults

-- an owner after a read of a cell of its own, which is a move to all others: the answer is its value of that cell
abbrev pub owner_resumed : {P O V : Type 0} → Machine P O V → Owner P V → (own : Option V) → Owner P V
owner_resumed m q None = record q { process = m.done q.process }
owner_resumed m q (Some x) = record q { process = m.resumed q.process x }

-- an owner after a write or a move, by the event of its process: a write of a cell of its own sets its value of that cell
abbrev pub owner_done : {P O V : Type 0} → Machine P O V → Owner P V → Event O V → Owner P V
owner_done m q (reads a by) = owner_resumed m q (q.value a)
owner_done m q (writes a v by) = record { process = m.done q.process; value = if is_some (q.value a) then (λ b. if a == b then Some v else q.value b) else q.value }
owner_done m q _ = record q { process = m.done q.process }

-- the machine of owners
abbrev pub with_own : {P O V : Type 0} → Machine P O V → Machine (Owner P V) O V
with_own m = record {
  event = λ q. event_outside (m.event q.process) q.value;
  resumed = λ q x. record q { process = m.resumed q.process x };
  done = λ q. owner_done m q (m.event q.process);
  apply = m.apply;
  identity = m.identity;
}

-- the trace of an owner: an access to a cell of its own is a move
abbrev pub hidden : {O : Type 0} → (own : ℕ → Bool) → List (Access O) → List (Access O)
hidden own [] = []
hidden own (Read a by ∷ trace) = (if own a then Move else Read a by) ∷ hidden own trace
hidden own (Write a by ∷ trace) = (if own a then Move else Write a by) ∷ hidden own trace
hidden own (Move ∷ trace) = Move ∷ hidden own trace

abbrev pub all_hidden : {O : Type 0} → (own : ℕ → Bool) → List (List (Access O)) → List (List (Access O))
all_hidden own [] = []
all_hidden own (trace ∷ traces) = hidden own trace ∷ all_hidden own traces

-- an iteration of a loop before its first step: its process, and its value of the loop's variable
pub record Start (P V : Type 0) : Type 0 where
  pub process : P
  pub value : V

-- the processes alone
abbrev pub processes_of : {P V : Type 0} → List (Start P V) → List P
processes_of [] = []
processes_of (start ∷ starts) = start.process ∷ processes_of starts

-- an iteration that has the loop's variable, the cell at this address, as a cell of its own
abbrev pub owner_of : {P V : Type 0} → (variable : ℕ) → Start P V → Owner P V
owner_of variable start = record { process = start.process; value = λ a. if variable == a then Some start.value else None }

abbrev pub owners_of : {P V : Type 0} → (variable : ℕ) → List (Start P V) → List (Owner P V)
owners_of variable [] = []
owners_of variable (start ∷ starts) = owner_of variable start ∷ owners_of variable starts

-- iterations of a loop run in turn from a store, where the loop's control sets its variable before each
abbrev pub LoopInTurn : {P O V : Type 0} → Machine P O V → (variable : ℕ) → List (Start P V) → Store V → List (List (Access O)) → Store V → Type 0
LoopInTurn m variable [] s [] t = s ≡ t
LoopInTurn {V = V} m variable (start ∷ starts) s (trace ∷ traces) t = (next : Store V) × Runs m start.process (put s variable start.value) trace AtEnd next × LoopInTurn m variable starts next traces t
LoopInTurn m variable _ s _ t = ⊥

-- iterations of a loop run each alone from one store, in which its variable is set for each: each has its trace and stops so, and where it is
-- cut it has taken `limit` steps at least
abbrev pub LoopAlone : {P O V : Type 0} → Machine P O V → (limit variable : ℕ) → List (Start P V) → Store V → List (List (Access O)) → List Stop → Type 0
LoopAlone m limit variable [] s [] [] = Unit {0}
LoopAlone {V = V} m limit variable (start ∷ starts) s (trace ∷ traces) (stop ∷ stops) = (t : Store V) × Runs m start.process (put s variable start.value) trace stop t × (stop ≡ Cut → limit ≤ length trace) × LoopAlone m limit variable starts s traces stops
LoopAlone m limit variable _ s _ _ = ⊥
