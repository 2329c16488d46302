-- The traces of an execution of a loop.
use Rattle.std.specs.Prelude.{ℕ, zero, suc, ◌==◌, Bool, true, false, List, [], ◌∷◌, if◌then◌else◌}
use Rattle.hyb_base.specs.declared.ops.RedOp.{RedOp}
use Rattle.interleaving.specs.Traces.{Access, Read, Write, Move}

-- the trace of an iteration: its accesses, in order
abbrev pub Trace : Type 0
Trace = List (Access RedOp)

-- the trace of iteration k, counted from 1; where there is no such iteration, a trace without accesses
abbrev pub trace_of : List Trace → (k : ℕ) → Trace
trace_of [] k = []
trace_of (trace ∷ traces) zero = []
trace_of (trace ∷ traces) (suc zero) = trace
trace_of (trace ∷ traces) (suc (suc k)) = trace_of traces (suc k)

-- whether an iteration accesses an address
abbrev pub is_touched : Trace → ℕ → Bool
is_touched [] a = false
is_touched (Read b by ∷ trace) a = if b == a then true else is_touched trace a
is_touched (Write b by ∷ trace) a = if b == a then true else is_touched trace a
is_touched (Move ∷ trace) a = is_touched trace a

-- a trace without its moves
abbrev pub without_moves : Trace → Trace
without_moves [] = []
without_moves (Read b by ∷ trace) = Read b by ∷ without_moves trace
without_moves (Write b by ∷ trace) = Write b by ∷ without_moves trace
without_moves (Move ∷ trace) = without_moves trace
