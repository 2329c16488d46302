-- What a process does next (ANSI X3.9-1978, sections 10 to 12 and 15).
use Rattle.std.specs.Prelude.{ℕ, ℤ, Bool, List, Option}
use Rattle.hyb_base.specs.declared.ops.RedOp.{RedOp}
use Rattle.f77_ast.specs.declared.fault.Fault.{Fault}
use Rattle.f77_ast.specs.declared.step.Control.{Control}

-- one step: an address is read or written, control moves, a line is printed, or the run stops. The last read of an
-- accumulation and its write have the accumulation's operator; the write of a DO-variable by its DO has what it means to that
-- DO. READ takes the next number of the input and writes it to an address, which is blocked where it is the variable of a
-- running DO or implied DO: which number that is, or which fault, the run brings in
pub data Event : Type 0 where
  reads : (address : ℕ) (by : Option RedOp) → Event
  writes : (address : ℕ) (value : ℤ) (by : Option RedOp) (control : Option Control) → Event
  takes : (address : ℕ) (blocked : Bool) → Event
  moves : Event
  prints : (text : List ℕ) → Event
  ends : Event
  faults : (fault : Fault) → Event
