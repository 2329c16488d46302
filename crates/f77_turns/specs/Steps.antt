-- What an event says of the statement at which its process is, and of the step before it.
use Rattle.std.specs.Prelude.{◌≡◌, ℕ, ℤ, Bool, List, ◌∷◌, Option, Some}
use Rattle.hyb_base.specs.declared.ops.RedOp.{RedOp}
use Rattle.f77_ast.specs.declared.program.Listed.{Listed}
use Rattle.f77_ast.specs.declared.program.Program.{Program}
use Rattle.f77_ast.specs.declared.step.Control.{Control}
use Rattle.f77_ast.specs.declared.stmt.Item.{Item}
use Rattle.f77_ast.specs.declared.stmt.Stmt.{Read}
use Rattle.f77_meaning.specs.Event.{prints, takes, writes}
use Rattle.f77_meaning.specs.Process.{Frame, Process, listed_of}
use Rattle.f77_meaning.specs.Step.{event, once_done}
use Rattle.f77_turns.specs.Kept.{IsAtPrint, statement_at_stage}

-- the last frame of a process is at a READ, which a logical IF may hold
pub record IsAtRead (program : Program) (p : Process) : Type 0 where
  pub frame : Frame
  pub below : List Frame
  pub frames : p.frames ≡ frame ∷ below
  pub listed : Listed
  pub here : listed_of program frame ≡ Some listed
  pub items : List Item
  pub is_read : statement_at_stage frame.stage listed.stmt ≡ Some (Read items)

-- a process prints a line only at a PRINT, and takes a number of the input only at a READ (today at none: READ has no meaning yet)
pub record PrintsAndTakesThere (program : Program) (p : Process) : Type 0 where
  pub prints : (text : List ℕ) → event program p ≡ prints text → IsAtPrint program p
  pub takes : (address : ℕ) (blocked : Bool) → event program p ≡ takes address blocked → IsAtRead program p

-- each process of each program does so
abbrev pub LinesAndNumbersAreOfStatements : Type 0
LinesAndNumbersAreOfStatements = (program : Program) (p : Process) → PrintsAndTakesThere program p

-- the event after a write, a number taken, a move or a printed line is no write of an accumulation. After any other event `once_done` leaves
-- the process at that event, which is no such write either
abbrev pub MarkedWritesFollowReads : Type 0
MarkedWritesFollowReads = (program : Program) (p : Process) (address : ℕ) (value : ℤ) (op : RedOp) (control : Option Control) → event program (once_done program p) ≡ writes address value (Some op) control → ⊥
