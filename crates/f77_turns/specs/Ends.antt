-- Where a run ends (ANSI X3.9-1978, section 11.14).
use Rattle.std.specs.Prelude.{◌≡◌, List, ◌∷◌, Some}
use Rattle.f77_ast.specs.declared.program.Listed.{Listed}
use Rattle.f77_ast.specs.declared.program.Program.{Program}
use Rattle.f77_ast.specs.declared.stmt.Stmt.{Stmt, End}
use Rattle.f77_meaning.specs.Event.{ends}
use Rattle.f77_meaning.specs.Process.{Frame, Process, at_statement, listed_of}
use Rattle.f77_meaning.specs.Sound.{IsOf, IsSound}
use Rattle.f77_meaning.specs.Step.{event}

-- a statement that ends the run: END of a unit
pub data EndsTheRun (s : Stmt) : Type 0 where
  by_end : s ≡ End → EndsTheRun s

-- the last frame of a process is at such a statement
pub record EndsAt (program : Program) (p : Process) : Type 0 where
  pub frame : Frame
  pub below : List Frame
  pub frames : p.frames ≡ frame ∷ below
  pub stage : frame.stage ≡ at_statement
  pub listed : Listed
  pub here : listed_of program frame ≡ Some listed
  pub ends_run : EndsTheRun listed.stmt

-- a process of a program ends the run only there
abbrev pub RunsEndAtEnd : Type 0
RunsEndAtEnd = (program : Program) (p : Process) → IsSound program → IsOf program p → event program p ≡ ends → EndsAt program p
