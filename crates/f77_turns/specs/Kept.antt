-- What a step keeps.
use Rattle.std.specs.Prelude.{◌≡◌, ◌⊎◌, ℤ, List, ◌∷◌, map, Option, None, Some}
use Rattle.f77_ast.specs.declared.program.Listed.{Listed}
use Rattle.f77_ast.specs.declared.program.Program.{Program}
use Rattle.f77_ast.specs.declared.stmt.Item.{Item}
use Rattle.f77_ast.specs.declared.stmt.Stmt.{Stmt, Print}
use Rattle.f77_structure.specs.Statements.{inner_of}
use Rattle.f77_meaning.specs.Demand.{Setting, setting_of}
use Rattle.f77_meaning.specs.Process.{Frame, Process, Stage, at_statement, at_inner, at_entry, at_increment, listed_of}
use Rattle.f77_meaning.specs.Step.{once_done, resumed}

-- the statement whose steps a stage takes, of the one at which its frame is: itself, or the one that it holds as a logical IF; none
-- at the entry of a unit and in an incrementation processing
abbrev pub statement_at_stage : Stage → Stmt → Option Stmt
statement_at_stage at_statement s = Some s
statement_at_stage at_inner s = Some (inner_of s)
statement_at_stage at_entry s = None
statement_at_stage at_increment s = None

-- the last frame of a process is at a PRINT, which a logical IF may hold
pub record IsAtPrint (program : Program) (p : Process) : Type 0 where
  pub frame : Frame
  pub below : List Frame
  pub frames : p.frames ≡ frame ∷ below
  pub listed : Listed
  pub here : listed_of program frame ≡ Some listed
  pub items : List Item
  pub is_print : statement_at_stage frame.stage listed.stmt ≡ Some (Print items)

-- a step of a process keeps its line, whatever the answer to a read
pub record KeepsLine (program : Program) (p : Process) : Type 0 where
  pub resumed : (answer : ℤ) → (resumed program p answer).line ≡ p.line
  pub done : (once_done program p).line ≡ p.line

-- a step changes the line only where the last frame is at a PRINT
abbrev pub OnlyPrintsChangeLines : Type 0
OnlyPrintsChangeLines = (program : Program) (p : Process) → KeepsLine program p ⊎ IsAtPrint program p

-- the unit, the bindings and the bounds of each frame of a process
abbrev pub settings_of : Program → Process → List Setting
settings_of program p = map (setting_of program) p.frames

-- a step of a process keeps them, whatever the answer to a read
pub record KeepsSettings (program : Program) (p : Process) : Type 0 where
  pub resumed : (answer : ℤ) → settings_of program (resumed program p answer) ≡ settings_of program p
  pub done : settings_of program (once_done program p) ≡ settings_of program p

-- a step changes unit, bindings and bounds of no frame: entering a unit is no step yet
abbrev pub StepsKeepSettings : Type 0
StepsKeepSettings = (program : Program) (p : Process) → KeepsSettings program p
