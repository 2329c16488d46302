-- What a process stands for.
use Rattle.std.specs.Prelude.{◌≡◌, ℕ, ℤ, ◌<◌, ◌≤◌, List, [], ◌∷◌, length, Some}
use Rattle.f77_ast.specs.declared.program.Program.{Program}
use Rattle.f77_ast.specs.declared.step.Stepped.{Stepped}
use Rattle.f77_ast.specs.declared.stmt.Stmt.{Stmt}
use Rattle.f77_structure.specs.Statements.{terminal_label}
use Rattle.f77_structure.specs.Units.{source_line}
use Rattle.f77_meaning.specs.Process.{Frame, at_statement, at_increment, listed_of}
use Rattle.f77_meaning.specs.Process as meaning
use Rattle.f77_meaning.specs.Sound.{IsOf}
use Rattle.f77_meaning.specs.Step.{Move}
use Rattle.f77_meaning.specs.StepOutcome.{StepOutcome, on_input, input_after, outcome_by, outcome_from, line_left}
use Rattle.f77_machine.specs.Active.{actives_of}
use Rattle.f77_machine.specs.Reads.{HasRoom}
use Rattle.f77_machine.specs.declared.process.Process.{Process}
use Rattle.f77_machine.specs.declared.process.Stage.{Stage}
use Rattle.f77_machine.specs.declared.process.Stage.TheVariants.{Statement, Increment}

abbrev pub stage_of : Stage → meaning.Stage
stage_of Statement = at_statement
stage_of Increment = at_increment

-- the one frame of a process: no unit has dummies yet, and no implied DO runs
abbrev pub frame_of : Process → Frame
frame_of p = record {
  unit = p.unit;
  at = p.at;
  stage = stage_of p.stage;
  bindings = [];
  bounds = [];
  active = actives_of p.active.items;
  implied = [];
  items = p.items;
  cells = p.cells;
  answers = p.answers.items;
}

-- a process, where this is the text of the line
abbrev pub process_of : Process → (text : List ℕ) → meaning.Process
process_of p text = record { frames = frame_of p ∷ []; line = text }

-- a process keeps the initial line of its statement
abbrev pub HasLine : Program → Process → Type 0
HasLine program p = p.line ≡ source_line (listed_of program (frame_of p))

-- there is room for one active loop more where a statement begins one
abbrev pub HasLoopRoom : Stmt → Process → Type 0
HasLoopRoom stmt p = (label : ℕ) → terminal_label stmt ≡ Some label → length p.active.items < p.depth

-- a process of a program, where this is the text of the line: it has room for what any statement reads, and for all loops of
-- the program
pub record IsProcessOf (program : Program) (p : Process) (text : List ℕ) : Type 0 where
  pub stands : IsOf program (process_of p text)
  pub line : HasLine program p
  pub room : HasRoom program p.room
  pub depth : length program.loops ≤ p.depth

-- where a process kept the line of its statement, it keeps that of the statement at which it is now; its room stays
pub record KeepsPlace (program : Program) (old new : Process) : Type 0 where
  pub line : HasLine program old → HasLine program new
  pub room : new.room ≡ old.room
  pub depth : new.depth ≡ old.depth

-- what a step that answered so came to, where this is the process after it, and this the text of the line
abbrev pub outcome_left : Stepped → Process → (store : List ℤ) → (count : ℕ) → (input text : List ℕ) → StepOutcome
outcome_left stepped p store count input text = outcome_from stepped (process_of p (line_left stepped text)) store count input text

-- what a process comes to by what it does next, where this is the text of the line
abbrev pub outcome_of_move : Move → Process → (store : List ℤ) → (count : ℕ) → (input text : List ℕ) → StepOutcome
outcome_of_move move p store count input text = outcome_by (on_input move input) (process_of p text) store count (input_after move input)
