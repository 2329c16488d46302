-- Where a process is, and what it does next there.
use Rattle.std.proofs.Common.{◌≡◌, List, [], ◌∷◌, Option, None, Some, refl, ap, ◌∙◌}
use Rattle.f77_ast.specs.declared.program.Listed.{Listed}
use Rattle.f77_ast.specs.declared.program.Program.{Program}
use Rattle.f77_meaning.specs.Process.{ActiveLoop, Frame, Process, Stage, at_statement, at_inner, at_entry, at_increment, listed_of}
use Rattle.f77_meaning.specs.Step.{ending, frames_move, increment_move, listed_move, move_of, stage_move, statement_move}
use Rattle.f77_turns.specs.Turns.{Turn}

-- a process whose last frame is at a statement
pub record Stating (program : Program) (p : Process) : Type 0 where
  pub frame : Frame
  pub below : List Frame
  pub listed : Listed
  pub frames : p.frames ≡ frame ∷ below
  pub stage : frame.stage ≡ at_statement
  pub here : listed_of program frame ≡ Some listed

-- a process has nothing to do, is at a statement, or increments
pub data Position (program : Program) (p : Process) : Type 0 where
  nowhere : move_of program p ≡ ending → Position program p
  stating : (s : Stating program p) → move_of program p ≡ statement_move program s.frame s.below p.line s.listed.stmt → Position program p
  turning : (t : Turn p) → move_of program p ≡ increment_move program t.frame t.below p.line (t.loop ∷ t.outer) → Position program p

module _ (program : Program) (p : Process) (frame : Frame) (below : List Frame) (frames : p.frames ≡ frame ∷ below) where
  -- the last frame's move, at a stage
  pub move_at : (stage : Stage) → frame.stage ≡ stage → move_of program p ≡ stage_move program frame below p.line stage
  move_at stage e = ap (λ fs. frames_move program fs p.line) frames ∙ ap (stage_move program frame below p.line) e

  -- the move of a statement, and that of an increment
  pub move_of_statement : (listed : Listed) → frame.stage ≡ at_statement → listed_of program frame ≡ Some listed → move_of program p ≡ statement_move program frame below p.line listed.stmt
  move_of_statement listed e here = move_at at_statement e ∙ ap (listed_move program frame below p.line) here

  pub move_of_turn : (active : List ActiveLoop) → frame.stage ≡ at_increment → frame.active ≡ active → move_of program p ≡ increment_move program frame below p.line active
  move_of_turn active e is = move_at at_increment e ∙ ap (increment_move program frame below p.line) is

  listed_position : (found : Option Listed) → frame.stage ≡ at_statement → listed_of program frame ≡ found → Position program p
  listed_position None e here = nowhere (move_at at_statement e ∙ ap (listed_move program frame below p.line) here)
  listed_position (Some listed) e here =
      stating (record { frame = frame; below = below; listed = listed; frames = frames; stage = e; here = here }) (move_of_statement listed e here)

  turn_position : (active : List ActiveLoop) → frame.stage ≡ at_increment → frame.active ≡ active → Position program p
  turn_position [] e is = nowhere (move_of_turn [] e is)
  turn_position (loop ∷ outer) e is =
      turning (record { frame = frame; below = below; loop = loop; outer = outer; frames = frames; stage = e; active = is }) (move_of_turn (loop ∷ outer) e is)

  stage_position : (stage : Stage) → frame.stage ≡ stage → Position program p
  stage_position at_statement e = listed_position (listed_of program frame) e refl
  stage_position at_inner e = nowhere (move_at at_inner e)
  stage_position at_entry e = nowhere (move_at at_entry e)
  stage_position at_increment e = turn_position frame.active e refl

-- where a process is
pub position : (program : Program) (p : Process) → Position program p
position program p = by p.frames refl
  where
    by : (frames : List Frame) → p.frames ≡ frames → Position program p
    by [] e = nowhere (ap (λ fs. frames_move program fs p.line) e)
    by (frame ∷ below) e = stage_position program p frame below e frame.stage refl
