-- What a step leaves of the frames, and of the active loops of the last one (ANSI X3.9-1978, section 11.10).
use Rattle.std.specs.Prelude.{◌≡◌, ◌≢◌, ◌<◌, ◌≤◌, suc, ℤ, List, ◌∷◌}
use Rattle.f77_ast.specs.declared.program.Program.{Program}
use Rattle.f77_meaning.specs.Do.{active_from, turned}
use Rattle.f77_meaning.specs.Process.{ActiveLoop, Frame, Process}
use Rattle.f77_meaning.specs.Step.{listing_in, once_done, resumed}
use Rattle.f77_turns.specs.Turns.{Beginning, Turn}

-- what a step of a process makes of the active loops of its last frame
pub data LoopsAfter (program : Program) (p : Process) (active next : List ActiveLoop) : Type 0 where
  -- they stay
  stay : next ≡ active → LoopsAfter program p active next
  -- a loop begins, and is the innermost one; where it has no iteration, it isn't active
  joins : (b : Beginning program p) → b.begun.count ≢ 0 → next ≡ active_from (listing_in program b.frame) b.frame.at b.loop b.begun ∷ active → LoopsAfter program p active next
  stays_out : (b : Beginning program p) → b.begun.count ≡ 0 → next ≡ active → LoopsAfter program p active next
  -- the innermost one turns, and is active with one iteration more ended; after its last one it isn't, and no loop around it turns in this
  -- step
  turns : (t : Turn p) → suc t.loop.done < t.loop.count → next ≡ turned t.loop ∷ t.outer → LoopsAfter program p active next
  leaves : (t : Turn p) → t.loop.count ≤ suc t.loop.done → next ≡ t.outer → LoopsAfter program p active next

-- a step of a process from a last frame, with some below, to the process after it: it leaves those below and the unit of the last one
pub record KeepsFrames (program : Program) (p : Process) (frame : Frame) (below : List Frame) (after : Process) : Type 0 where
  pub last : Frame
  pub frames : after.frames ≡ last ∷ below
  pub unit : last.unit ≡ frame.unit
  pub loops : LoopsAfter program p frame.active last.active

-- each step of a process does so, whatever the answer to a read
pub record StepKeepsFrames (program : Program) (p : Process) (frame : Frame) (below : List Frame) : Type 0 where
  pub done : KeepsFrames program p frame below (once_done program p)
  pub resumed : (answer : ℤ) → KeepsFrames program p frame below (resumed program p answer)

-- a step leaves the frames below the last one, and of that one the unit; its active loops change only where a loop begins or turns:
-- entering a unit, leaving it and a jump are no steps yet
abbrev pub StepsKeepFrames : Type 0
StepsKeepFrames = (program : Program) (p : Process) (frame : Frame) (below : List Frame) → p.frames ≡ frame ∷ below → StepKeepsFrames program p frame below
