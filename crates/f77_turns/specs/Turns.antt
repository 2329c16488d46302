-- How a loop begins and turns, by the events of a process (ANSI X3.9-1978, sections 11.10.3 and 11.10.7).
use Rattle.std.specs.Prelude.{◌≡◌, ◌≢◌, ◌<◌, ℕ, suc, ℤ, false, List, ◌∷◌, Option, None, Some}
use Rattle.hyb_base.specs.declared.ops.RedOp.{RedOp}
use Rattle.f77_ast.specs.declared.program.Listed.{Listed}
use Rattle.f77_ast.specs.declared.program.Loop.{Loop}
use Rattle.f77_ast.specs.declared.program.Program.{Program}
use Rattle.f77_ast.specs.declared.step.Control.TheVariants.{Began, Turned}
use Rattle.f77_ast.specs.declared.stmt.LoopControl.{LoopControl}
use Rattle.f77_ast.specs.declared.stmt.Stmt.{Do}
use Rattle.f77_meaning.specs.Demand.{gives, setting_of}
use Rattle.f77_meaning.specs.Do.{Begun, active_from, begun_of, next_value, turned}
use Rattle.f77_meaning.specs.Event.{writes}
use Rattle.f77_meaning.specs.Process.{ActiveLoop, Frame, Process, Stage, at_increment, at_statement, come_to, is_blocked, listed_of, process_with}
use Rattle.f77_meaning.specs.Sound.{IsOf, IsSound}
use Rattle.f77_meaning.specs.Step.{event, listing_in, loop_of_do, once_done, past_do, past_increment, resumed}

-- the last frame of a process is at the incrementation processing of its innermost active loop
pub record Turn (p : Process) : Type 0 where
  pub frame : Frame
  pub below : List Frame
  pub loop : ActiveLoop
  pub outer : List ActiveLoop
  pub frames : p.frames ≡ frame ∷ below
  pub stage : frame.stage ≡ at_increment
  pub active : frame.active ≡ loop ∷ outer

-- the last frame of a process is at the DO statement of a loop, its values are known, and its variable isn't blocked
pub record Beginning (program : Program) (p : Process) : Type 0 where
  pub frame : Frame
  pub below : List Frame
  pub listed : Listed
  pub terminal : ℕ
  pub control : LoopControl
  pub loop : Loop
  pub begun : Begun
  pub rest : List ℤ
  pub frames : p.frames ≡ frame ∷ below
  pub stage : frame.stage ≡ at_statement
  pub here : listed_of program frame ≡ Some listed
  pub is_do : listed.stmt ≡ Do terminal control
  pub its : loop_of_do program frame.unit frame.at ≡ Some loop
  pub known : begun_of (setting_of program frame) control frame.answers ≡ gives begun rest
  pub free : is_blocked begun.variable p.frames ≡ false

-- a step of a process leads to these frames and keeps the line
pub record LeadsTo (program : Program) (p : Process) (frames : List Frame) : Type 0 where
  pub done : once_done program p ≡ process_with p.line frames
  pub resumed : (answer : ℤ) → resumed program p answer ≡ process_with p.line frames

-- a turn is the write of the loop's variable with its next value, by no operator, marked with the turn of the loop's ordinal; and each
-- write with such a mark is a turn of a loop with that ordinal
pub record MarksTurn (program : Program) (p : Process) : Type 0 where
  pub marked : (t : Turn p) → event program p ≡ writes t.loop.variable (next_value t.loop) None (Some (Turned t.loop.ordinal))
  pub turns : (address : ℕ) (value : ℤ) (by : Option RedOp) (ordinal : ℕ) → event program p ≡ writes address value by (Some (Turned ordinal)) → (t : Turn p) × (t.loop.ordinal ≡ ordinal)

-- the event is marked with a turn exactly where a loop turns
abbrev pub TurnsAreMarked : Type 0
TurnsAreMarked = (program : Program) (p : Process) → MarksTurn program p

-- a beginning is the write of the loop's variable with its first value, by no operator, marked with the beginning of the loop's ordinal,
-- and the loop is active after it where it has an iteration; and each write with such a mark is the beginning of a loop with that ordinal
pub record MarksBeginning (program : Program) (p : Process) : Type 0 where
  pub marked : (b : Beginning program p) → event program p ≡ writes b.begun.variable b.begun.first None (Some (Began b.loop.ordinal))
  pub leads : (b : Beginning program p) → LeadsTo program p (past_do program (active_from (listing_in program b.frame) b.frame.at b.loop b.begun) b.frame ∷ b.below)
  pub begins : (address : ℕ) (value : ℤ) (by : Option RedOp) (ordinal : ℕ) → event program p ≡ writes address value by (Some (Began ordinal)) → (b : Beginning program p) × (b.loop.ordinal ≡ ordinal)

-- the event is marked with a beginning exactly where a loop begins
abbrev pub BeginningsAreMarked : Type 0
BeginningsAreMarked = (program : Program) (p : Process) → MarksBeginning program p

-- a frame after a turn of its innermost active loop: at the first statement of the range with one iteration more ended; or, where that was
-- the last one, at a place without the loop. Of the frame before it keeps the unit, the bindings, the bounds and the loops around
pub data IsAfterTurn (frame : Frame) (loop : ActiveLoop) (outer : List ActiveLoop) (next : Frame) : Type 0 where
  goes_on : (left : suc loop.done < loop.count) → next ≡ come_to loop.from at_statement (turned loop ∷ outer) frame → IsAfterTurn frame loop outer next
  is_over : (none : suc loop.done ≡ loop.count) (at : ℕ) (stage : Stage) → next ≡ come_to at stage outer frame → IsAfterTurn frame loop outer next

-- a turn leads to such a frame, and keeps the frames below
pub record TurnLeads (program : Program) (p : Process) (t : Turn p) : Type 0 where
  pub leads : LeadsTo program p (past_increment program (t.loop ∷ t.outer) t.frame ∷ t.below)
  pub after : IsAfterTurn t.frame t.loop t.outer (past_increment program (t.loop ∷ t.outer) t.frame)

-- a turn leaves of its frame nothing but unit, bindings, bounds and loops
abbrev pub TurnsClear : Type 0
TurnsClear = (program : Program) (p : Process) → IsSound program → IsOf program p → (t : Turn p) → TurnLeads program p t

-- an active loop with this number of iterations ended
abbrev pub with_done : (done : ℕ) → ActiveLoop → ActiveLoop
with_done done loop = record loop { done = done }

-- a frame that begins an iteration of a loop after this number of them: at the first statement of its range
abbrev pub at_iteration : (done : ℕ) → ActiveLoop → (outer : List ActiveLoop) → Frame → Frame
at_iteration done loop outer frame = come_to loop.from at_statement (with_done done loop ∷ outer) frame

-- the frames that begin the iterations of a loop differ only in the number of iterations ended
pub record IterationsBeginAlike : Type 0 where
  -- the frame after the DO statement, where there is an iteration
  pub first : (program : Program) (loop : ActiveLoop) (frame : Frame) → loop.count ≢ 0 → loop.done ≡ 0 → past_do program loop frame ≡ at_iteration 0 loop frame.active frame
  -- the frame after a turn, where an iteration is left
  pub next : (program : Program) (loop : ActiveLoop) (outer : List ActiveLoop) (frame : Frame) → suc loop.done < loop.count → past_increment program (loop ∷ outer) frame ≡ at_iteration (suc loop.done) loop outer frame
  -- of two frames with the same unit, bindings and bounds, and of one loop at any two of its iterations, it is the same frame
  pub alike : (program : Program) (done before : ℕ) (loop : ActiveLoop) (outer : List ActiveLoop) (frame other : Frame) → setting_of program frame ≡ setting_of program other →
      at_iteration done loop outer frame ≡ at_iteration done (with_done before loop) outer other
