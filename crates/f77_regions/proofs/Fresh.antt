-- A process that is done with a step has no answers in its last frame.
use Rattle.std.proofs.Common.{◌≡◌, ℕ, suc, ◌==◌, Bool, true, false, cond, List, [], ◌∷◌, Option, None, Some, refl}
use Rattle.std.specs.Prelude.{nat_lt}
use Rattle.f77_ast.specs.declared.program.Listed.{Listed}
use Rattle.f77_ast.specs.declared.program.Loop.{Loop}
use Rattle.f77_ast.specs.declared.program.Program.{Program}
use Rattle.f77_ast.specs.declared.step.Control.TheVariants.{Began}
use Rattle.f77_ast.specs.declared.stmt.Stmt.{Stmt, Assign, Continue, Do, Print}
use Rattle.f77_structure.specs.Units.{next_place}
use Rattle.f77_meaning.specs.Assign.{Written, written_of}
use Rattle.f77_meaning.specs.Demand.{Demand, gives, wants, calls, fails, setting_of}
use Rattle.f77_meaning.specs.Do.{Begun, active_from, begun_of, turned}
use Rattle.f77_meaning.specs.Print.{Printed, asks, enters, whole, stops, printed_of}
use Rattle.f77_meaning.specs.Process.{ActiveLoop, Frame, Stage, at_statement, at_inner, at_entry, at_increment, come_to, is_blocked, listed_of, process_with}
use Rattle.f77_meaning.specs.Step.{Move, reading, writing, taking, moving, printing, ending, failing, do_move, frames_move, increment_move, is_terminal, listed_move, listing_in, loop_of_do, past, past_do, past_increment, past_statement, print_move, stage_move, statement_move, unless_blocked, write_move}

-- frames of which the last one has no answers
abbrev pub AreFresh : List Frame → Type 0
AreFresh [] = Unit {0}
AreFresh (frame ∷ below) = frame.answers ≡ []

-- the frames after a step are such
abbrev pub LeavesFresh : Move → Type 0
LeavesFresh (reading address by frame below line) = Unit {0}
LeavesFresh (writing address value by control after) = AreFresh after.frames
LeavesFresh (taking address blocked after) = AreFresh after.frames
LeavesFresh (moving after) = AreFresh after.frames
LeavesFresh (printing text after) = AreFresh after.frames
LeavesFresh ending = Unit {0}
LeavesFresh (failing fault) = Unit {0}

fresh_past : (program : Program) (at : ℕ) (active : List ActiveLoop) (frame : Frame) → (past program at active frame).answers ≡ []
fresh_past program at active frame = by (is_terminal at active)
  where
    by : (b : Bool) → (cond b (come_to at at_increment active frame) (come_to (next_place (listing_in program frame) at) at_statement active frame)).answers ≡ []
    by true = refl
    by false = refl

fresh_past_do : (program : Program) (loop : ActiveLoop) (frame : Frame) → (past_do program loop frame).answers ≡ []
fresh_past_do program loop frame = by (loop.count == 0)
  where
    by : (b : Bool) → (cond b (past program loop.last frame.active frame) (come_to loop.from at_statement (loop ∷ frame.active) frame)).answers ≡ []
    by true = fresh_past program loop.last frame.active frame
    by false = refl

fresh_past_increment : (program : Program) (active : List ActiveLoop) (frame : Frame) → (past_increment program active frame).answers ≡ []
fresh_past_increment program [] frame = fresh_past program frame.at [] frame
fresh_past_increment program (loop ∷ outer) frame = by (nat_lt (suc loop.done) loop.count)
  where
    by : (b : Bool) → (cond b (come_to loop.from at_statement (turned loop ∷ outer) frame) (past program frame.at outer frame)).answers ≡ []
    by true = refl
    by false = fresh_past program frame.at outer frame

unblocked : (blocked : Bool) (move : Move) → LeavesFresh move → LeavesFresh (unless_blocked blocked move)
unblocked true move h = tt
unblocked false move h = h

module _ (program : Program) (frame : Frame) (below : List Frame) (line : List ℕ) where
  printed : (p : Printed) → LeavesFresh (print_move program frame below line p)
  printed (asks address by p) = tt
  printed (enters unit bindings p) = tt
  printed (whole text) = fresh_past program frame.at frame.active frame
  printed (stops fault) = tt

  written : (d : Demand Written) → LeavesFresh (write_move program frame below line d)
  written (gives w rest) = unblocked (is_blocked w.address (frame ∷ below)) (writing w.address w.value w.by None (process_with line (past_statement program frame ∷ below))) (fresh_past program frame.at frame.active frame)
  written (wants address by) = tt
  written (calls unit bindings) = tt
  written (fails fault) = tt

  begun : (o : Option Loop) (d : Demand Begun) → LeavesFresh (do_move program frame below line o d)
  begun None d = tt
  begun (Some loop) (gives b rest) =
      unblocked (is_blocked b.variable (frame ∷ below)) (writing b.variable b.first None (Some (Began loop.ordinal)) (process_with line (past_do program (active_from (listing_in program frame) frame.at loop b) frame ∷ below))) (fresh_past_do program (active_from (listing_in program frame) frame.at loop b) frame)
  begun (Some loop) (wants address by) = tt
  begun (Some loop) (calls unit bindings) = tt
  begun (Some loop) (fails fault) = tt

  stated : (s : Stmt) → LeavesFresh (statement_move program frame below line s)
  stated (Assign target value) = written (written_of (setting_of program frame) target value frame.answers)
  stated (Do terminal control) = begun (loop_of_do program frame.unit frame.at) (begun_of (setting_of program frame) control frame.answers)
  stated Continue = fresh_past program frame.at frame.active frame
  stated (Print items) = printed (printed_of (setting_of program frame) items frame line)
  stated _ = tt

  here : (found : Option Listed) → LeavesFresh (listed_move program frame below line found)
  here None = tt
  here (Some listed) = stated listed.stmt

  turns : (active : List ActiveLoop) → LeavesFresh (increment_move program frame below line active)
  turns [] = tt
  turns (loop ∷ outer) = fresh_past_increment program (loop ∷ outer) frame

  staged : (stage : Stage) → LeavesFresh (stage_move program frame below line stage)
  staged at_statement = here (listed_of program frame)
  staged at_inner = tt
  staged at_entry = tt
  staged at_increment = turns frame.active

-- what a process does next leaves its last frame without answers
pub leaves_fresh : (program : Program) (frames : List Frame) (line : List ℕ) → LeavesFresh (frames_move program frames line)
leaves_fresh program [] line = tt
leaves_fresh program (frame ∷ below) line = staged program frame below line frame.stage
