-- What a process does next, and how it goes on (ANSI X3.9-1978, sections 10 to 12).
use Rattle.std.specs.Prelude.{ℕ, suc, ◌+◌, ◌==◌, ℤ, Bool, false, List, [], ◌∷◌, Option, None, Some, nat_lt, if◌then◌else◌}
use Rattle.hyb_base.specs.declared.ops.RedOp.{RedOp}
use Rattle.f77_ast.specs.declared.fault.Fault.{Fault}
use Rattle.f77_ast.specs.declared.fault.Fault.TheVariants.{DoVariableWritten}
use Rattle.f77_ast.specs.declared.program.Listed.{Listed}
use Rattle.f77_ast.specs.declared.program.Loop.{Loop}
use Rattle.f77_ast.specs.declared.program.Program.{Program}
use Rattle.f77_ast.specs.declared.step.Control.{Control}
use Rattle.f77_ast.specs.declared.step.Control.TheVariants.{Began, Turned}
use Rattle.f77_ast.specs.declared.stmt.Stmt.{Stmt}
use Rattle.f77_ast.specs.declared.stmt.Stmt as stmt
use Rattle.f77_structure.specs.Loops.{loop_with_range_from}
use Rattle.f77_structure.specs.Units.{listing_of, next_place, statement_number}
use Rattle.f77_meaning.specs.Assign.{Written, written_of}
use Rattle.f77_meaning.specs.Demand.{Demand, gives, wants, calls, fails, setting_of}
use Rattle.f77_meaning.specs.Do.{Begun, begun_of, active_from, next_value, turned}
use Rattle.f77_meaning.specs.Event.{Event, reads, writes, takes, moves, prints, ends, faults}
use Rattle.f77_meaning.specs.Print.{Printed, asks, enters, whole, stops, printed_of}
use Rattle.f77_meaning.specs.Process.{ActiveLoop, Frame, Process, Stage, at_statement, at_inner, at_entry, at_increment, come_to, is_blocked, listed_of, process_with, with_answer}

-- what a process does next, with what stands of it once that is done: a read, with the last frame, those below it and the line
-- that wait for the answer; a write, the next number of the input, a move or a line, with the process after it; the end of the
-- run; or a fault
pub data Move : Type 0 where
  reading : (address : ℕ) (by : Option RedOp) (frame : Frame) (below : List Frame) (line : List ℕ) → Move
  writing : (address : ℕ) (value : ℤ) (by : Option RedOp) (control : Option Control) (after : Process) → Move
  taking : (address : ℕ) (blocked : Bool) (after : Process) → Move
  moving : (after : Process) → Move
  printing : (text : List ℕ) (after : Process) → Move
  ending : Move
  failing : (fault : Fault) → Move

-- whether a place is that of the terminal statement of the innermost of some active loops
abbrev pub is_terminal : (at : ℕ) → List ActiveLoop → Bool
is_terminal at [] = false
is_terminal at (loop ∷ outer) = loop.last == at

-- the statements of a frame's unit
abbrev pub listing_in : Program → Frame → List Listed
listing_in program frame = listing_of program.units frame.unit

module _ (program : Program) where
  -- a frame that is done with the statement at a place: where that is the terminal statement of the innermost active loop, this
  -- loop's incrementation processing comes next (section 11.10.6), and else the next statement
  abbrev pub past : (at : ℕ) → List ActiveLoop → Frame → Frame
  past at active frame = if is_terminal at active then come_to at at_increment active frame else come_to (next_place (listing_in program frame) at) at_statement active frame

  -- the same of the frame's own statement and loops
  abbrev pub past_statement : Frame → Frame
  past_statement frame = past frame.at frame.active frame

  -- a frame after a DO statement: its range is run where its count isn't zero. Where that is zero, control goes past the range
  -- (section 11.10.4); where outer active loops have the same terminal statement, the iteration of the innermost of these ends
  -- there, without the steps of that statement
  abbrev pub past_do : ActiveLoop → Frame → Frame
  past_do loop frame = if loop.count == 0 then past loop.last frame.active frame else come_to loop.from at_statement (loop ∷ frame.active) frame

  -- a frame after the incrementation processing of its innermost active loop: the range is run again where iterations are left,
  -- and else the loop is inactive, and its terminal statement is done for the loop around it (sections 11.10.2, 11.10.4 and
  -- 11.10.7)
  abbrev pub past_increment : List ActiveLoop → Frame → Frame
  past_increment [] frame = past frame.at [] frame
  past_increment (loop ∷ outer) frame =
      if nat_lt (suc loop.done) loop.count then come_to loop.from at_statement (turned loop ∷ outer) frame else past frame.at outer frame

-- a write, but by a loop's own control: to the variable of a running DO or implied DO it is a fault
abbrev pub unless_blocked : (blocked : Bool) → Move → Move
unless_blocked blocked move = if blocked then failing DoVariableWritten else move

-- the loop of the DO statement at a place of a unit
abbrev pub loop_of_do : Program → (unit at : ℕ) → Option Loop
loop_of_do program unit at = loop_with_range_from program.loops (statement_number program.units unit at + 1)

-- a program, the last frame of a process, those below it, and its line
module _ (program : Program) (frame : Frame) (below : List Frame) (line : List ℕ) where
  -- a PRINT reads what its items ask for, and then prints its line. No function is called yet
  abbrev pub print_move : Printed → Move
  print_move (asks address by p) = reading address by p.frame below p.line
  print_move (enters unit bindings p) = ending
  print_move (whole text) = printing text (process_with [] (past_statement program frame ∷ below))
  print_move (stops fault) = failing fault

  -- an assignment reads what it asks for, and then writes
  abbrev pub write_move : Demand Written → Move
  write_move (gives w rest) = unless_blocked (is_blocked w.address (frame ∷ below)) (writing w.address w.value w.by None (process_with line (past_statement program frame ∷ below)))
  write_move (wants address by) = reading address by frame below line
  write_move (calls unit bindings) = ending
  write_move (fails fault) = failing fault

  -- a DO statement reads what its parameters ask for, and then writes its variable: its loop begins (section 11.10.3)
  abbrev pub begin_move : Loop → Demand Begun → Move
  begin_move loop (gives b rest) =
      unless_blocked (is_blocked b.variable (frame ∷ below)) (writing b.variable b.first None (Some (Began loop.ordinal)) (process_with line (past_do program (active_from (listing_in program frame) frame.at loop b) frame ∷ below)))
  begin_move loop (wants address by) = reading address by frame below line
  begin_move loop (calls unit bindings) = ending
  begin_move loop (fails fault) = failing fault

  -- the same, where the loop may not be known; each DO statement of an accepted program has its loop
  abbrev pub do_move : Option Loop → Demand Begun → Move
  do_move None begun = ending
  do_move (Some loop) begun = begin_move loop begun

  -- the incrementation processing of the innermost active loop writes its variable (section 11.10.7)
  abbrev pub increment_move : List ActiveLoop → Move
  increment_move [] = ending
  increment_move (loop ∷ outer) = writing loop.variable (next_value loop) None (Some (Turned loop.ordinal)) (process_with line (past_increment program (loop ∷ outer) frame ∷ below))

  -- a statement: an assignment, a DO statement and a PRINT as above; CONTINUE moves control (section 11.11); END ends the run,
  -- as there is no unit but the main one yet (section 11.14). The others have no meaning yet, or take no step, and no process of
  -- an accepted program is at one
  abbrev pub statement_move : Stmt → Move
  statement_move (stmt.Assign target value) = write_move (written_of (setting_of program frame) target value frame.answers)
  statement_move (stmt.Do terminal control) = do_move (loop_of_do program frame.unit frame.at) (begun_of (setting_of program frame) control frame.answers)
  statement_move stmt.Continue = moving (process_with line (past_statement program frame ∷ below))
  statement_move stmt.Return = ending
  statement_move stmt.Else = ending
  statement_move stmt.EndIf = ending
  statement_move stmt.End = ending
  statement_move (stmt.Stop code) = ending
  statement_move (stmt.Goto label) = ending
  statement_move (stmt.ComputedGoto labels index) = ending
  statement_move (stmt.ArithmeticIf value negative zeroth positive) = ending
  statement_move (stmt.LogicalIf' condition pointer inner) = ending
  statement_move (stmt.BlockIf condition) = ending
  statement_move (stmt.ElseIf condition) = ending
  statement_move (stmt.Call name args) = ending
  statement_move (stmt.Print items) = print_move (printed_of (setting_of program frame) items frame line)
  statement_move (stmt.Read items) = ending
  statement_move (stmt.Program name) = ending
  statement_move (stmt.Subroutine name dummies) = ending
  statement_move (stmt.Function typ name dummies) = ending
  statement_move (stmt.Declare typ entities) = ending
  statement_move (stmt.Dimension arrays) = ending
  statement_move (stmt.Common groups) = ending
  statement_move (stmt.Equivalence groups) = ending
  statement_move (stmt.Parameter constants) = ending
  statement_move (stmt.Implicit rules) = ending
  statement_move (stmt.Save entries) = ending
  statement_move (stmt.Init groups) = ending

  -- the same, where there may be no statement; no process of an accepted program goes past its END
  abbrev pub listed_move : Option Listed → Move
  listed_move None = ending
  listed_move (Some listed) = statement_move listed.stmt

  -- what a frame does next at its stage; a statement inside a logical IF and the entry of a unit have no meaning yet
  abbrev pub stage_move : Stage → Move
  stage_move at_statement = listed_move (listed_of program frame)
  stage_move at_inner = ending
  stage_move at_entry = ending
  stage_move at_increment = increment_move frame.active

-- what a process of these frames and this line does next, its last frame being the first of them
abbrev pub frames_move : Program → List Frame → (line : List ℕ) → Move
frames_move program [] line = ending
frames_move program (frame ∷ below) line = stage_move program frame below line frame.stage

-- what a process does next: a function of the program and the process alone
abbrev pub move_of : Program → Process → Move
move_of program p = frames_move program p.frames p.line

-- the event of that
abbrev pub event_of : Move → Event
event_of (reading address by frame below line) = reads address by
event_of (writing address value by control after) = writes address value by control
event_of (taking address blocked after) = takes address blocked
event_of (moving after) = moves
event_of (printing text after) = prints text
event_of ending = ends
event_of (failing fault) = faults fault

abbrev pub event : Program → Process → Event
event program p = event_of (move_of program p)

-- a process once the write, the number taken, the move or the line that it comes to now is done. After other events it isn't asked
abbrev pub done_by : Move → Process → Process
done_by (reading address by frame below line) p = p
done_by (writing address value by control after) p = after
done_by (taking address blocked after) p = after
done_by (moving after) p = after
done_by (printing text after) p = after
done_by ending p = p
done_by (failing fault) p = p

-- a function of the program and the process alone
abbrev pub once_done : Program → Process → Process
once_done program p = done_by (move_of program p) p

-- how a process goes on after an event, where a read was answered by this value: what reads has one answer more, and what
-- writes, takes, moves or prints is done; a process that has ended or met a fault stays where it is
abbrev pub resumed_by : Move → Process → (answer : ℤ) → Process
resumed_by (reading address by frame below line) p answer = process_with line (with_answer answer frame ∷ below)
resumed_by (writing address value by control after) p answer = after
resumed_by (taking address blocked after) p answer = after
resumed_by (moving after) p answer = after
resumed_by (printing text after) p answer = after
resumed_by ending p answer = p
resumed_by (failing fault) p answer = p

-- a function of the program, the process and the answer alone
abbrev pub resumed : Program → Process → (answer : ℤ) → Process
resumed program p answer = resumed_by (move_of program p) p answer
