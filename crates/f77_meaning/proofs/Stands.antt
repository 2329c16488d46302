-- After each step of a process of a sound program, the process is one of the program.
use Rattle.std.proofs.Common.{◌≡◌, ℕ, zero, suc, ◌==◌, ◌≤◌, ℤ, List, [], ◌∷◌, ◌++◌, All, length, Option, None, Some, IsSome, IsTrue, refl, sym, ap, subst, ◌∙◌, arith, slice_get, Bool, true, false, cond}
use Rattle.std.specs.Prelude.{nat_lt}
use Rattle.f77_ast.specs.Limits.{most_line_bytes}
use Rattle.f77_ast.specs.declared.program.Listed.{Listed}
use Rattle.f77_ast.specs.declared.program.Loop.{Loop}
use Rattle.f77_ast.specs.declared.program.Program.{Program}
use Rattle.f77_ast.specs.declared.program.Unit.{Unit as ProgramUnit}
use Rattle.f77_ast.specs.declared.step.Control.TheVariants.{Began}
use Rattle.f77_ast.specs.declared.stmt.LoopControl.{LoopControl}
use Rattle.f77_ast.specs.declared.stmt.Stmt.{Stmt, Assign, Continue, Do, Print}
use Rattle.f77_structure.specs.Statements.{is_executable, terminal_label}
use Rattle.f77_structure.specs.Units.{executes, first_executable, listing_of, main_unit, next_place, statement_at, EndsWithEnd}
use Rattle.f77_structure.proofs.UnitLemmas.{goes_on, executes_here, first_executes, first_stands}
use Rattle.f77_meaning.specs.Assign.{Written, written_of}
use Rattle.f77_meaning.specs.Demand.{Demand, gives, wants, calls, fails, setting_of}
use Rattle.f77_meaning.specs.Do.{Begun, begun_of, active_from, turned}
use Rattle.f77_meaning.specs.Print.{Printed, asks, enters, whole, stops, printed_of}
use Rattle.f77_meaning.specs.Process.{ActiveLoop, Frame, come_to, Process, Stage, at_statement, at_inner, at_entry, at_increment, first_process, is_blocked, listed_of, process_with, with_answer}
use Rattle.f77_meaning.specs.Sound.{AreActive, AreFrames, FitsStage, IsBelow, IsFrame, IsOf, IsSound}
use Rattle.f77_meaning.specs.Step.{Move, reading, writing, taking, moving, printing, ending, failing, do_move, frames_move, increment_move, is_terminal, listed_move, listing_in, loop_of_do, move_of, past, past_do, past_increment, past_statement, print_move, resumed, stage_move, statement_move, write_move, unless_blocked, resumed_by}
use Rattle.f77_io.specs.Number.{Taken, number, none, taken_of}
use Rattle.f77_meaning.specs.StepOutcome.{on_input, taken_move}
use Rattle.f77_meaning.proofs.Begins.{begins_of}
use Rattle.f77_meaning.proofs.Frames.{past_is_frame, past_do_is_frame, past_increment_is_frame}
use Rattle.f77_meaning.proofs.Marks.{StaysAt, Unmarked, printed_unmarked, stays, stays_done}
use Rattle.f77_meaning.proofs.Short.{IsShort, printed_short}

-- what comes after a step is of the program
abbrev pub Leads : Program → Move → Type 0
Leads program (reading address by frame below line) = AreFrames program (frame ∷ below) × (length line ≤ most_line_bytes)
Leads program (writing address value by control after) = IsOf program after
Leads program (taking address blocked after) = IsOf program after
Leads program (moving after) = IsOf program after
Leads program (printing text after) = IsOf program after
Leads program ending = Unit {0}
Leads program (failing fault) = Unit {0}

-- another frame of the unit above the same ones
above : (program : Program) (frame next : Frame) (below : List Frame) → AreFrames program (frame ∷ below) → next.unit ≡ frame.unit → IsFrame program next → AreFrames program (next ∷ below)
above program frame next below are same is = (is, (subst (λ u. All (IsBelow program u) below) (sym same) are.1.0, are.1.1))

follows : (program : Program) (frame next : Frame) (below : List Frame) (line : List ℕ) → AreFrames program (frame ∷ below) → length line ≤ most_line_bytes → next.unit ≡ frame.unit → IsFrame program next → IsOf program (process_with line (next ∷ below))
follows program frame next below line are few same is = record { some = refl; frames = above program frame next below are same is; line = few }

-- a stage that fits a frame fits one that stays at its statement
stage_stays : (program : Program) (frame next : Frame) (stage : Stage) → StaysAt frame next → FitsStage program stage frame → FitsStage program stage next
stage_stays program frame next at_statement k f = subst (λ o. executes o ≡ true) (λ i. statement_at program (sym k.unit i) (sym k.at i)) f
stage_stays program frame next at_inner k f = f
stage_stays program frame next at_entry k f = f
stage_stays program frame next at_increment k f = subst (λ b. b ≡ true) (λ i. is_terminal (sym k.at i) (sym k.active i)) f

-- a frame that stays at its statement is one of the program, where the frame before is
stays_frame : (program : Program) (frame next : Frame) → StaysAt frame next → IsFrame program frame → IsFrame program next
stays_frame program frame next k is = record {
  stands = subst (λ o. IsSome o) (λ i. statement_at program (sym k.unit i) (sym k.at i)) is.stands;
  active = subst (λ n. AreActive program next.unit next.at next.at n) (sym k.active)
      (subst (λ u. AreActive program u next.at next.at frame.active) (sym k.unit) (subst (λ n. AreActive program frame.unit n n frame.active) (sym k.at) is.active));
  stage = subst (λ stage. FitsStage program stage next) (sym k.stage) (stage_stays program frame next frame.stage k is.stage);
  known = record { bindings = k.bindings ∙ is.known.bindings; bounds = k.bounds ∙ is.known.bounds; implied = k.implied ∙ is.known.implied };
}

unblocked : (program : Program) (blocked : Bool) (move : Move) → Leads program move → Leads program (unless_blocked blocked move)
unblocked program true move h = tt
unblocked program false move h = h

-- the unit stays
module _ (program : Program) where
  unit_past : (at : ℕ) (active : List ActiveLoop) (frame : Frame) → (past program at active frame).unit ≡ frame.unit
  unit_past at active frame = by (is_terminal at active)
    where
      by : (b : Bool) → (cond b (come_to at at_increment active frame) (come_to (next_place (listing_in program frame) at) at_statement active frame)).unit ≡ frame.unit
      by true = refl
      by false = refl

  unit_past_do : (loop : ActiveLoop) (frame : Frame) → (past_do program loop frame).unit ≡ frame.unit
  unit_past_do loop frame = by (loop.count == 0)
    where
      by : (b : Bool) → (cond b (past program loop.last frame.active frame) (come_to loop.from at_statement (loop ∷ frame.active) frame)).unit ≡ frame.unit
      by true = unit_past loop.last frame.active frame
      by false = refl

  unit_past_increment : (active : List ActiveLoop) (frame : Frame) → (past_increment program active frame).unit ≡ frame.unit
  unit_past_increment [] frame = unit_past frame.at [] frame
  unit_past_increment (loop ∷ outer) frame = by (nat_lt (suc loop.done) loop.count)
    where
      by : (b : Bool) → (cond b (come_to loop.from at_statement (turned loop ∷ outer) frame) (past program frame.at outer frame)).unit ≡ frame.unit
      by true = refl
      by false = unit_past frame.at outer frame

module _ (program : Program) (sound : IsSound program) (frame : Frame) (below : List Frame) (line : List ℕ) (are : AreFrames program (frame ∷ below)) (few : length line ≤ most_line_bytes) where
  -- at an executable statement that isn't END
  module _ (listed : Listed) (e : listed_of program frame ≡ Some listed) (goes : goes_on listed.stmt) (runs : is_executable listed.stmt ≡ true) where
    further : (text : List ℕ) → length text ≤ most_line_bytes → IsOf program (process_with text (past_statement program frame ∷ below))
    further text short =
        follows program frame (past_statement program frame) below text are short (unit_past program frame.at frame.active frame)
        (past_is_frame program sound frame are.0.known frame.at frame.active listed e goes are.0.active (executes_here (listed_of program frame) listed e runs))

    printed : (p : Printed) → IsShort p → Unmarked frame p → Leads program (print_move program frame below line p)
    printed (asks address by p) short marks = (above program frame p.frame below are marks.1.unit (stays_frame program frame p.frame marks.1 are.0), short)
    printed (enters unit bindings p) short marks = tt
    printed (whole text) short marks = further [] (omega arith)
    printed (stops fault) short marks = tt

    written : (d : Demand Written) → Leads program (write_move program frame below line d)
    written (gives w rest) =
        unblocked program (is_blocked w.address (frame ∷ below)) (writing w.address w.value w.by None (process_with line (past_statement program frame ∷ below))) (further line few)
    written (wants address by) = (are, few)
    written (calls unit bindings) = tt
    written (fails fault) = tt

  begun : (listed : Listed) (label : ℕ) (control : LoopControl) → listed_of program frame ≡ Some listed → terminal_label listed.stmt ≡ Some label → (o : Option Loop) → loop_of_do program frame.unit frame.at ≡ o → (d : Demand Begun) → begun_of (setting_of program frame) control frame.answers ≡ d → Leads program (do_move program frame below line o d)
  begun listed label control e names None found d h = tt
  begun listed label control e names (Some loop) found (gives start rest) h =
      let new : ActiveLoop = active_from (listing_in program frame) frame.at loop start in
      unblocked program (is_blocked start.variable (frame ∷ below)) (writing start.variable start.first None (Some (Began loop.ordinal)) (process_with line (past_do program new frame ∷ below)))
      (follows program frame (past_do program new frame) below line are few (unit_past_do program new frame)
      (past_do_is_frame program frame label loop start sound are.0.known (record { listed = listed; stands = e; names = names }) found (begins_of (setting_of program frame) control frame.answers rest start sound.storage h) are.0.active))
  begun listed label control e names (Some loop) found (wants address by) h = (are, few)
  begun listed label control e names (Some loop) found (calls unit bindings) h = tt
  begun listed label control e names (Some loop) found (fails fault) h = tt

  stated : (listed : Listed) → listed_of program frame ≡ Some listed → is_executable listed.stmt ≡ true → (s : Stmt) → listed.stmt ≡ s → Leads program (statement_move program frame below line s)
  stated listed e runs (Assign target value) h = written listed e (subst goes_on (sym h) tt) runs (written_of (setting_of program frame) target value frame.answers)
  stated listed e runs (Do terminal control) h = begun listed terminal control e (ap terminal_label h) (loop_of_do program frame.unit frame.at) refl (begun_of (setting_of program frame) control frame.answers) refl
  stated listed e runs Continue h = further listed e (subst goes_on (sym h) tt) runs line few
  stated listed e runs (Print items) h =
      let p : Printed = printed_of (setting_of program frame) items frame line in
      printed listed e (subst goes_on (sym h) tt) runs p (printed_short (setting_of program frame) items frame line few) (printed_unmarked (setting_of program frame) frame items line)
  stated listed e runs _ h = tt

  here : (found : Option Listed) → listed_of program frame ≡ found → executes found ≡ true → Leads program (listed_move program frame below line found)
  here None e runs = tt
  here (Some listed) e runs = stated listed e runs listed.stmt refl

  turns : (active : List ActiveLoop) → frame.active ≡ active → IsTrue (is_terminal frame.at active) → Leads program (increment_move program frame below line active)
  turns [] h e = tt
  turns (loop ∷ outer) h e =
      follows program frame (past_increment program (loop ∷ outer) frame) below line are few (unit_past_increment program (loop ∷ outer) frame)
      (past_increment_is_frame program sound frame are.0.known (loop ∷ outer) (subst (λ a. AreActive program frame.unit frame.at frame.at a) h are.0.active) e)

  staged : (stage : Stage) → FitsStage program stage frame → Leads program (stage_move program frame below line stage)
  staged at_statement fits = here (listed_of program frame) refl fits
  staged at_inner fits = tt
  staged at_entry fits = tt
  staged at_increment fits = turns frame.active refl fits

-- what a process of a program does next leads to processes of it
pub leads : (program : Program) (frames : List Frame) (line : List ℕ) → IsSound program → AreFrames program frames → length line ≤ most_line_bytes → Leads program (frames_move program frames line)
leads program [] line sound are few = tt
leads program (frame ∷ below) line sound are few = staged program sound frame below line are few frame.stage are.0.stage

-- a process that got an answer is one of the program, and so is one that is done with its step
pub IsOf-resumed_by : (program : Program) (move : Move) (p : Process) (answer : ℤ) → IsOf program p → Leads program move → IsOf program (resumed_by move p answer)
IsOf-resumed_by program (reading address by frame below line) p answer is h =
    record { some = refl; frames = above program frame (with_answer answer frame) below h.0 refl (stays_frame program frame (with_answer answer frame) (stays_done frame frame frame.items frame.cells (frame.answers ++ answer ∷ []) (stays frame)) h.0.0); line = h.1 }
IsOf-resumed_by program (writing address value by control after) p answer is h = h
IsOf-resumed_by program (taking address blocked after) p answer is h = h
IsOf-resumed_by program (moving after) p answer is h = h
IsOf-resumed_by program (printing text after) p answer is h = h
IsOf-resumed_by program ending p answer is h = is
IsOf-resumed_by program (failing fault) p answer is h = is

-- after each step of a process of a sound program, the process is one of the program
pub IsOf-resumed : (program : Program) (p : Process) (answer : ℤ) → IsSound program → IsOf program p → IsOf program (resumed program p answer)
IsOf-resumed program p answer sound is = IsOf-resumed_by program (move_of program p) p answer is (leads program p.frames p.line sound is.frames is.line)

-- the same, on an input: the number that READ takes changes nothing of it
pub leads_on_input : (program : Program) (move : Move) (input : List ℕ) → Leads program move → Leads program (on_input move input)
leads_on_input program (reading address by frame below line) input h = h
leads_on_input program (writing address value by control after) input h = h
leads_on_input program (taking address blocked after) input h = taken (taken_of input)
  where
    taken : (t : Taken) → Leads program (taken_move t address blocked after)
    taken (number value rest) = unblocked program blocked (writing address value None None after) h
    taken (none fault) = tt
leads_on_input program (moving after) input h = h
leads_on_input program (printing text after) input h = h
leads_on_input program ending input h = tt
leads_on_input program (failing fault) input h = tt

-- a printed line isn't past its limit
abbrev pub PrintsShort : Move → Type 0
PrintsShort (reading address by frame below line) = Unit {0}
PrintsShort (writing address value by control after) = Unit {0}
PrintsShort (taking address blocked after) = Unit {0}
PrintsShort (moving after) = Unit {0}
PrintsShort (printing text after) = length text ≤ most_line_bytes
PrintsShort ending = Unit {0}
PrintsShort (failing fault) = Unit {0}

-- what holds of the statements of each unit holds of those of one that is there
at_unit : (P : List Listed → Type 0) (units : List ProgramUnit) (u : ℕ) → All (λ unit. P unit.listing) units → IsSome (slice_get units u) → P (listing_of units u)
at_unit P [] u all some = absurd (cc)
at_unit P (first ∷ units) zero all some = all 0 first (omega arith)
at_unit P (first ∷ units) (suc u) all some = at_unit P units u (λ k d h. all (suc k) d (omega (arith, h))) some

-- before the first step, a process of a sound program is at a statement of the main unit, and no loop is active
pub IsOf-first : (program : Program) → IsSound program → IsOf program (first_process program)
IsOf-first program sound = record {
  some = refl;
  frames = (record { stands = stands; active = tt; stage = runs; known = record { bindings = refl; bounds = refl; implied = refl } }, ((λ k other h. absurd (omega (arith, h))), tt));
  line = omega arith;
}
  where
    main : EndsWithEnd (listing_of program.units (main_unit program.units))
    main = at_unit EndsWithEnd program.units (main_unit program.units) sound.ended sound.main

    stands : IsSome (slice_get (listing_of program.units (main_unit program.units)) (first_executable (listing_of program.units (main_unit program.units))))
    stands = subst (λ l. IsSome (slice_get l (first_executable l))) (sym main.joined) (first_stands main.before main.last main.is_end)

    runs : executes (slice_get (listing_of program.units (main_unit program.units)) (first_executable (listing_of program.units (main_unit program.units)))) ≡ true
    runs = subst (λ l. executes (slice_get l (first_executable l)) ≡ true) (sym main.joined) (first_executes main.before main.last main.is_end)
