-- A line that a step prints isn't past its limit.
use Rattle.std.proofs.Common.{◌≡◌, ℕ, ◌≤◌, ℤ, List, ◌∷◌, [], length, Bool, true, false, Option, None, Some, subst, sym, ap, ◌∙◌}
use Rattle.f77_ast.specs.Limits.{most_line_bytes}
use Rattle.f77_ast.specs.declared.program.Listed.{Listed}
use Rattle.f77_ast.specs.declared.program.Loop.{Loop}
use Rattle.f77_ast.specs.declared.program.Program.{Program}
use Rattle.f77_ast.specs.declared.step.Stepped.{Stepped}
use Rattle.f77_ast.specs.declared.step.Stepped.TheVariants.{Printed}
use Rattle.f77_ast.specs.declared.stmt.Stmt.{Stmt, Assign, Continue, Do, Print}
use Rattle.f77_io.specs.Number.{Taken, number, none, taken_of}
use Rattle.f77_meaning.specs.Assign.{Written, written_of}
use Rattle.f77_meaning.specs.Demand.{Demand, gives, wants, calls, fails, setting_of}
use Rattle.f77_meaning.specs.Do.{Begun, begun_of}
use Rattle.f77_meaning.specs.Print as print
use Rattle.f77_meaning.specs.Print.{asks, enters, whole, stops, printed_of}
use Rattle.f77_meaning.specs.Process.{ActiveLoop, Frame, Process, Stage, at_statement, at_inner, at_entry, at_increment, is_blocked, listed_of}
use Rattle.f77_meaning.specs.Step.{Move, reading, writing, taking, moving, printing, ending, failing, do_move, frames_move, increment_move, listed_move, loop_of_do, move_of, print_move, stage_move, statement_move, write_move, unless_blocked}
use Rattle.f77_meaning.specs.StepOutcome.{on_input, outcome_from, outcome_of_step, stepped_of, line_after, taken_move}
use Rattle.f77_meaning.proofs.Short.{IsShort, printed_short}

-- a printed line isn't past its limit
abbrev PrintsShort : Move → Type 0
PrintsShort (reading address by frame below line) = Unit {0}
PrintsShort (writing address value by control after) = Unit {0}
PrintsShort (taking address blocked after) = Unit {0}
PrintsShort (moving after) = Unit {0}
PrintsShort (printing text after) = length text ≤ most_line_bytes
PrintsShort ending = Unit {0}
PrintsShort (failing fault) = Unit {0}

unblocked : (blocked : Bool) (move : Move) → PrintsShort move → PrintsShort (unless_blocked blocked move)
unblocked true move h = tt
unblocked false move h = h

module _ (program : Program) (frame : Frame) (below : List Frame) (line : List ℕ) (few : length line ≤ most_line_bytes) where
  printed : (p : print.Printed) → IsShort p → PrintsShort (print_move program frame below line p)
  printed (asks address by p) h = tt
  printed (enters unit bindings p) h = tt
  printed (whole text) h = h
  printed (stops fault) h = tt

  written : (d : Demand Written) → PrintsShort (write_move program frame below line d)
  written (gives w rest) = unblocked (is_blocked w.address (frame ∷ below)) _ tt
  written (wants address by) = tt
  written (calls unit bindings) = tt
  written (fails fault) = tt

  begun : (o : Option Loop) (d : Demand Begun) → PrintsShort (do_move program frame below line o d)
  begun None d = tt
  begun (Some loop) (gives b rest) = unblocked (is_blocked b.variable (frame ∷ below)) _ tt
  begun (Some loop) (wants address by) = tt
  begun (Some loop) (calls unit bindings) = tt
  begun (Some loop) (fails fault) = tt

  stated : (s : Stmt) → PrintsShort (statement_move program frame below line s)
  stated (Assign target value) = written (written_of (setting_of program frame) target value frame.answers)
  stated (Do terminal control) = begun (loop_of_do program frame.unit frame.at) (begun_of (setting_of program frame) control frame.answers)
  stated Continue = tt
  stated (Print items) = printed (printed_of (setting_of program frame) items frame line) (printed_short (setting_of program frame) items frame line few)
  stated _ = tt

  here : (found : Option Listed) → PrintsShort (listed_move program frame below line found)
  here None = tt
  here (Some listed) = stated listed.stmt

  turns : (active : List ActiveLoop) → PrintsShort (increment_move program frame below line active)
  turns [] = tt
  turns (loop ∷ outer) = tt

  staged : (stage : Stage) → PrintsShort (stage_move program frame below line stage)
  staged at_statement = here (listed_of program frame)
  staged at_inner = tt
  staged at_entry = tt
  staged at_increment = turns frame.active

prints_short : (program : Program) (frames : List Frame) (line : List ℕ) → length line ≤ most_line_bytes → PrintsShort (frames_move program frames line)
prints_short program [] line few = tt
prints_short program (frame ∷ below) line few = staged program frame below line few frame.stage

-- and none that READ's number makes of it
on_input_short : (move : Move) (input : List ℕ) → PrintsShort move → PrintsShort (on_input move input)
on_input_short (reading address by frame below line) input h = tt
on_input_short (writing address value by control after) input h = tt
on_input_short (taking address blocked after) input h = taken (taken_of input)
  where
    taken : (t : Taken) → PrintsShort (taken_move t address blocked after)
    taken (number value rest) = unblocked blocked _ tt
    taken (none fault) = tt
on_input_short (moving after) input h = tt
on_input_short (printing text after) input h = h
on_input_short ending input h = tt
on_input_short (failing fault) input h = tt

short_line : (move : Move) (old : List ℕ) → PrintsShort move → Printed ≡ stepped_of move → length (line_after move old) ≤ most_line_bytes
short_line (reading address by frame below line) old h e = absurd (cc)
short_line (writing address value by control after) old h e = absurd (cc)
short_line (taking address blocked after) old h e = absurd (cc)
short_line (moving after) old h e = absurd (cc)
short_line (printing text after) old h e = h
short_line ending old h e = absurd (cc)
short_line (failing fault) old h e = absurd (cc)

-- the line after a step that printed
pub short_after : (program : Program) (p q : Process) (stepped : Stepped) (old new : List ℤ) (count counted : ℕ) (input rest text : List ℕ) → outcome_from stepped q new counted rest text ≡ outcome_of_step program p old count input → stepped ≡ Printed → length p.line ≤ most_line_bytes → length text ≤ most_line_bytes
short_after program p q stepped old new count counted input rest text e h few =
    let did : Move = on_input (move_of program p) input in
    subst (λ l. length l ≤ most_line_bytes) (sym (ap (λ n. n.line) e))
    (short_line did p.line (on_input_short (move_of program p) input (prints_short program p.frames p.line few)) (sym h ∙ ap (λ n. n.stepped) e))
