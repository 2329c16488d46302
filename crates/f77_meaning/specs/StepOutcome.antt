-- One step over a store and an input: what a process does next, answered by them.
use Rattle.std.specs.Prelude.{ℕ, ℤ, pos, Bool, List, [], None, slice_index_or, slice_set}
use Rattle.hyb_base.specs.Count.{next_count}
use Rattle.f77_ast.specs.declared.program.Program.{Program}
use Rattle.f77_ast.specs.declared.step.Stepped.{Stepped}
use Rattle.f77_ast.specs.declared.step.Stepped.TheVariants.{Read, Wrote, Inner, Printed, Ended, Faulted}
use Rattle.f77_io.specs.Number.{Taken, number, none, taken_of}
use Rattle.f77_meaning.specs.Process.{Process}
use Rattle.f77_meaning.specs.Step.{Move, reading, writing, taking, moving, printing, ending, failing, move_of, resumed_by, unless_blocked}

-- what comes of READ's next number, on what is next in the input: the number is written, or, where the address is blocked, it
-- meets a fault in place of the write; and where there is no number, the input's fault comes
abbrev pub taken_move : Taken → (address : ℕ) → (blocked : Bool) → (after : Process) → Move
taken_move (number value rest) address blocked after = unless_blocked blocked (writing address value None None after)
taken_move (none fault) address blocked after = failing fault

-- what a process does next, on this input: only the number that READ takes is of the input
abbrev pub on_input : Move → (input : List ℕ) → Move
on_input (reading address by frame below line) input = reading address by frame below line
on_input (writing address value by control after) input = writing address value by control after
on_input (taking address blocked after) input = taken_move (taken_of input) address blocked after
on_input (moving after) input = moving after
on_input (printing text after) input = printing text after
on_input ending input = ending
on_input (failing fault) input = failing fault

-- what is left of the input where a number was taken
abbrev pub left_by : Taken → (input : List ℕ) → List ℕ
left_by (number value rest) input = rest
left_by (none fault) input = input

-- the input after that
abbrev pub input_after : Move → (input : List ℕ) → List ℕ
input_after (reading address by frame below line) input = input
input_after (writing address value by control after) input = input
input_after (taking address blocked after) input = left_by (taken_of input) input
input_after (moving after) input = input
input_after (printing text after) input = input
input_after ending input = input
input_after (failing fault) input = input

-- what a step comes to: what it answers, the process after it, the storage, the number of reads by now, what is left of the
-- input, and the line that PRINT makes or has made
pub record StepOutcome : Type 0 where
  pub stepped : Stepped
  pub process : Process
  pub store : List ℤ
  pub reads : ℕ
  pub input : List ℕ
  pub line : List ℕ

-- how a step answers; the marks of accumulations and of DO-variables are left out yet
abbrev pub stepped_of : Move → Stepped
stepped_of (reading address by frame below line) = Read address None
stepped_of (writing address value by control after) = Wrote address None None
stepped_of (taking address blocked after) = Wrote address None None
stepped_of (moving after) = Inner
stepped_of (printing text after) = Printed
stepped_of ending = Ended
stepped_of (failing fault) = Faulted fault

-- the value that storage answers: that at the address that is read
abbrev pub answer_of : Move → (store : List ℤ) → ℤ
answer_of (reading address by frame below line) store = slice_index_or store address (pos 0)
answer_of (writing address value by control after) store = pos 0
answer_of (taking address blocked after) store = pos 0
answer_of (moving after) store = pos 0
answer_of (printing text after) store = pos 0
answer_of ending store = pos 0
answer_of (failing fault) store = pos 0

-- storage after a step: a write replaces the value at its address
abbrev pub store_after : Move → (store : List ℤ) → List ℤ
store_after (reading address by frame below line) store = store
store_after (writing address value by control after) store = slice_set store address value
store_after (taking address blocked after) store = store
store_after (moving after) store = store
store_after (printing text after) store = store
store_after ending store = store
store_after (failing fault) store = store

-- the number of reads after a step
abbrev pub reads_after : Move → (count : ℕ) → ℕ
reads_after (reading address by frame below line) count = next_count count
reads_after (writing address value by control after) count = count
reads_after (taking address blocked after) count = count
reads_after (moving after) count = count
reads_after (printing text after) count = count
reads_after ending count = count
reads_after (failing fault) count = count

-- the line after a step: a printed line is kept until it was taken, and else the line is that of the process
abbrev pub line_after : Move → (line : List ℕ) → List ℕ
line_after (reading address by frame below line) old = line
line_after (writing address value by control after) old = after.line
line_after (taking address blocked after) old = after.line
line_after (moving after) old = after.line
line_after (printing text after) old = text
line_after ending old = old
line_after (failing fault) old = old

-- what a process comes to by what it does next, where the input is met and this is left of it
abbrev pub outcome_by : Move → Process → (store : List ℤ) → (count : ℕ) → (input : List ℕ) → StepOutcome
outcome_by move p store count input = record {
  stepped = stepped_of move;
  process = resumed_by move p (answer_of move store);
  store = store_after move store;
  reads = reads_after move count;
  input = input;
  line = line_after move p.line;
}

-- what the next step of a process comes to
abbrev pub outcome_of_step : Program → Process → (store : List ℤ) → (count : ℕ) → (input : List ℕ) → StepOutcome
outcome_of_step program p store count input =
    outcome_by (on_input (move_of program p) input) p store count (input_after (move_of program p) input)

-- what a step came to, put together
abbrev pub outcome_from : Stepped → Process → (store : List ℤ) → (count : ℕ) → (input line : List ℕ) → StepOutcome
outcome_from stepped process store count input line = record { stepped = stepped; process = process; store = store; reads = count; input = input; line = line }

-- the line of a process, where this is what a step answered and this the line then: a printed line is no more that of the process
abbrev pub line_left : Stepped → (line : List ℕ) → List ℕ
line_left (Read address by) line = line
line_left (Wrote address by control) line = line
line_left Inner line = line
line_left Printed line = []
line_left Ended line = line
line_left (Faulted fault) line = line
