-- A process: where control is in a program, and what is known there (ANSI X3.9-1978, sections 3.6, 11.10, 12.8.2.3 and 15.9).
use Rattle.std.specs.Prelude.{ℕ, ◌==◌, ◌||◌, ℤ, Bool, List, [], ◌∷◌, ◌++◌, Option, None}
use Rattle.std.specs.List.{list_any}
use Rattle.f77_ast.specs.declared.program.Listed.{Listed}
use Rattle.f77_ast.specs.declared.program.Program.{Program}
use Rattle.f77_structure.specs.Units.{listing_of, first_executable, main_unit, statement_at}
use Rattle.f77_structure.specs.Values.{Value}

-- what a dummy argument is bound to (section 15.9.3): to a place, by its first address, the number of the region of the
-- actual argument, and the length that the dummy has, its own or the actual's where it is `(*)`; to a value; or to a value
-- that isn't known, which only a run has that leaves some values out, and this length
pub data Binding : Type 0 where
  placed : (address region length : ℕ) → Binding
  valued : (value : Value) → Binding
  unvalued : (length : ℕ) → Binding

-- a dimension of a dummy array, as its bounds were read at entry; its upper bound is none where it is `*` (section 5.1.2)
pub record Dimension : Type 0 where
  pub low : ℤ
  pub high : Option ℤ

-- an active DO-loop (section 11.10.2): which DO statement of the file it is of, counted from 1; the places of the first executable
-- and the terminal statement of its range in its unit; the address of its variable; what the execution of the DO
-- statement has fixed, its first value, its increment and its count; and how many iterations have ended
pub record ActiveLoop : Type 0 where
  pub ordinal : ℕ
  pub from : ℕ
  pub last : ℕ
  pub variable : ℕ
  pub first : ℤ
  pub increment : ℤ
  pub count : ℕ
  pub done : ℕ

-- an active implied DO (section 12.8.2.3): the address of its variable, first value, increment and count, how many
-- iterations have ended, and how many items of its list are done in this one
pub record ActiveImplied : Type 0 where
  pub variable : ℕ
  pub first : ℤ
  pub increment : ℤ
  pub count : ℕ
  pub done : ℕ
  pub items : ℕ

-- what of its statement a frame is at: the statement itself; the one that its logical IF holds; the entry of its unit, where
-- array bounds are read; or the incrementation processing of its innermost active loop, whose terminal statement it is: its
-- steps are taken, or left out where an inner DO has count 0
pub data Stage : Type 0 where
  at_statement : Stage
  at_inner : Stage
  at_entry : Stage
  at_increment : Stage

-- an active unit: its number; the place of its statement, and the stage; what its dummies are bound to, in their order; the
-- dimensions of its dummy arrays, in the order of its dummies, as far as their bounds are read; its active loops and implied
-- DOs, the innermost one first; how many items of the statement are done (at the entry: arrays whose bounds are read), how
-- many elements of an array item are, or addresses of a left side that is written; and the answers to the reads of the item or
-- statement at which it is
pub record Frame : Type 0 where
  pub unit : ℕ
  pub at : ℕ
  pub stage : Stage
  pub bindings : List Binding
  pub bounds : List (List Dimension)
  pub active : List ActiveLoop
  pub implied : List ActiveImplied
  pub items : ℕ
  pub cells : ℕ
  pub answers : List ℤ

-- the active units, the last one first, and the line of the PRINT that runs, as far as it is made
pub record Process : Type 0 where
  pub frames : List Frame
  pub line : List ℕ

-- a frame that comes to a place: what it knows of a statement is forgotten; unit, bindings, bounds and loops stay
abbrev pub come_to : (at : ℕ) → Stage → List ActiveLoop → Frame → Frame
come_to at stage active frame = record {
  unit = frame.unit;
  at = at;
  stage = stage;
  bindings = frame.bindings;
  bounds = frame.bounds;
  active = active;
  implied = [];
  items = 0;
  cells = 0;
  answers = [];
}

-- a frame that enters a unit at a place, with these bindings
abbrev pub entering : (unit at : ℕ) → Stage → List Binding → Frame
entering unit at stage bindings = record {
  unit = unit;
  at = at;
  stage = stage;
  bindings = bindings;
  bounds = [];
  active = [];
  implied = [];
  items = 0;
  cells = 0;
  answers = [];
}

-- a frame with one answer more
abbrev pub with_answer : ℤ → Frame → Frame
with_answer answer frame = record frame { answers = frame.answers ++ answer ∷ [] }

-- a frame with `items` items and `cells` elements or addresses done, which has these answers to the reads of what it is at
abbrev pub with_done : (items cells : ℕ) → List ℤ → Frame → Frame
with_done items cells answers frame = record frame { items = items; cells = cells; answers = answers }

-- a process of these frames and this line
abbrev pub process_with : (line : List ℕ) → List Frame → Process
process_with line frames = record { frames = frames; line = line }

-- whether an address is that of the variable of an active loop or implied DO of a frame
abbrev pub runs_on : (address : ℕ) → Frame → Bool
runs_on address frame =
    list_any (λ loop. loop.variable == address) frame.active || list_any (λ loop. loop.variable == address) frame.implied

-- whether it is that of one in any frame
abbrev pub is_blocked : (address : ℕ) → List Frame → Bool
is_blocked address frames = list_any (runs_on address) frames

-- the statement at which a frame is
abbrev pub listed_of : Program → Frame → Option Listed
listed_of program frame = statement_at program frame.unit frame.at

-- the same of the last of some frames
abbrev pub listed_of_last : Program → List Frame → Option Listed
listed_of_last program [] = None
listed_of_last program (frame ∷ below) = listed_of program frame

-- the statement at which a process is, that of its last frame
abbrev pub listed_at : Program → Process → Option Listed
listed_at program p = listed_of_last program p.frames

-- the process before the first step: one frame, at the first executable statement of the main unit, wherever that is in the
-- file
abbrev pub first_frame : Program → Frame
first_frame program = entering (main_unit program.units) (first_executable (listing_of program.units (main_unit program.units))) at_statement []

abbrev pub first_process : Program → Process
first_process program = record { frames = first_frame program ∷ []; line = [] }
