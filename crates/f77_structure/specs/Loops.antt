-- The DO-loops of a program (ANSI X3.9-1978, section 11.10).
use Rattle.std.specs.Prelude.{ℕ, suc, ◌+◌, ◌≤◌, ◌==◌, not, List, [], ◌∷◌, ◌++◌, length, take, Option, find}
use Rattle.std.specs.List.{list_all}
use Rattle.std.specs.Option.{option_map_or}
use Rattle.f77_ast.specs.declared.program.Listed.{Listed}
use Rattle.f77_ast.specs.declared.program.Loop.{Loop}
use Rattle.f77_ast.specs.declared.program.Unit.{Unit as ProgramUnit}
use Rattle.f77_structure.specs.Labels.{distance_to}
use Rattle.f77_structure.specs.Statements.{terminal_label, is_barrier}

-- the loop of a DO statement: `number` is its statement's place in the file, counted from 1, and these statements follow
-- it in its unit. Its range is from the first of them to the first executable one with its label
abbrev pub loop_from : (unit ordinal number line label : ℕ) → List Listed → Loop
loop_from unit ordinal number line label following = record {
  line = line;
  ordinal = ordinal;
  unit = unit;
  from = number + 1;
  last = number + 1 + distance_to label following;
  closed = list_all (λ listed. not (is_barrier listed.stmt)) (take (1 + distance_to label following) following);
}

-- the loops of the DO statements among some statements of a unit, where the first of these is statement `number` of the
-- file, and the next DO statement is the one of this ordinal
abbrev pub loops_in : (unit ordinal number : ℕ) → List Listed → List Loop
loops_in unit ordinal number [] = []
loops_in unit ordinal number (listed ∷ following) =
    option_map_or
    (λ label. loop_from unit ordinal number listed.card.line label following ∷ loops_in unit (suc ordinal) (suc number) following)
    (terminal_label listed.stmt)
    (loops_in unit ordinal (suc number) following)

-- the same of some units, the first of which is this one
abbrev pub loops_among : (unit ordinal number : ℕ) → List ProgramUnit → List Loop
loops_among unit ordinal number [] = []
loops_among unit ordinal number (first ∷ units) =
    let loops = loops_in unit ordinal number first.listing in
    loops ++ loops_among (suc unit) (ordinal + length loops) (number + length first.listing) units

-- the loops of a file: its units count from 0, DO statements and statements from 1
abbrev pub loops_of : List ProgramUnit → List Loop
loops_of units = loops_among 0 1 1 units

-- the loop whose range begins with this statement of the file
abbrev pub loop_with_range_from : List Loop → (number : ℕ) → Option Loop
loop_with_range_from loops number = find (λ loop. loop.from == number) loops

-- the ranges of some loops begin no earlier than at this statement of the file, and none before that of the loop before it
abbrev pub StartInOrder : (low : ℕ) → List Loop → Type 0
StartInOrder low [] = Unit {0}
StartInOrder low (loop ∷ loops) = (low ≤ loop.from) × StartInOrder loop.from loops
