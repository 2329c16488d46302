-- The ranges of DO statements by themselves, before they have their places in a file.
use Rattle.std.specs.Prelude.{ℕ, suc, ◌+◌, not, List, [], ◌∷◌, take, Option, None, Some, if◌then◌else◌}
use Rattle.std.specs.List.{list_all}
use Rattle.std.specs.Option.{option_map_or}
use Rattle.f77_ast.specs.declared.program.Listed.{Listed}
use Rattle.f77_ast.specs.declared.program.Loop.{Loop}
use Rattle.f77_loops.specs.declared.ranges.Range.{Range}
use Rattle.f77_structure.specs.Labels.{distance_to}
use Rattle.f77_structure.specs.Statements.{terminal_label, is_barrier}

-- the range of a DO statement, which is statement `number` of the file: these statements follow it in its unit
abbrev pub range_from : (number label : ℕ) → List Listed → Range
range_from number label following = record {
  last = number + 1 + distance_to label following;
  closed = list_all (λ listed. not (is_barrier listed.stmt)) (take (1 + distance_to label following) following);
}

-- the ranges of the DO statements among some statements of a unit, where the first of these is statement `number`
abbrev pub ranges_in : (number : ℕ) → List Listed → List Range
ranges_in number [] = []
ranges_in number (listed ∷ following) =
    option_map_or (λ label. range_from number label following ∷ ranges_in (suc number) following) (terminal_label listed.stmt) (ranges_in (suc number) following)

-- the first barrier of some statements, where the first of all is statement `number`
abbrev pub barrier_in : (number : ℕ) → List Listed → Option ℕ
barrier_in number [] = None
barrier_in number (listed ∷ following) = if is_barrier listed.stmt then Some number else barrier_in (suc number) following

-- a loop with its range, whose first statement has this number
abbrev pub loop_with : (unit ordinal from line : ℕ) → Range → Loop
loop_with unit ordinal from line range = record {
  line = line;
  ordinal = ordinal;
  unit = unit;
  from = from;
  last = range.last;
  closed = range.closed;
}
