-- The shape of a file: all that is broken in its statements, and its units where nothing is.
use Rattle.f77_ast.specs.declared.rule.Rule.TheVariants.{DoNesting, DoubleLabel, IfNesting, JumpIntoRange, LabelMissing, StatementOrder}
use Rattle.std.specs.Prelude.{List, ◌++◌, Option, None, Some, Result, Ok, Err}
use Rattle.std.specs.List.{flat_map}
use Rattle.f77_ast.specs.declared.program.Listed.{Listed}
use Rattle.f77_ast.specs.declared.program.Unit.{Unit as ProgramUnit}
use Rattle.f77_ast.specs.declared.refusal.Refusal.{Refusal}
use Rattle.f77_ast.specs.Refusal.{first_of}
use Rattle.f77_shape.specs.Blocks.{is_misplaced_part, is_unended}
use Rattle.f77_shape.specs.Breaks.{broken_by}
use Rattle.f77_shape.specs.Jumps.{jumps_in}
use Rattle.f77_shape.specs.Labels.{misses_label, doubles_label}
use Rattle.f77_shape.specs.Limits.{statement_breaks, unit_breaks, name_breaks}
use Rattle.f77_shape.specs.Order.{is_out_of_order}
use Rattle.f77_shape.specs.Program.{main_breaks, end_breaks}
use Rattle.f77_shape.specs.Ranges.{breaks_range}
use Rattle.f77_structure.specs.Units.{units_of}

-- what is broken in the statements of one unit: codes 50 to 53, 55 and 57
abbrev pub breaks_in : List Listed → List Refusal
breaks_in unit =
    broken_by LabelMissing (misses_label unit) 0 unit
    ++ broken_by DoubleLabel (doubles_label unit) 0 unit
    ++ broken_by DoNesting (breaks_range unit) 0 unit
    ++ broken_by IfNesting (is_misplaced_part unit) 0 unit
    ++ broken_by IfNesting is_unended 0 unit
    ++ broken_by JumpIntoRange (jumps_in unit) 0 unit
    ++ broken_by StatementOrder (is_out_of_order unit) 0 unit

-- what is broken in some units: the same of each, and codes 54 and 56 of all
abbrev pub breaks_among : List ProgramUnit → List Refusal
breaks_among units = main_breaks units ++ unit_breaks units ++ name_breaks 0 units ++ flat_map (λ unit. breaks_in unit.listing) units

-- all that is broken in a file: codes 50 to 57
abbrev pub breaks_of : List Listed → List Refusal
breaks_of statements = end_breaks statements ++ statement_breaks statements ++ breaks_among (units_of statements)

-- the units, where nothing is refused
abbrev pub unless_refused : Option Refusal → List ProgramUnit → Result (List ProgramUnit) Refusal
unless_refused None units = Ok units
unless_refused (Some refusal) units = Err refusal

-- the units of a file, or its first refusal: of the least line, and on that line of the least code
abbrev pub shape_of : List Listed → Result (List ProgramUnit) Refusal
shape_of statements = unless_refused (first_of (breaks_of statements)) (units_of statements)
