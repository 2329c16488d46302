-- The units of a file that is a program (ANSI X3.9-1978, section 2.4).
use Rattle.f77_ast.specs.declared.rule.Rule.TheVariants.{NoProgram}
use Rattle.std.specs.Prelude.{ℕ, ◌-◌, Bool, false, not, ◌==◌, ◌&&◌, ◌||◌, List, [], ◌∷◌, ◌++◌, length, Option, None, Some, slice_get, if◌then◌else◌}
use Rattle.std.specs.List.{list_any}
use Rattle.f77_ast.specs.declared.program.Listed.{Listed}
use Rattle.f77_ast.specs.declared.program.Unit.{Unit as ProgramUnit}
use Rattle.f77_ast.specs.declared.refusal.Refusal.{Refusal}
use Rattle.f77_ast.specs.declared.rule.Rule.{Rule}
use Rattle.f77_ast.specs.Refusal.{when, refusal_by}
use Rattle.f77_shape.specs.Breaks.{at}
use Rattle.f77_structure.specs.Statements.{is_end}
use Rattle.f77_structure.specs.Units.{is_main}

-- NoProgram at line 1
abbrev pub no_program : Refusal
no_program = refusal_by 1 NoProgram

-- the first statement of a unit is refused by a rule
abbrev pub first_refused : Rule → List Listed → List Refusal
first_refused rule [] = []
first_refused rule (first ∷ following) = at first rule ∷ []

-- NoProgram: the first statement of a main unit that stands behind another one; `behind` tells whether one stands before these
abbrev pub second_mains : (behind : Bool) → List ProgramUnit → List Refusal
second_mains behind [] = []
second_mains behind (unit ∷ units) =
    (if behind && is_main unit.listing then first_refused NoProgram unit.listing else []) ++ second_mains (behind || is_main unit.listing) units

-- NoProgram: no main unit, at line 1; the first statement of a second main unit, and of each further one
abbrev pub main_breaks : List ProgramUnit → List Refusal
main_breaks units = when (not (list_any (λ unit. is_main unit.listing) units)) no_program ++ second_mains false units

-- NoProgram: the last statement of a unit without END, which is the last of the file; line 1 in a file of one statement
abbrev pub end_breaks_by : (count : ℕ) → Option Listed → List Refusal
end_breaks_by count None = []
end_breaks_by count (Some last) = when (not (is_end last.stmt)) (if count == 1 then no_program else at last NoProgram)

abbrev pub end_breaks : List Listed → List Refusal
end_breaks statements = end_breaks_by (length statements) (slice_get statements (length statements - 1))
