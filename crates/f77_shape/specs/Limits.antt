-- The limits on statements, units and names; they are this project's own.
use Rattle.f77_ast.specs.declared.rule.Rule.TheVariants.{SizeLimit}
use Rattle.f77_ast.specs.Limits.{most_statements, most_units, most_names}
use Rattle.std.specs.Prelude.{ℕ, ◌+◌, Bool, ◌&&◌, not, nat_lt, nat_eq, List, [], ◌∷◌, ◌++◌, Option, None, Some, slice_get}
use Rattle.std.specs.Cmp.Lexicographic.{pointwise}
use Rattle.std.specs.List.{flat_map}
use Rattle.std.specs.Set.{distinct_count}
use Rattle.f77_ast.specs.declared.program.Listed.{Listed}
use Rattle.f77_ast.specs.declared.program.Unit.{Unit as ProgramUnit}
use Rattle.f77_ast.specs.declared.refusal.Refusal.{Refusal}
use Rattle.f77_ast.specs.Refusal.{when}
use Rattle.f77_shape.specs.Breaks.{at}
use Rattle.f77_shape.specs.Names.{names_in}
use Rattle.f77_shape.specs.Program.{first_refused}

-- SizeLimit: a statement that is one too many
abbrev pub statement_over : Option Listed → List Refusal
statement_over None = []
statement_over (Some listed) = at listed SizeLimit ∷ []

-- SizeLimit: the first statement of a file that is one too many
abbrev pub statement_breaks : List Listed → List Refusal
statement_breaks statements = statement_over (slice_get statements most_statements)

-- SizeLimit: the first statement of a unit that is one too many
abbrev pub unit_over : Option ProgramUnit → List Refusal
unit_over None = []
unit_over (Some unit) = first_refused SizeLimit unit.listing

-- SizeLimit: the first statement of the first unit that is one too many
abbrev pub unit_breaks : List ProgramUnit → List Refusal
unit_breaks units = unit_over (slice_get units most_units)

-- the names that stand in some statements
abbrev pub names_of : List Listed → List (List ℕ)
names_of listing = flat_map (λ listed. names_in listed.stmt) listing

-- how many different names there are among some
abbrev pub name_count : List (List ℕ) → ℕ
name_count names = distinct_count (pointwise nat_eq) names

-- whether a number of names passes the limit
abbrev pub is_past : ℕ → Bool
is_past count = nat_lt most_names count

-- whether the limit is passed between two numbers of names
abbrev pub passes : (before after : ℕ) → Bool
passes before after = not (is_past before) && is_past after

-- SizeLimit: the statement at which the number of names, each counted once in each unit in which it stands, passes the limit:
-- `others` names stand in the units before, and these names before in the unit
abbrev pub names_pass : (others : ℕ) → (earlier : List (List ℕ)) → List Listed → List Refusal
names_pass others earlier [] = []
names_pass others earlier (listed ∷ following) =
    when (passes (others + name_count earlier) (others + name_count (earlier ++ names_in listed.stmt))) (at listed SizeLimit)
    ++ names_pass others (earlier ++ names_in listed.stmt) following

abbrev pub name_breaks : (others : ℕ) → List ProgramUnit → List Refusal
name_breaks others [] = []
name_breaks others (unit ∷ units) = names_pass others [] unit.listing ++ name_breaks (others + name_count (names_of unit.listing)) units
