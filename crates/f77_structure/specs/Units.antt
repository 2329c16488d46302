-- Program units: how the statements of a file are cut into them, and their statements by place (ANSI X3.9-1978, section 2.4).
use Rattle.std.specs.Prelude.{All, IsFalse, ◌≡◌, ℕ, zero, suc, ◌+◌, Bool, true, false, not, List, [], ◌∷◌, ◌++◌, drop, length, map, Option, None, Some, slice_get, if◌then◌else◌}
use Rattle.std.specs.List.{position_or_len, prefix_len}
use Rattle.f77_ast.specs.declared.code.Code.{Code}
use Rattle.f77_ast.specs.declared.program.Listed.{Listed}
use Rattle.f77_ast.specs.declared.program.Program.{Program}
use Rattle.f77_ast.specs.declared.program.Unit.{Unit as ProgramUnit}
use Rattle.f77_ast.specs.declared.stmt.Stmt.{End}
use Rattle.f77_structure.specs.Statements.{is_end, begins_subprogram, header_name, is_executable}

-- the unit of the statements behind the last END, where there are any
abbrev pub without_end : List Listed → List (List Listed)
without_end [] = []
without_end (first ∷ following) = (first ∷ following) ∷ []

-- a statement before those of the first of some units
abbrev pub onto_first : Listed → List (List Listed) → List (List Listed)
onto_first listed [] = (listed ∷ []) ∷ []
onto_first listed (unit ∷ units) = (listed ∷ unit) ∷ units

-- a file is a list of units, each ending with END: the statements are cut behind each END, and those behind the last END
-- are a unit without END where there are any
abbrev pub cut : List Listed → List (List Listed)
cut [] = []
cut (listed ∷ following) = if is_end listed.stmt then (listed ∷ []) ∷ cut following else onto_first listed (cut following)

-- a unit whose first statement isn't SUBROUTINE or FUNCTION is a main unit, with PROGRAM or without
abbrev pub is_main : List Listed → Bool
is_main [] = true
is_main (first ∷ following) = not (begins_subprogram first.stmt)

-- the name of a unit; a main unit without PROGRAM has none
abbrev pub name_of : List Listed → Option (List ℕ)
name_of [] = None
name_of (first ∷ following) = header_name first.stmt

-- the code of no statement
abbrev pub no_code : Code
no_code = record { instrs = []; starts = []; texts = []; nexts = []; targets = [] }

-- a unit of these statements, whose code isn't made yet
abbrev pub unit_of : List Listed → ProgramUnit
unit_of listing = record { name = name_of listing; listing = listing; code = no_code }

-- the units of a file
abbrev pub units_of : List Listed → List ProgramUnit
units_of statements = map unit_of (cut statements)

-- statements, of which the last one is END, and no other (ANSI X3.9-1978, sections 2.4 and 11.14)
pub record EndsWithEnd (listing : List Listed) : Type 0 where
  pub before : List Listed
  pub last : Listed
  pub joined : listing ≡ before ++ last ∷ []
  pub nowhere_else : All (λ listed. IsFalse (is_end listed.stmt)) before
  pub is_end : last.stmt ≡ End

-- whether there is a statement, and it is executable
abbrev pub executes : Option Listed → Bool
executes None = false
executes (Some listed) = is_executable listed.stmt

-- the statements of a unit; none where there is no such unit
abbrev pub listing_of : List ProgramUnit → (unit : ℕ) → List Listed
listing_of [] unit = []
listing_of (first ∷ units) zero = first.listing
listing_of (first ∷ units) (suc unit) = listing_of units unit

-- the statement at a place of a unit, both counted from 0
abbrev pub statement_at : Program → (unit at : ℕ) → Option Listed
statement_at program unit at = slice_get (listing_of program.units unit) at

-- the initial line of that statement
abbrev pub source_line : Option Listed → ℕ
source_line None = 0
source_line (Some listed) = listed.card.line

-- the place of the first executable statement of some statements
abbrev pub first_executable : List Listed → ℕ
first_executable listing = prefix_len (λ listed. not (is_executable listed.stmt)) listing

-- the place at which control goes on after the statement at a place (section 11): that of the next executable statement, since DATA
-- takes no step
abbrev pub next_place : (listing : List Listed) → (at : ℕ) → ℕ
next_place listing at = at + 1 + first_executable (drop (at + 1) listing)

-- how many statements some units have
abbrev pub statement_count : List ProgramUnit → ℕ
statement_count [] = 0
statement_count (first ∷ units) = length first.listing + statement_count units

-- how many statements stand in the units before this one
abbrev pub statements_before : List ProgramUnit → (unit : ℕ) → ℕ
statements_before [] unit = 0
statements_before (first ∷ units) zero = 0
statements_before (first ∷ units) (suc unit) = length first.listing + statements_before units unit

-- which statement of the file, counted from 1, stands at a place of a unit, counted from 0
abbrev pub statement_number : List ProgramUnit → (unit at : ℕ) → ℕ
statement_number units unit at = 1 + (statements_before units unit + at)

-- the place of the main unit among some units; their number where there is none
abbrev pub main_unit : List ProgramUnit → ℕ
main_unit units = position_or_len (λ unit. is_main unit.listing) units
