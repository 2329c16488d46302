-- What every accepted file satisfies.
use Rattle.std.specs.Prelude.{◌≡◌, ◌≢◌, ◌≤◌, ℕ, List, Some, Ok, length, All, IsTrue, IsFalse, slice_get}
use Rattle.std.specs.List.{flat_map}
use Rattle.f77_ast.specs.Limits.{most_statements, most_units}
use Rattle.f77_ast.specs.declared.program.Listed.{Listed}
use Rattle.f77_ast.specs.declared.program.Unit.{Unit as ProgramUnit}
use Rattle.f77_structure.specs.Units.{statement_count, EndsWithEnd, is_main}
use Rattle.f77_structure.specs.Ranges.{RangesNest}
use Rattle.f77_shape.specs.Shape.{shape_of}

-- each DO statement of an accepted unit has its range, and ranges nest
abbrev pub AcceptedRangesNest : Type 0
AcceptedRangesNest = (statements : List Listed) (units : List ProgramUnit) → shape_of statements ≡ Ok units → All (λ unit. RangesNest unit.listing) units

-- the statements of an accepted file's units are those of the file, in their order, and there are no more statements and units than there may be
pub record IsSmall (statements : List Listed) (units : List ProgramUnit) : Type 0 where
  pub all : flat_map (λ unit. unit.listing) units ≡ statements
  pub counted : statement_count units ≡ length statements
  pub few_statements : length statements ≤ most_statements
  pub few_units : length units ≤ most_units

abbrev pub AcceptedFilesAreSmall : Type 0
AcceptedFilesAreSmall = (statements : List Listed) (units : List ProgramUnit) → shape_of statements ≡ Ok units → IsSmall statements units

-- each accepted unit ends with END, which is nowhere else in it; so it has a statement
abbrev pub AcceptedUnitsEnd : Type 0
AcceptedUnitsEnd = (statements : List Listed) (units : List ProgramUnit) → shape_of statements ≡ Ok units → All (λ unit. EndsWithEnd unit.listing) units

-- one of some units is a main unit, and all others are subprograms
pub record HasOneMain (units : List ProgramUnit) : Type 0 where
  pub place : ℕ
  pub unit : ProgramUnit
  pub stands : slice_get units place ≡ Some unit
  pub main : IsTrue (is_main unit.listing)
  pub others : (k : ℕ) (other : ProgramUnit) → slice_get units k ≡ Some other → k ≢ place → IsFalse (is_main other.listing)

-- an accepted file has exactly one main unit
abbrev pub AcceptedFilesHaveOneMain : Type 0
AcceptedFilesHaveOneMain = (statements : List Listed) (units : List ProgramUnit) → shape_of statements ≡ Ok units → HasOneMain units
