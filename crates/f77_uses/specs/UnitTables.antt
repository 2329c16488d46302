-- The declarations of a unit, as the code makes them.
use Rattle.std.specs.Prelude.{◌≡◌, List}
use Rattle.f77_ast.specs.declared.program.Listed.{Listed}
use Rattle.f77_ast.specs.declared.rule.Rule.TheVariants.{DoubleName}
use Rattle.f77_ast.specs.Refusal.{first_of}
use Rattle.f77_leaves.specs.Declarations.{declarations_of}
use Rattle.f77_uses.specs.Breaks.{declares_twice}
use Rattle.f77_uses.specs.Refused.{broken_by}
use Rattle.f77_uses.specs.Tables.{told_by}
use Rattle.f77_uses.specs.declared.unit_tables.Declaring.{Declaring}

-- the tables tell what the unit declares, and what comes with them is the first statement that declares something twice
pub record IsDeclared (unit : List Listed) (declared : Declaring) : Type 0 where
  pub tells : told_by declared.tables ≡ declarations_of unit
  pub twice : declared.twice ≡ first_of (broken_by DoubleName (declares_twice unit) 0 unit)
