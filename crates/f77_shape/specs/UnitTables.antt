-- The tables of a unit: its labels, its DO ranges and its IF blocks.
use Rattle.std.specs.Prelude.{List}
use Rattle.f77_ast.specs.declared.program.Listed.{Listed}
use Rattle.f77_shape.specs.declared.unit_tables.UnitTables.{UnitTables}
use Rattle.f77_shape.specs.StretchIndex.{IsStretchIndex}
use Rattle.f77_structure.specs.Blocks.{blocks_of}
use Rattle.f77_structure.specs.Stretches.{ranges_of}
use Rattle.f77_structure.specs.Targets.{AreTargets}

-- the tables are those of a unit
pub record AreUnitTables (unit : List Listed) (places : UnitTables) : Type 0 where
  pub targets : AreTargets unit places.targets
  pub ranges : IsStretchIndex (ranges_of unit) places.ranges
  pub blocks : IsStretchIndex (blocks_of unit) places.blocks
