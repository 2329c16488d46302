use Rattle.std.proofs.Common.{◌≡◌, List, drop}
use Rattle.std.specs.List.{list_any}
use Rattle.f77_ast.specs.declared.program.Listed.{Listed}
use Rattle.f77_shape.specs.Jumps.{enters}
use Rattle.f77_structure.specs.Labels.{target_in}
use Rattle.f77_shape.specs.UnitTables.{AreUnitTables}
use Rattle.f77_shape.proofs.jumps.enters_by_one.Given as goal

abbrev pub invariant-loop-label : goal.invariant-loop-label
invariant-loop-label l = (unit : List Listed) → AreUnitTables unit l.places → list_any (λ label. enters unit l.from (target_in label unit)) (drop l.label-index l.labels) ≡ list_any (λ label. enters unit l.from (target_in label unit)) l.labels
