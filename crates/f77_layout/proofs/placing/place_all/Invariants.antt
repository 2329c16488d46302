use Rattle.std.proofs.Common.{◌≡◌, ◌+◌, ◌≤◌, drop, length}
use Rattle.f77_ast.specs.Limits.{most_storage_units}
use Rattle.f77_layout.specs.Layout as spec
use Rattle.f77_layout.specs.Placing.{placed_from}
use Rattle.f77_layout.proofs.placing.place_all.Given as goal

-- the other entities are still to be placed
abbrev pub invariant-loop-number : goal.invariant-loop-number
invariant-loop-number l = record {
  end : l.number-end ≡ length l.entities;
  fits : l.address + spec.total_units (drop l.number l.entities) ≤ most_storage_units;
  rest : placed_from l.number l.address l.entities ≡ spec.entities_from 0 l.initial.entities;
}
