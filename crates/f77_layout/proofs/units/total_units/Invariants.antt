use Rattle.std.proofs.Common.{◌≡◌, ◌+◌, ◌≤◌, drop, length}
use Rattle.f77_ast.specs.Limits.{most_storage_units}
use Rattle.f77_layout.specs.Layout as spec
use Rattle.f77_layout.proofs.units.total_units.Given as goal

-- with the units of the other entities there are all
abbrev pub invariant-loop-number : goal.invariant-loop-number
invariant-loop-number l = record {
  end : l.number-end ≡ length l.entities;
  fits : l.total ≤ most_storage_units;
  rest : l.total + spec.total_units (drop l.number l.entities) ≡ spec.total_units l.entities;
}
