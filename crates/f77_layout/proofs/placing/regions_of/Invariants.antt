use Rattle.std.proofs.Common.{◌≡◌, ◌+◌, ◌≤◌, ◌++◌, drop, length}
use Rattle.f77_ast.specs.Limits.{most_storage_units}
use Rattle.f77_layout.specs.Layout as spec
use Rattle.f77_layout.proofs.placing.regions_of.Given as goal

-- with the regions of the other entities there are all
abbrev pub invariant-loop-number : goal.invariant-loop-number
invariant-loop-number l = record {
  end : l.number-end ≡ length l.entities;
  fits : l.address + spec.total_units (drop l.number l.entities) ≤ most_storage_units;
  rest : l.regions ++ spec.regions_from l.address (drop l.number l.entities) ≡ spec.regions_from 0 l.entities;
}
