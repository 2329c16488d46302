use Rattle.std.proofs.Common.{◌≡◌, ◌≤◌, drop, length}
use Rattle.f77_ast.specs.Limits.{most_storage_units}
use Rattle.f77_built.specs.Built.{first_past}
use Rattle.f77_built.proofs.past.first_past.Given as goal

-- the entities so far are within the limit
abbrev pub invariant-loop-number : goal.invariant-loop-number
invariant-loop-number l = record {
  end : l.number-end ≡ length l.entities;
  fits : l.total ≤ most_storage_units;
  rest : first_past l.total (drop l.number l.entities) ≡ first_past 0 l.entities;
}
