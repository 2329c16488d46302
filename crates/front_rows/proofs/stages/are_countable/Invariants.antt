use Rattle.std.proofs.Common.{◌≡◌, ◌+◌, ◌≤◌, drop}
use Rattle.f77_structure.specs.Units.{statement_count}
use Rattle.front_rows.proofs.stages.are_countable.Given as goal

abbrev pub invariant-loop-unit : goal.invariant-loop-unit
invariant-loop-unit l = record {
  count : l.count + statement_count (drop l.unit-index l.all) ≡ statement_count l.all;
  few : l.count ≤ 40000;
}
