use Rattle.std.proofs.Common.{◌≡◌, ◌+◌, ◌<◌, ◌++◌, length, drop}
use Rattle.f77_structure.specs.Loops.{loops_among, loops_of}
use Rattle.f77_structure.specs.Units.{statement_count}
use Rattle.f77_loops.proofs.loops.loops.Given as goal

abbrev pub invariant-loop-unit : goal.invariant-loop-unit
invariant-loop-unit l = record {
  number : l.number + statement_count (drop l.unit l.all) ≡ 1 + statement_count l.all;
  few : length l.loops < l.number;
  added : l.loops ++ loops_among l.unit (length l.loops + 1) l.number (drop l.unit l.all) ≡ loops_of l.all;
}
