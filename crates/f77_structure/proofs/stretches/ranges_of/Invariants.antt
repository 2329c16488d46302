use Rattle.std.proofs.Common.{◌≡◌, ◌++◌, drop}
use Rattle.f77_structure.specs.Stretches.{ranges_from, ranges_of}
use Rattle.f77_structure.proofs.stretches.ranges_of.Given as goal

abbrev pub invariant-loop-place : goal.invariant-loop-place
invariant-loop-place l = l.ranges.items ++ ranges_from l.unit l.place (drop l.place l.unit) ≡ ranges_of l.unit
