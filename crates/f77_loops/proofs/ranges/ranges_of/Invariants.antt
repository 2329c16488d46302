use Rattle.std.proofs.Common.{◌+◌, ◌≤◌, length, drop}
use Rattle.f77_loops.specs.Following.{Knows}
use Rattle.f77_loops.proofs.ranges.ranges_of.Given as goal

abbrev pub invariant-loop-at : goal.invariant-loop-at
invariant-loop-at l = record {
  within : l.at ≤ length l.statements;
  knows : Knows (l.number + l.at) (drop l.at l.statements) l.following;
}

abbrev pub decreases-loop-at : goal.decreases-loop-at
decreases-loop-at l = l.at
