use Rattle.std.proofs.Common.{◌≡◌, ◌+◌, ◌<◌, length, drop}
use Rattle.f77_loops.specs.Adding.{AreRangesOf, loops_with}
use Rattle.f77_loops.proofs.loops.add_loops.Given as goal

abbrev pub invariant-loop-listed : goal.invariant-loop-listed
invariant-loop-listed l = record {
  next : l.next ≡ l.number + l.listed-index;
  few : length l.loops < l.next;
  left : AreRangesOf l.next (drop l.listed-index l.statements) l.ranges.items;
  added : loops_with l.unit l.next (drop l.listed-index l.statements) l.loops ≡ loops_with l.unit l.number l.statements l.initial.loops;
}
