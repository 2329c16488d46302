use Rattle.std.proofs.Common.{arith}
use Rattle.std.proofs.lemmas.Int.{ints}
use Rattle.f77_machine.proofs.count.distance.Goals as goal

pub returns-clause-value : goal.returns-clause-value
returns-clause-value c = omega (arith, ints, c.from.ensures, c.from-2.ensures, c.from-3.ensures, c.ranges.first.sfits, c.ranges.last.sfits, c.ranges.increment.sfits)

pub returns-clause-above : goal.returns-clause-above
returns-clause-above c = omega (arith, ints, c.from.ensures, c.from-2.ensures, c.from-3.ensures, c.ranges.first.sfits, c.ranges.last.sfits, c.ranges.increment.sfits)

pub returns-clause-below : goal.returns-clause-below
returns-clause-below c = omega (arith, ints, c.from.ensures, c.from-2.ensures, c.from-3.ensures, c.ranges.first.sfits, c.ranges.last.sfits, c.ranges.increment.sfits)
