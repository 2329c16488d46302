-- The region at `low` begins at the address or before it, and the one at `high` after it.
use Rattle.std.proofs.Common.{◌<◌, ◌≤◌, ◌-◌, length, get_or}
use Rattle.loop_trace.proofs.regions.region_at.Given as goal

abbrev pub invariant-loop-low : goal.invariant-loop-low
invariant-loop-low l = record {
  within : 0 < length l.starts → l.low < l.high;
  low_in : l.low ≤ l.high;
  high_in : l.high ≤ length l.starts;
  from : 0 < length l.starts → get_or l.starts 0 0 ≤ l.address → get_or l.starts l.low 0 ≤ l.address;
  next : l.high < length l.starts → l.address < get_or l.starts l.high 0;
}

abbrev pub decreases-loop-low : goal.decreases-loop-low
decreases-loop-low l = l.high - l.low
