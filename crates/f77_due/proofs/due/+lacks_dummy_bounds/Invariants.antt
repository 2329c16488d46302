use Rattle.std.proofs.Common.{length}
use Rattle.f77_due.proofs.due.+lacks_dummy_bounds.Given as goal

abbrev pub decreases-lacks_dummy_bounds : goal.decreases-lacks_dummy_bounds
decreases-lacks_dummy_bounds l = length l.bounds.now
