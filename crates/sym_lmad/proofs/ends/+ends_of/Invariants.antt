use Rattle.std.proofs.Common.{length}
use Rattle.sym_lmad.proofs.ends.+ends_of.Given as goal

abbrev pub decreases-ends_of : goal.decreases-ends_of
decreases-ends_of l = length l.extents.now
