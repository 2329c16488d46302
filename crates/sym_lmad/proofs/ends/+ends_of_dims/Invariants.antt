use Rattle.std.proofs.Common.{length}
use Rattle.sym_lmad.proofs.ends.+ends_of_dims.Given as goal

abbrev pub decreases-ends_of_dims : goal.decreases-ends_of_dims
decreases-ends_of_dims g l = length l.dims.now
