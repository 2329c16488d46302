use Rattle.std.proofs.Common.{length}
use Rattle.sym_lmad.proofs.each.+add_extents.Given as goal

abbrev pub decreases-add_extents : goal.decreases-add_extents
decreases-add_extents g l = length l.dims.now
