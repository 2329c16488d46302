use Rattle.std.proofs.Common.{length}
use Rattle.f77_sizes.proofs.sizes.+element_at.Given as goal

abbrev pub decreases-element_at : goal.decreases-element_at
decreases-element_at l = length l.bounds.now
