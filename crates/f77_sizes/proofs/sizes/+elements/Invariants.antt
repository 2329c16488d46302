use Rattle.std.proofs.Common.{length}
use Rattle.f77_sizes.proofs.sizes.+elements.Given as goal

abbrev pub decreases-elements : goal.decreases-elements
decreases-elements l = length l.bounds.now
