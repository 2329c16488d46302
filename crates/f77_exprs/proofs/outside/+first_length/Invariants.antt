use Rattle.std.proofs.Common.{length}
use Rattle.f77_exprs.proofs.outside.+first_length.Given as goal

abbrev pub decreases-first_length : goal.decreases-first_length
decreases-first_length l = length l.words.now
