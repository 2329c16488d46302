use Rattle.std.proofs.Common.{length}
use Rattle.f77_stmts.proofs.cause.+begins_any.Given as goal

abbrev pub decreases-begins_any : goal.decreases-begins_any
decreases-begins_any l = length l.words.now
