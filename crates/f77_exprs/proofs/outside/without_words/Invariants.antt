use Rattle.std.proofs.Common.{◌≡◌, ◌++◌, length}
use Rattle.f77_exprs.specs.Cause.{without_words}
use Rattle.f77_exprs.proofs.outside.without_words.Given as goal

abbrev pub invariant-loop-byte : goal.invariant-loop-byte
invariant-loop-byte l = without_words 0 l.text ≡ l.found ++ without_words l.left l.rest

abbrev pub decreases-loop-byte : goal.decreases-loop-byte
decreases-loop-byte l = length l.rest
