use Rattle.std.proofs.Common.{◌≡◌, ◌++◌, false, length}
use Rattle.f77_exprs.specs.Cause.{without_constants}
use Rattle.f77_exprs.proofs.outside.without_constants.Given as goal

abbrev pub invariant-loop-byte : goal.invariant-loop-byte
invariant-loop-byte l = without_constants false l.text ≡ l.found ++ without_constants l.inside l.rest

abbrev pub decreases-loop-byte : goal.decreases-loop-byte
decreases-loop-byte l = length l.rest
