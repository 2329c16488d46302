use Rattle.std.proofs.Common.{◌≡◌, length}
use Rattle.f77_exprs.specs.Cause.{makes, somewhere}
use Rattle.f77_exprs.proofs.cause.somewhere.Given as goal

abbrev pub invariant-loop-byte : goal.invariant-loop-byte
invariant-loop-byte l = somewhere (makes l.cause) 32 l.text ≡ somewhere (makes l.cause) l.before l.rest

abbrev pub decreases-loop-byte : goal.decreases-loop-byte
decreases-loop-byte l = length l.rest
