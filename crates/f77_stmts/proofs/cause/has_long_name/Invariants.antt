use Rattle.std.proofs.Common.{◌≡◌, false, length}
use Rattle.f77_stmts.specs.Cause.{long_name_from}
use Rattle.f77_stmts.proofs.cause.has_long_name.Given as goal

abbrev pub invariant-loop-byte : goal.invariant-loop-byte
invariant-loop-byte l = long_name_from 32 false l.plain ≡ long_name_from l.before l.seen l.rest

abbrev pub decreases-loop-byte : goal.decreases-loop-byte
decreases-loop-byte l = length l.rest
