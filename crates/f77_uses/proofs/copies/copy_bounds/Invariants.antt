use Rattle.std.proofs.Common.{◌≡◌, ◌++◌, drop}
use Rattle.f77_uses.proofs.copies.copy_bounds.Given as goal

-- the copies of the others are still to be added
abbrev pub invariant-loop-bound : goal.invariant-loop-bound
invariant-loop-bound l = l.copies ++ drop l.bound-index l.bounds ≡ l.bounds
