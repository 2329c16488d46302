use Rattle.std.proofs.Common.{◌≡◌, drop, find}
use Rattle.f77_leaves.specs.Intrinsics.{is_spelled}
use Rattle.f77_leaves.proofs.intrinsics.first_spelled.Given as goal

abbrev pub invariant-loop-intrinsic : goal.invariant-loop-intrinsic
invariant-loop-intrinsic l = find (is_spelled l.name) l.intrinsics ≡ find (is_spelled l.name) (drop l.intrinsic-index l.intrinsics)
