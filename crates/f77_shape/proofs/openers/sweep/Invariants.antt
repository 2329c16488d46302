use Rattle.std.proofs.Common.{◌≡◌, vec_len}
use Rattle.f77_shape.specs.Openers.{AreFound}
use Rattle.f77_shape.proofs.openers.sweep.Given as goal

abbrev pub invariant-loop-place : goal.invariant-loop-place
invariant-loop-place l = record {
  count : vec_len l.openers ≡ l.place;
  found : AreFound l.farthest l.openers.items;
}
