use Rattle.std.proofs.Common.{◌≡◌, ℕ, ◌<◌, drop, slice_index, vec_len}
use Rattle.f77_shape.specs.Openers.{farthest_from, farthest}
use Rattle.f77_shape.proofs.openers.farthest_of.Given as goal

abbrev pub invariant-loop-stretch : goal.invariant-loop-stretch
invariant-loop-stretch l = record {
  count : vec_len l.farthest ≡ l.count;
  at : (opens : ℕ) → opens < l.count → farthest_from (slice_index l.farthest.items opens) opens (drop l.stretch-index l.stretches) ≡ farthest opens l.stretches;
}
