use Rattle.std.proofs.Common.{◌≡◌, ◌≤◌, slice_index}
use Rattle.f77_shape.specs.Openers.{opener_before}
use Rattle.f77_shape.proofs.openers.opener_of.Given as goal

abbrev pub invariant-loop-end : goal.invariant-loop-end
invariant-loop-end l = record {
  within : l.end ≤ l.place;
  same : opener_before (slice_index l.farthest) l.place l.end ≡ opener_before (slice_index l.farthest) l.place l.place;
}

abbrev pub decreases-loop-end : goal.decreases-loop-end
decreases-loop-end l = l.end
