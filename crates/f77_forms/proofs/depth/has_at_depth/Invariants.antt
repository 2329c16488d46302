use Rattle.std.proofs.Common.{◌≡◌, ◌≤◌, ◌+◌, false, length}
use Rattle.f77_forms.specs.Depth.{has_at_depth}
use Rattle.f77_forms.proofs.depth.has_at_depth.Given as goal

abbrev pub invariant-loop-next : goal.invariant-loop-next
invariant-loop-next l = record {
  rest : has_at_depth l.byte l.at false 0 l.text ≡ has_at_depth l.byte l.at l.inside l.depth l.rest;
  within : l.depth + length l.rest ≤ length l.text;
}

abbrev pub decreases-loop-next : goal.decreases-loop-next
decreases-loop-next l = length l.rest
