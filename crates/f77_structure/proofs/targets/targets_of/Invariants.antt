use Rattle.std.proofs.Common.{◌≡◌, ℕ, ◌≤◌, length, drop}
use Rattle.f77_structure.specs.Labels.{target_from}
use Rattle.f77_structure.specs.Targets.{place_of}
use Rattle.f77_structure.proofs.targets.targets_of.Given as goal

abbrev pub invariant-loop-place : goal.invariant-loop-place
invariant-loop-place l = record {
  within : l.place ≤ length l.unit;
  places : (label : ℕ) → place_of l.targets label ≡ target_from l.place label (drop l.place l.unit);
}

abbrev pub decreases-loop-place : goal.decreases-loop-place
decreases-loop-place l = l.place
