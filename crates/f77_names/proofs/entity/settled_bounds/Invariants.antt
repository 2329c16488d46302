use Rattle.std.proofs.Common.{◌≡◌, ◌++◌, drop, map}
use Rattle.f77_due.specs.Starts.{facts_in}
use Rattle.f77_names.specs.Entities.{settled_bound}
use Rattle.f77_names.proofs.entity.settled_bounds.Given as goal

-- the others are still to be added
abbrev pub invariant-loop-bound : goal.invariant-loop-bound
invariant-loop-bound l = l.made ++ map (settled_bound (facts_in l.unit)) (drop l.bound-index l.bounds) ≡ map (settled_bound (facts_in l.unit)) l.bounds
