use Rattle.std.proofs.Common.{◌≡◌, drop}
use Rattle.std.specs.List.{list_any}
use Rattle.f77_due.specs.Due.{lacks_bound}
use Rattle.f77_due.specs.Starts.{facts_in}
use Rattle.f77_due.proofs.due.lacks_fixed_bounds.Given as goal

-- what is looked for isn't in those before
abbrev pub invariant-loop-bound : goal.invariant-loop-bound
invariant-loop-bound l = list_any (lacks_bound (facts_in l.unit)) l.bounds ≡ list_any (lacks_bound (facts_in l.unit)) (drop l.bound-index l.bounds)
