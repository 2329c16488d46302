use Rattle.std.proofs.Common.{◌≡◌, drop}
use Rattle.std.specs.List.{list_any}
use Rattle.f77_due.specs.Due.{lacks_in_data}
use Rattle.f77_due.specs.Starts.{facts_in}
use Rattle.f77_due.proofs.due.lacks_in_init.Given as goal

-- what is looked for isn't in those before
abbrev pub invariant-loop-group : goal.invariant-loop-group
invariant-loop-group l = list_any (lacks_in_data (facts_in l.unit)) l.groups ≡ list_any (lacks_in_data (facts_in l.unit)) (drop l.group-index l.groups)
