use Rattle.std.proofs.Common.{◌≡◌, drop}
use Rattle.std.specs.List.{list_any}
use Rattle.f77_due.specs.Due.{lacks_value}
use Rattle.f77_due.specs.Starts.{facts_in}
use Rattle.f77_due.proofs.due.lacks_in_subscripts.Given as goal

-- what is looked for isn't in those before
abbrev pub invariant-loop-subscript : goal.invariant-loop-subscript
invariant-loop-subscript l = list_any (lacks_value (facts_in l.unit)) l.subscripts ≡ list_any (lacks_value (facts_in l.unit)) (drop l.subscript-index l.subscripts)
