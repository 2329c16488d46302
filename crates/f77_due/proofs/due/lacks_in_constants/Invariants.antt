use Rattle.std.proofs.Common.{◌≡◌, drop}
use Rattle.std.specs.List.{list_any}
use Rattle.f77_due.specs.Due.{lacks_in_constant}
use Rattle.f77_due.specs.Starts.{facts_in}
use Rattle.f77_due.proofs.due.lacks_in_constants.Given as goal

-- what is looked for isn't in those before
abbrev pub invariant-loop-constant : goal.invariant-loop-constant
invariant-loop-constant l = list_any (lacks_in_constant (facts_in l.unit)) l.constants ≡ list_any (lacks_in_constant (facts_in l.unit)) (drop l.constant-index l.constants)
