use Rattle.std.proofs.Common.{◌≡◌, drop}
use Rattle.std.specs.List.{list_any}
use Rattle.f77_due.specs.Due.{lacks_in_rule}
use Rattle.f77_due.specs.Starts.{facts_in}
use Rattle.f77_due.proofs.due.lacks_in_rules.Given as goal

-- what is looked for isn't in those before
abbrev pub invariant-loop-rule : goal.invariant-loop-rule
invariant-loop-rule l = list_any (lacks_in_rule (facts_in l.unit)) l.rules ≡ list_any (lacks_in_rule (facts_in l.unit)) (drop l.rule-index l.rules)
