use Rattle.std.proofs.Common.{◌≡◌, drop}
use Rattle.std.specs.List.{list_any}
use Rattle.f77_due.specs.Due.{lacks_in_declarator}
use Rattle.f77_due.specs.Starts.{facts_in}
use Rattle.f77_due.proofs.due.lacks_in_declarators.Given as goal

-- what is looked for isn't in those before
abbrev pub invariant-loop-declarator : goal.invariant-loop-declarator
invariant-loop-declarator l = list_any (lacks_in_declarator (facts_in l.unit)) l.declarators ≡ list_any (lacks_in_declarator (facts_in l.unit)) (drop l.declarator-index l.declarators)
