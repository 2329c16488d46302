use Rattle.std.proofs.Common.{◌≡◌, drop}
use Rattle.std.specs.List.{list_any}
use Rattle.f77_due.specs.Due.{lacks_in_ref}
use Rattle.f77_due.specs.Starts.{facts_in}
use Rattle.f77_due.proofs.due.lacks_in_refs.Given as goal

-- what is looked for isn't in those before
abbrev pub invariant-loop-reference : goal.invariant-loop-reference
invariant-loop-reference l = list_any (lacks_in_ref (facts_in l.unit)) l.references ≡ list_any (lacks_in_ref (facts_in l.unit)) (drop l.reference-index l.references)
