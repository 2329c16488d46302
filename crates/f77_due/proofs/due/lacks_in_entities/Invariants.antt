use Rattle.std.proofs.Common.{◌≡◌, drop}
use Rattle.std.specs.List.{list_any}
use Rattle.f77_due.specs.Due.{lacks_in_entity}
use Rattle.f77_due.specs.Starts.{facts_in}
use Rattle.f77_due.proofs.due.lacks_in_entities.Given as goal

-- what is looked for isn't in those before
abbrev pub invariant-loop-entity : goal.invariant-loop-entity
invariant-loop-entity l = list_any (lacks_in_entity (facts_in l.unit) l.typ) l.entities ≡ list_any (lacks_in_entity (facts_in l.unit) l.typ) (drop l.entity-index l.entities)
