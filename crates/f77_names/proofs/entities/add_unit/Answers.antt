use Rattle.std.proofs.Common.{◌≡◌, OnOk, subst}
use Rattle.std.specs.List.{flat_map}
use Rattle.f77_uses.specs.Uses.{NameUses, leaves_in}
use Rattle.f77_uses.specs.UseTables.{uses_in}
use Rattle.f77_due.specs.Unit.{UnitFacts, facts_of_unit}
use Rattle.f77_names.specs.Entities.{entity_named}
use Rattle.f77_names.specs.Growing.{with_names}
use Rattle.f77_names.proofs.entities.add_unit.Goals as goal

pub returns : goal.returns
returns c =
    let listing = c.args.listing.now in
    let old = c.args.entities.now in
    let number = c.args.number in
    subst (λ (u : NameUses). OnOk c.add_statements.result (c.add_statements.new.entities ≡ with_names (facts_of_unit listing) number old (flat_map (entity_named u) (leaves_in listing)))) c.in_ok-unit.ensures.uses
    (subst (λ (f : UnitFacts). OnOk c.add_statements.result (c.add_statements.new.entities ≡ with_names f number old (flat_map (entity_named (uses_in c.in_ok-unit.unit.uses)) (leaves_in listing)))) c.in_ok-unit.ensures.facts c.add_statements.ensures)
