use Rattle.std.proofs.Common.{ℕ, ap, ◌∙◌}
use Rattle.f77_leaves.specs.Declarations.{Declarations, declarations_of}
use Rattle.f77_uses.specs.Tables.{told_by}
use Rattle.f77_uses.specs.UseTables.{uses_in}
use Rattle.f77_uses.specs.Uses.{NameUses, leaves_in, uses_of}
use Rattle.f77_constants.specs.Constants.{values_of}
use Rattle.f77_constants.specs.Values.{value_in}
use Rattle.f77_due.specs.Starts.{starts_in}
use Rattle.f77_due.specs.Unit.{starts_among}
use Rattle.f77_due.proofs.FactLemmas.{facts_are}
use Rattle.f77_due.proofs.unit_facts.unit_tables.Goals as goal

pub returns-clause-facts : goal.returns-clause-facts
returns-clause-facts c =
    let unit = c.args.unit.now in
    let told = told_by c.in_ok-declared.declared.tables in
    let tells = c.in_ok-declared.ensures.tells in
    facts_are told (declarations_of unit) (value_in c.in_ok-values.values) (values_of unit) (starts_in c.in_ok-starts.starts) (starts_among (declarations_of unit) (uses_of unit) (leaves_in unit)) tells c.in_ok-values.ensures
    (λ letter. c.in_ok-starts.ensures letter
    ∙ ap (λ (d : Declarations). starts_among d (uses_in c.in_ok-uses.uses) (leaves_in unit) letter) tells
    ∙ ap (λ (u : NameUses). starts_among (declarations_of unit) u (leaves_in unit) letter) c.in_ok-uses.ensures)
