use Rattle.std.proofs.Common.{◌≡◌, ℕ, ◌∙◌, ap, sym, slice_get}
use Rattle.std.specs.Map.{lookup, values_of}
use Rattle.f77_ast.specs.Entity.{entity_in, number_in}
use Rattle.f77_ast.proofs.EntityLemmas.{is_key, lookup-is_find, position-is_number, IfSome-through}
use Rattle.f77_ast.proofs.entities.Entities.number_of.Goals as goal

pub returns-clause-value : goal.returns-clause-value
returns-clause-value c =
    c.get_index_of.ensures.index
    ∙ position-is_number c.args.unit c.copy.result c.self.inside.entries.entries c.self.invariant
    ∙ ap (λ es. number_in es c.args.unit c.copy.result) c.self.view_is
    ∙ ap (λ name. number_in c.args.self.now c.args.unit name) c.copy.ensures

pub returns-clause-entity : goal.returns-clause-entity
returns-clause-entity c =
    IfSome-through _ _ c.get_index_of.result here c.get_index_of.ensures.value
  where
    here : (number : ℕ) → slice_get (values_of c.self.inside.entries.entries) number ≡ lookup (is_key c.args.unit c.copy.result) c.self.inside.entries.entries → slice_get c.args.self.now number ≡ entity_in c.args.self.now c.args.unit c.args.name.now
    here number found =
        ap (λ es. slice_get es number) (sym c.self.view_is)
        ∙ found
        ∙ lookup-is_find c.args.unit c.copy.result c.self.inside.entries.entries c.self.invariant
        ∙ ap (λ es. entity_in es c.args.unit c.copy.result) c.self.view_is
        ∙ ap (λ name. entity_in c.args.self.now c.args.unit name) c.copy.ensures
