use Rattle.std.proofs.Common.{◌≡◌, ◌++◌, ◌∷◌, [], sym, ap, ◌∙◌, subst, refl, None}
use Rattle.std.specs.Map.{values_of, lookup}
use Rattle.indexmap.proofs.CallerLemmas.{insert_entry-new}
use Rattle.f77_ast.proofs.EntityLemmas.{lookup-is_find, keyed_more, values-more, is_key}
use Rattle.f77_ast.specs.Entity.{AreKeyed, entity_in}
use Rattle.f77_ast.proofs.entities.Entities.push.Goals as goal

-- no entity is kept under the key
absent : (c : goal.Joined-branch-2) → lookup (is_key c.args.entity.unit c.copy.result) c.self.inside.entries.entries ≡ None
absent c =
    lookup-is_find c.args.entity.unit c.copy.result c.self.inside.entries.entries c.self.invariant
    ∙ ap (λ name. entity_in (values_of c.self.inside.entries.entries) c.args.entity.unit name) c.copy.ensures
    ∙ ap (λ es. entity_in es c.args.entity.unit c.args.entity.name) c.self.view_is
    ∙ c.requires

-- the entity is added last
added : (c : goal.Joined-branch-2) → c.insert.new.self.entries ≡ c.self.inside.entries.entries ++ (record { unit = c.args.entity.unit; name = c.copy.result }, c.args.entity) ∷ []
added c = c.in_ok-insert.ensures.entries ∙ insert_entry-new _ c.self.inside.entries (record { unit = c.args.entity.unit; name = c.copy.result }) c.args.entity (absent c)

pub invariant_of-self-2 : goal.invariant_of-self-2
invariant_of-self-2 c =
    subst AreKeyed (sym (added c)) (keyed_more c.self.inside.entries.entries (record { unit = c.args.entity.unit; name = c.copy.result }, c.args.entity) c.self.invariant refl c.copy.ensures)

pub returns-clause-ok : goal.returns-clause-ok
returns-clause-ok c =
    ap values_of (added c)
    ∙ values-more c.self.inside.entries.entries (record { unit = c.args.entity.unit; name = c.copy.result }, c.args.entity)
    ∙ ap (λ es. es ++ c.args.entity ∷ []) c.self.view_is
