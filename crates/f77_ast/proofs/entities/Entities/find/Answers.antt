use Rattle.std.proofs.Common.{◌∙◌, ap}
use Rattle.f77_ast.proofs.EntityLemmas.{lookup-is_find}
use Rattle.f77_ast.specs.Entity.{entity_in}
use Rattle.f77_ast.proofs.entities.Entities.find.Goals as goal

pub returns : goal.returns
returns c =
    c.get.ensures.value
    ∙ lookup-is_find c.args.unit c.copy.result c.self.inside.entries.entries c.self.invariant
    ∙ ap (λ es. entity_in es c.args.unit c.copy.result) c.self.view_is
    ∙ ap (λ name. entity_in c.args.self.now c.args.unit name) c.copy.ensures
