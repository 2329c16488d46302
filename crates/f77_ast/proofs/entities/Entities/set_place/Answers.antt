use Rattle.std.proofs.Common.{◌∙◌, ap}
use Rattle.f77_ast.specs.Entity.{placed_at}
use Rattle.f77_ast.proofs.EntityLemmas.{keyed_placed, values-placed}
use Rattle.f77_ast.proofs.entities.Entities.set_place.Goals as goal

pub invariant_of-self : goal.invariant_of-self
invariant_of-self c =
    keyed_placed c.self.inside.entries.entries c.args.number c.pair_mut-entity.result.0.now c.pair_mut-entity.result.1.now c.args.place c.self.invariant c.pair_mut-entity.ensures.value

pub returns : goal.returns
returns c =
    values-placed c.self.inside.entries.entries c.args.number c.pair_mut-entity.result.0.now c.pair_mut-entity.result.1.now c.args.place c.pair_mut-entity.ensures.value
    ∙ ap (λ es. placed_at es c.args.number c.args.place) c.self.view_is
