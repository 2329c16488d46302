use Rattle.std.proofs.Common.{◌∙◌, sym}
use Rattle.f77_layout.proofs.PlacingLemmas.{others_placed, stored_placed}
use Rattle.f77_layout.proofs.placing.place_entity.Goals as goal

pub returns-then-is_stored_at : goal.returns-then-is_stored_at
returns-then-is_stored_at c = c.set_place.ensures ∙ stored_placed c.args.entities.now c.args.number c.args.address (sym c.is_stored_at.ensures ∙ c.if-is_stored_at.true)

pub returns-else-is_stored_at : goal.returns-else-is_stored_at
returns-else-is_stored_at c = others_placed c.args.entities.now c.args.number c.args.address (sym c.is_stored_at.ensures ∙ c.if-is_stored_at.false)
