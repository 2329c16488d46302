use Rattle.std.proofs.Common.{sym, ◌∙◌}
use Rattle.f77_ast.specs.Entity.{entity_in}
use Rattle.f77_layout.specs.Layout.{layout_of}
use Rattle.f77_built.proofs.Placed.{array_is_vector}
use Rattle.f77_built.proofs.entities.names_whole_vector.Goals as goal

pub returns : goal.returns
returns c = c.names_vector.ensures ∙ sym (array_is_vector (entity_in (layout_of c.args.entities.now).entities c.args.unit c.args.name.now))
