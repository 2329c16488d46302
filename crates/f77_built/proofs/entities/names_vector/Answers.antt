use Rattle.std.proofs.Common.{sym, ap, ◌∙◌}
use Rattle.f77_structure.specs.HasMeaning.{is_integer_vector}
use Rattle.f77_built.proofs.Placed.{still_named, vector_still}
use Rattle.f77_built.proofs.entities.names_vector.Goals as goal

pub returns-in-None : goal.returns-in-None
returns-in-None c = ap is_integer_vector c.in-None.ensures ∙ sym (still_named is_integer_vector vector_still c.args.entities.now c.args.unit c.args.name.now)

pub returns-in-Some : goal.returns-in-Some
returns-in-Some c = c.is_integer_vector.ensures ∙ ap is_integer_vector c.in-Some.ensures ∙ sym (still_named is_integer_vector vector_still c.args.entities.now c.args.unit c.args.name.now)
