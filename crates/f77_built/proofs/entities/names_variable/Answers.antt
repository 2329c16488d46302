use Rattle.std.proofs.Common.{sym, ap, ◌∙◌}
use Rattle.f77_structure.specs.HasMeaning.{is_integer_variable}
use Rattle.f77_built.proofs.Placed.{still_named, variable_still}
use Rattle.f77_built.proofs.entities.names_variable.Goals as goal

pub returns-in-None : goal.returns-in-None
returns-in-None c = ap is_integer_variable c.in-None.ensures ∙ sym (still_named is_integer_variable variable_still c.args.entities.now c.args.unit c.args.name.now)

pub returns-in-Some : goal.returns-in-Some
returns-in-Some c = c.is_integer_variable.ensures ∙ ap is_integer_variable c.in-Some.ensures ∙ sym (still_named is_integer_variable variable_still c.args.entities.now c.args.unit c.args.name.now)
