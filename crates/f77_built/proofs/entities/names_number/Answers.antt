use Rattle.std.proofs.Common.{Some, sym, ap, ◌∙◌}
use Rattle.f77_structure.specs.HasMeaning.{is_integer_constant, is_integer_variable}
use Rattle.f77_built.proofs.Placed.{is_number, is_number_still, or_first, or_second, still_named}
use Rattle.f77_built.proofs.entities.names_number.Goals as goal

pub returns-in-None : goal.returns-in-None
returns-in-None c = ap is_number c.in-None.ensures ∙ sym (still_named is_number is_number_still c.args.entities.now c.args.unit c.args.name.now)

pub returns-then-is_integer_variable : goal.returns-then-is_integer_variable
returns-then-is_integer_variable c =
    let e = c.in-Some.entity.now in
    or_first c.is_integer_variable.result (is_integer_variable (Some e)) (is_integer_constant (Some e)) c.if-is_integer_variable.true c.is_integer_variable.ensures
    ∙ ap is_number c.in-Some.ensures
    ∙ sym (still_named is_number is_number_still c.args.entities.now c.args.unit c.args.name.now)

pub returns-else-is_integer_variable : goal.returns-else-is_integer_variable
returns-else-is_integer_variable c =
    let e = c.in-Some.entity.now in
    or_second c.is_integer_variable.result c.is_integer_constant.result (is_integer_variable (Some e)) (is_integer_constant (Some e)) c.if-is_integer_variable.false c.is_integer_variable.ensures c.is_integer_constant.ensures
    ∙ ap is_number c.in-Some.ensures
    ∙ sym (still_named is_number is_number_still c.args.entities.now c.args.unit c.args.name.now)
