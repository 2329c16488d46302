use Rattle.std.proofs.Common.{◌∙◌, None, ap, sym, rules}
use Rattle.f77_meaning.specs.Demand.{and_then, located}
use Rattle.f77_meaning.specs.Do.{begun_with}
use Rattle.f77_machine.specs.Begun.{as_parameters}
use Rattle.f77_machine.specs.Setting.{setting_in}
use Rattle.f77_machine.proofs.Meanings.{located_stored, variable_stored}
use Rattle.f77_machine.proofs.begin.begin_by.Goals as goal

-- the variable is where its entity is
pub returns-in-Gives-clause-value : goal.returns-in-Gives-clause-value
returns-in-Gives-clause-value c =
    let s = setting_in c.args.program.now c.args.unit in
    let stored = variable_stored c.in-Some.entity.now (search rules) in
    c.begin_at.ensures.value s c.in-Gives.place.len
    ∙ ap (λ d. and_then d (λ variable more. begun_with s variable.bound (as_parameters c.args.parameters) more)) (c.in-Gives.ensures.value s)
    ∙ ap (λ d. and_then d (λ variable more. begun_with s variable.bound (as_parameters c.args.parameters) more)) (sym (located_stored s c.in-Some.entity.now None c.args.rest.now stored))
    ∙ ap (λ o. and_then (located s o None c.args.rest.now) (λ variable more. begun_with s variable.bound (as_parameters c.args.parameters) more)) c.in-Some.ensures.found
