use Rattle.std.proofs.Common.{◌∙◌, ap}
use Rattle.f77_meaning.specs.Assign.{accumulation_of, written_by}
use Rattle.f77_meaning.specs.Demand.{and_then, demand_of}
use Rattle.f77_machine.specs.Assign.{written_demand}
use Rattle.f77_machine.specs.Chain.{as_valued}
use Rattle.f77_machine.specs.Evaluated.{as_located}
use Rattle.f77_machine.specs.Setting.{setting_in}
use Rattle.f77_machine.proofs.Assigned.{is_accumulated}
use Rattle.f77_machine.proofs.assign.assigned.Goals as goal

-- the left side has its unit, and the right side has v held open
pub returns-in-Some-clause-value : goal.returns-in-Some-clause-value
returns-in-Some-clause-value c =
    let held = accumulation_of (setting_in c.args.program.now c.args.unit) c.args.target.now c.args.value.now in
    let value = demand_of (setting_in c.args.program.now c.args.unit) c.args.value.now in
    is_accumulated (setting_in c.args.program.now c.args.unit) held (as_located c.args.program.now.layout c.in-Gives.place) value c.in-Gives.rest.now (as_valued c.in-Some.first) (written_demand c.accumulated.result) c.in-Some.ensures.value c.accumulated.ensures.value
    ∙ ap (λ d. and_then d (λ place rest. written_by (setting_in c.args.program.now c.args.unit) held place value rest)) c.in-Gives.ensures.value
