use Rattle.f77_front.proofs.Programs.{are_few, made_sound}
use Rattle.f77_front.proofs.front.front.Goals as goal

pub program_of-requires : goal.program_of-requires
program_of-requires c =
    let few = are_few c.in_ok-statements.statements c.in_ok-units.units c.in_ok-units.ensures.accepted in
    record { few_units = few.few_units; few_statements = few.few_statements }

pub returns-clause-sound : goal.returns-clause-sound
returns-clause-sound c = made_sound c.in_ok-statements.statements c.in_ok-units.units c.in_ok-units.ensures.accepted c.program_of.result c.program_of.ensures.accepted
