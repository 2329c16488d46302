use Rattle.f77_machine.proofs.Items.{begins_self}
use Rattle.f77_machine.proofs.print.print_value.Goals as goal

-- all answers are kept
pub returns-in-Wants-clause-asks : goal.returns-in-Wants-clause-asks
returns-in-Wants-clause-asks c = record { within = c.in-Wants.ensures.asks.0; room = c.in-Wants.ensures.asks.1; cells = c.requires.cells; kept = begins_self c.args.at.answers.now }
