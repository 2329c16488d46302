use Rattle.std.proofs.Common.{arith}
use Rattle.f77_machine.proofs.Items.{begins_along, most_of}
use Rattle.f77_machine.proofs.print.print_items.Goals as goal

-- the item that asks is one of them
pub returns-in-Asks-clause-asks : goal.returns-in-Asks-clause-asks
returns-in-Asks-clause-asks c =
    let asked = c.in-Asks.ensures.asks in
    record {
      within = asked.within;
      room = omega (arith, asked.room, most_of c.args.program.now.layout c.args.unit c.loop-item.item-index c.args.items.now c.item-item.result c.loop-item-test.true c.item-item.is);
      cells = asked.cells;
      kept = begins_along c.args.from.answers.now c.loop-item.at.answers.now c.in-Asks.here.answers.now c.loop-item.invariant.answers asked.kept;
    }
