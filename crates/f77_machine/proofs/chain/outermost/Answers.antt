use Rattle.f77_machine.proofs.Meanings.{operands_mean}
use Rattle.f77_machine.proofs.chain.outermost.Goals as goal

-- the operands of an operator
pub returns-in-Binary-clause-meaning : goal.returns-in-Binary-clause-meaning
returns-in-Binary-clause-meaning c = λ program unit h.
    operands_mean program.units program.layout unit c.args.expr.now c.in-Binary.left c.in-Binary.right c.get.result.now c.get-in-Binary.result.now c.in-Binary.op c.in-Binary.is c.get.ensures c.get-in-Binary.ensures h
