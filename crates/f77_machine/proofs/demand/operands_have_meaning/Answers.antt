use Rattle.std.proofs.Common.{refl}
use Rattle.f77_machine.proofs.Meanings.{op_means, operands_mean}
use Rattle.f77_machine.proofs.demand.operands_have_meaning.Goals as goal

pub returns-clause-op : goal.returns-clause-op
returns-clause-op c = op_means c.args.program.now.units c.args.program.now.layout c.args.unit c.args.expr.now c.args.left.now c.args.right.now c.args.op c.requires.is c.requires.meaning

pub returns-clause-left : goal.returns-clause-left
returns-clause-left c = (operands_mean c.args.program.now.units c.args.program.now.layout c.args.unit c.args.expr.now c.args.left.now c.args.right.now c.args.left.now c.args.right.now c.args.op c.requires.is refl refl c.requires.meaning).0

pub returns-clause-right : goal.returns-clause-right
returns-clause-right c = (operands_mean c.args.program.now.units c.args.program.now.layout c.args.unit c.args.expr.now c.args.left.now c.args.right.now c.args.left.now c.args.right.now c.args.op c.requires.is refl refl c.requires.meaning).1
