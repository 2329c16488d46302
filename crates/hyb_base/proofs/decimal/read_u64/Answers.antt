use Rattle.std.proofs.Common.{arith}
use Rattle.hyb_base.proofs.decimal.read_u64.Goals as goal
use Rattle.hyb_base.proofs.Decimals.{read_by_parse, IsUtf8-from_digits}

pub returns-in-Ok : goal.returns-in-Ok
returns-in-Ok c =
    rw c.ok.ensures.value (read_by_parse c.args.text.now c.parse.result (cc) (omega arith) (rw c.in-Ok.ensures.cases.0 at c.parse.ensures.value.0))

pub returns-in-Err : goal.returns-in-Err
returns-in-Err c = λ p. c.in-Err.ensures.cases.0 (IsUtf8-from_digits _ p.0.0)
