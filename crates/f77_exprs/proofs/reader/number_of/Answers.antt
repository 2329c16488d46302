use Rattle.hyb_base.proofs.Decimals.{IsUtf8-from_digits}
use Rattle.f77_exprs.proofs.Numbers.{read_by_parse}
use Rattle.f77_exprs.proofs.reader.number_of.Goals as goal

pub returns-in-Ok : goal.returns-in-Ok
returns-in-Ok c =
    rw c.ok.ensures.value (read_by_parse c.args.digits.now c.parse.result (cc) (rw c.in-Ok.ensures.cases.0 at c.parse.ensures.value.0))

pub returns-in-Err : goal.returns-in-Err
returns-in-Err c = λ p. c.in-Err.ensures.cases.0 (IsUtf8-from_digits _ p.0.0)
