use Rattle.f77_io.proofs.Numbers.{number_by_parse, IsUtf8-from_number}
use Rattle.f77_io.proofs.number.number.Goals as goal

pub returns-in-Ok : goal.returns-in-Ok
returns-in-Ok c = rw c.ok.ensures.value (number_by_parse c.args.word.now c.parse.result (rw c.in-Ok.ensures.cases.0 at c.parse.ensures.value.0))

pub returns-in-Err : goal.returns-in-Err
returns-in-Err c = λ n. c.in-Err.ensures.cases.0 (IsUtf8-from_number _ n)
