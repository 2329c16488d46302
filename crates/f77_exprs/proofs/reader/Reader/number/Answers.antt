use Rattle.std.proofs.Common.{rules, ◌≢◌}
use Rattle.std.specs.Prelude.{FitsSigned}
use Rattle.std.specs.Int.{w64}
use Rattle.f77_exprs.specs.Reading.{digits}
use Rattle.f77_exprs.proofs.Numbers.{number_none, number_there, number_missing, kept}
use Rattle.f77_exprs.proofs.reader.Reader.number.Goals as goal

pub returns-then-count-eq0-clause-value : goal.returns-then-count-eq0-clause-value
returns-then-count-eq0-clause-value c = number_none c.args.self.now (search rules)

pub returns-in-Some-clause-value : goal.returns-in-Some-clause-value
returns-in-Some-clause-value c =
    let f : FitsSigned w64 c.in-Some.value = search rules in
    let some : digits c.args.self.now ≢ 0 = search rules in
    rw (kept c.in-Some.value f)
    (number_there c.args.self.now c.split_at.result.0.now c.split_at.result.1.now c.in-Some.value some (search rules) (search rules) (rw c.in-Some.is at c.number_of.ensures))

pub returns-in-None-clause-value : goal.returns-in-None-clause-value
returns-in-None-clause-value c _ =
    let some : digits c.args.self.now ≢ 0 = search rules in
    number_missing c.args.self.now c.split_at.result.0.now some (search rules) (rw c.in-None.is at c.number_of.ensures)
