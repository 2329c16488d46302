use Rattle.std.proofs.Common.{rules, arith}
use Rattle.f77_forms.proofs.LeafLemmas.{label_there, label_zero, label_missing}
use Rattle.f77_forms.proofs.leaves.a_label.Goals as goal

pub returns-in-Some-clause-value : goal.returns-in-Some-clause-value
returns-in-Some-clause-value c =
    label_there c.args.reader.now c.take_digits.result.now c.take_digits.new.self c.in-Some.value c.take_digits.ensures.digits c.take_digits.ensures.after c.in-Some.ensures (search (rules, arith))

pub returns-in_default-clause-value : goal.returns-in_default-clause-value
returns-in_default-clause-value c _ =
    let z = c.if-value-gt0.false in
    label_zero c.args.reader.now c.take_digits.result.now c.in-Some.value c.take_digits.ensures.digits c.in-Some.ensures (omega arith)

pub returns-in_default-2-clause-value : goal.returns-in_default-2-clause-value
returns-in_default-2-clause-value c _ = label_missing c.args.reader.now c.take_digits.result.now c.take_digits.ensures.digits c.in_default.ensures
