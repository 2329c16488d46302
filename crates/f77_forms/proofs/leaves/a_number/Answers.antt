use Rattle.std.proofs.Common.{rules, ◌∙◌}
use Rattle.std.specs.Prelude.{FitsSigned}
use Rattle.std.specs.Int.{w64}
use Rattle.f77_exprs.proofs.Numbers.{kept}
use Rattle.f77_forms.proofs.LeafLemmas.{int_there, int_missing, natural}
use Rattle.f77_forms.proofs.leaves.a_number.Goals as goal

pub returns-in-Some-clause-value : goal.returns-in-Some-clause-value
returns-in-Some-clause-value c =
    let f : FitsSigned w64 c.in-Some.value = search rules in
    rw (kept c.in-Some.value f) (int_there c.args.reader.now c.take_digits.result.now c.take_digits.new.self c.in-Some.value c.take_digits.ensures.digits c.take_digits.ensures.after c.in-Some.ensures)

pub returns-in-Some-clause-natural : goal.returns-in-Some-clause-natural
returns-in-Some-clause-natural c =
    let f : FitsSigned w64 c.in-Some.value = search rules in
    natural _ _ (kept c.in-Some.value f ∙ c.in-Some.ensures.1)

pub returns-in-None-clause-value : goal.returns-in-None-clause-value
returns-in-None-clause-value c _ = int_missing c.args.reader.now c.take_digits.result.now c.take_digits.ensures.digits c.in-None.ensures
