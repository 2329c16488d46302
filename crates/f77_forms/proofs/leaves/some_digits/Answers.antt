use Rattle.f77_forms.proofs.LeafLemmas.{short_read, short_unread}
use Rattle.f77_forms.proofs.leaves.some_digits.Goals as goal

pub returns-in-Some-clause-value : goal.returns-in-Some-clause-value
returns-in-Some-clause-value c = short_read c.args.reader.now c.take_digits.result.now c.take_digits.new.self c.in-Some.value c.take_digits.ensures.digits c.take_digits.ensures.after c.in-Some.ensures

pub returns-in-None-clause-value : goal.returns-in-None-clause-value
returns-in-None-clause-value c _ = short_unread c.args.reader.now c.take_digits.result.now c.take_digits.ensures.digits c.in-None.ensures
