use Rattle.std.proofs.Common.{sym, ◌∙◌}
use Rattle.f77_forms.proofs.LeafLemmas.{letter_there, letter_other, letter_none}
use Rattle.f77_forms.proofs.leaves.a_letter.Goals as goal

pub returns-in-Some-clause-value : goal.returns-in-Some-clause-value
returns-in-Some-clause-value c = letter_there c.args.reader.now c.next_byte.new.self c.in-Some.byte c.in-Some.ensures (sym c.is_letter.ensures ∙ c.if-is_letter.true)

pub returns-in_default-clause-value : goal.returns-in_default-clause-value
returns-in_default-clause-value c _ = letter_other c.args.reader.now c.next_byte.new.self c.in-Some.byte c.in-Some.ensures (sym c.is_letter.ensures ∙ c.if-is_letter.false)

pub returns-in_default-2-clause-value : goal.returns-in_default-2-clause-value
returns-in_default-2-clause-value c _ = letter_none c.args.reader.now (rw c.in_default.is at c.next_byte.ensures).0
