use Rattle.std.proofs.Common.{rules, ◌≡◌, false, ◌∷◌, []}
use Rattle.f77_exprs.specs.Operators.{begins}
use Rattle.f77_exprs.specs.Reading.{after_word}
use Rattle.f77_forms.specs.Form.{read}
use Rattle.f77_stmts.specs.Rows.{with_length, without_length}
use Rattle.f77_forms.proofs.Turns.{reads_else}
use Rattle.f77_stmts.proofs.headings.character.Goals as goal

pub returns-else-eat_word-clause-value : goal.returns-else-eat_word-clause-value
returns-else-eat_word-clause-value c =
    let none : begins (42 ∷ []) c.args.reader.now ≡ false = search rules in
    let at : c.eat_word.new.self ≡ after_word (42 ∷ []) c.args.reader.now = search rules in
    reads_else (42 ∷ []) c.args.reader.now c.eat_word.new.self (read c.args.depth with_length) (read c.args.depth without_length) c.without_length.result c.without_length.new.reader none at c.without_length.ensures.value
