use Rattle.std.proofs.Common.{sym, ◌∙◌}
use Rattle.f77_stmts.proofs.Induction.{answers_statement, answers_none}
use Rattle.f77_stmts.proofs.stmt.answer.Goals as goal

pub returns-in-Some : goal.returns-in-Some
returns-in-Some c = answers_statement c.args.line c.args.text.now c.in-Some.found (sym c.in-Some.is ∙ c.in_ok-found.ensures)

pub returns-in_ok-refusal-in-None : goal.returns-in_ok-refusal-in-None
returns-in_ok-refusal-in-None c = answers_none c.args.line c.args.text.now c.in_ok-refusal-in-None.field-0 (sym c.in-None.is ∙ c.in_ok-found.ensures) c.in_ok-refusal-in-None.ensures
