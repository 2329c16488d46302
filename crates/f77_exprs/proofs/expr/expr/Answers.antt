use Rattle.std.proofs.Common.{sym, ◌∙◌}
use Rattle.f77_exprs.proofs.Induction.{answers_tree, answers_none}
use Rattle.f77_exprs.proofs.expr.expr.Goals as goal

pub returns-in-Some : goal.returns-in-Some
returns-in-Some c = answers_tree c.args.text.now c.in-Some.tree (sym c.in-Some.is ∙ c.in_ok-tree.ensures)

pub returns-in_ok-refusal-in-None : goal.returns-in_ok-refusal-in-None
returns-in_ok-refusal-in-None c = answers_none c.args.text.now c.in_ok-refusal-in-None.field-0 (sym c.in-None.is ∙ c.in_ok-tree.ensures) c.in_ok-refusal-in-None.ensures
