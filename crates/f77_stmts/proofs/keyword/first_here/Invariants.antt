use Rattle.std.proofs.Common.{◌≡◌, drop}
use Rattle.f77_exprs.specs.Operators.{first_passing}
use Rattle.f77_stmts.specs.Rows.{is_here}
use Rattle.f77_stmts.proofs.keyword.first_here.Given as goal

abbrev pub invariant-loop-keyword : goal.invariant-loop-keyword
invariant-loop-keyword l = first_passing is_here l.keywords l.text ≡ first_passing is_here (drop l.keyword-index l.keywords) l.text
