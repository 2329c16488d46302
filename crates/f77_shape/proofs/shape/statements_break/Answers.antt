use Rattle.std.proofs.Common.{◌∙◌}
use Rattle.f77_shape.specs.Limits.{statement_breaks}
use Rattle.f77_shape.specs.Program.{end_breaks}
use Rattle.f77_shape.proofs.Firsts.{joined_first}
use Rattle.f77_shape.proofs.shape.statements_break.Goals as goal

pub returns : goal.returns
returns c =
    let s = c.args.statements.now in
    c.sooner.ensures ∙ joined_first c.bad_end.result c.too_many_statements.result (end_breaks s) (statement_breaks s) c.bad_end.ensures c.too_many_statements.ensures
