use Rattle.std.proofs.Common.{◌∙◌}
use Rattle.f77_exprs.proofs.Words.{begins_same}
use Rattle.f77_exprs.proofs.operators.begins.Goals as goal

pub returns : goal.returns
returns c = c.starts_with.ensures.value ∙ begins_same c.args.spelling.now c.args.text.now
