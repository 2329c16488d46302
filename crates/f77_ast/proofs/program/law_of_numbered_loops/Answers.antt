use Rattle.f77_ast.proofs.Loops.{loop_at-numbered}
use Rattle.f77_ast.proofs.program.law_of_numbered_loops.Goals as goal

pub returns : goal.returns
returns c = loop_at-numbered
