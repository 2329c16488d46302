use Rattle.f77_operands.proofs.LimitLemmas.{refused_where_passed}
use Rattle.f77_operands.proofs.laws.law_of_refused_files.Goals as goal

pub returns : goal.returns
returns c = refused_where_passed
