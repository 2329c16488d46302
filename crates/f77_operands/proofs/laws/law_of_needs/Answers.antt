use Rattle.f77_operands.proofs.LeafCounts.{needs_are_leaves}
use Rattle.f77_operands.proofs.laws.law_of_needs.Goals as goal

pub returns : goal.returns
returns c = needs_are_leaves
