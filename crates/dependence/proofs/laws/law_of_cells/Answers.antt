-- The law, by its lemma.
use Rattle.dependence.proofs.Cells.{the_cells}
use Rattle.dependence.proofs.laws.law_of_cells.Goals as goal

pub returns : goal.returns
returns c = the_cells
