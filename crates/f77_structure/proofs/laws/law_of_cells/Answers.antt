use Rattle.f77_structure.proofs.ValueLemmas.{written_is_read}
use Rattle.f77_structure.proofs.laws.law_of_cells.Goals as goal

pub returns : goal.returns
returns c = written_is_read
