use Rattle.f77_shape.proofs.Accepted.{files_are_small}
use Rattle.f77_shape.proofs.laws.law_of_small_files.Goals as goal

pub returns : goal.returns
returns c = files_are_small
