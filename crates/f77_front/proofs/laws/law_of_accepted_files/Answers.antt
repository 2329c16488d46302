use Rattle.f77_front.proofs.Files.{accepted_files}
use Rattle.f77_front.proofs.laws.law_of_accepted_files.Goals as goal

pub returns : goal.returns
returns c = accepted_files
