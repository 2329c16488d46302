use Rattle.f77_front.proofs.Programs.{accepted_apart}
use Rattle.f77_front.proofs.laws.law_of_layouts.Goals as goal

pub returns : goal.returns
returns c = accepted_apart
