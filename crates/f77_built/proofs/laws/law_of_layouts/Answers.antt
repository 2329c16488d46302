use Rattle.f77_built.proofs.Files.{built_have_layouts}
use Rattle.f77_built.proofs.laws.law_of_layouts.Goals as goal

pub returns : goal.returns
returns c = built_have_layouts
