use Rattle.f77_built.proofs.Files.{refused_are_unbuilt}
use Rattle.f77_built.proofs.laws.law_of_refusals.Goals as goal

pub returns : goal.returns
returns c = refused_are_unbuilt
