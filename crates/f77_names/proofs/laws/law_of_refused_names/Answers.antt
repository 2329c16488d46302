use Rattle.f77_names.proofs.RefusalLemmas.{refused_are_broken}
use Rattle.f77_names.proofs.laws.law_of_refused_names.Goals as goal

pub returns : goal.returns
returns c = refused_are_broken
