use Rattle.f77_names.proofs.RefusalLemmas.{resolved_keep_all}
use Rattle.f77_names.proofs.laws.law_of_resolved_names.Goals as goal

pub returns : goal.returns
returns c = resolved_keep_all
