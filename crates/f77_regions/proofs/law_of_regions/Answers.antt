-- The law, by its lemma.
use Rattle.f77_regions.proofs.Machines.{regions_hold}
use Rattle.f77_regions.proofs.law_of_regions.Goals as goal

pub returns : goal.returns
returns c = regions_hold
