-- The law, by its lemma.
use Rattle.f77_regions.proofs.Machines.{loops_are_machines}
use Rattle.f77_regions.proofs.law_of_machines.Goals as goal

pub returns : goal.returns
returns c = loops_are_machines
