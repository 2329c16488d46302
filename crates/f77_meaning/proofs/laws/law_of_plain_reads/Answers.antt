-- The law, by its lemma.
use Rattle.f77_meaning.proofs.Marks.{plain_reads_lead_to_none}
use Rattle.f77_meaning.proofs.laws.law_of_plain_reads.Goals as goal

pub returns : goal.returns
returns c = plain_reads_lead_to_none
