-- The law, by its lemma.
use Rattle.f77_turns.proofs.Steps.{marked_writes_follow_reads}
use Rattle.f77_turns.proofs.laws.law_of_marked_writes.Goals as goal

pub returns : goal.returns
returns c = marked_writes_follow_reads
