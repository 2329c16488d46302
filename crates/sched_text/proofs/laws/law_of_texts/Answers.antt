use Rattle.sched_text.proofs.Readings.{texts_decided}
use Rattle.sched_text.proofs.laws.law_of_texts.Goals as goal

pub returns : goal.returns
returns c = texts_decided
