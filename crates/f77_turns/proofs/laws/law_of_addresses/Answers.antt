-- The law, by its lemma.
use Rattle.f77_turns.proofs.Addresses.{events_lie_in_storage}
use Rattle.f77_turns.proofs.laws.law_of_addresses.Goals as goal

pub returns : goal.returns
returns c = events_lie_in_storage
