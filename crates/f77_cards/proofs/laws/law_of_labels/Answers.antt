use Rattle.f77_cards.proofs.Labels.{labels_in_range}
use Rattle.f77_cards.proofs.laws.law_of_labels.Goals as goal

pub returns : goal.returns
returns c = labels_in_range
