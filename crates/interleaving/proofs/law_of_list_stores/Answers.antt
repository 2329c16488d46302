-- The law, by its lemma.
use Rattle.interleaving.proofs.ListStores.{are_stores}
use Rattle.interleaving.proofs.law_of_list_stores.Goals as goal

pub returns : goal.returns
returns g c = are_stores g.row.V.Denot
