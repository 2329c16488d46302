use Rattle.red_ops.proofs.Orders.{identities_stay}
use Rattle.red_ops.proofs.laws.law_of_identities.Goals as goal

pub returns : goal.returns
returns c = identities_stay
