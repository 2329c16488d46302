use Rattle.red_ops.proofs.Orders.{order_is_free}
use Rattle.red_ops.proofs.laws.law_of_orders.Goals as goal

pub returns : goal.returns
returns c = order_is_free
