use Rattle.plain_tree.proofs.Orders.{order_law}
use Rattle.plain_tree.proofs.laws.projection_keeps_order.Goals as goal

pub returns : goal.returns
returns c = order_law
