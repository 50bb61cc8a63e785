use Rattle.plain_tree.proofs.Orders.{apart_law}
use Rattle.plain_tree.proofs.laws.projection_keeps_numbers_apart.Goals as goal

pub returns : goal.returns
returns c = apart_law
