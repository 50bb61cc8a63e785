use Rattle.plain_tree.proofs.Orders.{one_law}
use Rattle.plain_tree.proofs.laws.one_root_is_laid_out.Goals as goal

pub returns : goal.returns
returns c = one_law
