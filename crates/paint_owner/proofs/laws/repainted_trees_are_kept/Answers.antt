use Rattle.paint_owner.proofs.Changes.{kept_again}
use Rattle.paint_owner.proofs.laws.repainted_trees_are_kept.Goals as goal

pub returns : goal.returns
returns c = λ cell before after o old new is_old is_new r kept. kept_again cell before after o old new is_old is_new r kept
