use Rattle.paint_owner.proofs.Changes.{marked_kept}
use Rattle.paint_owner.proofs.laws.listed_changes_keep_layers.Goals as goal

pub returns : goal.returns
returns c = λ cell before after o also hs old mid new is_old is_mid lists sets kept. marked_kept cell before after o also hs old mid new is_old is_mid lists sets kept
