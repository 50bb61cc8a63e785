use Rattle.kept_layers.proofs.RootTrees.{repaints}
use Rattle.kept_layers.proofs.changes.listed_changes_repaint.Goals as goal

pub returns : goal.returns
returns c = λ cell before after also hs old mid new. repaints cell before after also hs old mid new
