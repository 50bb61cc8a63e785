use Rattle.std.proofs.Common.{true}
use Rattle.paint_owner.proofs.Changes.{marked_kept}
use Rattle.paint_owner.proofs.Edits.{laid_tree}
use Rattle.paint_owner.proofs.laws.commits_keep_layers.Goals as goal

pub returns : goal.returns
returns c = λ cell delegates o painted old mid new is_old commits sets kept.
    marked_kept cell delegates delegates o true painted old mid new is_old (laid_tree true commits.laid commits.committed mid commits.is commits.layouts)
    (c.changes_are_listed.ensures.committed cell delegates painted old mid is_old commits) sets kept
