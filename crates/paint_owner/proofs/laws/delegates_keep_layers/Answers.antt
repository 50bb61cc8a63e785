use Rattle.delegates.specs.Table.{with_meaning}
use Rattle.paint_owner.proofs.Edits.{delegates_kept}
use Rattle.paint_owner.proofs.laws.delegates_keep_layers.Goals as goal

pub returns : goal.returns
returns c = λ cell delegates name m o also hs old new is listed_all sets kept.
    delegates_kept cell delegates name m o also hs old new
    (λ also_too xs t. c.other_delegates_are_listed.ensures.lists cell delegates (with_meaning delegates name m) also_too xs t)
    (λ t k v. c.other_delegates_are_listed.ensures.named cell delegates name m t k v) is listed_all sets kept
