use Rattle.node_tree.proofs.EditLemmas.{hooks_root, on_ok_always}
use Rattle.node_tree.proofs.edits.attach_at.Goals as goal

pub returns-in-None-clause-hooks : goal.returns-in-None-clause-hooks
returns-in-None-clause-hooks g c = rw c.in-None.is (on_ok_always _ _ (hooks_root _ c.args.h c.args.at c.requires.one c.requires.top))
