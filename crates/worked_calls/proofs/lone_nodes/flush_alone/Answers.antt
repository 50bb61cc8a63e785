use Rattle.worked_calls.proofs.Lone.{lone_root, lone_good}
use Rattle.worked_calls.proofs.lone_nodes.flush_alone.Goals as goal

pub flush_outer-requires-clause-root : goal.flush_outer-requires-clause-root
flush_outer-requires-clause-root g c = lone_root c.args.tree.now.tree c.args.h c.requires

pub flush_outer-requires-clause-good : goal.flush_outer-requires-clause-good
flush_outer-requires-clause-good g c = λ ready. lone_good c.args.tree.now.tree c.args.h c.requires _

pub flush-requires-clause-root : goal.flush-requires-clause-root
flush-requires-clause-root g c = lone_root c.args.tree.now.tree c.args.h c.requires

pub flush-requires-clause-good : goal.flush-requires-clause-good
flush-requires-clause-good g c = λ ready. lone_good c.args.tree.now.tree c.args.h c.requires _
