use Rattle.worked_calls.proofs.Lone.{lone_live, lone_fits}
use Rattle.worked_calls.proofs.lone_nodes.like.Goals as goal

pub max_w-requires-clause-live : goal.max_w-requires-clause-live
max_w-requires-clause-live g c = lone_live c.args.tree.now.tree c.args.h c.requires

pub max_w-requires-clause-fits : goal.max_w-requires-clause-fits
max_w-requires-clause-fits g c = lone_fits c.args.tree.now.tree c.args.h c.requires

pub max_h-requires-clause-live : goal.max_h-requires-clause-live
max_h-requires-clause-live g c = lone_live c.args.tree.now.tree c.args.h c.requires

pub max_h-requires-clause-fits : goal.max_h-requires-clause-fits
max_h-requires-clause-fits g c = lone_fits c.args.tree.now.tree c.args.h c.requires
