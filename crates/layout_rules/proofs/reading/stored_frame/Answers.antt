use Rattle.std.proofs.Common.{◌∙◌, ap}
use Rattle.layout_walk.specs.Node.{frame_or}
use Rattle.render_tree.specs.Tree.{object_at}
use Rattle.layout_rules.proofs.Stored.{frame_is}
use Rattle.layout_rules.proofs.reading.stored_frame.Goals as goal

pub returns : goal.returns
returns c = c.frame_or.ensures ∙ ap frame_or (c.frame.ensures ∙ frame_is (object_at c.args.r.now.tree c.args.h))
