use Rattle.std.proofs.Common.{None}
use Rattle.node_tree.specs.Forest.{tops}
use Rattle.node_tree.specs.Forest.Forest.{none, tree}
use Rattle.plain_tree.specs.declared.role.RenderRole.TheVariants.{Plain}
use Rattle.render_tree.specs.Tree.{object_at}
use Rattle.build_walk.specs.Kept.{node_over}
use Rattle.build_walk.specs.Renewing.{drawn}
use Rattle.build_walk.proofs.Settled.{one_each, only_top}
use Rattle.build_walk.proofs.frames.built_trees_have_one_top.Goals as goal

pub returns : goal.returns
returns c = λ d t scrolled h e kids well are.
    only_top (tops (drawn Plain None (tree h e kids none)))
    (one_each (object_at t) scrolled Plain None (tree h e kids none) are (c.built_trees_vanish_alone.ensures d (node_over scrolled e kids) well, tt))
