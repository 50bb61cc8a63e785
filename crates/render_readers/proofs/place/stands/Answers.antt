use Rattle.std.proofs.Common.{subst}
use Rattle.node_tree.specs.Tree.{Tree, IsTree}
use Rattle.render_tree.specs.Object.{RenderObject}
use Rattle.render_readers.proofs.place.stands.Goals as goal

pub returns : goal.returns
returns c =
    let is_tree : IsTree c.args.tree.now.tree = subst (λ (x : Tree RenderObject). IsTree x) c.tree.ensures c.count_laws.ensures.tree in
    c.walk_laws.ensures.holds c.args.tree.now.tree c.args.h is_tree c.requires
