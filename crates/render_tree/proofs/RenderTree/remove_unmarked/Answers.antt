use Rattle.std.proofs.Common.{◌≡◌}
use Rattle.fx_handles.specs.declared.Handle.{Handle}
use Rattle.node_tree.specs.Forest.{In}
use Rattle.node_tree.specs.Tree.{subtree_at}
use Rattle.render_tree.specs.Tree.{object_at}
use Rattle.render_tree.proofs.Planned.{used_removed}
use Rattle.render_tree.proofs.Quiet.{noteless_removed}
use Rattle.render_tree.proofs.RenderTree.remove_unmarked.Goals as goal

pub invariant_of-self : goal.invariant_of-self
invariant_of-self c =
    let live = c.contains.ensures.0 c.if-not-contains.false in
    let removes = c.remove-count.ensures.removes live in
    let values : (k : Handle) → (In k (subtree_at c.self.inside.tree c.args.h) → ⊥) → object_at c.remove-count.new.self k ≡ object_at c.self.inside.tree k =
    λ k outside. c.edit_laws.ensures.removes c.self.inside.tree c.remove-count.new.self c.args.h k c.remove-count.result removes outside in (
      used_removed c.self.inside.users c.drop_at.new.users c.self.inside.tree c.remove-count.new.self c.args.h c.remove-count.result c.self.invariant.0 c.drop_at.ensures removes values,
      λ e. noteless_removed c.self.inside.tree c.remove-count.new.self c.args.h c.remove-count.result (c.self.invariant.1 e) removes values,
    )
