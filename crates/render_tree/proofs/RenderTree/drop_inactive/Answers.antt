use Rattle.std.proofs.Common.{◌≡◌}
use Rattle.fx_handles.specs.declared.Handle.{Handle}
use Rattle.node_tree.specs.Tree.{IsNode}
use Rattle.render_tree.specs.Tree.{object_at}
use Rattle.render_tree.proofs.Dropped.{Walks}
use Rattle.render_tree.proofs.Planned.{used_dropped}
use Rattle.render_tree.proofs.Quiet.{noteless_left}
use Rattle.render_tree.proofs.RenderTree.drop_inactive.Goals as goal

pub invariant_of-self : goal.invariant_of-self
invariant_of-self c =
    let walks : Walks = record {
      holds = c.walk_laws.ensures.holds;
      subtree = c.walk_laws.ensures.subtree;
      opened = c.child_laws.ensures.opened;
      stands = c.child_laws.ensures.stands;
      listed = c.child_laws.ensures.listed;
    } in
    let values : (k : Handle) → IsNode c.drop_inactive-count.new.self k → object_at c.drop_inactive-count.new.self k ≡ object_at c.self.inside.tree k =
    λ k live. c.edit_laws.ensures.drops c.self.inside.tree c.drop_inactive-count.new.self k c.drop_inactive-count.result c.drop_inactive-count.ensures live in (
      used_dropped walks c.keep_laws.ensures.live c.self.inside.users c.drop_inactive_users.new.users c.self.inside.tree c.drop_inactive-count.new.self c.drop_inactive-count.result c.count_laws.ensures.tree
          c.self.invariant.0 c.drop_inactive_users.ensures c.drop_inactive-count.ensures values,
      λ e. noteless_left c.self.inside.tree c.drop_inactive-count.new.self (c.self.invariant.1 e) values,
    )
