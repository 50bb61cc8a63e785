use Rattle.std.proofs.Common.{true, subst}
use Rattle.render_tree.specs.Tree.{RenderTree}
use Rattle.render_tree.specs.Ranges.{Clears}
use Rattle.render_tree.proofs.Dropped.{Walks}
use Rattle.render_tree.proofs.Quiet.{noteless_cleared}
use Rattle.render_tree.proofs.Ranged.{clears-whole, clears_users, Is-cleared}
use Rattle.render_tree.proofs.RenderTree.clear_live.Goals as goal
use Rattle.render_tree.proofs.RenderTree.clear_live.Goals.{After-clear_inactive}

-- no range is left
whole : (c : After-clear_inactive) → Clears c.self.inside.tree c.clear_inactive.new.tree (λ _. true)
whole c =
    let walks : Walks = record {
      holds = c.walk_laws.ensures.holds;
      subtree = c.walk_laws.ensures.subtree;
      opened = c.child_laws.ensures.opened;
      stands = c.child_laws.ensures.stands;
      listed = c.child_laws.ensures.listed;
    } in
    clears-whole walks c.self.inside.tree c.clear_root.new.tree c.clear_inactive.new.tree c.root.ensures.tree c.clear_root.ensures c.clear_inactive.ensures

pub invariant_of-self : goal.invariant_of-self
invariant_of-self c = (
  clears_users c.self.inside.users c.self.inside.tree c.clear_inactive.new.tree (λ _. true) c.self.invariant.0 (whole c),
  λ e. noteless_cleared c.self.inside.tree c.clear_inactive.new.tree (λ _. true) (c.self.invariant.1 e) (whole c),
)

pub returns-clause-clears : goal.returns-clause-clears
returns-clause-clears c = subst (λ (s : RenderTree). Clears s.tree c.clear_inactive.new.tree (λ _. true)) c.self.view_is (whole c)

pub returns-clause-plain : goal.returns-clause-plain
returns-clause-plain c =
    let done = subst (λ (s : RenderTree). Clears s.tree c.clear_inactive.new.tree (λ _. true)) c.self.view_is (whole c) in
    λ f is. Is-cleared c.args.self.now.tree c.clear_inactive.new.tree (λ _. true) f done is
