use Rattle.std.proofs.Common.{refl, ap}
use Rattle.node_tree.specs.Tree.{node_at, value_at}
use Rattle.node_tree.proofs.PlanLemmas.{planned_live, valued, updated_forest, committed_is, committed_size}
use Rattle.node_tree.proofs.Tree.commit.Goals as goal

pub commit_nodes-requires-clause-live : goal.commit_nodes-requires-clause-live
commit_nodes-requires-clause-live g c =
    let plan = rw (← c.self.view_is) at c.requires.1 in
    planned_live _ _ _ _ _ plan

pub commit_nodes-requires-clause-once : goal.commit_nodes-requires-clause-once
commit_nodes-requires-clause-once g c = c.requires.1.once

pub returns-clause-plain : goal.returns-clause-plain
returns-clause-plain g c =
    rw (← c.self.view_is) (λ g' f plan is. committed_is g.U.Update.updated _ _ _ _ _ g' f plan is c.in_ok-commit_nodes.ensures.commits refl (ap (λ (v : _). v.items) c.swap.ensures.x_after))

-- there is an updated forest, since each handle of the plan has a value
pub invariant_of-self-2 : goal.invariant_of-self-2
invariant_of-self-2 g c =
    let plan = rw (← c.self.view_is) at c.requires.1 in
    let made = updated_forest g.U.Update.updated (value_at (record { nodes = c.self.inside.nodes; root = c.self.inside.root; inactive = c.self.inside.inactive.items })) c.requires.0 (λ k among. valued (node_at (record { nodes = c.self.inside.nodes; root = c.self.inside.root; inactive = c.self.inside.inactive.items }) k) (plan.live k among)) in
    (made.0, committed_is g.U.Update.updated (record { nodes = c.self.inside.nodes; root = c.self.inside.root; inactive = c.self.inside.inactive.items }) _ _ _ _ c.requires.0 made.0 plan made.1 c.in_ok-commit_nodes.ensures.commits refl (ap (λ (v : _). v.items) c.swap.ensures.x_after))

pub returns-clause-used : goal.returns-clause-used
returns-clause-used g c =
    rw (← c.self.view_is) (λ g' plan. committed_size g.U.Update.updated _ (record { nodes = c.commit_nodes.new.nodes; root = c.args.root; inactive = c.args.inactive.now.items }) _ _ _ g' plan c.in_ok-commit_nodes.ensures.commits refl refl)
