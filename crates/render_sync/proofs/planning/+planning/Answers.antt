use Rattle.std.proofs.Common.{rules, ◌≡◌, [], sym, subst, ◌∙◌, arith}
use Rattle.std.specs.BTreeMap.{get}
use Rattle.std.specs.Ordering.{nat_cmp}
use Rattle.render_sync.specs.Synced.{Plans}
use Rattle.render_sync.proofs.PlaceLemmas.{count_of_one, one_taken}
use Rattle.render_sync.proofs.PlanLemmas.{plans_none, plans_next, plans_all, plans_node, number_of_one, draws_node}
use Rattle.render_sync.proofs.planning.+planning.Goals as goal

pub plan_node-returns : goal.plan_node-returns
plan_node-returns t c =
    let n = c.node.inside in
    let same : c.in_ok-clone.field-0.value ≡ n.widget.value = search rules in
    let entry : c.new.result ≡ record { at = c.in-Some.h; parent = c.args.parent; children = c.in_ok-below.below.items; update = c.new.result.update } =
    λ at. record { at = c.new.ensures.at at; parent = c.new.ensures.parent at; children = c.new.ensures.children at; update = c.new.result.update } in
    plans_node (get nat_cmp c.args.numbers.now) c.args.parent c.in-Some.h c.new.result.update c.args.node.now c.as_slice.result.now c.args.plan.now.items c.plan_nodes.new.plan.items c.push.new.self.items
    c.in_ok-below.below.items c.new.result
    (draws_node (get nat_cmp c.args.numbers.now) c.in-Some.h c.in_ok-clone.field-0.value n.widget.value c.new.result.update c.args.node.now n.number n.scroll n.parent_data n.children.items c.as_slice.result.now
    c.node.view_is c.as_slice.ensures.value (sym c.find.ensures ∙ c.in-Some.is) c.new.ensures.update same)
    c.in_ok-below.ensures
    entry
    c.in_ok-push.ensures.items

pub plan_nodes-plan_node-requires : goal.plan_nodes-plan_node-requires
plan_nodes-plan_node-requires t c =
    let taken = one_taken c.loop-node.node-index c.args.nodes.now c.node-item.result c.loop-node-test.true c.node-item.is in (
      let few = count_of_one c.loop-node.node-index c.args.nodes.now c.node-item.result taken in let d = c.decreases in omega arith,
      number_of_one _ c.loop-node.node-index c.args.nodes.now c.node-item.result taken c.requires,
    )

pub plan_nodes-loop-node-preserved : goal.plan_nodes-loop-node-preserved
plan_nodes-loop-node-preserved t c =
    let taken = one_taken c.loop-node.node-index c.args.nodes.now c.node-item.result c.loop-node-test.true c.node-item.is in
    plans_next (get nat_cmp c.args.numbers.now) c.args.parent c.loop-node.node-index c.args.nodes.now c.node-item.result c.args.plan.now.items c.loop-node.plan.items c.plan_node.new.plan.items
    c.loop-node.tops.items c.push.new.self.items c.in_ok-h.h taken c.loop-node.invariant c.in_ok-h.ensures c.in_ok-push.ensures.items

pub plan_nodes-returns : goal.plan_nodes-returns
plan_nodes-returns t c =
    plans_all (get nat_cmp c.args.numbers.now) c.args.parent c.loop-node.node-index c.args.nodes.now c.args.plan.now.items c.loop-node.plan.items c.loop-node.tops.items c.loop-node-test.false c.loop-node.invariant

pub plan_nodes-loop-node-init : goal.plan_nodes-loop-node-init
plan_nodes-loop-node-init t c =
    subst (λ l. Plans (get nat_cmp c.args.numbers.now) c.args.parent [] c.args.plan.now.items c.args.plan.now.items [] l) (sym c.new-tops.ensures.items)
    (plans_none (get nat_cmp c.args.numbers.now) c.args.parent c.args.plan.now.items [])
