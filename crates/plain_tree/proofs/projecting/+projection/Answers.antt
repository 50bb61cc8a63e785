use Rattle.std.proofs.Common.{◌≡◌, ◌∙◌, ap, rules, ◌++◌, [], None, Some}
use Rattle.std.proofs.lemmas.Result.{on_ok_weaker}
use Rattle.widget_model.specs.declared.widgets.Widget.{Widget}
use Rattle.widget_model.specs.View.{plain_of, look_in}
use Rattle.plain_tree.specs.RenderRole.{render_role_of}
use Rattle.plain_tree.specs.PlainNode.{nodes_of}
use Rattle.plain_tree.specs.Projection.{projected_all}
use Rattle.plain_tree.proofs.Giving.{counted, gives_children, gives_itself, gave_more, gave_all}
use Rattle.plain_tree.proofs.projecting.+projection.Goals as goal

pub project_node-returns-then-vanishes : goal.project_node-returns-then-vanishes
project_node-returns-then-vanishes t c =
    let n = c.node.inside in
    let role : c.render_role_of-role.result ≡ render_role_of (look_in n.widget.value.kind) = search rules in
    let below = c.as_slice.ensures.value in
    on_ok_weaker c.project_nodes.result
    (λ is_new.
    gives_children c.args.above c.args.told n.number (plain_of n.widget.value) n.fields n.scroll n.index n.children.items c.args.node.now
    c.render_role_of-role.result c.told_at-parent_data.result c.vanishes.result c.node.view_is role c.told_at-parent_data.ensures c.vanishes.ensures
    c.if-vanishes.true c.told_by-told.result c.told_by-told.ensures c.args.renders.now.items c.project_nodes.new.renders.items
    (is_new ∙ ap (λ ns. c.args.renders.now.items ++ projected_all c.args.above (Some c.told_by-told.result) (nodes_of ns)) below))
    c.project_nodes.ensures

pub project_node-returns : goal.project_node-returns
project_node-returns t c =
    let n = c.node.inside in
    let role : c.render_role_of-role.result ≡ render_role_of (look_in n.widget.value.kind) = search rules in
    let same : c.in_ok-clone.field-0.value ≡ n.widget.value = search rules in
    let below : c.project_nodes-2.new.renders.items ≡ [] ++ projected_all c.render_role_of-role.result None (nodes_of n.children.items) =
    c.in_ok-project_nodes.ensures
    ∙ ap (λ l. l ++ projected_all c.render_role_of-role.result None (nodes_of c.as_slice-2.result.now)) c.new-below.ensures.items
    ∙ ap (λ ns. [] ++ projected_all c.render_role_of-role.result None (nodes_of ns)) c.as_slice-2.ensures.value in
    gives_itself c.args.above c.args.told n.number (plain_of n.widget.value) n.fields n.scroll n.index n.children.items c.args.node.now
    c.render_role_of-role.result c.told_at-parent_data.result c.vanishes.result c.node.view_is role c.told_at-parent_data.ensures c.vanishes.ensures
    c.if-vanishes.false c.project_nodes-2.new.renders.items below (look_in c.in_ok-clone.field-0.value.kind) (ap (λ (w : Widget). look_in w.kind) same)
    _ (counted c.in_ok-clone.field-0.value n.widget.value same) c.scroll_in.result c.scroll_in.ensures
    c.args.renders.now.items c.push.new.self.items c.in_ok-push.ensures.items

pub project_nodes-loop-node-preserved : goal.project_nodes-loop-node-preserved
project_nodes-loop-node-preserved t c =
    gave_more c.args.above c.args.told c.args.nodes.now c.loop-node.node-index c.node-item.result c.loop-node.renders.items c.project_node.new.renders.items
    _ c.loop-node-test.true c.node-item.is c.in_ok-project_node.ensures c.loop-node.invariant

pub project_nodes-returns : goal.project_nodes-returns
project_nodes-returns t c =
    gave_all c.args.above c.args.told c.args.nodes.now c.loop-node.node-index c.loop-node.renders.items _ c.loop-node-test.false c.loop-node.invariant
