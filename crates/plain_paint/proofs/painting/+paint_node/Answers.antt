use Rattle.std.proofs.Common.{◌≡◌, ◌≢◌, ◌∙◌, ap, rules, map, not}
use Rattle.std.proofs.lemmas.Result.{on_ok_weaker}
use Rattle.delegates.specs.Table.{meant_in}
use Rattle.layer_tree.specs.View.{item_of}
use Rattle.widget_model.specs.declared.widgets.Widget.{Widget}
use Rattle.widget_model.specs.View.{look_in}
use Rattle.plain_tree.specs.Laid.{laid}
use Rattle.plain_tree.specs.LaidView.{laids_in}
use Rattle.screen_form.specs.declared.paint_role.PaintRole.TheVariants.{Hides}
use Rattle.plain_paint.proofs.Nodes.{some_child, paints_itself, paints_all, paints_more, paints_each}
use Rattle.plain_paint.proofs.painting.+paint_node.Goals as goal

pub returns-then-eq : goal.returns-then-eq
returns-then-eq g t c =
    let n = c.node.inside in
    let children = c.as_slice-children.result.now in
    let delegates = meant_in c.args.table.now (λ v. (g.dyn-1.0.entry v).1) in
    let hidden : c.paint_role-role.result ≡ Hides = search rules in
    let is_node : laid n.number (look_in c.deref.result.now.kind) n.facts (laids_in children) ≡ c.args.node.now =
    ap (λ (w : Widget). laid n.number (look_in w.kind) n.facts (laids_in children)) c.deref.ensures
    ∙ ap (λ cs. laid n.number (look_in n.widget.value.kind) n.facts (laids_in cs)) c.as_slice-children.ensures.value
    ∙ c.node.view_is in
    paints_itself c.args.scale.cell delegates n.number (look_in c.deref.result.now.kind) n.facts children c.args.node.now c.args.at
    c.paint_role-role.result (not c.is_empty.result) (map item_of c.args.items.now.items) (map item_of c.push_drawn.new.items.items)
    is_node (some_child children c.is_empty.result c.is_empty.ensures) c.paint_role-role.ensures c.in_ok-push_drawn.ensures hidden

pub loop-child-preserved : goal.loop-child-preserved
loop-child-preserved g t c =
    let delegates = meant_in c.args.table.now (λ v. (g.dyn-1.0.entry v).1) in
    paints_more c.args.scale.cell delegates c.point_below-from.result c.as_slice-children.result.now c.loop-child.child-index c.child-item.result
    c.plus.result (map item_of c.loop-child.items.items) (map item_of c.paint_node.new.items.items) _
    c.loop-child-test.true c.child-item.is c.plus.ensures c.in_ok-paint_node.ensures c.loop-child.invariant

pub returns : goal.returns
returns g t c =
    let n = c.node.inside in
    let children = c.as_slice-children.result.now in
    let delegates = meant_in c.args.table.now (λ v. (g.dyn-1.0.entry v).1) in
    let seen : c.paint_role-role.result ≢ Hides = search rules in
    let is_node : laid n.number (look_in c.deref.result.now.kind) n.facts (laids_in children) ≡ c.args.node.now =
    ap (λ (w : Widget). laid n.number (look_in w.kind) n.facts (laids_in children)) c.deref.ensures
    ∙ ap (λ cs. laid n.number (look_in n.widget.value.kind) n.facts (laids_in cs)) c.as_slice-children.ensures.value
    ∙ c.node.view_is in
    on_ok_weaker c.end.result
    (λ is_last.
    paints_all c.args.scale.cell delegates n.number (look_in c.deref.result.now.kind) n.facts children c.args.node.now c.args.at
    c.paint_role-role.result (not c.is_empty.result) (map item_of c.args.items.now.items) (map item_of c.push_drawn.new.items.items)
    is_node (some_child children c.is_empty.result c.is_empty.ensures) c.paint_role-role.ensures c.in_ok-push_drawn.ensures seen
    c.point_below-from.result c.point_below-from.ensures (map item_of c.begin-aside.result.items) (map item_of c.begin-aside.new.items.items)
    (map item_of c.loop-child.items.items) (map item_of c.end.new.items.items)
    c.begin-aside.ensures.aside c.begin-aside.ensures.begun
    (paints_each c.args.scale.cell delegates c.point_below-from.result children c.loop-child.child-index (map item_of c.loop-child.items.items) _
    c.loop-child-test.false c.loop-child.invariant)
    is_last)
    c.end.ensures
