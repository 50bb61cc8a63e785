use Rattle.std.proofs.Common.{subst, ap, sym, ◌∙◌, List}
use Rattle.node_tree.specs.Tree.{Tree, IsTree}
use Rattle.render_tree.specs.Object.{RenderObject}
use Rattle.widget_model.specs.declared.widgets.Widget.{Widget}
use Rattle.widget_model.specs.Plain.{PlainWidget}
use Rattle.widget_model.specs.View.{shared, look_in}
use Rattle.plain_tree.specs.Render.{lazy_count}
use Rattle.plain_tree.specs.RenderRole.{render_role_of}
use Rattle.layout_rules.proofs.Placing.{IsPlace, place_widgets, widgets_listed}
use Rattle.layout_rules.proofs.cursor.RenderCursorCursor.count.Goals as goal

pub returns : goal.returns
returns c =
    let t = c.args.self.now.tree.now.tree in
    let h = c.args.self.now.at in
    let is_tree : IsTree c.args.self.now.tree.now.tree = subst (λ (x : Tree RenderObject). IsTree x) c.tree.ensures c.count_laws.ensures.tree in
    let holds = c.walk_laws.ensures.holds t h is_tree c.args.self.now.live in
    let place : IsPlace t h = record {
      live = c.args.self.now.live;
      holds = holds;
      opened = λ v e. c.child_laws.ensures.opened t h v holds e;
      listed = c.child_laws.ensures.listed t h holds;
      nth = λ i z less. c.child_laws.ensures.nth t h i z holds less;
    } in
    place_widgets t h (shared c.in-Some.widget.now) c.lazy_count.result place c.in-Some.ensures
    (c.lazy_count.ensures ∙ ap (λ (w : Widget). lazy_count (render_role_of (look_in w.kind)) w.children) c.deref.ensures
    ∙ ap (λ (ws : List PlainWidget). lazy_count (render_role_of (look_in c.in-Some.widget.now.value.kind)) ws) (sym (widgets_listed c.in-Some.widget.now.value.children)))
