use Rattle.std.proofs.Common.{◌≡◌, ap, sym, subst, ◌∙◌, ◌&&◌, Bool, true, cond}
use Rattle.fx_handles.specs.declared.Handle.{Handle}
use Rattle.node_tree.specs.Forest.{Forest}
use Rattle.node_tree.specs.Tree.{Tree, IsTree}
use Rattle.node_tree.proofs.Children.{opened}
use Rattle.node_tree.proofs.TreeLemmas.{Holds-from_Is}
use Rattle.widget_model.specs.Look.{Look}
use Rattle.widget_model.specs.View.{look_in}
use Rattle.kind_rules.specs.Cursor.{look_of}
use Rattle.render_tree.specs.declared.layout_state.LayoutState.{LayoutState}
use Rattle.render_tree.specs.LayoutState.{layout_state_of}
use Rattle.render_tree.specs.Object.{RenderObject, object_look}
use Rattle.render_tree.specs.Tree.{RenderTree}
use Rattle.layout_walk.specs.Measure.{Measured, nothing, measured_below}
use Rattle.layout_walk.specs.Rules.{holds_in}
use Rattle.layout_rules.specs.declared.duties.Duty.{Duty}
use Rattle.layout_rules.specs.Courses.{course_of, lay_course, open_course}
use Rattle.layout_rules.specs.Marks.{due_in, open_in}
use Rattle.layout_rules.specs.Nodes.{layout_node}
use Rattle.layout_rules.specs.Places.{first_render, render_at}
use Rattle.layout_rules.specs.Reads.{state_or}
use Rattle.layout_rules.proofs.stepping.course_of.Goals as goal

pub returns-in-Lay : goal.returns-in-Lay
returns-in-Lay c = λ o is.
    let t = c.args.r.now.tree in
    let h = c.args.h in
    let ask = c.in-Lay.ask in
    let outer = c.args.outer in
    let k = look_in c.kind.result.now in
    let is_tree : IsTree t = subst (λ (x : Tree RenderObject). IsTree x) c.tree.ensures c.count_laws.ensures.tree in
    let state : c.state_at-state.result ≡ layout_state_of o = c.state_at-state.ensures ∙ ap state_or is in
    let look : k ≡ object_look o = c.kind.ensures
    ∙ ap (λ (r : RenderTree). look_of (render_at r.tree c.new-cursor.result.at)) c.new-cursor.ensures.tree
    ∙ ap (λ (j : Handle). look_of (render_at t j)) c.new-cursor.ensures.at
    ∙ ap (λ (f : Forest RenderObject). look_of (first_render f)) (opened t h o (Holds-from_Is t is_tree.0 h is_tree.1 c.requires) is) in
    c.lay_course.ensures
    ∙ ap (λ (u : LayoutState). lay_course (due_in u ask) (outer && holds_in k ask) k u.layout_below ask) state
    ∙ ap (λ (l : Look). lay_course (due_in (layout_state_of o) ask) (outer && holds_in l ask) l o.layout_below ask) look
    ∙ ap (λ (d : Duty). course_of outer d (layout_node o)) (sym c.in-Lay.is)

pub returns-then-is_open : goal.returns-then-is_open
returns-then-is_open c = λ o is.
    let t = c.args.r.now.tree in
    let h = c.args.h in
    let axis = c.in-Measure.axis in
    let cross = c.in-Measure.cross in
    let k = look_in c.kind-then-is_open.result.now in
    let is_tree : IsTree t = subst (λ (x : Tree RenderObject). IsTree x) c.tree.ensures c.count_laws.ensures.tree in
    let state : c.state_at-state.result ≡ layout_state_of o = c.state_at-state.ensures ∙ ap state_or is in
    let look : k ≡ object_look o = c.kind-then-is_open.ensures
    ∙ ap (λ (r : RenderTree). look_of (render_at r.tree c.new-cursor.result.at)) c.new-cursor.ensures.tree
    ∙ ap (λ (j : Handle). look_of (render_at t j)) c.new-cursor.ensures.at
    ∙ ap (λ (f : Forest RenderObject). look_of (first_render f)) (opened t h o (Holds-from_Is t is_tree.0 h is_tree.1 c.requires) is) in
    let open_now : open_in axis cross (layout_state_of o) ≡ true = ap (λ (u : LayoutState). open_in axis cross u) (sym state) ∙ sym c.is_open.ensures ∙ c.if-is_open.true in
    c.below_course.ensures
    ∙ ap (λ (l : Look). open_course axis cross (measured_below l)) look
    ∙ sym (ap (λ (b : Bool). open_course axis cross (cond {A = Measured} b (measured_below (object_look o)) nothing)) open_now)
    ∙ ap (λ (d : Duty). course_of c.args.outer d (layout_node o)) (sym c.in-Measure.is)
