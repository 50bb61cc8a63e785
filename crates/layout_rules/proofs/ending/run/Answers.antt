use Rattle.std.proofs.Common.{◌≡◌, refl, sym, subst, ap, ◌∙◌, inr, Some, List, arith}
use Rattle.fx_geom.specs.declared.scales.Scale.{Scale}
use Rattle.fx_geom.specs.declared.shapes.Offset.{Offset}
use Rattle.delegates.specs.Table.{meant_in}
use Rattle.node_tree.specs.Forest.Forest.{none, tree}
use Rattle.node_tree.specs.Tree.{Tree, IsTree, children_at}
use Rattle.widget_model.specs.View.{look_in}
use Rattle.plain_tree.specs.Offsets.{rescrolled}
use Rattle.plain_tree.specs.Render.{Render}
use Rattle.plain_tree.specs.RenderRole.{render_role_of}
use Rattle.layout_form.specs.Framed.{answers_of, last_asks}
use Rattle.layout_form.specs.Layout.{is_plugged, delegate_of}
use Rattle.layout_form.specs.Object.{Setting, setting_of}
use Rattle.kind_rules.specs.Asked.{found_of, ruling_for}
use Rattle.kind_rules.specs.Cursor.{look_of, count_in}
use Rattle.kind_rules.specs.Few.{items_of}
use Rattle.kind_rules.specs.Ruling.{ruling_of}
use Rattle.render_tree.specs.Edits.{Changes}
use Rattle.render_tree.specs.LayoutState.{with_layout_state}
use Rattle.render_tree.specs.declared.layout_state.LayoutState.{LayoutState}
use Rattle.render_tree.specs.Object.{RenderObject}
use Rattle.layout_walk.specs.Node.{member, stored}
use Rattle.layout_walk.specs.Rules.{makes_in}
use Rattle.layout_walk.specs.Walk.{stand_all}
use Rattle.layout_rules.specs.Heard.{all_told}
use Rattle.layout_rules.specs.Places.{render_at}
use Rattle.layout_rules.specs.Reads.{frames_at}
use Rattle.layout_rules.specs.Turns.{Turns}
use Rattle.layout_rules.proofs.Listed.{one_listed}
use Rattle.layout_rules.proofs.Repainting.{leaves_made, noted_few}
use Rattle.layout_rules.proofs.Running.{gift_with, ran_state, run_can, run_gift, run_ends}
use Rattle.layout_rules.proofs.Scrolling.{look_read, place_read}
use Rattle.layout_rules.proofs.ending.run.Goals as goal

pub made_at-requires-clause-can : goal.made_at-requires-clause-can
made_at-requires-clause-can g c =
    let t = c.args.r.now.tree in
    let h = c.args.h in
    let is_tree : IsTree t = subst (λ (x : Tree RenderObject). IsTree x) c.tree.ensures c.count_laws.ensures.tree in
    let at = place_read t h c.new-cursor.result.at c.new-cursor.result.tree.now c.args.r.now c.new-cursor.ensures.tree refl c.new-cursor.ensures.at in
    let place = render_at c.new-cursor.result.tree.now.tree c.new-cursor.result.at in
    let first = items_of c.args.first.now in
    let asks = last_asks (items_of c.args.before.now) (items_of c.args.rest.now) in
    run_can t h c.args.ask place (look_in c.kind-kind.result.now) (look_of (render_at t h)) c.state_at-state.result (found_of c.in_ok-found.found) is_tree at
    c.kind-kind.ensures (ap (λ (r : Render). look_of r) (sym at)) c.state_at-state.ensures (all_told t h c.args.told.now) first asks first (frames_at t first (children_at t h)) (frames_at t asks (children_at t h))
    c.in_ok-found.ensures refl refl refl c.requires.seen c.requires.can

pub returns-clause-ends : goal.returns-clause-ends
returns-clause-ends g c = λ v kids seen.
    let t = c.args.r.now.tree in
    let is_tree : IsTree t = subst (λ (x : Tree RenderObject). IsTree x) c.tree.ensures c.count_laws.ensures.tree in
    let at = place_read t c.args.h c.new-cursor.result.at c.new-cursor.result.tree.now c.args.r.now c.new-cursor.ensures.tree refl c.new-cursor.ensures.at in
    let place = render_at c.new-cursor.result.tree.now.tree c.new-cursor.result.at in
    let first = items_of c.args.first.now in
    let asks = last_asks (items_of c.args.before.now) (items_of c.args.rest.now) in
    let m = meant_in c.args.table.now (λ v. (g.dyn-1.0.entry v).1) in
    let s = setting_of c.args.r.now.scale m in
    let made = c.in_ok-made.made in
    let h = c.args.h in
    let u = c.state_at-state.result in
    let look = look_in c.kind-kind.result.now in
    let plugged = is_plugged m (delegate_of look) in
    let ds = all_told t h c.args.told.now in
    let settings : setting_of c.scale-scale.result m ≡ s = ap (λ (x : Scale). setting_of x m) c.scale-scale.ensures in
    let gift : gift_with plugged (ruling_of made) ≡ makes_in s (member v) v.scroll c.args.ask ds (answers_of first (stored kids)) (answers_of asks (stored kids)) =
    run_gift t h c.args.ask place (look_in c.kind-kind.result.now) (look_of (render_at t h)) u (found_of c.in_ok-found.found) is_tree at
    c.kind-kind.ensures (ap (λ (r : Render). look_of r) (sym at)) c.state_at-state.ensures ds first asks first (frames_at t first (children_at t h)) (frames_at t asks (children_at t h))
    c.in_ok-found.ensures refl refl refl
    v kids seen s (setting_of c.scale-scale.result m) (look_in c.kind-kind.result.now) (count_in (render_at t h)) (ruling_of made) plugged
    settings c.kind-kind.ensures (ap (λ (r : Render). count_in r) (sym at))
    (c.in_ok-made.ensures ∙ ap (λ (x : Setting). ruling_for x (look_of (render_at t h)) (count_in (render_at t h)) c.args.ask (found_of c.in_ok-found.found) ds (frames_at t asks (children_at t h))) (sym settings))
    refl in
    let t1 = c.stand_all-moved.new.r.tree in
    let stands : Turns t t1 h (tree h v kids none) (tree h v (stand_all asks (items_of made.places) kids) none) =
    subst (λ (ps : List Offset). Turns t t1 h (tree h v kids none) (tree h v (stand_all asks ps kids) none)) c.as_slice.ensures (c.stand_all-moved.ensures.stands v kids seen) in
    let look4 = look_read t h v kids place (look_in c.kind-kind.result.now) is_tree seen at c.kind-kind.ensures in
    let scroll = rescrolled (render_role_of look) (Some made.scrolled) u.scroll in
    let writes : Changes t1 c.set_layout_state.new.self.tree h (with_layout_state (ran_state u (gift_with plugged (ruling_of made)) scroll c.any_mark.result)) =
    subst (λ (x : LayoutState). Changes t1 c.set_layout_state.new.self.tree h (with_layout_state (record x { layout_below = c.any_mark.result }))) c.store_made-remade.ensures.made
    c.set_layout_state.ensures.sets in
    run_ends s c.args.ask ds first asks t t1 c.set_layout_state.new.self.tree h v kids u (gift_with plugged (ruling_of made)) scroll look c.any_mark.result c.args.steps.now c.tick.new.self seen
    c.state_at-state.ensures gift look4 refl stands c.any_mark.ensures writes c.tick.ensures

pub returns-clause-changes : goal.returns-clause-changes
returns-clause-changes g c =
    let t = c.args.r.now.tree in
    let is_tree : IsTree t = subst (λ (x : Tree RenderObject). IsTree x) c.tree.ensures c.count_laws.ensures.tree in
    let m = meant_in c.args.table.now (λ v. (g.dyn-1.0.entry v).1) in
    let made = c.in_ok-made.made in
    let noted = noted_few c.args.changed.now.items _ c.args.h _ c.in_ok-note.ensures in
    let ticked = c.tick.ensures in
    record {
      paints = leaves_made (setting_of c.scale-scale.result m) (look_in c.kind-kind.result.now) made.frame made.notes made.scrolled t c.stand_all-moved.new.r.tree c.set_layout_state.new.self.tree c.args.h
          c.state_at-state.result c.store_made-remade.new.state c.store_made-remade.result c.stand_all-moved.result c.any_mark.result c.args.changed.now.items _ is_tree c.requires.live
          c.state_at-state.ensures c.store_made-remade.ensures.made c.stand_all-moved.ensures.moves c.set_layout_state.ensures.sets c.store_made-remade.ensures.same c.store_made-remade.ensures.other
          c.in_ok-note.ensures;
      few = omega (arith, noted, ticked);
      lists = inr (c.tick.ensures, λ k. one_listed k c.args.h c.args.changed.now.items _ _ c.in_ok-note.ensures);
    }
