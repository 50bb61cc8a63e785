use Rattle.std.proofs.Common.{refl, sym, subst, ap, ◌∙◌, inr, arith}
use Rattle.fx_geom.specs.declared.scales.Scale.{Scale}
use Rattle.delegates.specs.Table.{meant_in}
use Rattle.node_tree.specs.Tree.{Tree, IsTree}
use Rattle.widget_model.specs.View.{look_in}
use Rattle.plain_tree.specs.declared.laid.Frame.{Frame}
use Rattle.plain_tree.specs.declared.laid.Frame.TheVariants.{Boxed}
use Rattle.plain_tree.specs.Shown.{box_size}
use Rattle.layout_form.specs.Fits.{FitsLayout}
use Rattle.layout_form.specs.Object.{setting_of}
use Rattle.fx_geom.specs.Size.{HasLengths}
use Rattle.kind_rules.specs.Cursor.{look_of}
use Rattle.plain_tree.specs.Render.{Render}
use Rattle.render_tree.specs.Edits.{no_notes}
use Rattle.render_tree.specs.Object.{RenderObject}
use Rattle.layout_rules.specs.Places.{render_at}
use Rattle.layout_rules.proofs.Listed.{one_listed}
use Rattle.layout_rules.proofs.OneBelow.{one_ends, one_moves}
use Rattle.layout_rules.proofs.Repainting.{leaves_made, noted_few}
use Rattle.layout_rules.proofs.Scrolling.{place_read}
use Rattle.layout_rules.proofs.only.run_only.Goals as goal

pub single_made-made-requires-clause-members : goal.single_made-made-requires-clause-members
single_made-made-requires-clause-members g c =
    let t = c.args.r.now.tree in
    let at = place_read t c.args.h c.new-cursor.result.at c.new-cursor.result.tree.now c.args.r.now c.new-cursor.ensures.tree refl c.new-cursor.ensures.at in
    subst FitsLayout (sym (c.kind-kind.ensures ∙ ap (λ (r : Render). look_of r) at)) c.requires.members

pub single_made-made-requires-clause-child : goal.single_made-made-requires-clause-child
single_made-made-requires-clause-child g c = subst HasLengths (sym (c.box_size-below.ensures ∙ ap (λ (f : Frame). box_size f) c.stored_frame.ensures)) c.requires.size

pub returns-clause-ends : goal.returns-clause-ends
returns-clause-ends g c = λ inner ds v kids seen.
    let t = c.args.r.now.tree in
    let is_tree : IsTree t = subst (λ (x : Tree RenderObject). IsTree x) c.tree.ensures c.count_laws.ensures.tree in
    let at = place_read t c.args.h c.new-cursor.result.at c.new-cursor.result.tree.now c.args.r.now c.new-cursor.ensures.tree refl c.new-cursor.ensures.at in
    let place = render_at c.new-cursor.result.tree.now.tree c.new-cursor.result.at in
    let m = meant_in c.args.table.now (λ v. (g.dyn-1.0.entry v).1) in
    let s = setting_of c.args.r.now.scale m in
    one_ends s (setting_of c.scale-scale.result m) t c.stand-moved.new.r.tree c.set_layout_state.new.self.tree c.args.h c.args.only.child v kids c.args.only.bounds inner ds c.box_size-below.result
    c.single_made-made.result.size c.single_made-made.result.place c.state_at-state.result c.store_made-remade.new.state place (look_in c.kind-kind.result.now) c.stand-moved.result
    c.is_marked.result c.args.steps.now c.tick.new.self is_tree c.requires.one seen c.requires.single at c.kind-kind.ensures c.state_at-state.ensures
    (ap (λ (x : Scale). setting_of x m) c.scale-scale.ensures) c.store_made-remade.ensures.made
    (c.box_size-below.ensures ∙ ap (λ (f : Frame). box_size f) c.stored_frame.ensures) c.single_made-made.ensures.size c.single_made-made.ensures.place
    c.stand-moved.ensures.stands c.stand-moved.ensures.stays c.stand-moved.ensures.still c.is_marked.ensures c.set_layout_state.ensures.sets c.tick.ensures

pub returns-clause-changes : goal.returns-clause-changes
returns-clause-changes g c =
    let t = c.args.r.now.tree in
    let is_tree : IsTree t = subst (λ (x : Tree RenderObject). IsTree x) c.tree.ensures c.count_laws.ensures.tree in
    let moves = one_moves t c.stand-moved.new.r.tree c.args.h c.args.only.child c.single_made-made.result.place c.stand-moved.result c.requires.one c.stand-moved.ensures.stands c.stand-moved.ensures.stays
    is_tree c.stand-moved.ensures.moved in
    let m = meant_in c.args.table.now (λ v. (g.dyn-1.0.entry v).1) in
    let noted = noted_few c.args.changed.now.items _ c.args.h _ c.in_ok-note.ensures in
    let ticked = c.tick.ensures in
    record {
      paints = leaves_made (setting_of c.scale-scale.result m) (look_in c.kind-kind.result.now) (Boxed c.args.only.bounds c.single_made-made.result.size) no_notes 0 t c.stand-moved.new.r.tree
          c.set_layout_state.new.self.tree c.args.h c.state_at-state.result c.store_made-remade.new.state c.store_made-remade.result c.stand-moved.result c.is_marked.result c.args.changed.now.items _
          is_tree c.requires.live c.state_at-state.ensures c.store_made-remade.ensures.made moves c.set_layout_state.ensures.sets c.store_made-remade.ensures.same c.store_made-remade.ensures.other
          c.in_ok-note.ensures;
      few = omega (arith, noted, ticked);
      lists = inr (c.tick.ensures, λ k. one_listed k c.args.h c.args.changed.now.items _ _ c.in_ok-note.ensures);
    }
