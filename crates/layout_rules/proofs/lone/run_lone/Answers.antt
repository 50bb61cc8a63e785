use Rattle.std.proofs.Common.{refl, subst, ap, inr, false, arith}
use Rattle.fx_geom.specs.declared.scales.Scale.{Scale}
use Rattle.delegates.specs.Table.{meant_in}
use Rattle.node_tree.specs.Tree.{Tree, IsTree}
use Rattle.widget_model.specs.View.{look_in}
use Rattle.layout_form.specs.Object.{setting_of}
use Rattle.plain_tree.specs.declared.laid.Frame.TheVariants.{Boxed}
use Rattle.render_tree.specs.Edits.{no_notes}
use Rattle.render_tree.specs.Object.{RenderObject}
use Rattle.layout_rules.specs.Places.{render_at}
use Rattle.layout_rules.proofs.Bare.{bare_ends, noted_alone}
use Rattle.layout_rules.proofs.Listed.{one_listed}
use Rattle.layout_rules.proofs.Repainting.{leaves_made, moves_none, noted_few}
use Rattle.layout_rules.proofs.Scrolling.{place_read}
use Rattle.layout_rules.proofs.lone.run_lone.Goals as goal

pub returns-clause-ends : goal.returns-clause-ends
returns-clause-ends g c = λ v kids seen.
    let t = c.args.r.now.tree in
    let is_tree : IsTree t = subst (λ (x : Tree RenderObject). IsTree x) c.tree.ensures c.count_laws.ensures.tree in
    let at = place_read t c.args.h c.new-cursor.result.at c.new-cursor.result.tree.now c.args.r.now c.new-cursor.ensures.tree refl c.new-cursor.ensures.at in
    let place = render_at c.new-cursor.result.tree.now.tree c.new-cursor.result.at in
    let m = meant_in c.args.table.now (λ v. (g.dyn-1.0.entry v).1) in
    let s = setting_of c.args.r.now.scale m in
    bare_ends s (setting_of c.scale.result m) t c.set_layout_state.new.self.tree c.args.h v kids c.args.b c.args.size c.state_at-state.result c.store_made-remade.new.state place
    (look_in c.kind-kind.result.now) c.args.steps.now c.tick.new.self is_tree c.requires.empty seen c.requires.lone at c.kind-kind.ensures c.state_at-state.ensures
    (ap (λ (x : Scale). setting_of x m) c.scale.ensures) c.store_made-remade.ensures.made c.set_layout_state.ensures.sets c.tick.ensures

pub returns-clause-changes : goal.returns-clause-changes
returns-clause-changes g c =
    let t = c.args.r.now.tree in
    let is_tree : IsTree t = subst (λ (x : Tree RenderObject). IsTree x) c.tree.ensures c.count_laws.ensures.tree in
    let m = meant_in c.args.table.now (λ v. (g.dyn-1.0.entry v).1) in
    let noted = noted_few c.args.changed.now.items _ c.args.h _ c.in_ok-note.ensures in
    let ticked = c.tick.ensures in
    record {
      paints = leaves_made (setting_of c.scale.result m) (look_in c.kind-kind.result.now) (Boxed c.args.b c.args.size) no_notes 0 t t c.set_layout_state.new.self.tree c.args.h c.state_at-state.result
          c.store_made-remade.new.state c.store_made-remade.result false false c.args.changed.now.items _ is_tree c.requires.live c.state_at-state.ensures c.store_made-remade.ensures.made
          (moves_none t c.args.h) c.set_layout_state.ensures.sets c.store_made-remade.ensures.same c.store_made-remade.ensures.other
          (noted_alone c.args.changed.now.items _ c.args.h c.store_made-remade.result c.in_ok-note.ensures);
      few = omega (arith, noted, ticked);
      lists = inr (c.tick.ensures, λ k. one_listed k c.args.h c.args.changed.now.items _ _ c.in_ok-note.ensures);
    }
