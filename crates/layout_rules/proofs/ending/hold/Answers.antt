use Rattle.std.proofs.Common.{arith, inl, inr, true, ◌≡◌, refl, subst, ap}
use Rattle.fx_geom.specs.declared.scales.Scale.{Scale}
use Rattle.delegates.specs.Table.{meant_in}
use Rattle.node_tree.specs.Tree.{Tree, IsTree}
use Rattle.widget_model.specs.View.{look_in}
use Rattle.layout_form.specs.Layout.{is_plugged, delegate_of}
use Rattle.layout_form.specs.Object.{setting_of}
use Rattle.kind_rules.specs.Asked.{found_of}
use Rattle.kind_rules.specs.Ruling.{ruling_of}
use Rattle.render_tree.specs.Object.{RenderObject}
use Rattle.layout_rules.specs.Ending.{held_gift}
use Rattle.layout_rules.specs.Places.{render_at}
use Rattle.layout_rules.proofs.Listed.{one_listed}
use Rattle.layout_rules.proofs.Repainting.{leaves_self, leaves_held, pushed_few}
use Rattle.layout_rules.proofs.Running.{gift_with, hold_can, hold_gift, hold_same, hold_new}
use Rattle.layout_rules.proofs.Scrolling.{place_read}
use Rattle.layout_rules.proofs.ending.hold.Goals as goal

pub make-requires-clause-fits : goal.make-requires-clause-fits
make-requires-clause-fits g c =
    let t = c.args.r.now.tree in
    let is_tree : IsTree t = subst (λ (x : Tree RenderObject). IsTree x) c.tree.ensures c.count_laws.ensures.tree in
    let at = place_read t c.args.h c.new-cursor.result.at c.new-cursor.result.tree.now c.args.r.now c.new-cursor.ensures.tree refl c.new-cursor.ensures.at in
    let place = render_at c.new-cursor.result.tree.now.tree c.new-cursor.result.at in
    (hold_can t c.args.h c.args.ask place (look_in c.kind.result.now) (look_in c.kind-2.result.now) c.state_at-state.result (found_of c.findings-found.result) is_tree at
    c.kind.ensures c.kind-2.ensures c.state_at-state.ensures c.findings-found.ensures c.requires.seen c.requires.can).fits

pub make-requires-clause-sizes : goal.make-requires-clause-sizes
make-requires-clause-sizes g c =
    let t = c.args.r.now.tree in
    let is_tree : IsTree t = subst (λ (x : Tree RenderObject). IsTree x) c.tree.ensures c.count_laws.ensures.tree in
    let at = place_read t c.args.h c.new-cursor.result.at c.new-cursor.result.tree.now c.args.r.now c.new-cursor.ensures.tree refl c.new-cursor.ensures.at in
    let place = render_at c.new-cursor.result.tree.now.tree c.new-cursor.result.at in
    (hold_can t c.args.h c.args.ask place (look_in c.kind.result.now) (look_in c.kind-2.result.now) c.state_at-state.result (found_of c.findings-found.result) is_tree at
    c.kind.ensures c.kind-2.ensures c.state_at-state.ensures c.findings-found.ensures c.requires.seen c.requires.can).sizes

pub make-requires-clause-stack : goal.make-requires-clause-stack
make-requires-clause-stack g c =
    let t = c.args.r.now.tree in
    let is_tree : IsTree t = subst (λ (x : Tree RenderObject). IsTree x) c.tree.ensures c.count_laws.ensures.tree in
    let at = place_read t c.args.h c.new-cursor.result.at c.new-cursor.result.tree.now c.args.r.now c.new-cursor.ensures.tree refl c.new-cursor.ensures.at in
    let place = render_at c.new-cursor.result.tree.now.tree c.new-cursor.result.at in
    (hold_can t c.args.h c.args.ask place (look_in c.kind.result.now) (look_in c.kind-2.result.now) c.state_at-state.result (found_of c.findings-found.result) is_tree at
    c.kind.ensures c.kind-2.ensures c.state_at-state.ensures c.findings-found.ensures c.requires.seen c.requires.can).stack

pub make-requires-clause-offset : goal.make-requires-clause-offset
make-requires-clause-offset g c =
    let t = c.args.r.now.tree in
    let is_tree : IsTree t = subst (λ (x : Tree RenderObject). IsTree x) c.tree.ensures c.count_laws.ensures.tree in
    let at = place_read t c.args.h c.new-cursor.result.at c.new-cursor.result.tree.now c.args.r.now c.new-cursor.ensures.tree refl c.new-cursor.ensures.at in
    let place = render_at c.new-cursor.result.tree.now.tree c.new-cursor.result.at in
    (hold_can t c.args.h c.args.ask place (look_in c.kind.result.now) (look_in c.kind-2.result.now) c.state_at-state.result (found_of c.findings-found.result) is_tree at
    c.kind.ensures c.kind-2.ensures c.state_at-state.ensures c.findings-found.ensures c.requires.seen c.requires.can).offset

pub make-requires-clause-walk : goal.make-requires-clause-walk
make-requires-clause-walk g c =
    let t = c.args.r.now.tree in
    let is_tree : IsTree t = subst (λ (x : Tree RenderObject). IsTree x) c.tree.ensures c.count_laws.ensures.tree in
    let at = place_read t c.args.h c.new-cursor.result.at c.new-cursor.result.tree.now c.args.r.now c.new-cursor.ensures.tree refl c.new-cursor.ensures.at in
    let place = render_at c.new-cursor.result.tree.now.tree c.new-cursor.result.at in
    (hold_can t c.args.h c.args.ask place (look_in c.kind.result.now) (look_in c.kind-2.result.now) c.state_at-state.result (found_of c.findings-found.result) is_tree at
    c.kind.ensures c.kind-2.ensures c.state_at-state.ensures c.findings-found.ensures c.requires.seen c.requires.can).walk

pub returns-then-is_frame-clause-ends : goal.returns-then-is_frame-clause-ends
returns-then-is_frame-clause-ends g c = λ v kids seen.
    let t = c.args.r.now.tree in
    let is_tree : IsTree t = subst (λ (x : Tree RenderObject). IsTree x) c.tree.ensures c.count_laws.ensures.tree in
    let at = place_read t c.args.h c.new-cursor.result.at c.new-cursor.result.tree.now c.args.r.now c.new-cursor.ensures.tree refl c.new-cursor.ensures.at in
    let place = render_at c.new-cursor.result.tree.now.tree c.new-cursor.result.at in
    let m = meant_in c.args.table.now (λ v. (g.dyn-1.0.entry v).1) in
    let s = setting_of c.args.r.now.scale m in
    let made = c.in_ok-made.made in
    let gift : gift_with (is_plugged m (delegate_of (look_in c.kind.result.now))) (ruling_of made) ≡ held_gift s c.args.ask v =
    hold_gift t c.args.h c.args.ask place (look_in c.kind.result.now) (look_in c.kind-2.result.now) c.state_at-state.result (found_of c.findings-found.result) is_tree at
    c.kind.ensures c.kind-2.ensures c.state_at-state.ensures c.findings-found.ensures v kids seen s (setting_of c.scale-scale.result m) (look_in c.kind.result.now) c.count.result (ruling_of made)
    (is_plugged m (delegate_of (look_in c.kind.result.now))) (ap (λ (x : Scale). setting_of x m) c.scale-scale.ensures) c.kind.ensures c.count.ensures c.in_ok-made.ensures refl in
    hold_same s c.args.ask t c.args.h v kids c.state_at-state.result (gift_with (is_plugged m (delegate_of (look_in c.kind.result.now))) (ruling_of made)) c.is_frame.result c.args.steps.now seen
    c.state_at-state.ensures gift c.is_frame.ensures c.if-is_frame.true

pub returns-clause-ends : goal.returns-clause-ends
returns-clause-ends g c = λ v kids seen.
    let t = c.args.r.now.tree in
    let is_tree : IsTree t = subst (λ (x : Tree RenderObject). IsTree x) c.tree.ensures c.count_laws.ensures.tree in
    let at = place_read t c.args.h c.new-cursor.result.at c.new-cursor.result.tree.now c.args.r.now c.new-cursor.ensures.tree refl c.new-cursor.ensures.at in
    let place = render_at c.new-cursor.result.tree.now.tree c.new-cursor.result.at in
    let m = meant_in c.args.table.now (λ v. (g.dyn-1.0.entry v).1) in
    let s = setting_of c.args.r.now.scale m in
    let made = c.in_ok-made.made in
    let gift : gift_with c.is_plugged.result (ruling_of made) ≡ held_gift s c.args.ask v =
    hold_gift t c.args.h c.args.ask place (look_in c.kind.result.now) (look_in c.kind-2.result.now) c.state_at-state.result (found_of c.findings-found.result) is_tree at
    c.kind.ensures c.kind-2.ensures c.state_at-state.ensures c.findings-found.ensures v kids seen s (setting_of c.scale-scale.result m) (look_in c.kind-3.result.now) c.count.result (ruling_of made)
    c.is_plugged.result (ap (λ (x : Scale). setting_of x m) c.scale-scale.ensures) c.kind-3.ensures c.count.ensures c.in_ok-made.ensures c.is_plugged.ensures in
    hold_new s c.args.ask t c.set_layout_state.new.self.tree c.args.h v kids c.state_at-state.result (gift_with c.is_plugged.result (ruling_of made)) c.is_frame.result c.args.steps.now c.tick.new.self seen
    c.state_at-state.ensures gift c.is_frame.ensures c.if-is_frame.false c.set_layout_state.ensures.sets c.tick.ensures

pub returns-then-is_frame-clause-changes : goal.returns-then-is_frame-clause-changes
returns-then-is_frame-clause-changes g c = record { paints = leaves_self c.args.r.now.tree c.args.h c.args.changed.now.items; few = omega arith; lists = inl refl }

pub returns-clause-changes : goal.returns-clause-changes
returns-clause-changes g c =
    let t = c.args.r.now.tree in
    let is_tree : IsTree t = subst (λ (x : Tree RenderObject). IsTree x) c.tree.ensures c.count_laws.ensures.tree in
    let pushed = pushed_few c.args.changed.now.items _ c.args.h c.in_ok-push.ensures.items in
    let ticked = c.tick.ensures in
    record {
      paints = leaves_held t c.set_layout_state.new.self.tree c.args.h c.state_at-state.result _ c.in_ok-made.made.frame c.is_frame.result c.args.changed.now.items _ is_tree c.requires.live c.state_at-state.ensures
          c.is_frame.ensures c.if-is_frame.false refl refl c.set_layout_state.ensures.sets c.in_ok-push.ensures.items;
      few = omega (arith, pushed, ticked);
      lists = inr (c.tick.ensures, λ k. one_listed k c.args.h c.args.changed.now.items _ true c.in_ok-push.ensures.items);
    }
