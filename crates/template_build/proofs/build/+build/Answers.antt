-- In the cycle of a build each step is answered by what the steps below it promise.
use Rattle.std.proofs.Common.{◌≡◌, ◌+◌, ◌-◌, ◌<◌, ◌++◌, ◌∷◌, [], Some, Err, slice_get, vec_len, arith, refl, ap, sym, subst, map, ◌∙◌}
use Rattle.std.proofs.lemmas.List.Elements.{All-nil}
use Rattle.std.specs.declared.rc.Rc.{Rc}
use Rattle.std.specs.declared.alloc.Global.{Global}
use Rattle.program_check.specs.declared.checked.Body.{Body}
use Rattle.program_check.specs.Body.{members_in_body, body_depth}
use Rattle.program_check.specs.BodyView.{plain_body, plain_body_key_member}
use Rattle.widget_model.specs.declared.widgets.Widget.{Widget}
use Rattle.widget_model.specs.Size.{count_in}
use Rattle.widget_model.specs.Sized.{IsSized, AreSized}
use Rattle.widget_model.specs.View.{shared}
use Rattle.template_build.specs.Building.{plain_part, part_output, IsAdded, AddsWidgets, HasCause, holder_in, made_over, IsPartBuiltIn}
use Rattle.template_build.specs.Output.{items_in, output_of}
use Rattle.template_build.specs.Members.{value_or_zero}
use Rattle.template_build.specs.TemplateRole.{template_role_of}
use Rattle.template_build.specs.Scene.{inside}
use Rattle.template_build.specs.SceneView.{scene_of}
use Rattle.template_build.specs.Suits.{IsBuiltIn}
use Rattle.template_build.proofs.Adding.{one_more, no_room, all_added, item_is}
use Rattle.template_build.proofs.LoopLemmas.{scene_inside, popped, each_output}
use Rattle.template_build.proofs.OutputSteps.{outputs-flat}
use Rattle.template_build.proofs.PartLemmas.{part_below, one_depth}
use Rattle.template_build.proofs.HolderLemmas.{deep}
use Rattle.template_build.proofs.TypedParts.{one_built, loop_built_in, holder_built_in}
use Rattle.template_build.proofs.WidgetLemmas.{widget_at_none, widget_no_room, widget_added}
use Rattle.template_build.proofs.build.+build.Goals as goal

pub add_bodies-add_output-requires : goal.add_bodies-add_output-requires
add_bodies-add_output-requires t c =
    let b = c.body-item.result in
    let i = c.loop-body.body-index in
    let at = item_is c.args.bodies.now i b c.loop-body-test.true c.body-item.is in
    let inv = c.loop-body.invariant in (
      omega (arith, c.decreases, one_depth c.args.bodies.now i b c.loop-body-test.true c.body-item.is),
      (
        subst (λ vs. IsBuiltIn (scene_of c.args.scene.now vs) (plain_body b)) (sym inv.vars)
            (one_built (scene_of c.args.scene.now c.args.vars.now.items) c.args.bodies.now i b c.requires.built at),
        (inv.added.sizes, (c.requires.sound, omega (arith, c.requires.small))),
      ),
    )

pub add_bodies-returns-in_err-size-clause-too_large : goal.add_bodies-returns-in_err-size-clause-too_large
add_bodies-returns-in_err-size-clause-too_large t c = λ e.
    let k = rw e at c.from_residual.ensures.1 in
    let b = c.body-item.result in
    let i = c.loop-body.body-index in
    let s = scene_of c.args.scene.now c.args.vars.now.items in
    let inv = c.loop-body.invariant in
    let full = subst (λ vs. c.args.room - c.loop-body.size < count_in (output_of (plain_body b) (scene_of c.args.scene.now vs))) inv.vars
    (c.in_err-size.ensures.too_large (ap Err (sym k))) in
    subst (λ ws. c.args.room < count_in ws) (sym (outputs-flat c.args.bodies.now s))
    (no_room (λ (b : Body). output_of (plain_body b) s) c.args.bodies.now i b c.args.room c.loop-body.size c.args.into.now.items c.loop-body.into.items
    (item_is c.args.bodies.now i b c.loop-body-test.true c.body-item.is) inv.added full)

pub add_bodies-loop-body-preserved : goal.add_bodies-loop-body-preserved
add_bodies-loop-body-preserved t c =
    let b = c.body-item.result in
    let i = c.loop-body.body-index in
    let s = scene_of c.args.scene.now c.args.vars.now.items in
    let inv = c.loop-body.invariant in
    let here = subst (λ vs. IsAdded (output_of (plain_body b) (scene_of c.args.scene.now vs)) (c.args.room - c.loop-body.size) c.loop-body.into.items c.add_output.new.into.items c.in_ok-size.field-0)
    inv.vars c.in_ok-size.ensures.added in
    record {
      added =
          one_more (λ (b : Body). output_of (plain_body b) s) c.args.bodies.now i _ b c.args.room c.loop-body.size c.in_ok-size.field-0
          c.args.into.now.items c.loop-body.into.items c.add_output.new.into.items refl
          (item_is c.args.bodies.now i b c.loop-body-test.true c.body-item.is) inv.added here;
      vars = c.in_ok-size.ensures.vars ∙ inv.vars;
    }

pub add_bodies-returns-clause-added : goal.add_bodies-returns-clause-added
add_bodies-returns-clause-added t c =
    let s = scene_of c.args.scene.now c.args.vars.now.items in
    subst (λ ws. IsAdded ws c.args.room c.args.into.now.items c.loop-body.into.items c.loop-body.size) (sym (outputs-flat c.args.bodies.now s))
    (all_added (λ (b : Body). output_of (plain_body b) s) c.args.bodies.now c.loop-body.body-index c.args.room c.loop-body.size
    c.args.into.now.items c.loop-body.into.items c.loop-body-test.false c.loop-body.invariant.added)

pub add_each-add_items-requires : goal.add_each-add_items-requires
add_each-add_items-requires t c =
    let b = c.args.body.now in
    let s = scene_of c.args.scene.now c.args.vars.now.items in
    let list = c.in_ok-list.list in
    let listed = subst (λ vs. list ≡ value_or_zero (members_in_body (plain_body b)) 1 (scene_of c.args.scene.now vs)) c.as_slice.ensures.value c.in_ok-list.ensures in (
      omega (arith, c.decreases, part_below c.part.result (body_depth (plain_body b)) (deep (plain_body b)) c.part.ensures.depth),
      (
        λ i x at. subst (IsPartBuiltIn (inside x s)) (sym c.part.ensures.part)
            (loop_built_in s b i x c.requires.role c.requires.built (subst (λ v. slice_get (items_in v) i ≡ Some x) listed at)),
        (c.requires.sizes, (c.requires.sound, c.requires.small)),
      ),
    )

pub add_each-returns-clause-added : goal.add_each-returns-clause-added
add_each-returns-clause-added t c =
    let b = c.args.body.now in
    let s = scene_of c.args.scene.now c.args.vars.now.items in
    let list = c.in_ok-list.list in
    let listed = subst (λ vs. list ≡ value_or_zero (members_in_body (plain_body b)) 1 (scene_of c.args.scene.now vs)) c.as_slice.ensures.value c.in_ok-list.ensures in
    subst (λ ws. AddsWidgets ws c.args.room c.args.into.now.items c.add_items.new.into.items c.add_items.result)
    (each_output b s (plain_part c.part.result) list c.requires.role c.part.ensures.part listed) c.add_items.ensures.added

pub add_each-returns-clause-too_large : goal.add_each-returns-clause-too_large
add_each-returns-clause-too_large t c =
    let b = c.args.body.now in
    let s = scene_of c.args.scene.now c.args.vars.now.items in
    let list = c.in_ok-list.list in
    let listed = subst (λ vs. list ≡ value_or_zero (members_in_body (plain_body b)) 1 (scene_of c.args.scene.now vs)) c.as_slice.ensures.value c.in_ok-list.ensures in
    subst (λ ws. HasCause ws c.args.room c.add_items.result)
    (each_output b s (plain_part c.part.result) list c.requires.role c.part.ensures.part listed) c.add_items.ensures.too_large

pub add_items-returns-in_err-size-clause-too_large : goal.add_items-returns-in_err-size-clause-too_large
add_items-returns-in_err-size-clause-too_large t c =
    λ e.
    let k = rw e at c.from_residual-in_err-size.ensures.1 in
    let p = plain_part c.args.part in
    let x = c.in_ok-item.field-0 in
    let s = scene_of c.args.scene.now c.args.vars.now.items in
    let inv = c.loop-i.invariant in
    let within = scene_inside c.args.scene.now c.push.new.self.items c.loop-i.vars.items c.args.vars.now.items x c.in_ok-push.ensures.items inv.vars in
    no_room (λ v. part_output p (inside v s)) (items_in c.args.list.now) c.loop-i.i x c.args.room c.loop-i.size c.args.into.now.items c.loop-i.into.items
    c.in_ok-item.ensures inv.added
    (subst (λ s. c.args.room - c.loop-i.size < count_in (part_output p s)) within (c.in_err-size.ensures.too_large (ap Err (sym k))))

pub add_items-loop-i-preserved : goal.add_items-loop-i-preserved
add_items-loop-i-preserved t c =
    let p = plain_part c.args.part in
    let x = c.in_ok-item.field-0 in
    let s = scene_of c.args.scene.now c.args.vars.now.items in
    let inv = c.loop-i.invariant in
    let within = scene_inside c.args.scene.now c.push.new.self.items c.loop-i.vars.items c.args.vars.now.items x c.in_ok-push.ensures.items inv.vars in
    record {
      added =
          one_more (λ v. part_output p (inside v s)) (items_in c.args.list.now) c.loop-i.i _ x c.args.room c.loop-i.size c.in_ok-size.field-0
          c.args.into.now.items c.loop-i.into.items c.add_part.new.into.items refl c.in_ok-item.ensures inv.added
          (subst (λ s. IsAdded (part_output p s) (c.args.room - c.loop-i.size) c.loop-i.into.items c.add_part.new.into.items c.in_ok-size.field-0) within c.in_ok-size.ensures.added);
      vars =
          popped c.loop-i.vars.items c.args.vars.now.items c.add_part.new.vars.items c.pop.new.self.items x (vec_len c.add_part.new.vars)
          (c.in_ok-size.ensures.vars ∙ c.in_ok-push.ensures.items) (omega (arith, c.add_part.new.vars.ok.0)) c.pop.ensures.rest inv.vars;
    }

pub add_widget-returns-then-room-eq0-clause-too_large : goal.add_widget-returns-then-room-eq0-clause-too_large
add_widget-returns-then-room-eq0-clause-too_large t c = λ _.
    widget_at_none c.args.body.now (scene_of c.args.scene.now c.args.vars.now.items) c.args.room c.requires.role c.if-room-eq0.true

pub add_widget-add_part-requires : goal.add_widget-add_part-requires
add_widget-add_part-requires t c =
    let s = scene_of c.args.scene.now c.args.vars.now.items in (
      omega (arith, c.decreases, c.holder.ensures.depth),
      (
        subst (IsPartBuiltIn s) (sym c.holder.ensures.part) (holder_built_in s c.args.body.now c.requires.role c.requires.built),
        (
          subst AreSized (sym c.new-below.ensures.items) (All-nil (λ (r : Rc Widget Global). IsSized r.value)),
          (c.requires.sound, omega (arith, c.requires.small)),
        ),
      ),
    )

pub add_widget-returns-in_err-size-clause-too_large : goal.add_widget-returns-in_err-size-clause-too_large
add_widget-returns-in_err-size-clause-too_large t c = λ e.
    let k = rw e at c.from_residual.ensures.1 in
    let s = scene_of c.args.scene.now c.args.vars.now.items in
    widget_no_room c.args.body.now s c.args.room c.requires.role
    (subst (λ p. c.args.room - 1 < count_in (part_output p s)) c.holder.ensures.part (c.in_err-size.ensures.too_large (ap Err (sym k))))

pub add_widget-returns-clause-added : goal.add_widget-returns-clause-added
add_widget-returns-clause-added t c =
    let b = c.args.body.now in
    let s = scene_of c.args.scene.now c.args.vars.now.items in
    let ms = members_in_body (plain_body b) in
    let below = c.add_part.new.into.items in
    let new = c.add_made.new.into.items in
    let added = subst (λ p. IsAdded (part_output p s) (c.args.room - 1) c.new-below.result.items below c.in_ok-size.size) c.holder.ensures.part c.in_ok-size.ensures.added in
    let alone = subst (λ xs. IsAdded (part_output (holder_in ms) s) (c.args.room - 1) xs below c.in_ok-size.size) c.new-below.ensures.items added in
    let widgets = subst (λ vs. map shared new ≡ map shared c.args.into.now.items ++ made_over (template_role_of b.w) b.w (plain_body_key_member b.key) ms (scene_of c.args.scene.now vs) (map shared below) ∷ [])
    (c.as_slice.ensures.value ∙ c.in_ok-size.ensures.vars) c.in_ok-add_made.ensures.widgets in
    widget_added b s c.args.room c.in_ok-size.size c.args.into.now.items below new c.requires.role (omega arith) alone widgets c.in_ok-add_made.ensures.sizes
