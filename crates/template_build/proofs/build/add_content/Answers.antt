use Rattle.std.proofs.Common.{refl, sym, subst, ap, ◌∙◌, arith}
use Rattle.std.specs.declared.rc.Rc.{Rc}
use Rattle.std.specs.declared.alloc.Global.{Global}
use Rattle.program_check.specs.BodyView.{plain_body}
use Rattle.widget_model.specs.declared.widgets.Widget.{Widget}
use Rattle.template_build.specs.Building.{IsAdded}
use Rattle.template_build.specs.Output.{output_of}
use Rattle.template_build.specs.SceneView.{scene_of}
use Rattle.template_build.proofs.ChoiceLemmas.{content_below, given_below_length, content_too_large, content_added}
use Rattle.template_build.proofs.build.add_content.Goals as goal

pub returns-then-size-room-clause-too_large : goal.returns-then-size-room-clause-too_large
returns-then-size-room-clause-too_large c = λ _.
    let s = scene_of c.args.scene.now c.args.vars.now in
    let gs = c.args.scene.now.given.now in
    let place = c.name.result in
    let below = given_below_length gs place (omega (arith, c.name.ensures, content_below s c.args.body.now c.requires.role c.requires.built)) in
    content_too_large s c.args.body.now gs place c.index-scene-name.result c.args.room c.requires.role refl c.name.ensures c.requires.sound.sizes below c.index-scene-name.is
    (omega (arith, c.if-size-room.true, ap (λ (w : Widget). w.size) c.deref.ensures ∙ ap (λ (r : Rc Widget Global). r.value.size) (sym c.index-scene-name.is)))

pub returns-clause-added : goal.returns-clause-added
returns-clause-added c =
    let s = scene_of c.args.scene.now c.args.vars.now in
    let gs = c.args.scene.now.given.now in
    let place = c.name.result in
    let r = c.index-scene-name.result in
    let size = ap (λ (w : Widget). w.size) c.deref.ensures ∙ ap (λ (r : Rc Widget Global). r.value.size) (sym c.index-scene-name.is) in
    let below = given_below_length gs place (omega (arith, c.name.ensures, content_below s c.args.body.now c.requires.role c.requires.built)) in
    subst (λ n. IsAdded (output_of (plain_body c.args.body.now) s) c.args.room c.args.into.now.items c.push.new.self.items n) (sym size)
    (subst (λ xs. IsAdded (output_of (plain_body c.args.body.now) s) c.args.room c.args.into.now.items xs r.value.size) (sym c.in_ok-push.ensures.items)
    (content_added s c.args.body.now gs place r c.in_ok-clone.field-0 c.args.room c.args.into.now.items c.requires.role refl c.name.ensures
    c.requires.sound.sizes below c.index-scene-name.is (omega (arith, c.if-size-room.false, size)) c.requires.small (c.in_ok-clone.ensures.cases ∙ ap (λ (r : Rc Widget Global). r.value) (sym c.index-scene-name.is)) c.requires.sizes))
