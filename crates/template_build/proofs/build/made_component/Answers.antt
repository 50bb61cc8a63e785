use Rattle.std.proofs.Common.{◌≡◌, ◌<◌, get_or, length, map, refl, ap, sym, subst, ◌∙◌, arith}
use Rattle.program_check.specs.declared.checked.CheckedComponent.{CheckedComponent}
use Rattle.program_check.specs.Body.{members_in_body}
use Rattle.program_check.specs.BodyView.{plain_body, plain_body_key_member}
use Rattle.widget_model.specs.View.{shared}
use Rattle.template_build.specs.Scene.{declaration_at}
use Rattle.template_build.specs.SceneView.{scene_of}
use Rattle.template_build.proofs.UseLemmas.{component_below, declaration_is, use_is_made}
use Rattle.template_build.proofs.build.made_component.Goals as goal

pub bounds-components-component : goal.bounds-components-component
bounds-components-component c =
    let s = scene_of c.args.scene.now c.args.vars.now in
    let cs = c.args.scene.now.program.now.components.items in
    omega (
      arith,
      c.name-component.ensures,
      ap length c.as_slice-components.ensures.value,
      component_below s c.args.body.now (length c.args.scene.now.program.now.inherited.names) cs c.requires.role c.requires.built refl,
    )

pub returns-clause-widget : goal.returns-clause-widget
returns-clause-widget c =
    let s = scene_of c.args.scene.now c.args.vars.now in
    let program = c.args.scene.now.program.now in
    let cs = program.components.items in
    let x = c.index-components-component.result in
    let count = length program.inherited.names in
    let below = component_below s c.args.body.now count cs c.requires.role c.requires.built refl in
    let ms = members_in_body (plain_body c.args.body.now) in
    let place = c.name-component.result in
    let at : place < length cs = omega (arith, c.name-component.ensures, below) in
    let same : x ≡ get_or cs place x = subst (λ ys. x ≡ get_or ys place x) c.as_slice-components.ensures.value c.index-components-component.is in
    use_is_made c.args.body.now.w (plain_body_key_member c.args.body.now.key) ms s c.new-2.result place c.in_ok-props.props c.of.result (map shared c.args.below.items)
    c.in_ok-decl.decl c.in_ok-key.key c.requires.role c.new-2.ensures.kind c.new-2.ensures.key
    (c.new-2.ensures.children ∙ c.of-2.ensures ∙ ap (map shared) c.new.ensures.items) c.name-component.ensures c.in_ok-props.ensures c.of.ensures
    (c.in_ok-decl.ensures.cases ∙ ap (λ (x : CheckedComponent). x.decl.value) (sym c.index-components-component.is) ∙ declaration_is count cs place x c.requires.sound.decls at same ∙ ap (declaration_at s.declared) c.name-component.ensures)
    c.in_ok-key.ensures
