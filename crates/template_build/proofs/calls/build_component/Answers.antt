use Rattle.std.proofs.Common.{◌≡◌, ◌<◌, [], ◌∷◌, map, Err, IfOk, subst}
use Rattle.fx_expr.specs.ScopeView.{env_of}
use Rattle.program_check.specs.CheckedView.{plain_checked}
use Rattle.widget_model.specs.Plain.{widgets_of}
use Rattle.widget_model.specs.Size.{count_in}
use Rattle.widget_model.specs.Typed.{sort_of, IsTypedWidget, AreTypedWidgets}
use Rattle.widget_model.specs.View.{shared}
use Rattle.template_build.specs.declared.calls.TheConstants.{LIMIT}
use Rattle.template_build.specs.declared.faults.BuildFault.TheVariants.{OutputTooLarge}
use Rattle.template_build.specs.Program.{declarations_of, scene_in, component_output}
use Rattle.template_build.specs.Scene.{body_sort_at}
use Rattle.template_build.proofs.CallLemmas.{component_code, one_sort, one_typed, on_ok}
use Rattle.template_build.proofs.calls.build_component.Goals as goal

pub one_widget-requires-clause-built : goal.one_widget-requires-clause-built
one_widget-requires-clause-built g c =
    (component_code c.parts-program.result.now c.args.c.now c.as_slice-components.result.now c.args.component c.args.owner c.index-components-component.result
    (env_of c.args.s.now) (map shared c.args.slots.now) c.parts-program.ensures.checked.typed c.requires.component c.parts-program.ensures.parts
    c.as_slice-components.ensures.value c.index-components-component.is).built

pub one_widget-requires-clause-certain : goal.one_widget-requires-clause-certain
one_widget-requires-clause-certain g c =
    (component_code c.parts-program.result.now c.args.c.now c.as_slice-components.result.now c.args.component c.args.owner c.index-components-component.result
    (env_of c.args.s.now) (map shared c.args.slots.now) c.parts-program.ensures.checked.typed c.requires.component c.parts-program.ensures.parts
    c.as_slice-components.ensures.value c.index-components-component.is).certain

pub returns-clause-output : goal.returns-clause-output
returns-clause-output g c =
    let code = component_code c.parts-program.result.now c.args.c.now c.as_slice-components.result.now c.args.component c.args.owner c.index-components-component.result
    (env_of c.args.s.now) (map shared c.args.slots.now) c.parts-program.ensures.checked.typed c.requires.component c.parts-program.ensures.parts
    c.as_slice-components.ensures.value c.index-components-component.is in
    subst (λ ws. IfOk c.one_widget.result (λ w. ws ≡ shared w ∷ [])) code.output c.one_widget.ensures.output

pub returns-clause-too_large : goal.returns-clause-too_large
returns-clause-too_large g c =
    let code = component_code c.parts-program.result.now c.args.c.now c.as_slice-components.result.now c.args.component c.args.owner c.index-components-component.result
    (env_of c.args.s.now) (map shared c.args.slots.now) c.parts-program.ensures.checked.typed c.requires.component c.parts-program.ensures.parts
    c.as_slice-components.ensures.value c.index-components-component.is in
    subst (λ ws. c.one_widget.result ≡ Err OutputTooLarge → LIMIT < count_in ws) code.output c.one_widget.ensures.too_large

pub returns-clause-sort : goal.returns-clause-sort
returns-clause-sort g c =
    let code = component_code c.parts-program.result.now c.args.c.now c.as_slice-components.result.now c.args.component c.args.owner c.index-components-component.result
    (env_of c.args.s.now) (map shared c.args.slots.now) c.parts-program.ensures.checked.typed c.requires.component c.parts-program.ensures.parts
    c.as_slice-components.ensures.value c.index-components-component.is in
    let p = plain_checked c.args.c.now in
    let s = scene_in p (env_of c.args.s.now) (map shared c.args.slots.now) c.args.owner in
    let ws = component_output p c.args.component (env_of c.args.s.now) (map shared c.args.slots.now) c.args.owner in
    let sort = body_sort_at (declarations_of p) c.args.component in
    on_ok c.one_widget.result (λ w. ws ≡ shared w ∷ []) (λ w. sort_of (declarations_of p) (shared w) ≡ sort)
    (λ w e. one_sort sort s ws (shared w) code.fine e)
    (subst (λ ws. IfOk c.one_widget.result (λ w. ws ≡ shared w ∷ [])) code.output c.one_widget.ensures.output)

pub returns-clause-typed : goal.returns-clause-typed
returns-clause-typed g c =
    let code = component_code c.parts-program.result.now c.args.c.now c.as_slice-components.result.now c.args.component c.args.owner c.index-components-component.result
    (env_of c.args.s.now) (map shared c.args.slots.now) c.parts-program.ensures.checked.typed c.requires.component c.parts-program.ensures.parts
    c.as_slice-components.ensures.value c.index-components-component.is in
    let p = plain_checked c.args.c.now in
    let s = scene_in p (env_of c.args.s.now) (map shared c.args.slots.now) c.args.owner in
    let ws = component_output p c.args.component (env_of c.args.s.now) (map shared c.args.slots.now) c.args.owner in
    on_ok c.one_widget.result (λ w. ws ≡ shared w ∷ [])
    (λ w. AreTypedWidgets (declarations_of p) (widgets_of (map shared c.args.slots.now)) → IsTypedWidget (declarations_of p) (shared w))
    (λ w e. one_typed (body_sort_at (declarations_of p) c.args.component) s ws (shared w) code.fine e)
    (subst (λ ws. IfOk c.one_widget.result (λ w. ws ≡ shared w ∷ [])) code.output c.one_widget.ensures.output)
