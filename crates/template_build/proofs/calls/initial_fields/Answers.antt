use Rattle.std.proofs.Common.{◌≡◌, map, IfOk, sym, subst, ap, ◌∙◌}
use Rattle.fx_expr.specs.Scope.{types_in}
use Rattle.fx_expr.specs.ValueOf.{value_of}
use Rattle.program_check.specs.CheckedView.{plain_checked}
use Rattle.widget_model.specs.Typed.{AreTypedFields}
use Rattle.template_build.specs.Program.{declarations_of, props_alone}
use Rattle.template_build.specs.Scene.{declaration_at}
use Rattle.template_build.specs.Wanted.{HaveTypes}
use Rattle.template_build.proofs.CallLemmas.{code_fields, begin_types, begin_typed, initial_is, on_ok}
use Rattle.template_build.proofs.calls.initial_fields.Goals as goal

pub values_of-requires : goal.values_of-requires
values_of-requires c =
    let k = c.requires.component in
    let es = code_fields c.parts.result.now c.args.c.now c.as_slice-components.result.now c.args.component c.index-components-component.result k c.as_slice.result.now
    c.parts.ensures.parts c.as_slice-components.ensures.value c.requires.found c.index-components-component.is c.as_slice.ensures.value in
    subst (HaveTypes (types_in (props_alone c.args.props.now))) (sym es)
    (begin_types (plain_checked c.args.c.now) c.args.component c.args.props.now c.parts.ensures.checked.typed c.requires)

pub returns-clause-fields : goal.returns-clause-fields
returns-clause-fields c =
    let p = plain_checked c.args.c.now in
    let vs = c.args.props.now in
    let es = code_fields c.parts.result.now c.args.c.now c.as_slice-components.result.now c.args.component c.index-components-component.result c.requires.component c.as_slice.result.now
    c.parts.ensures.parts c.as_slice-components.ensures.value c.requires.found c.index-components-component.is c.as_slice.ensures.value in
    subst (λ us. IfOk c.values_of.result (λ r. r.items ≡ us)) (ap (map (λ e. value_of e (props_alone vs))) es ∙ sym (initial_is p c.args.component vs c.requires)) c.values_of.ensures

pub returns-clause-typed : goal.returns-clause-typed
returns-clause-typed c =
    let p = plain_checked c.args.c.now in
    let vs = c.args.props.now in
    let k = c.requires.component in
    let es = code_fields c.parts.result.now c.args.c.now c.as_slice-components.result.now c.args.component c.index-components-component.result k c.as_slice.result.now
    c.parts.ensures.parts c.as_slice-components.ensures.value c.requires.found c.index-components-component.is c.as_slice.ensures.value in
    let d = declaration_at (declarations_of p) c.args.component in
    let fields = map (λ e. value_of e (props_alone vs)) k.fields.values in
    on_ok c.values_of.result (λ r. r.items ≡ fields) (λ r. AreTypedFields d r.items)
    (λ r e. subst (AreTypedFields d) (sym e) (begin_typed p c.args.component vs c.parts.ensures.checked.typed c.requires))
    (subst (λ us. IfOk c.values_of.result (λ r. r.items ≡ us)) (ap (map (λ e. value_of e (props_alone vs))) es) c.values_of.ensures)
