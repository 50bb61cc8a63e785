use Rattle.std.proofs.Common.{◌≡◌, ℕ, List, sym, ap, ◌∙◌, subst, arith}
use Rattle.std.proofs.lemmas.Result.{IfOk-weaker}
use Rattle.fx_expr.specs.declared.values.Value.{Value}
use Rattle.widget_model.specs.Plain.{widgets_of, list_of}
use Rattle.widget_model.specs.PlainLaws.{list_of-widgets_of}
use Rattle.widget_model.specs.Typed.{AreTypedWidgets}
use Rattle.widget_model.specs.View.{plain_of, look_in, slots_in}
use Rattle.program_check.specs.CheckedView.{plain_checked}
use Rattle.template_build.specs.Program.{component_output, declarations_of}
use Rattle.template_build.specs.Suits.{MayBuild}
use Rattle.build_form.specs.BuildRole.{composes, build_role_of}
use Rattle.build_form.specs.Entering.{small_enough}
use Rattle.build_form.specs.Program.{names_in, blueprint_of}
use Rattle.build_form.specs.WellBuilt.{FitFields}
use Rattle.build_form.proofs.Outcomes.{fault_map, on_any}
use Rattle.build_form.proofs.Typing.{may_build, composed, children_given, not_composes}
use Rattle.build_owner.proofs.Gives.{none_built_so, one_built_so, any_fault}
use Rattle.build_owner.proofs.program.given_by_body.Goals as goal

pub output-requires : goal.output-requires
output-requires g c =
    let C = plain_checked c.args.checked.now in
    let w = c.args.widget.now in
    let place = c.in-Composes.component in
    let fields = c.args.fields.now in
    let values = c.args.values.now in
    let fit = subst (λ p. FitFields (declarations_of C) p fields) (sym c.in-Composes.ensures.part) c.requires.fields in
    let may = may_build C w.key (slots_in w.kind) w.children place c.in-Composes.props.now (look_in w.kind) c.requires.typed (sym c.in-Composes.ensures.part) fields values fit c.requires.values in
    let for_slots = subst (λ ss. MayBuild C place (names_in c.in-Composes.props.now fields values) ss) (sym c.in-Composes.ensures.slots) may in
    subst (λ props. MayBuild C place (names_in props fields values) c.in-Composes.slots.now) (sym c.get.ensures) for_slots

pub returns-in-Composes-clause-ok : goal.returns-in-Composes-clause-ok
returns-in-Composes-clause-ok g c =
    let C = plain_checked c.args.checked.now in
    let w = c.args.widget.now in
    let place = c.in-Composes.component in
    let n = c.args.number in
    let fields = c.args.fields.now in
    let values = c.args.values.now in
    IfOk-weaker c.output.result _ _
    (λ ws h s.
    sym (composed (blueprint_of C) (build_role_of (look_in w.kind)) (look_in w.kind) w.key (slots_in w.kind) c.in-Composes.slots.now (widgets_of w.children) place c.in-Composes.props.now values n fields s
    c.in-Composes.ensures.part c.in-Composes.ensures.slots)
    ∙ ap (λ ps. small_enough (component_output C place (names_in ps fields values) c.in-Composes.slots.now n) s) (sym c.get.ensures)
    ∙ h (plain_of w) s)
    c.output.ensures.ok

pub returns-in-Composes-clause-fault : goal.returns-in-Composes-clause-fault
returns-in-Composes-clause-fault g c =
    let C = plain_checked c.args.checked.now in
    let w = c.args.widget.now in
    let place = c.in-Composes.component in
    let n = c.args.number in
    let fields = c.args.fields.now in
    let values = c.args.values.now in
    fault_map _ _ c.output.result
    (λ f h s.
    sym (composed (blueprint_of C) (build_role_of (look_in w.kind)) (look_in w.kind) w.key (slots_in w.kind) c.in-Composes.slots.now (widgets_of w.children) place c.in-Composes.props.now values n fields s
    c.in-Composes.ensures.part c.in-Composes.ensures.slots)
    ∙ ap (λ ps. small_enough (component_output C place (names_in ps fields values) c.in-Composes.slots.now n) s) (sym c.get.ensures)
    ∙ h s)
    c.output.ensures.fault

pub returns-in-Composes-clause-typed : goal.returns-in-Composes-clause-typed
returns-in-Composes-clause-typed g c =
    let d = declarations_of (plain_checked c.args.checked.now) in
    let w = c.args.widget.now in
    IfOk-weaker c.output.result _ _
    (λ o h. h (plain_of w) (subst (λ ws. AreTypedWidgets d (widgets_of ws)) (sym c.in-Composes.ensures.slots) c.requires.typed.in_slots))
    c.output.ensures.typed

pub returns : goal.returns
returns g c =
    let C = plain_checked c.args.checked.now in
    let w = c.args.widget.now in
    let not = λ (place : ℕ) (props : List Value) (e : build_role_of (look_in w.kind) ≡ composes place props). not_composes c.build_role_of.result c.in_default.not-Composes place props (c.build_role_of.ensures.part ∙ e) in
    let same : list_of (widgets_of w.children) ≡ w.children = list_of-widgets_of w.children in
    record {
      ok = children_given (blueprint_of C) (look_in w.kind) w.key (widgets_of (slots_in w.kind)) w.children (list_of (widgets_of w.children)) c.args.values.now c.args.number c.args.fields.now not same;
      fault = tt;
      typed = subst (λ ws. AreTypedWidgets (declarations_of C) (widgets_of ws)) (sym same) c.requires.typed.below;
      one = λ place props e. absurd (not place props e);
      builds = omega (arith, none_built_so (look_in w.kind) not);
      builds_at_fault = tt;
    }

pub returns-in-Composes-clause-one : goal.returns-in-Composes-clause-one
returns-in-Composes-clause-one g c = IfOk-weaker c.output.result _ _ (λ ws h place props e. h (plain_of c.args.widget.now)) c.output.ensures.one

pub returns-in-Composes-clause-builds : goal.returns-in-Composes-clause-builds
returns-in-Composes-clause-builds g c =
    let one = one_built_so (look_in c.args.widget.now.kind) c.in-Composes.component c.in-Composes.props.now c.in-Composes.ensures.part in
    on_any _ c.output.result (omega (arith, one, c.output.ensures.builds))

pub returns-in-Composes-clause-builds_at_fault : goal.returns-in-Composes-clause-builds_at_fault
returns-in-Composes-clause-builds_at_fault g c =
    let one = one_built_so (look_in c.args.widget.now.kind) c.in-Composes.component c.in-Composes.props.now c.in-Composes.ensures.part in
    any_fault _ c.output.result (omega (arith, one, c.output.ensures.builds))
