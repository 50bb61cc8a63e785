use Rattle.std.proofs.Common.{sym, ap, ◌∙◌, subst}
use Rattle.std.proofs.lemmas.Result.{IfOk-weaker}
use Rattle.widget_model.specs.Plain.{widgets_of}
use Rattle.widget_model.specs.Typed.{AreTypedWidgets}
use Rattle.widget_model.specs.View.{look_in, slots_in}
use Rattle.program_check.specs.CheckedView.{plain_checked}
use Rattle.template_build.specs.Program.{component_output, declarations_of}
use Rattle.template_build.specs.Suits.{MayBuild}
use Rattle.build_form.specs.BuildRole.{build_role_of}
use Rattle.build_form.specs.Entering.{small_enough}
use Rattle.build_form.specs.Program.{names_in, blueprint_of}
use Rattle.build_form.specs.WellBuilt.{FitFields}
use Rattle.build_form.proofs.Outcomes.{fault_map}
use Rattle.build_form.proofs.Typing.{may_build, composed, not_composes}
use Rattle.first_builds.proofs.mounting.output.Goals as goal

pub unreachable-requires : goal.unreachable-requires
unreachable-requires g c =
    let role = c.requires.composes in
    not_composes c.build_role_of.result c.in_default.not-Composes role.0 role.1 (c.build_role_of.ensures.part ∙ role.2)

pub body_output-requires : goal.body_output-requires
body_output-requires g c =
    let C = plain_checked c.args.from.now.checked.now in
    let w = c.args.widget.now in
    let place = c.in-Composes.component in
    let fields = c.args.fields.now in
    let values = c.args.values.now in
    let fit = subst (λ p. FitFields (declarations_of C) p fields) (sym c.in-Composes.ensures.part) c.requires.fields in
    let may = may_build C w.key (slots_in w.kind) w.children place c.in-Composes.props.now (look_in w.kind) c.requires.typed (sym c.in-Composes.ensures.part) fields values fit c.requires.values in
    let for_slots = subst (λ ss. MayBuild C place (names_in c.in-Composes.props.now fields values) ss) (sym c.in-Composes.ensures.slots) may in
    subst (λ props. MayBuild C place (names_in props fields values) c.in-Composes.slots.now) (sym c.get.ensures) for_slots

pub returns-clause-ok : goal.returns-clause-ok
returns-clause-ok g c =
    let C = plain_checked c.args.from.now.checked.now in
    let w = c.args.widget.now in
    let place = c.in-Composes.component in
    let n = c.args.number in
    let fields = c.args.fields.now in
    let values = c.args.values.now in
    IfOk-weaker c.body_output.result _ _
    (λ o h s.
    sym (composed (blueprint_of C) (build_role_of (look_in w.kind)) (look_in w.kind) w.key (slots_in w.kind) c.in-Composes.slots.now (widgets_of w.children) place c.in-Composes.props.now values n fields s
    c.in-Composes.ensures.part c.in-Composes.ensures.slots)
    ∙ ap (λ ps. small_enough (component_output C place (names_in ps fields values) c.in-Composes.slots.now n) s) (sym c.get.ensures)
    ∙ h s)
    c.body_output.ensures.ok

pub returns-clause-fault : goal.returns-clause-fault
returns-clause-fault g c =
    let C = plain_checked c.args.from.now.checked.now in
    let w = c.args.widget.now in
    let place = c.in-Composes.component in
    let n = c.args.number in
    let fields = c.args.fields.now in
    let values = c.args.values.now in
    fault_map _ _ c.body_output.result
    (λ f h s.
    sym (composed (blueprint_of C) (build_role_of (look_in w.kind)) (look_in w.kind) w.key (slots_in w.kind) c.in-Composes.slots.now (widgets_of w.children) place c.in-Composes.props.now values n fields s
    c.in-Composes.ensures.part c.in-Composes.ensures.slots)
    ∙ ap (λ ps. small_enough (component_output C place (names_in ps fields values) c.in-Composes.slots.now n) s) (sym c.get.ensures)
    ∙ h s)
    c.body_output.ensures.fault

pub returns-clause-typed : goal.returns-clause-typed
returns-clause-typed g c =
    let d = declarations_of (plain_checked c.args.from.now.checked.now) in
    IfOk-weaker c.body_output.result _ _
    (λ o h. h (subst (λ ws. AreTypedWidgets d (widgets_of ws)) (sym c.in-Composes.ensures.slots) c.requires.typed.in_slots))
    c.body_output.ensures.typed
