use Rattle.std.proofs.Common.{◌≡◌, ◌+◌, [], ◌∷◌, Some, refl, sym, ap, ◌∙◌, subst}
use Rattle.std.proofs.lemmas.Result.{err_from_is_err_and}
use Rattle.widget_model.specs.declared.widgets.Widget.{Widget}
use Rattle.widget_model.specs.Plain.{look_of, slots_of}
use Rattle.widget_model.specs.View.{plain_of, look_in, shared}
use Rattle.build_form.specs.BuildRole.{build_role_of}
use Rattle.build_form.specs.Entering.{first_fields, given_by}
use Rattle.build_form.specs.FaultView.{fault_of}
use Rattle.build_form.specs.WellBuilt.{FitFields}
use Rattle.build_form.proofs.Outcomes.{some_map}
use Rattle.element_tree.specs.Element.{made_count}
use Rattle.program_check.specs.CheckedView.{plain_checked}
use Rattle.build_owner.specs.WalkView.{declared_by, program_of}
use Rattle.build_owner.proofs.Follows.{are_declared}
use Rattle.first_builds.specs.SpotView.{place_of}
use Rattle.first_builds.proofs.Opened.{output_listless}
use Rattle.first_builds.proofs.Parts.{composed_hidden, hidden_mounts}
use Rattle.first_builds.proofs.mounting.mount_component.Goals as goal

pub mount_element-requires-clause-free : goal.mount_element-requires-clause-free
mount_element-requires-clause-free g c = c.requires.free

pub mount_element-requires-clause-fields : goal.mount_element-requires-clause-fields
mount_element-requires-clause-fields g c =
    are_declared (declared_by c.args.from.now) (shared c.args.widget.now) c.in_ok-fields.fields.items c.requires.widget
    (subst (λ (v : Widget). FitFields (declared_by c.args.from.now) (build_role_of (look_in v.kind)) c.in_ok-fields.fields.items) c.deref.ensures c.in_ok-fields.ensures.fit)

pub returns-clause-mounts : goal.returns-clause-mounts
returns-clause-mounts g c =
    let b = program_of c.args.from.now in
    let w = shared c.args.widget.now in
    let fields : c.in_ok-fields.fields.items ≡ first_fields b (build_role_of (look_of w)) = c.in_ok-fields.ensures.fields ∙ ap (λ (v : Widget). first_fields b (build_role_of (look_in v.kind))) c.deref.ensures in
    record {
      mounts = hidden_mounts (first_fields b (build_role_of (look_of w))) (place_of c.args.spot.now) w c.args.place c.args.t.now.tree c.mount_element.new.t.tree c.args.g.now c.mount_element.new.g c.in_ok-at.at
          (Some (shared c.in_ok-output.output)) c.in_ok-fields.fields.items _ fields (ap (λ (v : Widget). Some (plain_of v)) c.in_ok-clone.ensures.cases) c.in_ok-at.ensures.element
          (composed_hidden (look_of w) c.requires.composes.0 c.requires.composes.1 c.requires.composes.2) c.in_ok-at.ensures.noted;
      some = refl;
      given = λ s.
          (λ i. given_by b (build_role_of (look_in (sym c.deref-2.ensures i).kind)) c.args.values.now (sym c.next_number-number.ensures i) (sym (c.as_slice.ensures.value ∙ fields) i) (plain_of (sym c.deref-2.ensures i)) s)
          ∙ c.in_ok-output.ensures.ok s;
    }

pub returns-in_err-output-clause-fault : goal.returns-in_err-output-clause-fault
returns-in_err-output-clause-fault g c =
    let b = program_of c.args.from.now in
    let w = shared c.args.widget.now in
    let fields : c.in_ok-fields.fields.items ≡ first_fields b (build_role_of (look_of w)) = c.in_ok-fields.ensures.fields ∙ ap (λ (v : Widget). first_fields b (build_role_of (look_in v.kind))) c.deref.ensures in
    let p = err_from_is_err_and c.from_residual-in_err-output.result c.from_residual-in_err-output.ensures.1 in
    rw (p.1, p.2) (some_map _ _ (fault_of c.in_err-output.field-0.0)
    (λ x h. λ s.
    (λ i. given_by b (build_role_of (look_in (sym c.deref-2.ensures i).kind)) c.args.values.now (sym c.next_number-number.ensures i) (sym (c.as_slice.ensures.value ∙ fields) i) (plain_of (sym c.deref-2.ensures i)) s)
    ∙ h s)
    c.in_err-output.ensures.fault)

pub returns-clause-lists : goal.returns-clause-lists
returns-clause-lists g c =
    let b = program_of c.args.from.now in
    let w = shared c.args.widget.now in
    let C = plain_checked c.args.from.now.checked.now in
    let role = c.requires.composes in
    let fields : c.in_ok-fields.fields.items ≡ first_fields b (build_role_of (look_of w)) = c.in_ok-fields.ensures.fields ∙ ap (λ (v : Widget). first_fields b (build_role_of (look_in v.kind))) c.deref.ensures in
    output_listless C role.0 (made_count c.args.t.now.tree + 1) role.1 c.args.values.now (first_fields b (build_role_of (look_of w))) w (shared c.in_ok-output.output ∷ [])
    (λ bodies listless. c.programs_without_lists_build_none.ensures.outputs C role.0 role.1 (slots_of w) (first_fields b (build_role_of (look_of w))) c.args.values.now (made_count c.args.t.now.tree + 1) bodies listless) role.2
    (λ s.
    (λ i. given_by b (build_role_of (look_in (sym c.deref-2.ensures i).kind)) c.args.values.now (sym c.next_number-number.ensures i) (sym (c.as_slice.ensures.value ∙ fields) i) (plain_of (sym c.deref-2.ensures i)) s)
    ∙ c.in_ok-output.ensures.ok s)
