use Rattle.std.proofs.Common.{◌≡◌, not, List, [], option_map, refl, sym, ap, ◌∙◌, subst, arith}
use Rattle.std.proofs.lemmas.Result.{IfOk-weaker, err_from_is_err_and}
use Rattle.widget_model.specs.declared.widgets.Widget.{Widget}
use Rattle.widget_model.specs.Plain.{PlainWidget, look_of}
use Rattle.widget_model.specs.PlainLaws.{list_of-widgets_of}
use Rattle.widget_model.specs.View.{look_in, shared}
use Rattle.plain_tree.specs.RenderRole.{render_role_of, vanishes}
use Rattle.build_form.specs.BuildRole.{build_role_of}
use Rattle.build_form.specs.Entering.{apart, first_fields}
use Rattle.build_form.specs.FaultView.{fault_of}
use Rattle.build_form.specs.Step.{stops, gives}
use Rattle.build_form.proofs.Outcomes.{some_map, fault_map}
use Rattle.build_form.proofs.Typing.{not_composes, other_first}
use Rattle.build_owner.specs.WalkView.{declared_by, program_of}
use Rattle.first_builds.specs.SpotView.{place_of}
use Rattle.first_builds.proofs.Ends.{on_weaker, if_on, other_mounted, component_mounted}
use Rattle.first_builds.proofs.Mounts.{has_grown, is_ready, is_undrawn}
use Rattle.first_builds.proofs.Noting.{free_for}
use Rattle.first_builds.proofs.Opened.{full_so, room_so, output_one, other_one, other_typed, other_listless, too_many_so, none_built_full, key_again_so, none_built_again, output_fails, siblings_fail, built_one, built_none, hidden_so, shown_so}
use Rattle.first_builds.proofs.mounting.mount_node.Goals as goal

-- ---- there are too many

pub returns-then-entered-scale-clause-fault : goal.returns-then-entered-scale-clause-fault
returns-then-entered-scale-clause-fault g c = λ pasts.
    let b = program_of c.args.from.now in
    let full = full_so b.nodes c.scale.result.nodes c.args.entered.now (ap (λ scale. scale.nodes) c.scale.ensures) c.if-entered-scale.true in
    too_many_so b pasts c.args.values.now (shared c.args.widget.now) c.args.place c.args.entered.now c.args.g.now c.args.t.now.tree full

pub returns-then-entered-scale-clause-builds_at_fault : goal.returns-then-entered-scale-clause-builds_at_fault
returns-then-entered-scale-clause-builds_at_fault g c = λ pasts.
    let b = program_of c.args.from.now in
    let full = full_so b.nodes c.scale.result.nodes c.args.entered.now (ap (λ scale. scale.nodes) c.scale.ensures) c.if-entered-scale.true in
    let none = none_built_full b pasts c.args.values.now (shared c.args.widget.now) c.args.place c.args.entered.now c.args.g.now c.args.t.now.tree full in
    omega (arith, none)

-- ---- its key was met before

pub meet-requires : goal.meet-requires
meet-requires g c = c.requires.ready.met

pub returns-in_err-meet-clause-fault : goal.returns-in_err-meet-clause-fault
returns-in_err-meet-clause-fault g c =
    let b = program_of c.args.from.now in
    let room = room_so b.nodes c.scale.result.nodes c.args.entered.now (ap (λ scale. scale.nodes) c.scale.ensures) c.if-entered-scale.false in
    let p = err_from_is_err_and c.from_residual.result c.from_residual.ensures.1 in
    rw (p.1, p.2) (some_map _ _ (fault_of c.in_err-meet.field-0.0)
    (λ x h. λ pasts. key_again_so b pasts c.args.values.now (shared c.args.widget.now) c.args.place c.args.entered.now c.args.g.now c.args.t.now.tree room x h)
    c.in_err-meet.ensures.fault)

pub returns-in_err-meet-clause-builds_at_fault : goal.returns-in_err-meet-clause-builds_at_fault
returns-in_err-meet-clause-builds_at_fault g c =
    let b = program_of c.args.from.now in
    let room = room_so b.nodes c.scale.result.nodes c.args.entered.now (ap (λ scale. scale.nodes) c.scale.ensures) c.if-entered-scale.false in
    let p = err_from_is_err_and c.from_residual.result c.from_residual.ensures.1 in
    rw (p.1, p.2) (some_map _ _ (fault_of c.in_err-meet.field-0.0)
    (λ x h. λ pasts.
    let none = none_built_again b pasts c.args.values.now (shared c.args.widget.now) c.args.place c.args.entered.now c.args.g.now c.args.t.now.tree room x h in
    omega (arith, none))
    c.in_err-meet.ensures.fault)

-- ---- a component

pub mount_component-requires-clause-free : goal.mount_component-requires-clause-free
mount_component-requires-clause-free g c =
    let slots = c.requires.ready.room.elements in
    free_for (shared c.args.widget.now) c.args.spot.now.parent c.args.g.now c.meet.new.g c.args.t.now.tree c.requires.parent (omega (arith, slots, c.if-entered-scale.false, ap (λ scale. scale.nodes) c.scale.ensures)) c.requires.ready.names
    c.requires.ready.met c.meet.ensures.same c.in_ok-meet.ensures.fresh

pub mount_component-requires-clause-widget : goal.mount_component-requires-clause-widget
mount_component-requires-clause-widget g c = c.requires.widget

pub mount_component-requires-clause-values : goal.mount_component-requires-clause-values
mount_component-requires-clause-values g c = c.requires.values

pub mount_component-requires-clause-composes : goal.mount_component-requires-clause-composes
mount_component-requires-clause-composes g c = (c.in-Composes.component, c.in-Composes.props.now, sym (c.in-Composes.ensures.part ∙ ap (λ (v : Widget). build_role_of (look_in v.kind)) c.deref.ensures))

pub returns-in-Composes-clause-mounted : goal.returns-in-Composes-clause-mounted
returns-in-Composes-clause-mounted g c =
    let b = program_of c.args.from.now in
    let w = shared c.args.widget.now in
    let room = room_so b.nodes c.scale.result.nodes c.args.entered.now (ap (λ scale. scale.nodes) c.scale.ensures) c.if-entered-scale.false in
    IfOk-weaker c.mount_component.result _ _
    (λ m h. λ pasts scrolled unscrolled.
    component_mounted b pasts c.args.values.now scrolled (place_of c.args.spot.now) w c.args.place c.args.entered.now c.args.t.now.tree c.mount_component.new.t.tree c.args.r.now.tree c.args.r.now.tree c.args.g.now c.meet.new.g c.mount_component.new.g
    m.at (option_map shared m.output) m.render c.meet.ensures.same room unscrolled (h.mounts c.args.r.now.tree) h.some h.given)
    c.mount_component.ensures.mounts

pub returns-in-Composes-clause-typed : goal.returns-in-Composes-clause-typed
returns-in-Composes-clause-typed g c = c.mount_component.ensures.typed

pub returns-in-Composes-clause-lists : goal.returns-in-Composes-clause-lists
returns-in-Composes-clause-lists g c = c.mount_component.ensures.lists

pub returns-in-Composes-clause-one : goal.returns-in-Composes-clause-one
returns-in-Composes-clause-one g c =
    IfOk-weaker c.mount_component.result _ _ (λ m h. λ hidden. output_one (shared c.args.widget.now) (option_map shared m.output) h.some) c.mount_component.ensures.mounts

pub returns-in-Composes-clause-undrawn : goal.returns-in-Composes-clause-undrawn
returns-in-Composes-clause-undrawn g c = IfOk-weaker c.mount_component.result _ _ (λ m h. λ none. refl) c.mount_component.ensures.mounts

pub returns-in-Composes-clause-ready : goal.returns-in-Composes-clause-ready
returns-in-Composes-clause-ready g c =
    let b = program_of c.args.from.now in
    let w = shared c.args.widget.now in
    if_on _ c.mount_component.result
    (λ m h. is_ready (first_fields b (build_role_of (look_of w))) (place_of c.args.spot.now) w c.args.place c.args.t.now.tree c.mount_component.new.t.tree c.args.r.now.tree c.args.r.now.tree c.meet.new.g c.mount_component.new.g m.at (option_map shared m.output)
    b.nodes c.args.entered.now m.render (h.mounts c.args.r.now.tree) c.requires.ready.room)
    c.mount_component.ensures.mounts

pub returns-in-Composes-clause-grown : goal.returns-in-Composes-clause-grown
returns-in-Composes-clause-grown g c =
    let b = program_of c.args.from.now in
    let w = shared c.args.widget.now in
    if_on _ c.mount_component.result
    (λ m h. has_grown (first_fields b (build_role_of (look_of w))) (place_of c.args.spot.now) w c.args.place c.args.t.now.tree c.mount_component.new.t.tree c.args.r.now.tree c.args.r.now.tree c.meet.new.g c.mount_component.new.g m.at (option_map shared m.output)
    m.render (h.mounts c.args.r.now.tree))
    c.mount_component.ensures.mounts

pub returns-in-Composes-clause-fault : goal.returns-in-Composes-clause-fault
returns-in-Composes-clause-fault g c =
    let b = program_of c.args.from.now in
    let w = shared c.args.widget.now in
    let room = room_so b.nodes c.scale.result.nodes c.args.entered.now (ap (λ scale. scale.nodes) c.scale.ensures) c.if-entered-scale.false in
    fault_map _ _ c.mount_component.result
    (λ x h. λ pasts.
    output_fails b pasts c.args.values.now w c.args.place c.args.entered.now c.args.g.now c.args.t.now.tree room (λ k key. sym (c.meet.ensures.same k) ∙ c.in_ok-meet.ensures.fresh k key) (first_fields b (build_role_of (look_of w))) refl x h)
    c.mount_component.ensures.fault

pub returns-in-Composes-clause-builds : goal.returns-in-Composes-clause-builds
returns-in-Composes-clause-builds g c =
    let b = program_of c.args.from.now in
    let w = shared c.args.widget.now in
    let room = room_so b.nodes c.scale.result.nodes c.args.entered.now (ap (λ scale. scale.nodes) c.scale.ensures) c.if-entered-scale.false in
    on_weaker c.mount_component.result
    (λ more. λ pasts.
    let one = built_one b pasts c.args.values.now w c.args.place c.args.entered.now c.args.g.now c.args.t.now.tree room (λ k key. sym (c.meet.ensures.same k) ∙ c.in_ok-meet.ensures.fresh k key) c.in-Composes.component c.in-Composes.props.now (sym (c.in-Composes.ensures.part ∙ ap (λ (v : Widget). build_role_of (look_in v.kind)) c.deref.ensures)) in
    omega (arith, more, one))
    c.mount_component.ensures.builds

pub returns-in-Composes-clause-builds_at_fault : goal.returns-in-Composes-clause-builds_at_fault
returns-in-Composes-clause-builds_at_fault g c =
    let b = program_of c.args.from.now in
    let w = shared c.args.widget.now in
    let room = room_so b.nodes c.scale.result.nodes c.args.entered.now (ap (λ scale. scale.nodes) c.scale.ensures) c.if-entered-scale.false in
    fault_map _ _ c.mount_component.result
    (λ x more. λ pasts.
    let one = built_one b pasts c.args.values.now w c.args.place c.args.entered.now c.args.g.now c.args.t.now.tree room (λ k key. sym (c.meet.ensures.same k) ∙ c.in_ok-meet.ensures.fresh k key) c.in-Composes.component c.in-Composes.props.now (sym (c.in-Composes.ensures.part ∙ ap (λ (v : Widget). build_role_of (look_in v.kind)) c.deref.ensures)) in
    omega (arith, more, one))
    c.mount_component.ensures.builds_at_fault

-- ---- keys of its children are the same

pub returns-in_err-keep_apart-clause-fault : goal.returns-in_err-keep_apart-clause-fault
returns-in_err-keep_apart-clause-fault g c =
    let b = program_of c.args.from.now in
    let w = shared c.args.widget.now in
    let room = room_so b.nodes c.scale.result.nodes c.args.entered.now (ap (λ scale. scale.nodes) c.scale.ensures) c.if-entered-scale.false in
    let p = err_from_is_err_and c.from_residual-in_err-keep_apart.result c.from_residual-in_err-keep_apart.ensures.1 in
    rw (p.1, p.2) (some_map _ _ (fault_of c.in_err-keep_apart.field-0.0)
    (λ x h. λ pasts.
    siblings_fail b pasts c.args.values.now w c.args.place c.args.entered.now c.args.g.now c.args.t.now.tree room (λ k key. sym (c.meet.ensures.same k) ∙ c.in_ok-meet.ensures.fresh k key) []
    (other_first b (build_role_of (look_of w)) (λ place props e. not_composes c.build_role_of.result c.in_default.not-Composes place props (c.build_role_of.ensures.part ∙ ap (λ (v : Widget). build_role_of (look_in v.kind)) c.deref.ensures ∙ e)))
    (λ place props e. not_composes c.build_role_of.result c.in_default.not-Composes place props (c.build_role_of.ensures.part ∙ ap (λ (v : Widget). build_role_of (look_in v.kind)) c.deref.ensures ∙ e))
    x (λ u. subst (λ (l : List PlainWidget). apart l u ≡ stops x) (c.get.ensures.widgets ∙ ap (λ (v : Widget). v.children) c.deref-2.ensures ∙ sym (list_of-widgets_of c.args.widget.now.value.children)) (h u)))
    c.in_err-keep_apart.ensures.fault)

pub returns-in_err-keep_apart-clause-builds_at_fault : goal.returns-in_err-keep_apart-clause-builds_at_fault
returns-in_err-keep_apart-clause-builds_at_fault g c =
    let b = program_of c.args.from.now in
    let w = shared c.args.widget.now in
    let room = room_so b.nodes c.scale.result.nodes c.args.entered.now (ap (λ scale. scale.nodes) c.scale.ensures) c.if-entered-scale.false in
    let p = err_from_is_err_and c.from_residual-in_err-keep_apart.result c.from_residual-in_err-keep_apart.ensures.1 in
    rw (p.1, p.2) (some_map _ _ (fault_of c.in_err-keep_apart.field-0.0)
    (λ x h. λ pasts.
    let none = built_none b pasts c.args.values.now w c.args.place c.args.entered.now c.args.g.now c.args.t.now.tree room (λ k key. sym (c.meet.ensures.same k) ∙ c.in_ok-meet.ensures.fresh k key)
    (λ place props e. not_composes c.build_role_of.result c.in_default.not-Composes place props (c.build_role_of.ensures.part ∙ ap (λ (v : Widget). build_role_of (look_in v.kind)) c.deref.ensures ∙ e)) in
    omega (arith, none))
    c.in_err-keep_apart.ensures.fault)

-- ---- another widget without a render node

pub mount_bare-requires-clause-free : goal.mount_bare-requires-clause-free
mount_bare-requires-clause-free g c =
    let slots = c.requires.ready.room.elements in
    free_for (shared c.args.widget.now) c.args.spot.now.parent c.args.g.now c.meet.new.g c.args.t.now.tree c.requires.parent (omega (arith, slots, c.if-entered-scale.false, ap (λ scale. scale.nodes) c.scale.ensures)) c.requires.ready.names
    c.requires.ready.met c.meet.ensures.same c.in_ok-meet.ensures.fresh

pub mount_bare-requires-clause-widget : goal.mount_bare-requires-clause-widget
mount_bare-requires-clause-widget g c = c.requires.widget

pub mount_bare-requires-clause-other : goal.mount_bare-requires-clause-other
mount_bare-requires-clause-other g c = (λ place props e. not_composes c.build_role_of.result c.in_default.not-Composes place props (c.build_role_of.ensures.part ∙ ap (λ (v : Widget). build_role_of (look_in v.kind)) c.deref.ensures ∙ e))

pub returns-then-not-is_drawn-clause-mounted : goal.returns-then-not-is_drawn-clause-mounted
returns-then-not-is_drawn-clause-mounted g c = λ pasts scrolled unscrolled.
    let b = program_of c.args.from.now in
    let w = shared c.args.widget.now in
    let room = room_so b.nodes c.scale.result.nodes c.args.entered.now (ap (λ scale. scale.nodes) c.scale.ensures) c.if-entered-scale.false in
    let m = c.in_ok-mount_bare.ensures.mounts c.args.r.now.tree in
    other_mounted b pasts c.args.values.now scrolled (place_of c.args.spot.now) w c.args.place c.args.entered.now c.args.t.now.tree c.mount_bare.new.t.tree c.args.r.now.tree c.args.r.now.tree c.args.g.now c.meet.new.g c.mount_bare.new.g c.in_ok-mount_bare.field-0.at (option_map shared c.in_ok-mount_bare.field-0.output) c.in_ok-mount_bare.field-0.render c.meet.ensures.same room unscrolled m.mounts
    (λ place props e. not_composes c.build_role_of.result c.in_default.not-Composes place props (c.build_role_of.ensures.part ∙ ap (λ (v : Widget). build_role_of (look_in v.kind)) c.deref.ensures ∙ e))
    m.none (λ s. subst (λ (l : List PlainWidget). apart l s ≡ gives l s) (c.get.ensures.widgets ∙ ap (λ (v : Widget). v.children) c.deref-2.ensures ∙ sym (list_of-widgets_of c.args.widget.now.value.children)) (c.in_ok-keep_apart.ensures.ok s))

pub returns-then-not-is_drawn-clause-builds : goal.returns-then-not-is_drawn-clause-builds
returns-then-not-is_drawn-clause-builds g c = λ pasts.
    let b = program_of c.args.from.now in
    let w = shared c.args.widget.now in
    let room = room_so b.nodes c.scale.result.nodes c.args.entered.now (ap (λ scale. scale.nodes) c.scale.ensures) c.if-entered-scale.false in
    let none = built_none b pasts c.args.values.now w c.args.place c.args.entered.now c.args.g.now c.args.t.now.tree room (λ k key. sym (c.meet.ensures.same k) ∙ c.in_ok-meet.ensures.fresh k key)
    (λ place props e. not_composes c.build_role_of.result c.in_default.not-Composes place props (c.build_role_of.ensures.part ∙ ap (λ (v : Widget). build_role_of (look_in v.kind)) c.deref.ensures ∙ e)) in
    omega (arith, none)

pub returns-then-not-is_drawn-clause-typed : goal.returns-then-not-is_drawn-clause-typed
returns-then-not-is_drawn-clause-typed g c = let m = c.in_ok-mount_bare.ensures.mounts c.args.r.now.tree in other_typed (declared_by c.args.from.now) (shared c.args.widget.now) (option_map shared c.in_ok-mount_bare.field-0.output) m.none c.requires.widget

pub returns-then-not-is_drawn-clause-lists : goal.returns-then-not-is_drawn-clause-lists
returns-then-not-is_drawn-clause-lists g c = λ bodies listless. let m = c.in_ok-mount_bare.ensures.mounts c.args.r.now.tree in other_listless (shared c.args.widget.now) (option_map shared c.in_ok-mount_bare.field-0.output) m.none listless

pub returns-then-not-is_drawn-clause-one : goal.returns-then-not-is_drawn-clause-one
returns-then-not-is_drawn-clause-one g c = λ hidden.
    let m = c.in_ok-mount_bare.ensures.mounts c.args.r.now.tree in
    other_one (declared_by c.args.from.now) (shared c.args.widget.now) (option_map shared c.in_ok-mount_bare.field-0.output)
    (λ place props e. not_composes c.build_role_of.result c.in_default.not-Composes place props (c.build_role_of.ensures.part ∙ ap (λ (v : Widget). build_role_of (look_in v.kind)) c.deref.ensures ∙ e))
    m.none c.requires.widget hidden

pub returns-then-not-is_drawn-clause-undrawn : goal.returns-then-not-is_drawn-clause-undrawn
returns-then-not-is_drawn-clause-undrawn g c = λ none.
    let w = shared c.args.widget.now in
    let m = c.in_ok-mount_bare.ensures.mounts c.args.r.now.tree in
    is_undrawn [] (place_of c.args.spot.now) w c.args.place c.args.t.now.tree c.mount_bare.new.t.tree c.args.r.now.tree c.args.r.now.tree c.meet.new.g c.mount_bare.new.g c.in_ok-mount_bare.field-0.at (option_map shared c.in_ok-mount_bare.field-0.output) c.in_ok-mount_bare.field-0.render m.mounts none

pub returns-then-not-is_drawn-clause-ready : goal.returns-then-not-is_drawn-clause-ready
returns-then-not-is_drawn-clause-ready g c =
    let w = shared c.args.widget.now in
    let m = c.in_ok-mount_bare.ensures.mounts c.args.r.now.tree in
    is_ready [] (place_of c.args.spot.now) w c.args.place c.args.t.now.tree c.mount_bare.new.t.tree c.args.r.now.tree c.args.r.now.tree c.meet.new.g c.mount_bare.new.g c.in_ok-mount_bare.field-0.at (option_map shared c.in_ok-mount_bare.field-0.output) (program_of c.args.from.now).nodes c.args.entered.now c.in_ok-mount_bare.field-0.render m.mounts c.requires.ready.room

pub returns-then-not-is_drawn-clause-grown : goal.returns-then-not-is_drawn-clause-grown
returns-then-not-is_drawn-clause-grown g c =
    let w = shared c.args.widget.now in
    let m = c.in_ok-mount_bare.ensures.mounts c.args.r.now.tree in
    has_grown [] (place_of c.args.spot.now) w c.args.place c.args.t.now.tree c.mount_bare.new.t.tree c.args.r.now.tree c.args.r.now.tree c.meet.new.g c.mount_bare.new.g c.in_ok-mount_bare.field-0.at (option_map shared c.in_ok-mount_bare.field-0.output) c.in_ok-mount_bare.field-0.render m.mounts

-- ---- a widget with a render node

pub mount_drawn-requires-clause-free : goal.mount_drawn-requires-clause-free
mount_drawn-requires-clause-free g c =
    let slots = c.requires.ready.room.elements in
    free_for (shared c.args.widget.now) c.args.spot.now.parent c.args.g.now c.meet.new.g c.args.t.now.tree c.requires.parent (omega (arith, slots, c.if-entered-scale.false, ap (λ scale. scale.nodes) c.scale.ensures)) c.requires.ready.names
    c.requires.ready.met c.meet.ensures.same c.in_ok-meet.ensures.fresh

pub mount_drawn-requires-clause-widget : goal.mount_drawn-requires-clause-widget
mount_drawn-requires-clause-widget g c = c.requires.widget

pub mount_drawn-requires-clause-other : goal.mount_drawn-requires-clause-other
mount_drawn-requires-clause-other g c = (λ place props e. not_composes c.build_role_of.result c.in_default.not-Composes place props (c.build_role_of.ensures.part ∙ ap (λ (v : Widget). build_role_of (look_in v.kind)) c.deref.ensures ∙ e))

pub returns-clause-mounted : goal.returns-clause-mounted
returns-clause-mounted g c = λ pasts scrolled unscrolled.
    let b = program_of c.args.from.now in
    let w = shared c.args.widget.now in
    let room = room_so b.nodes c.scale.result.nodes c.args.entered.now (ap (λ scale. scale.nodes) c.scale.ensures) c.if-entered-scale.false in
    let m = c.in_ok-mount_drawn.ensures.mounts in
    other_mounted b pasts c.args.values.now scrolled (place_of c.args.spot.now) w c.args.place c.args.entered.now c.args.t.now.tree c.mount_drawn.new.t.tree c.args.r.now.tree c.mount_drawn.new.r.tree c.args.g.now c.meet.new.g c.mount_drawn.new.g c.in_ok-mount_drawn.field-0.at (option_map shared c.in_ok-mount_drawn.field-0.output) c.in_ok-mount_drawn.field-0.render c.meet.ensures.same room unscrolled m.mounts
    (λ place props e. not_composes c.build_role_of.result c.in_default.not-Composes place props (c.build_role_of.ensures.part ∙ ap (λ (v : Widget). build_role_of (look_in v.kind)) c.deref.ensures ∙ e))
    m.none (λ s. subst (λ (l : List PlainWidget). apart l s ≡ gives l s) (c.get.ensures.widgets ∙ ap (λ (v : Widget). v.children) c.deref-2.ensures ∙ sym (list_of-widgets_of c.args.widget.now.value.children)) (c.in_ok-keep_apart.ensures.ok s))

pub returns-clause-builds : goal.returns-clause-builds
returns-clause-builds g c = λ pasts.
    let b = program_of c.args.from.now in
    let w = shared c.args.widget.now in
    let room = room_so b.nodes c.scale.result.nodes c.args.entered.now (ap (λ scale. scale.nodes) c.scale.ensures) c.if-entered-scale.false in
    let none = built_none b pasts c.args.values.now w c.args.place c.args.entered.now c.args.g.now c.args.t.now.tree room (λ k key. sym (c.meet.ensures.same k) ∙ c.in_ok-meet.ensures.fresh k key)
    (λ place props e. not_composes c.build_role_of.result c.in_default.not-Composes place props (c.build_role_of.ensures.part ∙ ap (λ (v : Widget). build_role_of (look_in v.kind)) c.deref.ensures ∙ e)) in
    omega (arith, none)

pub returns-clause-typed : goal.returns-clause-typed
returns-clause-typed g c = let m = c.in_ok-mount_drawn.ensures.mounts in other_typed (declared_by c.args.from.now) (shared c.args.widget.now) (option_map shared c.in_ok-mount_drawn.field-0.output) m.none c.requires.widget

pub returns-clause-lists : goal.returns-clause-lists
returns-clause-lists g c = λ bodies listless. let m = c.in_ok-mount_drawn.ensures.mounts in other_listless (shared c.args.widget.now) (option_map shared c.in_ok-mount_drawn.field-0.output) m.none listless

pub returns-clause-one : goal.returns-clause-one
returns-clause-one g c = λ hidden.
    let m = c.in_ok-mount_drawn.ensures.mounts in
    other_one (declared_by c.args.from.now) (shared c.args.widget.now) (option_map shared c.in_ok-mount_drawn.field-0.output)
    (λ place props e. not_composes c.build_role_of.result c.in_default.not-Composes place props (c.build_role_of.ensures.part ∙ ap (λ (v : Widget). build_role_of (look_in v.kind)) c.deref.ensures ∙ e))
    m.none c.requires.widget hidden

pub returns-clause-undrawn : goal.returns-clause-undrawn
returns-clause-undrawn g c = λ none.
    let w = shared c.args.widget.now in
    let m = c.in_ok-mount_drawn.ensures.mounts in
    is_undrawn [] (place_of c.args.spot.now) w c.args.place c.args.t.now.tree c.mount_drawn.new.t.tree c.args.r.now.tree c.mount_drawn.new.r.tree c.meet.new.g c.mount_drawn.new.g c.in_ok-mount_drawn.field-0.at (option_map shared c.in_ok-mount_drawn.field-0.output) c.in_ok-mount_drawn.field-0.render m.mounts none

pub returns-clause-ready : goal.returns-clause-ready
returns-clause-ready g c =
    let w = shared c.args.widget.now in
    let m = c.in_ok-mount_drawn.ensures.mounts in
    is_ready [] (place_of c.args.spot.now) w c.args.place c.args.t.now.tree c.mount_drawn.new.t.tree c.args.r.now.tree c.mount_drawn.new.r.tree c.meet.new.g c.mount_drawn.new.g c.in_ok-mount_drawn.field-0.at (option_map shared c.in_ok-mount_drawn.field-0.output) (program_of c.args.from.now).nodes c.args.entered.now c.in_ok-mount_drawn.field-0.render m.mounts c.requires.ready.room

pub returns-clause-grown : goal.returns-clause-grown
returns-clause-grown g c =
    let w = shared c.args.widget.now in
    let m = c.in_ok-mount_drawn.ensures.mounts in
    has_grown [] (place_of c.args.spot.now) w c.args.place c.args.t.now.tree c.mount_drawn.new.t.tree c.args.r.now.tree c.mount_drawn.new.r.tree c.meet.new.g c.mount_drawn.new.g c.in_ok-mount_drawn.field-0.at (option_map shared c.in_ok-mount_drawn.field-0.output) c.in_ok-mount_drawn.field-0.render m.mounts

pub mount_bare-requires-clause-hidden : goal.mount_bare-requires-clause-hidden
mount_bare-requires-clause-hidden g c =
    hidden_so c.is_drawn.result (vanishes (render_role_of (look_of (shared c.args.widget.now)))) (c.is_drawn.ensures ∙ ap (λ (v : Widget). not (vanishes (render_role_of (look_in v.kind)))) c.deref-3.ensures) c.if-not-is_drawn.true

pub mount_drawn-requires-clause-shown : goal.mount_drawn-requires-clause-shown
mount_drawn-requires-clause-shown g c =
    shown_so c.is_drawn.result (vanishes (render_role_of (look_of (shared c.args.widget.now)))) (c.is_drawn.ensures ∙ ap (λ (v : Widget). not (vanishes (render_role_of (look_in v.kind)))) c.deref-3.ensures) c.if-not-is_drawn.false

pub mount_drawn-requires-clause-above : goal.mount_drawn-requires-clause-above
mount_drawn-requires-clause-above g c = c.requires.above

pub mount_drawn-requires-clause-room : goal.mount_drawn-requires-clause-room
mount_drawn-requires-clause-room g c = let slots = c.requires.ready.room.renders in omega (arith, slots, c.if-entered-scale.false, ap (λ scale. scale.nodes) c.scale.ensures)

pub mount_drawn-requires-clause-no_list : goal.mount_drawn-requires-clause-no_list
mount_drawn-requires-clause-no_list g c = c.requires.no_list
