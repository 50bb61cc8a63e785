use Rattle.std.proofs.Common.{◌≡◌, suc, ◌+◌, nat_le, arith, true, false, List, length, map, option_map, refl, sym, ap, ◌∙◌, subst}
use Rattle.std.proofs.lemmas.Bool.{le-leb, lt-leb}
use Rattle.std.proofs.lemmas.List.{length-map}
use Rattle.std.proofs.lemmas.Result.{err_from_is_err_and}
use Rattle.fx_expr.specs.Value.{type_of}
use Rattle.widget_model.specs.declared.widgets.Widget.{Widget}
use Rattle.widget_model.specs.Plain.{PlainWidget, look_of}
use Rattle.widget_model.specs.View.{look_in, shared}
use Rattle.build_form.proofs.Outcomes.{some_map}
use Rattle.build_form.specs.BuildRole.{build_role_of}
use Rattle.build_form.specs.Entering.{apart}
use Rattle.build_form.specs.FaultView.{fault_of}
use Rattle.build_form.specs.Step.{Progress, stops, gives}
use Rattle.build_owner.specs.Given.{Stores, given_to}
use Rattle.build_owner.specs.WalkView.{basis_of, declared_by, program_of, plain_arrival, progress_of}
use Rattle.build_owner.proofs.Opens.{too_many, key_again, none_built, none_again, counted_so, element_of, opened_whole, fails_output, fails_apart, opens, builds_so, none_so, as_named, counted_named, drawn_since, alone_typed}
use Rattle.element_tree.specs.Element.{made_count}
use Rattle.build_owner.proofs.opening.open.Goals as goal

-- ---- it may be opened

pub own-requires-clause-ready : goal.own-requires-clause-ready
own-requires-clause-ready g c = c.requires.ready.elements

pub own-requires-clause-was : goal.own-requires-clause-was
own-requires-clause-was g c = c.requires.was

pub own-requires-clause-widget : goal.own-requires-clause-widget
own-requires-clause-widget g c = c.requires.widget

pub own-requires-clause-beside : goal.own-requires-clause-beside
own-requires-clause-beside g c = c.requires.beside

pub own-requires-clause-room : goal.own-requires-clause-room
own-requires-clause-room g c =
    let limit : c.scale.result.nodes ≡ (program_of c.args.from.now).nodes = ap (λ scale. scale.nodes) c.scale.ensures in
    omega (arith, c.if-walk-scale.false, limit, c.requires.ready.room.elements)

pub own_render-requires-clause-element : goal.own_render-requires-clause-element
own_render-requires-clause-element g c = (declared_by c.args.from.now, c.in_ok-owned.ensures.element)

pub own_render-requires-clause-room : goal.own_render-requires-clause-room
own_render-requires-clause-room g c =
    let limit : c.scale.result.nodes ≡ (program_of c.args.from.now).nodes = ap (λ scale. scale.nodes) c.scale.ensures in
    omega (arith, c.if-walk-scale.false, limit, c.requires.ready.room.renders)

pub given-requires-clause-outputs : goal.given-requires-clause-outputs
given-requires-clause-outputs g c = c.in_ok-owned.ensures.ready.outputs

pub given-requires-clause-widget : goal.given-requires-clause-widget
given-requires-clause-widget g c = c.requires.widget

pub given-requires-clause-element : goal.given-requires-clause-element
given-requires-clause-element g c = c.in_ok-owned.ensures.element

pub given-requires-clause-now : goal.given-requires-clause-now
given-requires-clause-now g c = ap (map type_of) c.in_ok-owned.ensures.now ∙ c.requires.now

pub given-requires-clause-was : goal.given-requires-clause-was
given-requires-clause-was g c = c.in_ok-owned.ensures.was

pub output_of-requires : goal.output_of-requires
output_of-requires g c = λ place props e.
    let few = c.in_ok-given.ensures.few place props (sym (ap (λ (v : Widget). build_role_of (look_in v.kind)) c.deref.ensures) ∙ e) in
    let same = sym (length-map c.given_to-children.result.now shared) ∙ ap length c.given_to-children.ensures in
    omega (arith, few, same)

-- ---- it has too many

pub returns-then-walk-scale-clause-fault : goal.returns-then-walk-scale-clause-fault
returns-then-walk-scale-clause-fault g c = λ f since olds.
    let limit : c.scale.result.nodes ≡ (program_of c.args.from.now).nodes = ap (λ scale. scale.nodes) c.scale.ensures in
    let full : nat_le (program_of c.args.from.now).nodes c.args.walk.now.entered ≡ true = le-leb (program_of c.args.from.now).nodes c.args.walk.now.entered (omega (arith, c.if-walk-scale.true, limit)) in
    too_many (basis_of c.args.from.now f) f.pasts c.args.names.now.now.items (plain_arrival f c.args.arrival.now) (progress_of f c.args.walk.now c.args.g.now c.args.t.now.tree) full

pub returns-then-walk-scale-clause-builds_at_fault : goal.returns-then-walk-scale-clause-builds_at_fault
returns-then-walk-scale-clause-builds_at_fault g c = λ f since olds.
    let limit : c.scale.result.nodes ≡ (program_of c.args.from.now).nodes = ap (λ scale. scale.nodes) c.scale.ensures in
    let full : nat_le (program_of c.args.from.now).nodes c.args.walk.now.entered ≡ true = le-leb (program_of c.args.from.now).nodes c.args.walk.now.entered (omega (arith, c.if-walk-scale.true, limit)) in
    none_so _ c.args.builds.now c.args.builds.now
    (none_built (basis_of c.args.from.now f) f.pasts c.args.names.now.now.items (plain_arrival f c.args.arrival.now) (progress_of f c.args.walk.now c.args.g.now c.args.t.now.tree) full) refl

-- ---- its key was met before

pub returns-in_err-owned-clause-fault : goal.returns-in_err-owned-clause-fault
returns-in_err-owned-clause-fault g c =
    let limit : c.scale.result.nodes ≡ (program_of c.args.from.now).nodes = ap (λ scale. scale.nodes) c.scale.ensures in
    let room : nat_le (program_of c.args.from.now).nodes c.args.walk.now.entered ≡ false = lt-leb (program_of c.args.from.now).nodes c.args.walk.now.entered (omega (arith, c.if-walk-scale.false, limit)) in
    let p = err_from_is_err_and c.from_residual.result c.from_residual.ensures.1 in
    rw (p.1, p.2) (some_map _ _ (fault_of c.in_err-owned.field-0.0)
    (λ x h. λ f since olds.
    let before = progress_of f c.args.walk.now c.args.g.now c.args.t.now.tree in
    key_again (basis_of c.args.from.now f) f.pasts c.args.names.now.now.items (plain_arrival f c.args.arrival.now) before x room (h before refl))
    c.in_err-owned.ensures.fault)

pub returns-in_err-owned-clause-builds_at_fault : goal.returns-in_err-owned-clause-builds_at_fault
returns-in_err-owned-clause-builds_at_fault g c =
    let limit : c.scale.result.nodes ≡ (program_of c.args.from.now).nodes = ap (λ scale. scale.nodes) c.scale.ensures in
    let room : nat_le (program_of c.args.from.now).nodes c.args.walk.now.entered ≡ false = lt-leb (program_of c.args.from.now).nodes c.args.walk.now.entered (omega (arith, c.if-walk-scale.false, limit)) in
    let p = err_from_is_err_and c.from_residual.result c.from_residual.ensures.1 in
    rw (p.1, p.2) (some_map _ _ (fault_of c.in_err-owned.field-0.0)
    (λ x h. λ f since olds.
    let before = progress_of f c.args.walk.now c.args.g.now c.args.t.now.tree in
    none_so _ c.args.builds.now c.args.builds.now (none_again (basis_of c.args.from.now f) f.pasts c.args.names.now.now.items (plain_arrival f c.args.arrival.now) before x room (h before refl)) refl)
    c.in_err-owned.ensures.fault)

-- ---- its output is too large

pub returns-in_err-given-clause-fault : goal.returns-in_err-given-clause-fault
returns-in_err-given-clause-fault g c =
    let limit : c.scale.result.nodes ≡ (program_of c.args.from.now).nodes = ap (λ scale. scale.nodes) c.scale.ensures in
    let room : nat_le (program_of c.args.from.now).nodes c.args.walk.now.entered ≡ false = lt-leb (program_of c.args.from.now).nodes c.args.walk.now.entered (omega (arith, c.if-walk-scale.false, limit)) in
    let p = err_from_is_err_and c.from_residual-in_err-given.result c.from_residual-in_err-given.ensures.1 in
    rw (p.1, p.2) (some_map _ _ (fault_of c.in_err-given.field-0.0)
    (λ x h. λ f since olds.
    let from = basis_of c.args.from.now f in
    let values = c.args.names.now.now.items in
    let was = c.own.new.names.was.items in
    let a = plain_arrival f c.args.arrival.now in
    let before = progress_of f c.args.walk.now c.args.g.now c.args.t.now.tree in
    let o = c.in_ok-owned.ensures.owned f c.args.r.now.tree before since olds refl refl in
    let now = c.in_ok-owned.ensures.since f c.args.r.now.tree since in
    fails_output f from values was a before c.own.new.t.tree c.own.new.g c.in_ok-owned.owned o room x
    (λ s. as_named f from values was a before c.own.new.t.tree c.own.new.g c.in_ok-owned.owned o room c.own.new.names.now.items c.in_ok-owned.ensures.now s (stops x) (h f o.element s o.stored now.elements o.old)))
    c.in_err-given.ensures.fault)

pub returns-in_err-given-clause-builds_at_fault : goal.returns-in_err-given-clause-builds_at_fault
returns-in_err-given-clause-builds_at_fault g c =
    let limit : c.scale.result.nodes ≡ (program_of c.args.from.now).nodes = ap (λ scale. scale.nodes) c.scale.ensures in
    let room : nat_le (program_of c.args.from.now).nodes c.args.walk.now.entered ≡ false = lt-leb (program_of c.args.from.now).nodes c.args.walk.now.entered (omega (arith, c.if-walk-scale.false, limit)) in
    let p = err_from_is_err_and c.from_residual-in_err-given.result c.from_residual-in_err-given.ensures.1 in
    rw (p.1, p.2) (some_map _ _ (fault_of c.in_err-given.field-0.0)
    (λ x h. λ f since olds.
    let from = basis_of c.args.from.now f in
    let values = c.args.names.now.now.items in
    let was = c.own.new.names.was.items in
    let a = plain_arrival f c.args.arrival.now in
    let before = progress_of f c.args.walk.now c.args.g.now c.args.t.now.tree in
    let o = c.in_ok-owned.ensures.owned f c.args.r.now.tree before since olds refl refl in
    let now = c.in_ok-owned.ensures.since f c.args.r.now.tree since in
    builds_so f from values was a before c.own.new.t.tree c.own.new.g c.in_ok-owned.owned o room c.args.builds.now c.given.new.builds
    (counted_named f from values was a before c.own.new.t.tree c.own.new.g c.in_ok-owned.owned o room c.own.new.names.now.items c.in_ok-owned.ensures.now c.args.builds.now c.given.new.builds (h f now.elements o.old)))
    c.in_err-given.ensures.builds_at_fault)

-- ---- keys of its children are the same

pub returns-in_err-keep_apart-clause-fault : goal.returns-in_err-keep_apart-clause-fault
returns-in_err-keep_apart-clause-fault g c =
    let limit : c.scale.result.nodes ≡ (program_of c.args.from.now).nodes = ap (λ scale. scale.nodes) c.scale.ensures in
    let room : nat_le (program_of c.args.from.now).nodes c.args.walk.now.entered ≡ false = lt-leb (program_of c.args.from.now).nodes c.args.walk.now.entered (omega (arith, c.if-walk-scale.false, limit)) in
    let p = err_from_is_err_and c.from_residual-in_err-keep_apart.result c.from_residual-in_err-keep_apart.ensures.1 in
    rw (p.1, p.2) (some_map _ _ (fault_of c.in_err-keep_apart.field-0.0)
    (λ x h. λ f since olds.
    let from = basis_of c.args.from.now f in
    let values = c.args.names.now.now.items in
    let was = c.own.new.names.was.items in
    let a = plain_arrival f c.args.arrival.now in
    let before = progress_of f c.args.walk.now c.args.g.now c.args.t.now.tree in
    let ws = given_to (shared c.args.arrival.now.widget) c.in_ok-given.given in
    let o = c.in_ok-owned.ensures.owned f c.args.r.now.tree before since olds refl refl in
    let now = c.in_ok-owned.ensures.since f c.args.r.now.tree since in
    fails_apart f from values was a before c.own.new.t.tree c.own.new.g c.in_ok-owned.owned o room ws
    (λ s. as_named f from values was a before c.own.new.t.tree c.own.new.g c.in_ok-owned.owned o room c.own.new.names.now.items c.in_ok-owned.ensures.now s (gives ws s)
    (c.in_ok-given.ensures.ok f o.element s o.stored now.elements o.old))
    x (λ s. subst (λ (l : List PlainWidget). apart l s ≡ stops x) c.given_to-children.ensures (h s)))
    c.in_err-keep_apart.ensures.fault)

pub returns-in_err-keep_apart-clause-builds_at_fault : goal.returns-in_err-keep_apart-clause-builds_at_fault
returns-in_err-keep_apart-clause-builds_at_fault g c =
    let limit : c.scale.result.nodes ≡ (program_of c.args.from.now).nodes = ap (λ scale. scale.nodes) c.scale.ensures in
    let room : nat_le (program_of c.args.from.now).nodes c.args.walk.now.entered ≡ false = lt-leb (program_of c.args.from.now).nodes c.args.walk.now.entered (omega (arith, c.if-walk-scale.false, limit)) in
    let p = err_from_is_err_and c.from_residual-in_err-keep_apart.result c.from_residual-in_err-keep_apart.ensures.1 in
    rw (p.1, p.2) (some_map _ _ (fault_of c.in_err-keep_apart.field-0.0)
    (λ x h. λ f since olds.
    let from = basis_of c.args.from.now f in
    let values = c.args.names.now.now.items in
    let was = c.own.new.names.was.items in
    let a = plain_arrival f c.args.arrival.now in
    let before = progress_of f c.args.walk.now c.args.g.now c.args.t.now.tree in
    let o = c.in_ok-owned.ensures.owned f c.args.r.now.tree before since olds refl refl in
    let now = c.in_ok-owned.ensures.since f c.args.r.now.tree since in
    builds_so f from values was a before c.own.new.t.tree c.own.new.g c.in_ok-owned.owned o room c.args.builds.now c.given.new.builds
    (counted_named f from values was a before c.own.new.t.tree c.own.new.g c.in_ok-owned.owned o room c.own.new.names.now.items c.in_ok-owned.ensures.now c.args.builds.now c.given.new.builds
    (c.in_ok-given.ensures.builds f now.elements o.old)))
    c.in_err-keep_apart.ensures.fault)

-- ---- it is opened

pub returns-clause-opened : goal.returns-clause-opened
returns-clause-opened g c = λ f since olds.
    let limit : c.scale.result.nodes ≡ (program_of c.args.from.now).nodes = ap (λ scale. scale.nodes) c.scale.ensures in
    let room : nat_le (program_of c.args.from.now).nodes c.args.walk.now.entered ≡ false = lt-leb (program_of c.args.from.now).nodes c.args.walk.now.entered (omega (arith, c.if-walk-scale.false, limit)) in
    let from = basis_of c.args.from.now f in
    let values = c.args.names.now.now.items in
    let was = c.own.new.names.was.items in
    let a = plain_arrival f c.args.arrival.now in
    let before = progress_of f c.args.walk.now c.args.g.now c.args.t.now.tree in
    let ws = given_to (shared c.args.arrival.now.widget) c.in_ok-given.given in
    let o = c.in_ok-owned.ensures.owned f c.args.r.now.tree before since olds refl refl in
    let now = c.in_ok-owned.ensures.since f c.args.r.now.tree since in
    let entered : suc o.met.entered ≡ c.args.walk.now.entered + 1 = let e = o.entered in omega (arith, e) in
    let after = counted_so _ o.met (c.args.walk.now.entered + 1) _ _ before.waiting entered o.keys o.next o.waiting in
    let given_so = λ (s : Progress). as_named f from values was a before c.own.new.t.tree c.own.new.g c.in_ok-owned.owned o room c.own.new.names.now.items c.in_ok-owned.ensures.now s (gives ws s)
    (c.in_ok-given.ensures.ok f o.element s o.stored now.elements o.old) in
    let apart_so = λ (s : Progress). subst (λ (l : List PlainWidget). apart l s ≡ gives l s) c.given_to-children.ensures (c.in_ok-keep_apart.ensures.ok s) in
    opened_whole f from values was a before _ c.own.new.t.tree c.own_render.new.r.tree c.own.new.g c.in_ok-owned.owned c.in_ok-given.given c.in_ok-output.output c.in_ok-render.render o
    (opens f from values was a before c.own.new.t.tree c.own.new.g c.in_ok-owned.owned o room ws given_so _ apart_so after)
    (subst (λ (l : List PlainWidget). Stores (build_role_of (look_of a.widget)) (option_map shared c.in_ok-output.output) l) c.given_to-children.ensures
    (subst (λ (v : Widget). Stores (build_role_of (look_in v.kind)) (option_map shared c.in_ok-output.output) (map shared c.given_to-children.result.now)) c.deref.ensures c.in_ok-output.ensures))
    (c.in_ok-render.ensures.drawn f from (program_of c.args.from.now).defaults was before c.own.new.g c.own.new.g (element_of a o.element (option_map shared c.in_ok-output.output) c.in_ok-render.render) now o refl refl refl)
    c.in_ok-render.ensures.unseen

pub returns-clause-builds : goal.returns-clause-builds
returns-clause-builds g c = λ f since olds.
    let limit : c.scale.result.nodes ≡ (program_of c.args.from.now).nodes = ap (λ scale. scale.nodes) c.scale.ensures in
    let room : nat_le (program_of c.args.from.now).nodes c.args.walk.now.entered ≡ false = lt-leb (program_of c.args.from.now).nodes c.args.walk.now.entered (omega (arith, c.if-walk-scale.false, limit)) in
    let from = basis_of c.args.from.now f in
    let values = c.args.names.now.now.items in
    let was = c.own.new.names.was.items in
    let a = plain_arrival f c.args.arrival.now in
    let before = progress_of f c.args.walk.now c.args.g.now c.args.t.now.tree in
    let o = c.in_ok-owned.ensures.owned f c.args.r.now.tree before since olds refl refl in
    let now = c.in_ok-owned.ensures.since f c.args.r.now.tree since in
    builds_so f from values was a before c.own.new.t.tree c.own.new.g c.in_ok-owned.owned o room c.args.builds.now c.given.new.builds
    (counted_named f from values was a before c.own.new.t.tree c.own.new.g c.in_ok-owned.owned o room c.own.new.names.now.items c.in_ok-owned.ensures.now c.args.builds.now c.given.new.builds
    (c.in_ok-given.ensures.builds f now.elements o.old))

-- ---- what holds then as it did

pub returns-clause-since : goal.returns-clause-since
returns-clause-since g c = λ f since.
    drawn_since (program_of c.args.from.now).defaults f c.own.new.t.tree c.args.r.now.tree c.own_render.new.r.tree c.own.new.g c.in_ok-render.ensures.keeps (c.in_ok-owned.ensures.since f c.args.r.now.tree since)

pub returns-clause-keeps : goal.returns-clause-keeps
returns-clause-keeps g c = c.in_ok-owned.ensures.keeps

pub returns-clause-keeps_drawn : goal.returns-clause-keeps_drawn
returns-clause-keeps_drawn g c = c.in_ok-render.ensures.keeps

pub returns-clause-makes_drawn : goal.returns-clause-makes_drawn
returns-clause-makes_drawn g c = c.in_ok-render.ensures.makes (made_count c.args.t.now.tree) c.in_ok-owned.ensures.made

pub returns-clause-ready : goal.returns-clause-ready
returns-clause-ready g c = record {
  elements = c.in_ok-owned.ensures.ready;
  room = record {
    elements = omega (arith, c.in_ok-owned.ensures.room, c.requires.ready.room.elements);
    renders = omega (arith, c.in_ok-render.ensures.room, c.requires.ready.room.renders);
  };
}

pub returns-clause-names : goal.returns-clause-names
returns-clause-names g c = c.in_ok-owned.ensures.now

pub returns-clause-around : goal.returns-clause-around
returns-clause-around g c = c.in_ok-owned.ensures.around

pub returns-clause-was : goal.returns-clause-was
returns-clause-was g c = c.in_ok-owned.ensures.was

pub returns-clause-plans : goal.returns-clause-plans
returns-clause-plans g c = refl

pub returns-clause-spots : goal.returns-clause-spots
returns-clause-spots g c = refl

pub returns-clause-partner : goal.returns-clause-partner
returns-clause-partner g c = alone_typed (declared_by c.args.from.now) c.own.new.t.tree c.in_ok-owned.owned.at c.in_ok-owned.owned.partner c.in_ok-owned.ensures.element.partner

pub returns-clause-held : goal.returns-clause-held
returns-clause-held g c = c.in_ok-owned.ensures.held

pub returns-clause-given : goal.returns-clause-given
returns-clause-given g c = c.in_ok-given.ensures.typed
