use Rattle.std.proofs.Common.{◌≡◌, suc, ◌-◌, ◌<◌, rules, List, length, map, get_or, IfSome, sym, ap, ◌∙◌, subst, arith}
use Rattle.std.proofs.lemmas.List.{get_or-map, length-map}
use Rattle.std.proofs.lemmas.Result.{err_from_is_err_and, IfOk-weaker}
use Rattle.std.specs.List.{All}
use Rattle.fx_expr.specs.declared.values.Value.{Value}
use Rattle.fx_expr.specs.Value.{type_of}
use Rattle.widget_model.specs.declared.widgets.Widget.{Widget}
use Rattle.widget_model.specs.Plain.{widgets_of}
use Rattle.widget_model.specs.View.{shared, plain_of, look_in, slots_in}
use Rattle.plain_tree.specs.PlainNode.{node, nodes_of}
use Rattle.build_form.specs.Step.{each}
use Rattle.build_form.specs.BuildRole.{build_role_of}
use Rattle.build_form.specs.Partner.{arrivals}
use Rattle.build_form.specs.Entering.{waits, enter}
use Rattle.build_form.specs.FaultView.{fault_of}
use Rattle.build_form.specs.Lent.{lent}
use Rattle.plain_build.specs.PartnerView.{plain_arrival}
use Rattle.plain_build.specs.WalkView.{progress_of}
use Rattle.plain_build.specs.BasisView.{basis_of, declared_by, phase_of}
use Rattle.plain_build.specs.OpeningView.{plain_opening}
use Rattle.plain_build.specs.ProvidingView.{with_outer}
use Rattle.plain_build.specs.declared.providing.Outer.{Outer}
use Rattle.build_form.specs.WellBuilt.{IsWellBuilt, IsTypedArrival, AreBelow}
use Rattle.build_form.proofs.Eaching.{each_more, each_stops}
use Rattle.build_form.proofs.Filled.{fits_names}
use Rattle.build_form.proofs.Outcomes.{some_map}
use Rattle.build_form.proofs.Entered.{enter_no_deeper, enter_not_opened, enter_not_below, enter_all_done, lazy_opened, well_built, below_same, all_pushed, made_same, arrivals_typed}
use Rattle.plain_build.proofs.Arrived.{widgets_pushed, arrived_below}
use Rattle.plain_build.proofs.entering.+entering.Goals as goal

pub enter-returns-then-left-eq0-clause-fault : goal.enter-returns-then-left-eq0-clause-fault
enter-returns-then-left-eq0-clause-fault g t c =
    enter_no_deeper (basis_of c.args.from.now) (phase_of c.args.phase) c.args.left 0 c.args.values.now (plain_arrival c.args.arrival.now) (progress_of c.args.walk.now) c.if-left-eq0.true

pub enter-returns-in_err-opening-clause-fault : goal.enter-returns-in_err-opening-clause-fault
enter-returns-in_err-opening-clause-fault g t c =
    let p = err_from_is_err_and c.from_residual.result c.from_residual.ensures.1 in
    let k : c.args.left ≡ suc (c.args.left - 1) = omega arith in
    rw (p.1, p.2) (some_map _ _ (fault_of c.in_err-opening.field-0.0)
    (λ f h. enter_not_opened (basis_of c.args.from.now) (phase_of c.args.phase) c.args.left (c.args.left - 1) c.args.values.now (plain_arrival c.args.arrival.now) (progress_of c.args.walk.now) f k h)
    c.in_err-opening.ensures.fault)

pub enter-returns-in_err-children-clause-fault : goal.enter-returns-in_err-children-clause-fault
enter-returns-in_err-children-clause-fault g t c =
    let p = err_from_is_err_and c.from_residual-in_err-children.result c.from_residual-in_err-children.ensures.1 in
    let k : c.args.left ≡ suc (c.args.left - 1) = omega arith in
    let o = c.in_ok-opening.opening in
    let w : plain_of c.deref.result.now ≡ shared c.args.arrival.now.widget = ap plain_of c.deref.ensures in
    let ws : map shared c.as_slice.result.now ≡ map shared o.given.items = ap (map shared) c.as_slice.ensures.value in
    rw (p.1, p.2) (some_map _ _ (fault_of c.in_err-children.field-0.0)
    (λ f h. enter_not_below (basis_of c.args.from.now) (phase_of c.args.phase) c.args.left (c.args.left - 1) c.args.values.now (plain_arrival c.args.arrival.now) (progress_of c.args.walk.now)
    (plain_opening o) (progress_of c.open.new.walk) k c.in_ok-opening.ensures.ok f
    (below_same (basis_of c.args.from.now) (phase_of c.args.phase) (c.args.left - 1) c.args.values.now _ _ (lent o.partner) o.number o.fields _ _ (progress_of c.open.new.walk) _ w ws (h o.number o.fields)))
    c.in_err-children.ensures.fault)

pub enter-returns-clause-ok : goal.enter-returns-clause-ok
enter-returns-clause-ok g t c =
    let k : c.args.left ≡ suc (c.args.left - 1) = omega arith in
    let o = c.in_ok-opening.opening in
    let a = plain_arrival c.args.arrival.now in
    let ns = c.in_ok-children.children.items in
    let w : plain_of c.deref.result.now ≡ shared c.args.arrival.now.widget = ap plain_of c.deref.ensures in
    let ws : map shared c.as_slice.result.now ≡ map shared o.given.items = ap (map shared) c.as_slice.ensures.value in
    let copy : plain_of c.in_ok-clone.field-0.value ≡ a.widget = search rules in
    enter_all_done (basis_of c.args.from.now) (phase_of c.args.phase) c.args.left (c.args.left - 1) c.args.values.now a (progress_of c.args.walk.now)
    (plain_opening o) (progress_of c.open.new.walk) k c.in_ok-opening.ensures.ok ns (progress_of c.enter_below.new.walk)
    (below_same (basis_of c.args.from.now) (phase_of c.args.phase) (c.args.left - 1) c.args.values.now _ _ (lent o.partner) o.number o.fields _ _ (progress_of c.open.new.walk) _ w ws (c.in_ok-children.ensures.ok o.number o.fields))
    ∙ made_same o.number _ _ o.fields _ _ a.place ns (progress_of c.enter_below.new.walk) copy c.scroll_for.ensures

pub enter-returns-clause-built : goal.enter-returns-clause-built
enter-returns-clause-built g t c =
    let D = declared_by c.args.from.now in
    let o = c.in_ok-opening.opening in
    let a = plain_arrival c.args.arrival.now in
    let ns = c.in_ok-children.children.items in
    let ws : map shared c.as_slice.result.now ≡ map shared o.given.items = ap (map shared) c.as_slice.ensures.value in
    let copy : plain_of c.in_ok-clone.field-0.value ≡ a.widget = search rules in
    let w : look_in c.deref.result.now.kind ≡ look_in c.args.arrival.now.widget.value.kind = ap (λ (x : Widget). look_in x.kind) c.deref.ensures in
    let below = subst (λ l. AreBelow (waits (phase_of c.args.phase) (build_role_of l)) (map shared o.given.items) ns) w (subst (λ l. AreBelow (waits (phase_of c.args.phase) (build_role_of (look_in c.deref.result.now.kind))) l ns) ws c.in_ok-children.ensures.below) in
    let whole = well_built o.number a.widget o.fields c.scroll_for.result a.place ns (map shared o.given.items) (phase_of c.args.phase) D c.requires.arrival.widget c.in_ok-opening.ensures.fields c.in_ok-opening.ensures.keys
    (lazy_opened (basis_of c.args.from.now) c.args.values.now a (progress_of c.args.walk.now) (plain_opening o) (progress_of c.open.new.walk) c.in_ok-opening.ensures.ok)
    c.in_ok-opening.ensures.fits below c.in_ok-children.ensures.built in
    subst (λ x. IsWellBuilt D (node o.number x o.fields c.scroll_for.result a.place (nodes_of ns))) (sym copy) whole

pub enter_all-enter-requires : goal.enter_all-enter-requires
enter_all-enter-requires g t c κs within =
    let D = declared_by c.args.from.now in
    let r = c.index-arriving-i.result in
    let rs = map plain_arrival c.args.arriving.now in
    let at = c.requires.arriving c.loop-i.i (plain_arrival r) (rw length-map c.loop-i-test.true) in
    let is : get_or rs c.loop-i.i (plain_arrival r) ≡ plain_arrival r = get_or-map plain_arrival c.args.arriving.now c.loop-i.i r (plain_arrival r) c.loop-i-test.true ∙ ap plain_arrival (sym c.index-arriving-i.is) in
    let vs : map type_of c.loop-i.values ≡ D.inherited = ap (map type_of) c.loop-i.invariant.values_same ∙ c.requires.values in
    (omega (arith, c.decreases), (search (rules, within), (c.requires.holders, (vs, (c.loop-i.invariant.waiting, subst (IsTypedArrival D) is at)))))

pub enter_all-returns-in_err-node-clause-fault : goal.enter_all-returns-in_err-node-clause-fault
enter_all-returns-in_err-node-clause-fault g t c =
    let p = err_from_is_err_and c.from_residual.result c.from_residual.ensures.1 in
    let r = c.index-arriving-i.result in
    let rs = map plain_arrival c.args.arriving.now in
    let low : c.loop-i.i < length rs = rw length-map c.loop-i-test.true in
    let is : plain_arrival r ≡ get_or rs c.loop-i.i (plain_arrival r) = sym (get_or-map plain_arrival c.args.arriving.now c.loop-i.i r (plain_arrival r) c.loop-i-test.true ∙ ap plain_arrival (sym c.index-arriving-i.is)) in
    let go = enter (basis_of c.args.from.now) (phase_of c.args.phase) c.args.left in
    rw (p.1, p.2) (some_map _ _ (fault_of c.in_err-node.field-0.0)
    (λ f h. each_stops (go c.args.values.now) rs c.loop-i.i (plain_arrival r) c.loop-i.nodes.items (progress_of c.loop-i.walk) f _ low is
    (ap (λ vs. go vs (plain_arrival r) (progress_of c.loop-i.walk)) (sym c.loop-i.invariant.values_same) ∙ h) c.loop-i.invariant.steps)
    c.in_err-node.ensures.fault)

pub enter_all-loop-i-preserved : goal.enter_all-loop-i-preserved
enter_all-loop-i-preserved g t c =
    let r = c.index-arriving-i.result in
    let rs = map plain_arrival c.args.arriving.now in
    let low : c.loop-i.i < length rs = rw length-map c.loop-i-test.true in
    let is : plain_arrival r ≡ get_or rs c.loop-i.i (plain_arrival r) = sym (get_or-map plain_arrival c.args.arriving.now c.loop-i.i r (plain_arrival r) c.loop-i-test.true ∙ ap plain_arrival (sym c.index-arriving-i.is)) in
    let go = enter (basis_of c.args.from.now) (phase_of c.args.phase) c.args.left in
    record {
      steps = each_more (go c.args.values.now) rs c.loop-i.i (plain_arrival r) c.in_ok-node.node c.loop-i.nodes.items c.push.new.self.items (progress_of c.loop-i.walk) (progress_of c.enter.new.walk) _ low is
          (ap (λ vs. go vs (plain_arrival r) (progress_of c.loop-i.walk)) (sym c.loop-i.invariant.values_same) ∙ c.in_ok-node.ensures.ok) c.in_ok-push.ensures.items c.loop-i.invariant.steps;
      values_same = c.in_ok-node.ensures.values ∙ c.loop-i.invariant.values_same;
      waiting = c.in_ok-node.ensures.waiting;
      built = all_pushed (IsWellBuilt (declared_by c.args.from.now)) c.loop-i.nodes.items c.in_ok-node.node c.push.new.self.items c.in_ok-push.ensures.items c.loop-i.invariant.built c.in_ok-node.ensures.built;
      widgets_same = widgets_pushed c.loop-i.nodes.items c.push.new.self.items c.in_ok-node.node c.args.arriving.now c.loop-i.i r c.in_ok-push.ensures.items c.in_ok-node.ensures.widget c.loop-i-test.true c.index-arriving-i.is c.loop-i.invariant.widgets_same;
    }

pub enter_below-enter_under-requires : goal.enter_below-enter_under-requires
enter_below-enter_under-requires g t c κs within =
    let D = declared_by c.args.from.now in
    let at : map plain_arrival c.as_slice.result.now ≡ arrivals (lent c.args.partner) (map shared c.args.given.now) = ap (map plain_arrival) c.as_slice.ensures.value ∙ c.in_ok-arriving.ensures in
    let typed = subst (All (IsTypedArrival D)) (sym at) (arrivals_typed D (lent c.args.partner) (map shared c.args.given.now) c.requires.partner c.requires.given) in
    (omega (arith, c.decreases), (search (rules, within), (c.requires.holders, (c.requires.values, (c.requires.waiting, (c.requires.widget, typed))))))

pub enter_below-returns-clause-below : goal.enter_below-returns-clause-below
enter_below-returns-clause-below g t c =
    IfOk-weaker c.enter_under.result _ _
    (λ ns h. arrived_below (waits (phase_of c.args.phase) (build_role_of (look_in c.args.widget.now.kind))) (lent c.args.partner) (map shared c.args.given.now) c.as_slice.result.now ns.items
    (sym c.is_put_off.ensures ∙ c.if-is_put_off.false) (ap (map plain_arrival) c.as_slice.ensures.value ∙ c.in_ok-arriving.ensures) h)
    c.enter_under.ensures.widgets

pub enter_under-provide_below-requires : goal.enter_under-provide_below-requires
enter_under-provide_below-requires g t c =
    let w = c.args.widget.now in
    fits_names (declared_by c.args.from.now) (look_in w.kind) w.key (widgets_of (slots_in w.kind)) (widgets_of w.children) (map type_of c.args.values.now)
    c.requires.widget c.requires.values

pub enter_under-returns-in_err-nodes-clause-fault : goal.enter_under-returns-in_err-nodes-clause-fault
enter_under-returns-in_err-nodes-clause-fault g t c =
    let p = err_from_is_err_and c.from_residual-in_err-nodes.result c.from_residual-in_err-nodes.ensures.1 in
    let go = λ (vs : List Value). each (enter (basis_of c.args.from.now) (phase_of c.args.phase) c.args.left vs) (map plain_arrival c.args.arriving.now) (progress_of c.args.walk.now) in
    rw (p.1, p.2) (some_map _ _ (fault_of c.in_err-nodes.field-0.0) (λ f h. sym (ap go c.in_ok-outer.ensures.below) ∙ h) c.in_err-nodes.ensures.fault)

pub enter_under-restore-requires : goal.enter_under-restore-requires
enter_under-restore-requires g t c =
    subst (λ (vs : List Value). IfSome c.in_ok-outer.outer (λ (x : Outer). x.name < length vs)) (sym c.in_ok-nodes.ensures.values) c.in_ok-outer.ensures.within

pub enter_under-returns-clause-ok : goal.enter_under-returns-clause-ok
enter_under-returns-clause-ok g t c =
    let go = λ (vs : List Value). each (enter (basis_of c.args.from.now) (phase_of c.args.phase) c.args.left vs) (map plain_arrival c.args.arriving.now) (progress_of c.args.walk.now) in
    sym (ap go c.in_ok-outer.ensures.below) ∙ c.in_ok-nodes.ensures.ok

pub enter_under-returns-clause-values : goal.enter_under-returns-clause-values
enter_under-returns-clause-values g t c =
    c.restore.ensures ∙ ap (with_outer c.in_ok-outer.outer) c.in_ok-nodes.ensures.values ∙ c.in_ok-outer.ensures.outer
