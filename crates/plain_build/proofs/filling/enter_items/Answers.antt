use Rattle.std.proofs.Common.{◌≡◌, map, sym, ap, ◌∙◌, subst}
use Rattle.std.specs.List.{All}
use Rattle.std.proofs.lemmas.Result.{IfOk-weaker}
use Rattle.widget_model.specs.Typed.{box, sort_of}
use Rattle.widget_model.specs.View.{plain_of}
use Rattle.build_form.specs.Partner.{Arrival}
use Rattle.build_form.specs.Entering.{values_below}
use Rattle.plain_build.specs.PartnerView.{plain_arrival}
use Rattle.plain_build.specs.WalkView.{progress_of}
use Rattle.plain_build.specs.BasisView.{basis_of, declared_by}
use Rattle.plain_build.specs.RangesView.{ranges_of}
use Rattle.build_form.specs.WellBuilt.{IsTypedArrival}
use Rattle.build_form.proofs.Outcomes.{fault_map}
use Rattle.build_form.proofs.Filled.{items_given, items_stopped}
use Rattle.plain_build.proofs.Itemized.{nodes_boxes}
use Rattle.plain_build.proofs.filling.enter_items.Goals as goal

pub enter_under-requires-clause-arriving : goal.enter_under-requires-clause-arriving
enter_under-requires-clause-arriving g c =
    subst (All (IsTypedArrival (declared_by c.args.from.now))) (sym (ap (map plain_arrival) c.as_slice.ensures.value)) c.in_ok-arriving.ensures.typed

pub returns-clause-ok : goal.returns-clause-ok
returns-clause-ok g c =
    let widget = c.args.widget.now in
    IfOk-weaker c.enter_under.result _ _
    (λ ns h. items_given (basis_of c.args.from.now) c.args.left (values_below (plain_of widget) c.args.values.now) (λ count. ranges_of c.args.ranges.now c.args.number c.args.extent count) widget.children
    (progress_of c.args.walk.now) (map plain_arrival c.as_slice.result.now) (progress_of c.items.new.walk)
    (ap (map plain_arrival) c.as_slice.ensures.value ∙ c.in_ok-arriving.ensures.items) c.in_ok-arriving.ensures.served ns.items (progress_of c.enter_under.new.walk) h)
    c.enter_under.ensures.ok

pub returns-clause-fault : goal.returns-clause-fault
returns-clause-fault g c =
    let widget = c.args.widget.now in
    fault_map _ _ c.enter_under.result
    (λ f h. items_stopped (basis_of c.args.from.now) c.args.left (values_below (plain_of widget) c.args.values.now) (λ count. ranges_of c.args.ranges.now c.args.number c.args.extent count) widget.children
    (progress_of c.args.walk.now) (map plain_arrival c.as_slice.result.now) (progress_of c.items.new.walk)
    (ap (map plain_arrival) c.as_slice.ensures.value ∙ c.in_ok-arriving.ensures.items) c.in_ok-arriving.ensures.served f h)
    c.enter_under.ensures.fault

pub returns-clause-boxes : goal.returns-clause-boxes
returns-clause-boxes g c =
    let D = declared_by c.args.from.now in
    IfOk-weaker c.enter_under.result _ _
    (λ ns h. nodes_boxes D ns.items c.as_slice.result.now h
    (subst (All (λ (a : Arrival). sort_of D a.widget ≡ box)) (sym (ap (map plain_arrival) c.as_slice.ensures.value)) c.in_ok-arriving.ensures.boxes))
    c.enter_under.ensures.widgets
