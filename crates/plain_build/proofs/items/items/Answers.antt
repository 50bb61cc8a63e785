use Rattle.std.proofs.Common.{◌≡◌, map, sym, ap, ◌∙◌, subst}
use Rattle.std.specs.List.{All}
use Rattle.std.proofs.lemmas.Result.{IfOk-weaker}
use Rattle.widget_model.specs.Typed.{box, sort_of}
use Rattle.widget_model.specs.View.{shared, look_in, slots_in}
use Rattle.widget_model.specs.Plain.{widgets_of}
use Rattle.build_form.specs.Step.{Progress}
use Rattle.build_form.specs.Partner.{Arrival, arrivals}
use Rattle.build_form.specs.FullBuild.{next_waiting, others_waiting, items}
use Rattle.build_form.specs.Lent.{lent}
use Rattle.plain_build.specs.PartnerView.{plain_arrival}
use Rattle.plain_build.specs.BasisView.{declared_by}
use Rattle.build_form.specs.WellBuilt.{IsTypedArrival, AreWaiting}
use Rattle.build_form.proofs.Outcomes.{on_any}
use Rattle.plain_build.proofs.Itemized.{next_built, others_built, items_typed, items_boxes, lazy_boxes}
use Rattle.plain_build.proofs.items.items.Goals as goal

pub returns-clause-waiting : goal.returns-clause-waiting
returns-clause-waiting c =
    let old = map lent c.args.walk.now.waiting.items in
    let e : map lent c.next_waiting-partner.new.walk.waiting.items ≡ others_waiting old = ap (λ (p : Progress). p.waiting) c.next_waiting-partner.ensures.served in
    on_any _ c.items_among.result (subst (AreWaiting (declared_by c.args.from.now)) (sym e) (others_built (declared_by c.args.from.now) old c.requires.waiting))

pub returns-clause-typed : goal.returns-clause-typed
returns-clause-typed c =
    let D = declared_by c.args.from.now in
    let old = map lent c.args.walk.now.waiting.items in
    let ws = c.args.widget.now.children in
    let live = c.live_range-live.result in
    let arrived : map plain_arrival c.as_slice.result.now ≡ arrivals (next_waiting old) ws =
    ap (map plain_arrival) c.as_slice.ensures.value ∙ c.in_ok-arriving.ensures
    ∙ ap (λ x. arrivals x (map shared c.get-widgets.result.now)) c.next_waiting-partner.ensures.partner ∙ ap (arrivals (next_waiting old)) c.get-widgets.ensures.widgets in
    IfOk-weaker c.items_among.result _ _
    (λ v h. subst (All (IsTypedArrival D)) (sym (h ∙ ap (items live) arrived)) (items_typed D live (next_waiting old) ws (next_built D old c.requires.waiting) c.requires.typed.below))
    c.items_among.ensures

pub returns-clause-boxes : goal.returns-clause-boxes
returns-clause-boxes c =
    let D = declared_by c.args.from.now in
    let w = c.args.widget.now in
    let old = map lent c.args.walk.now.waiting.items in
    let ws = w.children in
    let live = c.live_range-live.result in
    let arrived : map plain_arrival c.as_slice.result.now ≡ arrivals (next_waiting old) ws =
    ap (map plain_arrival) c.as_slice.ensures.value ∙ c.in_ok-arriving.ensures
    ∙ ap (λ x. arrivals x (map shared c.get-widgets.result.now)) c.next_waiting-partner.ensures.partner ∙ ap (arrivals (next_waiting old)) c.get-widgets.ensures.widgets in
    IfOk-weaker c.items_among.result _ _
    (λ v h. subst (All (λ (a : Arrival). sort_of D a.widget ≡ box)) (sym (h ∙ ap (items live) arrived))
    (items_boxes D live (next_waiting old) ws (lazy_boxes D (look_in w.kind) w.key (widgets_of (slots_in w.kind)) ws c.args.extent c.requires.typed c.requires.lists)))
    c.items_among.ensures
