use Rattle.std.proofs.Common.{◌≤◌, ◌++◌, ◌∷◌, [], length, map, sym, ap, ◌∙◌, arith}
use Rattle.std.proofs.lemmas.List.{append-nil, drop_all, length-map, map-append}
use Rattle.widget_model.specs.View.{shared}
use Rattle.build_owner.specs.ArrivalView.{coming, coming_anew}
use Rattle.build_owner.proofs.Fresh.{anew_more}
use Rattle.build_owner.proofs.arriving.fresh_list.Goals as goal

pub loop-i-preserved : goal.loop-i-preserved
loop-i-preserved c =
    let i = c.loop-i.i in
    let r = c.index-widgets-i.result in
    let a = c.in_ok-arrives.field-0 in
    anew_more c.args.widgets.now i (map coming c.loop-i.arrivals.items) (map coming c.push.new.self.items) _ r (coming a) c.loop-i-test.true c.index-widgets-i.is
    (λ j. record { widget = c.in_ok-arrives.ensures.widget j; place = c.in_ok-arrives.ensures.place j; beside = c.in_ok-arrives.ensures.beside j })
    (ap (map coming) c.in_ok-push.ensures.items ∙ map-append coming c.loop-i.arrivals.items (a ∷ [])) c.loop-i.invariant

pub returns : goal.returns
returns c =
    let news = map shared c.args.widgets.now in
    let i = c.loop-i.i in
    let long : length news ≤ i = rw length-map (omega arith) in
    let items = map coming c.loop-i.arrivals.items in
    sym (append-nil items) ∙ ap (λ l. items ++ coming_anew i l) (sym (drop_all i news long)) ∙ c.loop-i.invariant
