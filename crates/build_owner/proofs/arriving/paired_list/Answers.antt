use Rattle.std.proofs.Common.{◌≡◌, ◌<◌, ◌∷◌, [], Some, length, map, get_or, ap, ◌∙◌, arith}
use Rattle.std.proofs.lemmas.List.{map-append}
use Rattle.fx_handles.specs.declared.Handle.{Handle}
use Rattle.widget_model.specs.View.{shared}
use Rattle.build_owner.specs.ArrivalView.{coming}
use Rattle.build_owner.proofs.Children.{any_default}
use Rattle.build_owner.proofs.Paired.{coming_more}
use Rattle.build_owner.proofs.arriving.paired_list.Goals as goal

pub loop-i-preserved : goal.loop-i-preserved
loop-i-preserved c =
    let hs = c.args.handles.now in
    let i = c.loop-i.i in
    let zero_handle : Handle = record { index = 0; generation = 0 } in
    let h = get_or hs i zero_handle in
    let r = c.index-widgets-i.result in
    let a = c.in_ok-arrives.field-0 in
    let in_hs : i < length hs = omega (arith, c.loop-i-test.true, c.requires) in
    let is : coming a ≡ record { widget = shared r; place = i; beside = Some h } =
    λ j. record { widget = c.in_ok-arrives.ensures.widget j; place = c.in_ok-arrives.ensures.place j; beside = c.in_ok-arrives.ensures.beside j } in
    coming_more hs c.args.widgets.now i (map coming c.loop-i.arrivals.items) (map coming c.push.new.self.items) _ h r (coming a) in_hs c.loop-i-test.true (any_default hs i zero_handle h in_hs) c.index-widgets-i.is is
    (ap (map coming) c.in_ok-push.ensures.items ∙ map-append coming c.loop-i.arrivals.items (a ∷ [])) c.loop-i.invariant
