use Rattle.std.proofs.Common.{◌≡◌, ℕ, ◌<◌, Option, length, map, refl, IfSome, subst, sym, ap, ◌∙◌, arith}
use Rattle.std.proofs.lemmas.List.Elements.{All-get_or}
use Rattle.widget_model.specs.View.{shared}
use Rattle.build_form.specs.Partner.{arrival, node_at_any}
use Rattle.plain_build.specs.PartnerView.{plain_arrival}
use Rattle.build_form.proofs.Arriving.{matched_len, arrived_more, pushed}
use Rattle.plain_build.proofs.partners.arrivals.Goals as goal

pub index-requires : goal.index-requires
index-requires c =
    let len : length c.match_children.new.out.items ≡ length c.args.widgets.now = matched_len c.as_slice.result.now c.args.widgets.now c.match_children.new.out.items c.in_ok-match_children.ensures.ok in
    omega (arith, c.match_children.new.out.ok.0)

pub beside_at-beside-requires-clause-within : goal.beside_at-beside-requires-clause-within
beside_at-beside-requires-clause-within c =
    let len : length c.match_children.new.out.items ≡ length c.args.widgets.now = matched_len c.as_slice.result.now c.args.widgets.now c.match_children.new.out.items c.in_ok-match_children.ensures.ok in
    let within : (m : Option ℕ) → Type 0 = λ m. IfSome m (λ j. j < length c.as_slice.result.now) in
    let at = All-get_or within c.match_children.new.out.items c.loop-i.i c.index.result.now (omega arith) c.in_ok-match_children.ensures.within in
    let same : length c.as_slice.result.now ≡ length c.as_slice-in-loop-i.result.now = omega (arith, c.in_ok-had.had.ok.0, c.in_ok-by_place.by_place.ok.0, c.in_ok-by_place.ensures.len) in
    let here = subst within (sym c.index.ensures) at in
    let P : ℕ → Type 0 = λ n. IfSome c.index.result.now (λ j. j < n) in
    subst P same here

pub loop-i-preserved : goal.loop-i-preserved
loop-i-preserved c =
    let len : length c.match_children.new.out.items ≡ length c.args.widgets.now = matched_len c.as_slice.result.now c.args.widgets.now c.match_children.new.out.items c.in_ok-match_children.ensures.ok in
    let nodes = c.nodes_had-nodes.result.now in
    let r = c.index-widgets-i.result in
    let a = c.in_ok-arrives.field-0 in
    let made : plain_arrival a ≡ arrival (shared r) c.loop-i.i (node_at_any nodes c.index.result.now) = c.in_ok-arrives.ensures ∙ ap (arrival (shared r) c.loop-i.i) c.beside_at-beside.ensures in
    arrived_more nodes c.args.widgets.now c.match_children.new.out.items c.loop-i.i (map plain_arrival c.loop-i.arrivals.items) _ _ r c.index.result.now _
    c.loop-i-test.true (omega arith) c.index-widgets-i.is c.index.ensures made (pushed plain_arrival c.loop-i.arrivals.items c.push.new.self.items a _ c.in_ok-push.ensures.items refl) c.loop-i.invariant
