use Rattle.std.proofs.Common.{◌<◌, ◌≤◌, ap, subst, List, ◌++◌, drop, length}
use Rattle.fx_geom.specs.declared.shapes.Offset.{Offset}
use Rattle.fx_handles.specs.declared.Handle.{Handle}
use Rattle.node_tree.specs.Tree.{children_at}
use Rattle.layout_form.specs.Framed.{last_asks}
use Rattle.layout_form.specs.Frames.{item_places}
use Rattle.layout_form.specs.SliverRule.{counted}
use Rattle.kind_rules.specs.Few.{items_of}
use Rattle.layout_rules.specs.Reads.{frames_at}
use Rattle.layout_rules.proofs.FixedLists.{place_passed, place_taken, places_over}
use Rattle.layout_rules.proofs.fixed.places_asked.Goals as goal

pub loop-i-init : goal.loop-i-init
loop-i-init c =
    let t = c.args.r.now.tree in
    let asks = last_asks (items_of c.args.first.now) (items_of c.args.rest.now) in
    let hs = children_at t c.args.h in
    ap (λ (ps : List Offset). ps ++ item_places c.args.b c.args.extent (counted 0 hs) (frames_at t asks hs)) c.new-places.ensures.items

pub loop-i-preserved-in-None : goal.loop-i-preserved-in-None
loop-i-preserved-in-None c =
    let t = c.args.r.now.tree in
    let asks = last_asks (items_of c.args.first.now) (items_of c.args.rest.now) in
    let hs = children_at t c.args.h in
    let less : c.loop-i.i < length hs = subst (λ (ks : List Handle). c.loop-i.i < length ks) c.children-i-end.ensures.value c.loop-i-test.true in
    place_passed t asks hs c.args.b c.args.extent c.loop-i.i less c.asked_at.result c.loop-i.places.items _ c.asked_at.ensures c.in-None.is c.loop-i.invariant

pub loop-i-preserved : goal.loop-i-preserved
loop-i-preserved c =
    let t = c.args.r.now.tree in
    let asks = last_asks (items_of c.args.first.now) (items_of c.args.rest.now) in
    let hs = children_at t c.args.h in
    let b = c.args.b in
    let less : c.loop-i.i < length hs = subst (λ (ks : List Handle). c.loop-i.i < length ks) c.children-i-end.ensures.value c.loop-i-test.true in
    place_taken t asks hs b c.args.extent c.loop-i.i less c.asked_at.result _ c.place_at.result c.loop-i.places.items _ _ c.asked_at.ensures c.in-Some.is
    c.in_ok-push-in-Some.ensures.items c.place_at.ensures c.loop-i.invariant

pub returns : goal.returns
returns c =
    let t = c.args.r.now.tree in
    let asks = last_asks (items_of c.args.first.now) (items_of c.args.rest.now) in
    let hs = children_at t c.args.h in
    let over : length hs ≤ c.loop-i.i = subst (λ (ks : List Handle). length ks ≤ c.loop-i.i) c.children-i-end.ensures.value c.loop-i-test.false in
    places_over t asks hs c.args.b c.args.extent c.loop-i.i (counted c.loop-i.i (drop c.loop-i.i hs)) c.loop-i.places.items _ over c.loop-i.invariant
