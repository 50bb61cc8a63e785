use Rattle.std.proofs.Common.{◌≡◌, ◌<◌, ℕ, List, true, false, [], ◌∷◌, ◌+◌, ap, length, length-set, map, get_or, set, sym, ◌∙◌, subst, arith}
use Rattle.std.proofs.lemmas.List.{length-append, length-map}
use Rattle.std.proofs.lemmas.Option.{slice_get_within}
use Rattle.widget_model.specs.Plain.{PlainWidget}
use Rattle.widget_model.specs.View.{plain_of, shared}
use Rattle.reconcile.proofs.PlaceLemmas.{seen_through}
use Rattle.renewed_builds.proofs.GoingOn.{AreMet, GoesOn, all_follow, goes_found, one_more}
use Rattle.renewed_builds.proofs.following.places_by_number.Goals as goal

pub loop-i-preserved : goal.loop-i-preserved
loop-i-preserved c =
    let olds : List PlainWidget = map shared c.args.was.now in
    let ws : List PlainWidget = map shared c.args.now.now in
    let places = c.loop-i.places.items in
    let taken = c.loop-i.taken.items in
    let j : ℕ = c.in-Some-place_for.place in
    let at = seen_through c.args.now.now c.loop-i.i c.index-now-i.result c.deref-widget.result.now c.loop-i-test.true c.index-now-i.is c.deref-widget.ensures in
    let goes : GoesOn olds ws c.loop-i.i j =
    goes_found olds ws c.loop-i.i (plain_of c.deref-widget.result.now) (length c.args.was.now) at (sym (length-map c.args.was.now shared)) c.place_for.result j c.in-Some-place_for.is c.place_for.ensures.within
    c.place_for.ensures.given c.place_for.ensures.updates in
    let inside = slice_get_within olds j goes.old goes.at_old in
    let free : get_or taken j false ≡ false = subst (λ x. get_or taken j x ≡ false) c.if-index.false (sym c.index.ensures ∙ c.if-index.false) in
    let met : AreMet olds ws c.push.new.self.items (set taken j true) =
    subst (λ xs. AreMet olds ws xs (set taken j true)) (sym c.in_ok-push.ensures.items)
    (one_more olds ws places taken c.loop-i.invariant.2 j (omega (arith, inside, length-map c.args.was.now shared, c.loop-i.invariant.1)) free (subst (λ k. GoesOn olds ws k j) (sym c.loop-i.invariant.0) goes)) in
    (ap length c.in_ok-push.ensures.items ∙ length-append places (j ∷ []) ∙ ap (λ n. n + 1) c.loop-i.invariant.0, length-set taken j true ∙ c.loop-i.invariant.1, met)

pub returns : goal.returns
returns c =
    let full : length c.loop-i.places.items ≡ length (map shared c.args.now.now) = omega (arith, c.loop-i.invariant.0, c.loop-i-test.false, length-map c.args.now.now shared) in
    all_follow (map shared c.args.was.now) (map shared c.args.now.now) c.requires.apart (length-map c.args.was.now shared ∙ c.requires.many ∙ sym (length-map c.args.now.now shared)) c.loop-i.places.items c.loop-i.taken.items
    c.loop-i.invariant.2 full
