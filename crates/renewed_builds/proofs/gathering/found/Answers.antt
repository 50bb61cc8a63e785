use Rattle.std.proofs.Common.{Some, None, [], ◌∷◌, ◌++◌, map, sym, ap, ◌∙◌}
use Rattle.std.proofs.lemmas.List.{take_more, take_all, map-append}
use Rattle.renewed_builds.proofs.gathering.found.Goals as goal

pub loop-place-init : goal.loop-place-init
loop-place-init c = ap (map (λ j. Some j)) c.in_ok-places.ensures.items

pub loop-place-preserved : goal.loop-place-preserved
loop-place-preserved c =
    ap (map (λ j. Some j)) c.in_ok-push.ensures.items
    ∙ map-append (λ j. Some j) c.loop-place.places.items (c.in-Some.place ∷ [])
    ∙ (λ i. c.loop-place.invariant i ++ sym c.in-Some.is i ∷ [])
    ∙ sym (take_more c.args.matches.now c.loop-place.place-index None c.loop-place-test.true)

pub returns-clause-some : goal.returns-clause-some
returns-clause-some c = c.loop-place.invariant ∙ take_all c.loop-place.place-index c.args.matches.now c.loop-place-test.false
