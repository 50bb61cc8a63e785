use Rattle.std.proofs.Common.{refl, ap, sym, ◌∙◌, ◌++◌, List, Option, [], ◌∷◌}
use Rattle.std.specs.Prelude.{option_to_list}
use Rattle.std.proofs.lemmas.List.{append-nil}
use Rattle.fx_geom.specs.declared.shapes.Offset.{Offset}
use Rattle.plain_tree.specs.declared.laid.Frame.{Frame}
use Rattle.layout_form.specs.Frames.{walk_places}
use Rattle.kind_rules.specs.Walks.{walk_on}
use Rattle.kind_rules.proofs.Loops.{fills_over}
use Rattle.kind_rules.proofs.Views.{there, places_on, seen_on, seen_here}
use Rattle.kind_rules.proofs.viewport.view_places.Goals as goal

pub next_place-place-requires-clause-seen : goal.next_place-place-requires-clause-seen
next_place-place-requires-clause-seen c =
    seen_here c.args.main c.loop-frame.walk c.args.frames.now c.loop-frame.frame-index c.frame-item.result c.loop-frame-test.true c.frame-item.is c.loop-frame.invariant.seen

pub loop-frame-preserved : goal.loop-frame-preserved
loop-frame-preserved c =
    let fs = c.args.frames.now in
    let i = c.loop-frame.frame-index in
    let z = c.frame-item.result in
    let p = c.next_place-place.result.0 in
    let on = c.next_place-place.ensures.walk ∙ ap (walk_on c.loop-frame.walk) c.frame-item.is in
    record {
      same = places_on c.args.axis c.loop-frame.walk c.next_place-place.result.1 fs i z p c.loop-frame.places.items _ _ c.loop-frame-test.true
          (c.in_ok-push-in-Some.ensures.items ∙ ap (λ (x : Option Offset). c.loop-frame.places.items ++ option_to_list x) (sym c.in-Some.is))
          (c.next_place-place.ensures.place ∙ ap (λ (x : Option Frame). walk_places c.args.axis c.loop-frame.walk (there (x ∷ []))) c.frame-item.is)
          on c.loop-frame.invariant.same;
      seen = seen_on c.args.main c.loop-frame.walk c.next_place-place.result.1 fs i z c.loop-frame-test.true on c.loop-frame.invariant.seen;
      inside = c.next_place-place.ensures.inside;
    }

pub loop-frame-preserved-in-None : goal.loop-frame-preserved-in-None
loop-frame-preserved-in-None c =
    let fs = c.args.frames.now in
    let i = c.loop-frame.frame-index in
    let z = c.frame-item.result in
    let p = c.next_place-place.result.0 in
    let on = c.next_place-place.ensures.walk ∙ ap (walk_on c.loop-frame.walk) c.frame-item.is in
    record {
      same = places_on c.args.axis c.loop-frame.walk c.next_place-place.result.1 fs i z p c.loop-frame.places.items c.loop-frame.places.items _ c.loop-frame-test.true
          (sym (append-nil c.loop-frame.places.items) ∙ ap (λ (x : Option Offset). c.loop-frame.places.items ++ option_to_list x) (sym c.in-None.is))
          (c.next_place-place.ensures.place ∙ ap (λ (x : Option Frame). walk_places c.args.axis c.loop-frame.walk (there (x ∷ []))) c.frame-item.is)
          on c.loop-frame.invariant.same;
      seen = seen_on c.args.main c.loop-frame.walk c.next_place-place.result.1 fs i z c.loop-frame-test.true on c.loop-frame.invariant.seen;
      inside = c.next_place-place.ensures.inside;
    }

pub returns : goal.returns
returns c =
    fills_over (λ (xs : List (Option Frame)). walk_places c.args.axis c.loop-frame.walk (there xs)) c.args.frames.now c.loop-frame.frame-index c.loop-frame.places.items _ refl c.loop-frame-test.false
    c.loop-frame.invariant.same
    ∙ ap (λ w. walk_places c.args.axis w (there c.args.frames.now)) c.from_offset-walk.ensures
