use Rattle.std.proofs.Common.{[], ◌∷◌, ◌++◌, take, slice_index_or, sym, ap, ◌∙◌}
use Rattle.std.proofs.lemmas.List.{take_more, take_all, map-append}
use Rattle.renewed_builds.specs.Taking.{handles_at, no_handle}
use Rattle.renewed_builds.proofs.taking.handles_at.Goals as goal

pub loop-place-init : goal.loop-place-init
loop-place-init c = c.in_ok-all.ensures.items

pub loop-place-preserved : goal.loop-place-preserved
loop-place-preserved c =
    let hs = c.args.handles.now in
    let js = c.args.places.now in
    let i = c.loop-place.place-index in
    c.in_ok-push.ensures.items
    ∙ ap (λ l. l ++ slice_index_or hs (slice_index_or js i 0) no_handle ∷ []) c.loop-place.invariant
    ∙ sym (map-append (λ j. slice_index_or hs j no_handle) (take i js) (slice_index_or js i 0 ∷ []))
    ∙ ap (handles_at hs) (sym (take_more js i 0 c.loop-place-test.true))

pub returns : goal.returns
returns c = c.loop-place.invariant ∙ ap (handles_at c.args.handles.now) (take_all c.loop-place.place-index c.args.places.now c.loop-place-test.false)
