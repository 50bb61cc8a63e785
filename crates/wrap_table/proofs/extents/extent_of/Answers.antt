use Rattle.std.proofs.Common.{◌≡◌, ◌+◌, ◌∷◌, drop, get_or, arith, refl, ap, sym, ◌∙◌}
use Rattle.std.proofs.lemmas.List.{at_drop_more, at_drop_all}
use Rattle.fx_geom.specs.Len.{stopped, length_sum}
use Rattle.wrap_table.specs.Stretches.{spaced_extent}
use Rattle.wrap_table.proofs.ExtentLemmas.{spaced_extent-joined, spaced_extent-start}
use Rattle.wrap_table.proofs.extents.extent_of.Goals as goal

pub loop-extent-init : goal.loop-extent-init
loop-extent-init c = (refl, c.add_lengths-sum.ensures.within)

pub loop-extent-preserved : goal.loop-extent-preserved
loop-extent-preserved c =
    let l = c.loop-extent in
    let rest = c.in-Some.rest.now in
    let later = drop (l.extent-index + 1) rest in
    let e = get_or rest l.extent-index 0 in (
      ap (λ s. stopped (spaced_extent c.args.gap (s ∷ later))) (c.add_lengths-sum-in-loop-extent.ensures.value ∙ ap (λ s. length_sum s e) c.add_lengths.ensures.value)
          ∙ spaced_extent-joined c.args.gap l.sum e later
          ∙ sym (at_drop_more (λ xs. stopped (spaced_extent c.args.gap (l.sum ∷ xs))) rest l.extent-index 0 c.loop-extent-test.true)
          ∙ l.invariant.0,
      c.add_lengths-sum-in-loop-extent.ensures.within,
    )

pub returns : goal.returns
returns c =
    let l = c.loop-extent in
    let first = c.in-Some.first.now in
    let rest = c.in-Some.rest.now in
    let within = l.invariant.1 in
    let stops : l.sum ≡ stopped l.sum = omega arith in
    stops
    ∙ sym (at_drop_all (λ xs. stopped (spaced_extent c.args.gap (l.sum ∷ xs))) rest l.extent-index c.loop-extent-test.false)
    ∙ l.invariant.0
    ∙ ap (λ s. stopped (spaced_extent c.args.gap (s ∷ rest))) c.add_lengths-sum.ensures.value
    ∙ spaced_extent-start c.args.gap first rest
    ∙ ap (λ xs. stopped (spaced_extent c.args.gap xs)) (sym c.in-Some.ensures.cases.0)
