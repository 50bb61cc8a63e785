use Rattle.std.proofs.Common.{rules, arith, ◌≡◌, ◌+◌, true, [], ◌∷◌, length, refl, ap, ◌∙◌, sym, subst, ◌≤◌}
use Rattle.std.specs.List.{concat}
use Rattle.std.proofs.lemmas.Grind.{common_steps}
use Rattle.std.proofs.lemmas.List.{length-append}
use Rattle.std.proofs.lemmas.Str.{IsCharBoundary-start}
use Rattle.unicode_segmentation.specs.Grapheme.{graphemes, is_grapheme_break}
use Rattle.unicode_segmentation.specs.Segments.{segments_between}
use Rattle.unicode_segmentation.proofs.SegmentsLemmas.{segments_between-whole, segments_between-same, length-segments}
use Rattle.text_cells.specs.Pass.{Counted, end_of}
use Rattle.text_cells.proofs.Single.{left_bytes}
use Rattle.text_cells.proofs.MidwayLemmas.{midway_first, counted_next, counted_on, counted_lines, listed_few}
use Rattle.text_cells.proofs.wrapping.extent_of.Goals as goal

pub loop-at-init : goal.loop-at-init
loop-at-init c =
    let all : segments_between (is_grapheme_break true) c.args.text.now 0 (length c.args.text.now) ≡ graphemes true c.args.text.now =
    segments_between-whole (is_grapheme_break true) c.args.text.now c.utf8.text in
    let same = ap (λ l. length l) (segments_between-whole (is_grapheme_break true) c.args.text.now c.utf8.text) in
    let few = length-segments (is_grapheme_break true) c.args.text.now c.utf8.text in (
      omega arith,
      IsCharBoundary-start c.args.text.now c.utf8.text,
      c.cursor_on-cursor.ensures,
      record {
        done = [];
        midway = midway_first c.args.limit c.at-pending.result [] _ c.args.text.now c.utf8.text c.at-pending.ensures.limit c.at-pending.ensures.holds c.at-pending.ensures.end refl all;
        number = refl;
        width = refl;
      },
      omega (arith, few, same),
    )

-- What is pending and the next cluster are no longer than the text.
pub take_plain-requires : goal.take_plain-requires
take_plain-requires c =
    let text = c.args.text.now in
    let here = left_bytes text c.utf8.text c.loop-at.at (end_of c.loop-at.pending) c.loop-at.invariant.1 c.loop-at.invariant.0 c.loop-at.invariant.3.midway.end in
    let fits : end_of c.loop-at.pending + 1 ≤ length text = omega (arith, here, c.loop-at-test.true) in
    record { within = c.loop-at-test.true; boundary = c.loop-at.invariant.1; room = search (rules, arith) }

pub take-ended-requires : goal.take-ended-requires
take-ended-requires c =
    let text = c.args.text.now in
    let cluster = c.range.result.now in
    let rest = segments_between (is_grapheme_break true) text c.cluster_end-end.result (length text) in
    let first = c.cluster_end-end.ensures.end.first ∙ ap (λ b. b ∷ rest) (sym c.range.ensures.value) in
    let bytes = ap (λ l. length (concat l)) first ∙ length-append cluster (concat rest) in
    let same = ap (λ p. end_of p) (c.take_plain.ensures.kept c.if-take_plain.false) in
    let fits : end_of c.take_plain.new.self + length cluster ≤ length text = omega (arith, c.loop-at.invariant.3.midway.end, bytes, same) in
    search (rules, arith)

pub loop-at-preserved-then-take_plain : goal.loop-at-preserved-then-take_plain
loop-at-preserved-then-take_plain c =
    let is = c.if-take_plain.true in
    let found = c.take_plain.ensures.first is in
    let left = segments_between (is_grapheme_break true) c.args.text.now c.loop-at.at (length c.args.text.now) in
    let rest = segments_between (is_grapheme_break true) c.args.text.now (c.loop-at.at + 1) (length c.args.text.now) in
    let fewer : length left ≡ length rest + 1 = ap (λ l. length l) found.first ∙ grind (arith, common_steps) in (
      found.within,
      found.boundary,
      c.loop-at.invariant.2,
      counted_on c.args.limit c.loop-at.pending c.take_plain.new.self _ _ _ _ _ _ _
          c.loop-at.invariant.3 found.first (c.take_plain.ensures.took is) c.take_plain.ensures.limit
          (c.take_plain.ensures.end is ∙ ap (λ n. end_of c.loop-at.pending + n) (sym (c.take_plain.ensures.one is))),
      omega (arith, fewer, c.loop-at.invariant.4),
    )

pub loop-at-preserved : goal.loop-at-preserved
loop-at-preserved c =
    let found = c.cluster_end-end.ensures.end in
    let text = c.args.text.now in
    let left = segments_between (is_grapheme_break true) text c.loop-at.at (length text) in
    let rest = segments_between (is_grapheme_break true) text c.cluster_end-end.result (length text) in
    let fewer : length left ≡ length rest + 1 = ap (λ l. length l) found.first ∙ grind (arith, common_steps) in
    let step = found.first ∙ ap (λ b. b ∷ rest) (sym c.range.ensures.value) in
    let first = listed_few c.take-ended.result.first in
    let second = listed_few c.take-ended.result.second in
    let counted = subst (λ p. Counted c.args.limit p c.loop-at.extent.lines c.loop-at.extent.cells left (graphemes true text) (length text))
    (sym (c.take_plain.ensures.kept c.if-take_plain.false)) c.loop-at.invariant.3 in (
      found.within,
      found.boundary,
      c.cluster_end-end.ensures.stands,
      counted_next c.args.limit c.take_plain.new.self c.take-ended.new.self c.take-ended.result _ _ _ _ _ _ _ _ _ _ _
          counted step c.take-ended.ensures.took c.take-ended.ensures.limit c.take-ended.ensures.end
          c.count.ensures.lines c.count-extent.ensures.lines c.count.ensures.cells c.count-extent.ensures.cells,
      omega (arith, fewer, first, second, c.loop-at.invariant.4, c.count.ensures.lines, c.count-extent.ensures.lines),
    )

pub returns : goal.returns
returns c =
    let end : c.loop-at.at ≡ length c.args.text.now = omega (arith, c.loop-at.invariant.0) in
    let none : segments_between (is_grapheme_break true) c.args.text.now c.loop-at.at (length c.args.text.now) ≡ [] =
    ap (λ n. segments_between (is_grapheme_break true) c.args.text.now n (length c.args.text.now)) end
    ∙ segments_between-same (is_grapheme_break true) c.args.text.now c.utf8.text (length c.args.text.now) in
    counted_lines c.args.limit c.loop-at.pending c.last.result _ _ _ _ _ c.args.text.now _ c.loop-at.invariant.3 none c.last.ensures.ends
    c.count-2.ensures.lines c.count-2.ensures.cells
