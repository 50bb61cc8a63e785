use Rattle.std.proofs.Common.{rules, arith, ◌≡◌, ◌+◌, true, [], ◌∷◌, ◌++◌, sym, ap, ◌∙◌, append_assoc, append-nil, subst, List, length, None, ◌≤◌}
use Rattle.std.specs.List.{All, concat}
use Rattle.std.proofs.lemmas.List.{length-append}
use Rattle.std.proofs.lemmas.Str.{IsCharBoundary-start}
use Rattle.unicode_segmentation.specs.Grapheme.{graphemes, is_grapheme_break}
use Rattle.unicode_segmentation.specs.Segments.{segments_between}
use Rattle.unicode_segmentation.proofs.SegmentsLemmas.{segments_between-whole, segments_between-same}
use Rattle.text_cells.specs.Wrapping.{IsWrapping}
use Rattle.text_cells.specs.Pass.{MidText, listed, end_of}
use Rattle.text_cells.specs.LineText.{LiesInText}
use Rattle.text_cells.specs.declared.line.Line.{Line}
use Rattle.text_cells.proofs.Single.{left_bytes}
use Rattle.text_cells.proofs.MidwayLemmas.{midway_first, midway_next, midway_whole}
use Rattle.text_cells.proofs.Found.{wrapped_wraps}
use Rattle.text_cells.proofs.Within.{wrapped-LiesIn}
use Rattle.text_cells.proofs.wrapping.wrap.Goals as goal

pub loop-at-init : goal.loop-at-init
loop-at-init c = (
  omega arith,
  IsCharBoundary-start c.args.text.now c.utf8.text,
  c.cursor_on-cursor.ensures,
  midway_first c.args.limit c.at-pending.result _ _ c.args.text.now c.utf8.text c.at-pending.ensures.limit c.at-pending.ensures.holds c.at-pending.ensures.end
      c.new-lines.ensures.items (segments_between-whole (is_grapheme_break true) c.args.text.now c.utf8.text),
)

-- What is pending and the next cluster are no longer than the text.
pub take_plain-requires : goal.take_plain-requires
take_plain-requires c =
    let text = c.args.text.now in
    let here = left_bytes text c.utf8.text c.loop-at.at (end_of c.loop-at.pending) c.loop-at.invariant.1 c.loop-at.invariant.0 c.loop-at.invariant.3.end in
    let fits : end_of c.loop-at.pending + 1 ≤ length text = omega (arith, here, c.loop-at-test.true) in
    record { within = c.loop-at-test.true; boundary = c.loop-at.invariant.1; room = search (rules, arith) }

pub take-ended-requires : goal.take-ended-requires
take-ended-requires c =
    let text = c.args.text.now in
    let cluster = c.range.result.now in
    let rest = segments_between (is_grapheme_break true) text c.cluster_end-end.result (length text) in
    let first = c.cluster_end-end.ensures.end.first ∙ ap (λ b. b ∷ rest) (sym c.range.ensures.value) in
    let bytes = ap (λ l. length (concat l)) first ∙ length-append cluster (concat rest) in
    let same = ap (λ p. end_of p) (c.take_plain.ensures.kept c.if-take_plain.false) in
    let fits : end_of c.take_plain.new.self + length cluster ≤ length text = omega (arith, c.loop-at.invariant.3.end, bytes, same) in
    search (rules, arith)

pub loop-at-preserved-then-take_plain : goal.loop-at-preserved-then-take_plain
loop-at-preserved-then-take_plain c =
    let is = c.if-take_plain.true in
    let found = c.take_plain.ensures.first is in (
      found.within,
      found.boundary,
      c.loop-at.invariant.2,
      midway_next c.args.limit c.loop-at.pending c.take_plain.new.self (record { first = None; second = None }) c.loop-at.lines.items c.loop-at.lines.items _ _ _ _ _
          c.loop-at.invariant.3 found.first (c.take_plain.ensures.took is) c.take_plain.ensures.limit
          (c.take_plain.ensures.end is ∙ ap (λ n. end_of c.loop-at.pending + n) (sym (c.take_plain.ensures.one is))) (sym (append-nil c.loop-at.lines.items)),
    )

pub loop-at-preserved : goal.loop-at-preserved
loop-at-preserved c =
    let found = c.cluster_end-end.ensures.end in
    let text = c.args.text.now in
    let first = found.first ∙ ap (λ b. b ∷ segments_between (is_grapheme_break true) text c.cluster_end-end.result (length text)) (sym c.range.ensures.value) in
    let midway = subst (λ p. MidText c.args.limit p c.loop-at.lines.items (segments_between (is_grapheme_break true) text c.loop-at.at (length text)) (graphemes true text) (length text))
    (sym (c.take_plain.ensures.kept c.if-take_plain.false)) c.loop-at.invariant.3 in (
      found.within,
      found.boundary,
      c.cluster_end-end.ensures.stands,
      midway_next c.args.limit c.take_plain.new.self c.take-ended.new.self c.take-ended.result c.loop-at.lines.items _ _ _ _ _ _
          midway first c.take-ended.ensures.took c.take-ended.ensures.limit c.take-ended.ensures.end
          (c.in_ok-push_line-2.ensures ∙ ap (λ l. l ++ listed c.take-ended.result.second) c.in_ok-push_line.ensures
          ∙ append_assoc c.loop-at.lines.items (listed c.take-ended.result.first) (listed c.take-ended.result.second)),
    )

pub returns-clause-lines : goal.returns-clause-lines
returns-clause-lines c =
    let end : c.loop-at.at ≡ length c.args.text.now = omega (arith, c.loop-at.invariant.0) in
    let none : segments_between (is_grapheme_break true) c.args.text.now c.loop-at.at (length c.args.text.now) ≡ [] =
    ap (λ n. segments_between (is_grapheme_break true) c.args.text.now n (length c.args.text.now)) end
    ∙ segments_between-same (is_grapheme_break true) c.args.text.now c.utf8.text (length c.args.text.now) in
    c.in_ok-push.ensures.items
    ∙ midway_whole c.args.limit c.loop-at.pending c.last.result c.loop-at.lines.items _ c.args.text.now _ c.loop-at.invariant.3 none c.last.ensures.ends

pub returns-clause-wrapping : goal.returns-clause-wrapping
returns-clause-wrapping c =
    let P : List Line → Type 0 = λ l. IsWrapping c.args.limit c.args.text.now l in
    subst P (sym (returns-clause-lines c)) (wrapped_wraps c.args.limit c.args.text.now)

pub returns-clause-within : goal.returns-clause-within
returns-clause-within c =
    let P : List Line → Type 0 = λ l. All (LiesInText c.args.text.now) l in
    subst P (sym (returns-clause-lines c)) (wrapped-LiesIn c.args.limit c.args.text.now c.utf8.text)
