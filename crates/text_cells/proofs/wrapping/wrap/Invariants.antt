use Rattle.std.proofs.Common.{◌-◌, ◌≤◌, length, true}
use Rattle.std.specs.Str.{IsCharBoundary}
use Rattle.unicode_segmentation.specs.Grapheme.{graphemes, is_grapheme_break}
use Rattle.unicode_segmentation.specs.Segments.{segments_between}
use Rattle.text_cells.specs.Pass.{MidText}
use Rattle.text_cells.specs.Plain.{StandsOn}
use Rattle.text_cells.proofs.wrapping.wrap.Given as goal

abbrev pub invariant-loop-at : goal.invariant-loop-at
invariant-loop-at l =
    (l.at ≤ length l.text) × IsCharBoundary l.text l.at × StandsOn l.cursor l.text
    × MidText l.fn.limit l.pending l.lines.items (segments_between (is_grapheme_break true) l.text l.at (length l.text)) (graphemes true l.text) (length l.text)

abbrev pub decreases-loop-at : goal.decreases-loop-at
decreases-loop-at l = length l.text - l.at
