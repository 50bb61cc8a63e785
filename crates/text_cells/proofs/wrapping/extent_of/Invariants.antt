use Rattle.std.proofs.Common.{◌+◌, ◌-◌, ◌*◌, ◌≤◌, length, true}
use Rattle.std.specs.Str.{IsCharBoundary}
use Rattle.unicode_segmentation.specs.Grapheme.{graphemes, is_grapheme_break}
use Rattle.unicode_segmentation.specs.Segments.{segments_between}
use Rattle.text_cells.specs.Pass.{Counted}
use Rattle.text_cells.specs.Plain.{StandsOn}
use Rattle.text_cells.proofs.wrapping.extent_of.Given as goal

-- the lines so far, two for each cluster that is left at most, and that all clusters are bytes
abbrev pub invariant-loop-at : goal.invariant-loop-at
invariant-loop-at l =
    (l.at ≤ length l.text) × IsCharBoundary l.text l.at × StandsOn l.cursor l.text
    × Counted l.fn.limit l.pending l.extent.lines l.extent.cells (segments_between (is_grapheme_break true) l.text l.at (length l.text)) (graphemes true l.text) (length l.text)
    × (l.extent.lines + 2 * length (segments_between (is_grapheme_break true) l.text l.at (length l.text)) ≤ 2 * length l.text)

abbrev pub decreases-loop-at : goal.decreases-loop-at
decreases-loop-at l = length l.text - l.at
