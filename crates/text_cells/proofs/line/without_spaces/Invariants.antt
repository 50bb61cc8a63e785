use Rattle.std.proofs.Common.{◌≡◌, take}
use Rattle.std.specs.Str.{IsCharBoundary}
use Rattle.text_cells.specs.LineText.{unspaced}
use Rattle.text_cells.proofs.line.without_spaces.Given as goal

abbrev pub invariant-loop-end : goal.invariant-loop-end
invariant-loop-end l = IsCharBoundary l.bytes l.end × (unspaced (take l.end l.bytes) ≡ unspaced l.bytes)

abbrev pub decreases-loop-end : goal.decreases-loop-end
decreases-loop-end l = l.end
