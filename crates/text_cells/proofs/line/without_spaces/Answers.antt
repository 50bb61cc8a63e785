use Rattle.std.proofs.Common.{subst}
use Rattle.std.specs.Str.{IsCharBoundary}
use Rattle.text_cells.proofs.line.without_spaces.Goals as goal

pub range-requires-clause-end_boundary : goal.range-requires-clause-end_boundary
range-requires-clause-end_boundary c = subst (λ t. IsCharBoundary t c.loop-end.end) c.as_bytes-bytes.ensures.value c.loop-end.invariant.0
