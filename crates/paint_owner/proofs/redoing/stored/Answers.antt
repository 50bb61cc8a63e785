use Rattle.std.proofs.Common.{map, ap, ◌∙◌}
use Rattle.handle_shelf.specs.Shelf.{kept_at}
use Rattle.kept_layers.specs.KeptLayers.{filled}
use Rattle.paint_owner.specs.KeptParts.{unfilled}
use Rattle.paint_owner.specs.View.{part_of}
use Rattle.paint_owner.proofs.Keeping.{unfilled_filled}
use Rattle.paint_owner.proofs.redoing.stored.Goals as goal

pub of-requires-2 : goal.of-requires-2
of-requires-2 c = λ closed.
    ap (map unfilled) (c.in_ok-items.ensures ∙ c.in_ok-filled_parts.ensures ∙ ap (λ xs. filled (kept_at c.args.wholes.now) (map part_of xs)) c.as_slice.ensures.value)
    ∙ unfilled_filled (kept_at c.args.wholes.now) (map part_of c.args.parts.items) closed
