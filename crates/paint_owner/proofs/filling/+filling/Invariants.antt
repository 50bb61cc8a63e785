use Rattle.std.proofs.Common.{◌≡◌, ◌+◌, ◌*◌, map, take}
use Rattle.handle_shelf.specs.Shelf.{kept_at}
use Rattle.layer_tree.specs.View.{item_of}
use Rattle.kept_layers.specs.KeptLayers.{filled}
use Rattle.paint_owner.specs.PartCode.{part_weight, weight}
use Rattle.paint_owner.specs.View.{part_of}
use Rattle.paint_owner.proofs.filling.+filling.Given as goal

abbrev pub decreases-filled_part : goal.decreases-filled_part
decreases-filled_part l = 2 * part_weight (part_of l.part.now)

abbrev pub decreases-filled_parts : goal.decreases-filled_parts
decreases-filled_parts l = 2 * weight (map part_of l.parts.now) + 1

-- the parts so far are filled
abbrev pub invariant-filled_parts-loop-part : goal.invariant-filled_parts-loop-part
invariant-filled_parts-loop-part l =
    map item_of l.items.items ≡ filled (λ k. kept_at l.wholes k) (take l.part-index (map part_of l.parts))
