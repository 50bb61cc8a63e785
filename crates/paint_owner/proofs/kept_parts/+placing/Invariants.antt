use Rattle.std.proofs.Common.{◌≡◌, ◌+◌, ◌*◌, map, drop}
use Rattle.paint_owner.specs.KeptParts.{any_place}
use Rattle.paint_owner.specs.PartCode.{part_weight, weight}
use Rattle.paint_owner.specs.View.{part_of}
use Rattle.paint_owner.proofs.kept_parts.+placing.Given as goal

abbrev pub decreases-has_place : goal.decreases-has_place
decreases-has_place l = 2 * part_weight (part_of l.part.now)

abbrev pub decreases-any_place : goal.decreases-any_place
decreases-any_place l = 2 * weight (map part_of l.parts.now) + 1

-- no place stands in the parts so far
abbrev pub invariant-any_place-loop-part : goal.invariant-any_place-loop-part
invariant-any_place-loop-part l = any_place (drop l.part-index (map part_of l.parts)) ≡ any_place (map part_of l.parts)
