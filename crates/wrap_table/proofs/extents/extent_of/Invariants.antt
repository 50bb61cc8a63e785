use Rattle.std.proofs.Common.{◌≡◌, ◌∷◌, ◌^◌, ◌≤◌, drop}
use Rattle.fx_geom.specs.Len.{stopped}
use Rattle.wrap_table.specs.Stretches.{spaced_extent}
use Rattle.wrap_table.proofs.extents.extent_of.Given as goal

-- the stretches so far as one, before those that are left
abbrev pub invariant-loop-extent : goal.invariant-loop-extent
invariant-loop-extent l =
    (stopped (spaced_extent l.gap (l.sum ∷ drop l.extent-index l.rest)) ≡ stopped (spaced_extent l.gap (l.initial.sum ∷ l.rest)))
    × (l.sum ≤ 2 ^ 40)
