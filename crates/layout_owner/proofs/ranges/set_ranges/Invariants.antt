-- The lists so far have their live ranges, and nothing else has changed.
use Rattle.std.proofs.Common.{◌≡◌, take}
use Rattle.layout_owner.specs.Ranges.{ranged, OnlyValues}
use Rattle.layout_owner.proofs.ranges.set_ranges.Given as goal

abbrev pub invariant-loop-h : goal.invariant-loop-h
invariant-loop-h l =
    OnlyValues (ranged l.fn.r.scale.widen (take l.h-index l.lists)) l.fn.r.tree l.r.tree × (l.r.scale ≡ l.fn.r.scale) × (l.r.spent ≡ l.fn.r.spent)
