-- The items so far, with those that are left, are all.
use Rattle.std.proofs.Common.{◌≡◌, ◌++◌, map, drop}
use Rattle.build_form.specs.FullBuild.{items}
use Rattle.plain_build.specs.PartnerView.{plain_arrival}
use Rattle.plain_build.proofs.items.items_among.Given as goal

abbrev pub invariant-loop-i : goal.invariant-loop-i
invariant-loop-i l = map plain_arrival l.items.items ++ items l.live (drop l.i (map plain_arrival l.arriving)) ≡ items l.live (map plain_arrival l.arriving)
