-- The worked rearrangements.
use Rattle.std.proofs.Common.{refl}
use Rattle.reconcile.specs.Matching.{prefix_len, suffix_len, middle_of, keyed_match, match_at, matching}
use Rattle.plain_tree.specs.Projection.{projected, projected_all}
use Rattle.layout_form.specs.Layout.{object, objects}
use Rattle.build_form.specs.Entering.{enter}
use Rattle.build_form.specs.FullBuild.{live_ranges, filled, all_filled, both_phases, full_build}
use Rattle.settled_builds.specs.WorkedRearranged.{WorksOfRearranging}

pub rearranging_works : WorksOfRearranging
unfolding prefix_len suffix_len middle_of keyed_match match_at matching projected projected_all object objects enter live_ranges filled all_filled both_phases full_build
rearranging_works = record {
  rows_can = refl;
  rows_all_drawn = refl;
  rows_numbers = refl;
  rows_drawn = refl;
  shares_can = refl;
  shares_all_drawn = refl;
  shares_numbers = refl;
  shares_drawn = refl;
  share_can = refl;
  share_not_drawn = refl;
  item_was = refl;
  item_moved = refl;
  nest_drawn = refl;
}
