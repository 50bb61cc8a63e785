-- The worked builds.
use Rattle.std.proofs.Common.{refl}
use Rattle.reconcile.specs.Matching.{prefix_len, suffix_len, middle_of, keyed_match, match_at, matching}
use Rattle.plain_tree.specs.Projection.{projected, projected_all}
use Rattle.layout_form.specs.Layout.{object, objects}
use Rattle.build_form.specs.Entering.{enter}
use Rattle.build_form.specs.FullBuild.{live_ranges, filled, all_filled, both_phases, full_build}
use Rattle.build_form.specs.Worked.{Works}

pub works : Works
unfolding prefix_len suffix_len middle_of keyed_match match_at matching projected projected_all object objects enter live_ranges filled all_filled both_phases full_build
works = record {
  reordered = refl;
  left_out = refl;
  by_places = refl;
  other_type = refl;
  other_parent = refl;
  turned_round = refl;
  met_again = refl;
  met_before = refl;
  siblings = refl;
  nearest = refl;
  default = refl;
  near = refl;
  away = refl;
  back = refl;
  stays = refl;
  goes = refl;
  items_share_a_key = refl;
  inner_list_is_whole = refl;
  unseen = refl;
  deepest = refl;
  too_many = refl;
  deep_enough = refl;
  too_deep = refl;
}
