-- The worked builds that keep outputs.
use Rattle.std.proofs.Common.{refl}
use Rattle.reconcile.specs.Matching.{prefix_len, suffix_len, middle_of, keyed_match, match_at, matching}
use Rattle.plain_tree.specs.Projection.{projected, projected_all}
use Rattle.layout_form.specs.Layout.{object, objects}
use Rattle.build_form.specs.Entering.{enter}
use Rattle.build_form.specs.FullBuild.{live_ranges, filled, all_filled, both_phases, full_build}
use Rattle.build_walk.specs.Counting.{builds_from, builds_filling, all_builds_filling, builds_in_both, build_count}
use Rattle.build_walk.specs.Keeping.{reenter, refilled, all_refilled, both_again, rebuild}
use Rattle.build_walk.specs.WorkedRebuilds.{WorksOfRebuilds}

pub works : WorksOfRebuilds
unfolding prefix_len suffix_len middle_of keyed_match match_at matching projected projected_all object objects enter live_ranges filled all_filled both_phases full_build builds_from builds_filling all_builds_filling builds_in_both build_count reenter refilled all_refilled both_again rebuild
works = record {
  first = refl;
  quiet = refl;
  item = refl;
  list = refl;
  reordered = refl;
  longer = refl;
  unmarked = refl;
  moved = refl;
  moved_is = refl;
  nearer = refl;
  hidden = refl;
  nearer_is = refl;
  other_provider = refl;
  other_provider_is = refl;
  same_value = refl;
  to_a_fault = refl;
  fault_is = refl;
  scrolled = refl;
  scrolled_is = refl;
}
