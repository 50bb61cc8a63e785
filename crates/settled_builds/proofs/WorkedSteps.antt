-- The worked steps.
use Rattle.std.proofs.Common.{refl}
use Rattle.reconcile.specs.Matching.{prefix_len, suffix_len, middle_of, keyed_match, match_at, matching}
use Rattle.plain_tree.specs.Projection.{projected, projected_all}
use Rattle.layout_form.specs.Layout.{object, objects}
use Rattle.build_form.specs.Entering.{enter}
use Rattle.build_form.specs.FullBuild.{live_ranges, filled, all_filled, both_phases, full_build}
use Rattle.work_sets.specs.Entered.{seen_from, seen_filling, all_seen_filling, seen_in_both, entered_widgets}
use Rattle.settled_builds.specs.WorkedSteps.{WorksOfSteps}

pub steps_work : WorksOfSteps
unfolding prefix_len suffix_len middle_of keyed_match match_at matching projected projected_all object objects enter live_ranges filled all_filled both_phases full_build seen_from seen_filling all_seen_filling seen_in_both entered_widgets
steps_work = record {
  listed = refl;
  colored_too = refl;
  listed_count = refl;
  listed_left = refl;
  listed_entered = refl;
  can = refl;
  one_more = refl;
  another = refl;
  twice = refl;
  boxes_drawn = refl;
  list_drawn = refl;
  both_taken = refl;
  both_count = refl;
  first_taken = refl;
  first_count = refl;
  first_left = refl;
  both_entered = refl;
  nest_taken = refl;
  nest_count = refl;
  nest_first = refl;
  nest_stays = refl;
  given_readers = refl;
  given_same = refl;
  given_count = refl;
  given_left = refl;
  given_entered = refl;
  given_drawn = refl;
  switch_readers = refl;
  switch_same = refl;
  switch_count = refl;
  switch_left = refl;
}
