-- The worked templates, widgets and trees.
use Rattle.std.proofs.Common.{refl, arith}
use Rattle.plain_tree.specs.Projection.{render_of, projected}
use Rattle.session_form.specs.Framing.{top_of}
use Rattle.widget_model.specs.Look.{sliver_lazy}
use Rattle.versioned_kinds.specs.Lists.{RenderHasNoLists}
use Rattle.versioned_kinds.specs.Worked.{Works, around_node}

lists_are_shown : RenderHasNoLists (top_of (render_of (around_node (sliver_lazy 10)))) → ⊥
unfolding projected
lists_are_shown h = cc (h.1.0.0)

pub works : Works
works = record {
  lists_in_second = (omega arith, (((omega arith, tt), tt), tt));
  lists_in_first = λ h. absurd (omega (arith, h.1.0.0.0));
  fixed_in_first = (omega arith, (((omega arith, tt), tt), tt));
  keeps_in_slots = λ h. absurd (omega (arith, h.1.1.0.0.0));
  wraps_in_slots = λ h. absurd (omega (arith, h.1.1.0.0.0));
  tables_in_third = (omega arith, (tt, (((omega arith, tt), tt), tt)));
  widgets_in_second = (omega arith, tt, ((omega arith, tt, tt), tt));
  widgets_in_first = λ h. absurd (omega (arith, h.2.0.0));
  trees_in_first = ((omega arith, tt, ((omega arith, tt, tt), tt)), (((omega arith, tt, tt), tt), tt));
  trees_later = λ h. absurd (omega (arith, h.1.0.0.0));
  trees_wrapped = λ h. absurd (omega (arith, h.1.0.0.0));
  no_lists = (refl, ((refl, tt), tt));
  lists = λ h. cc (h.1.0.0);
  lists_shown = lists_are_shown;
}
