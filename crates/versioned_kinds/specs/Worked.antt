-- Small templates, widgets and trees, worked by hand.
use Rattle.std.specs.Prelude.{true, codes, None, []}
use Rattle.fx_geom.specs.declared.shapes.Axis.TheVariants.{Vertical}
use Rattle.widget_keys.specs.declared.keys.Key.TheVariants as key
use Rattle.program_form.specs.declared.kinds.KindName.{KindName}
use Rattle.program_form.specs.declared.kinds.KindName.TheVariants as kind
use Rattle.program_form.specs.Template.{PlainTemplate, template, no_members, left_out, member, name, children, slots, no_templates, one_template, no_slots, slot}
use Rattle.widget_model.specs.Look.{Look, viewport, sliver_lazy, sliver_fixed, keep, wrap}
use Rattle.widget_model.specs.Plain.{PlainWidget, plain, no_widgets, more}
use Rattle.plain_tree.specs.PlainNode.{PlainNode, node, no_nodes, more_nodes}
use Rattle.plain_tree.specs.Projection.{render_of}
use Rattle.session_form.specs.Framing.{top_of}
use Rattle.versioned_kinds.specs.Lists.{HasNoLists, RenderHasNoLists}
use Rattle.versioned_kinds.specs.Versions.{TemplateKeepsTo, WidgetKeepsTo, TreeKeepsTo}

-- a Viewport with one child of a kind, which has nothing; and such a widget, and a tree of it
abbrev pub around : KindName → PlainTemplate
around k = template kind.Viewport None (left_out (member (children (one_template (template k None no_members) no_templates)) no_members))

abbrev pub alone : Look → PlainWidget
alone look = plain look key.None no_widgets no_widgets

abbrev pub around_widget : Look → PlainWidget
around_widget look = plain (viewport Vertical) key.None no_widgets (more (alone look) no_widgets)

abbrev pub around_node : Look → PlainNode
around_node look = node 1 (around_widget look) [] 0 0 (more_nodes (node 2 (alone look) [] 0 0 no_nodes) no_nodes)

-- a component whose slot is given a template of a kind
abbrev pub filled_with : KindName → PlainTemplate
filled_with k = template kind.Use None (member (name (codes "A")) (left_out (member (slots (slot (codes "s") (template k None no_members) no_slots)) no_members)))

pub record Works : Type 0 where
  pub lists_in_second : TemplateKeepsTo 2 (around kind.SliverLazy)
  pub lists_in_first : TemplateKeepsTo 1 (around kind.SliverLazy) → ⊥
  pub fixed_in_first : TemplateKeepsTo 1 (around kind.SliverFixed)
  pub keeps_in_slots : TemplateKeepsTo 1 (filled_with kind.Keep) → ⊥
  pub wraps_in_slots : TemplateKeepsTo 2 (filled_with kind.Wrap) → ⊥
  pub tables_in_third : TemplateKeepsTo 3 (filled_with kind.Table)
  pub widgets_in_second : WidgetKeepsTo 2 (around_widget (sliver_lazy 10))
  pub widgets_in_first : WidgetKeepsTo 1 (around_widget (sliver_lazy 10)) → ⊥
  pub trees_in_first : TreeKeepsTo 1 (around_node (sliver_fixed 10))
  pub trees_later : TreeKeepsTo 1 (around_node (keep true)) → ⊥
  pub trees_wrapped : TreeKeepsTo 2 (around_node (wrap 0 0)) → ⊥
  pub no_lists : HasNoLists (around_node (sliver_fixed 10))
  pub lists : HasNoLists (around_node (sliver_lazy 10)) → ⊥
  pub lists_shown : RenderHasNoLists (top_of (render_of (around_node (sliver_lazy 10)))) → ⊥
