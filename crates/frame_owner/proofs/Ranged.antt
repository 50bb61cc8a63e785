-- The live ranges of lazy lists after an outer layout are those that full layout of the first phase's tree gives.
use Rattle.std.proofs.Common.{◌≡◌, cond, Option, Some, None, option_and_then, List, [], ◌∷◌, length, refl, sym, ap, ◌∙◌}
use Rattle.fx_handles.specs.declared.Handle.{Handle}
use Rattle.node_tree.specs.Tree.{Tree}
use Rattle.sliver_layout.specs.declared.protocol.Window.{Window}
use Rattle.widget_model.specs.Look.{Look}
use Rattle.plain_tree.specs.PlainNode.{PlainNode}
use Rattle.plain_tree.specs.Projection.{render_of}
use Rattle.plain_tree.specs.Render.{Render}
use Rattle.plain_tree.specs.RenderRole.{render_role_of}
use Rattle.layout_form.specs.Layout.{lay_view}
use Rattle.layout_form.specs.Live.{lazy_view_at, live_in}
use Rattle.layout_form.specs.Object.{setting_of}
use Rattle.layout_walk.specs.Rules.{lazy_extent}
use Rattle.layout_owner.specs.Views.{live_or_nothing}
use Rattle.render_tree.specs.Object.{RenderObject, lists}
use Rattle.render_tree.specs.Readings.{live_of}
use Rattle.kept_layouts.specs.Items.{without_items}
use Rattle.build_form.specs.FullBuild.{Screen, views_in, live_ranges}
use Rattle.build_walk.specs.Serving.{WaitingList}
use Rattle.kept_phases.specs.Lists.{HasRanges}
use Rattle.build_owner.specs.Ranging.{stored_range, range_at, IsListAt, AreRangedFor}

stored_is : (x : Option Window) → stored_range x ≡ live_or_nothing x
stored_is None = refl
stored_is (Some w) = refl

module _ (screen : Screen) (first : PlainNode) (top : Render) (r : Tree RenderObject) (same : render_of first ≡ without_items top ∷ [])
    (ranges : HasRanges (setting_of screen.scale screen.delegates) screen.scale.widen screen.view top r) where
  list_range : (l : WaitingList) (k : Handle) (is : IsListAt r k l) → range_at r k ≡ live_ranges screen first l.number l.extent (length l.widgets)
  unfolding live_ranges
  list_range l k is =
      ap (λ (y : Option RenderObject). stored_range (option_and_then live_of y)) is.stored
      ∙ (ap (λ (y : Look). stored_range (cond (lists (render_role_of y)) is.object.live None)) is.look
      ∙ (stored_is is.object.live
      ∙ (ranges k is.object l.extent is.stored (ap lazy_extent is.look) is.extent
      ∙ ((λ i. live_in (lazy_view_at (is.number i) (lay_view (setting_of screen.scale screen.delegates) (without_items top) screen.view)) l.extent (is.many i) screen.scale.widen)
      ∙ ap (λ (rs : List Render). live_in (views_in screen rs l.number) l.extent (length l.widgets) screen.scale.widen) (sym same)))))

  pub ranged_for : (ls : List WaitingList) → AreRangedFor screen first ls r
  ranged_for ls = λ i l low k is. list_range _ k is
