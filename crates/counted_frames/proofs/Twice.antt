-- A frame in two phases lays out at most twice as many nodes as its layout region has.
use Rattle.std.proofs.Common.{◌≡◌, ℕ, ◌+◌, ◌*◌, ◌≤◌, true, length, sym, ap, ◌∙◌, subst, Decides}
use Rattle.fx_geom.specs.declared.shapes.Size.{Size}
use Rattle.node_tree.specs.Forest.{Forest}
use Rattle.node_tree.specs.Forest.Forest.{none, tree}
use Rattle.node_tree.specs.Tree.{Tree}
use Rattle.plain_tree.specs.declared.render.ParentData.{ParentData}
use Rattle.plain_tree.specs.Render.{Render, Renders, no_renders, more_renders}
use Rattle.tree_marks.specs.Marking.{at_top}
use Rattle.tree_marks.specs.Marks.{sweep}
use Rattle.fx_handles.specs.declared.Handle.{Handle}
use Rattle.work_sets.specs.Before.{Before}
use Rattle.work_sets.specs.Layout.{is_told_same, layout_region}
use Rattle.layout_form.specs.Object.{Setting}
use Rattle.layout_walk.specs.Rule.{Lawful}
use Rattle.layout_walk.specs.Rules.{parts_of}
use Rattle.layout_owner.specs.Roots.{IsAskedAs}
use Rattle.render_tree.specs.Marks.{layout_marks, paint_marks}
use Rattle.render_tree.specs.Object.{RenderObject}
use Rattle.render_tree.specs.Plain.{renders_of, root_tree}
use Rattle.screen_owner.proofs.Bringing.{renders_layout, renders_paint}
use Rattle.screen_owner.proofs.Showing.{root_forest}
use Rattle.counted_work.specs.Caused.{NewAreUnlaid, LayoutsAreCaused}
use Rattle.counted_work.specs.Windows.{WindowsStay}
use Rattle.counted_phases.specs.Outer.{AreOuter}
use Rattle.counted_phases.specs.Phased.{Rooted, forest_of, render_of, PhasedFrame}
use Rattle.frame_owner.specs.Working.{PhasedSteps}
use Rattle.counted_frames.proofs.Outer.{one_tree}
use Rattle.counted_frames.proofs.Phased.{self_outer, phased_frame}

module _ (lays_twice : (s : Setting) (view : Size) (before : Before) (old : Tree RenderObject) (whole : Rooted) (lo ln : ℕ) → PhasedFrame s view before old whole lo ln → ln ≤ lo + 2 * length (layout_region before (render_of whole)))
    (told_same : (a b : ParentData) → Decides (is_told_same a b) (a ≡ b)) (s : Setting) (law : Lawful (parts_of s)) (view : Size) (before : Before) (old new : Tree RenderObject) (lo ln po pn : ℕ) where
  abbrev Twice : Rooted → Render → Type 0
  Twice whole top =
      (p : PhasedSteps s view old top new lo ln po pn) → p.brings.second.nodes ≡ forest_of whole → LayoutsAreCaused before old → NewAreUnlaid before.frames old top
      → (before.same_view ≡ true → IsAskedAs view (root_tree old)) → WindowsStay before top → ln ≤ lo + 2 * length (layout_region before top)

  of_whole : (whole : Rooted) → Twice whole (render_of whole)
  of_whole whole p nodes_is caused unlaid asks windows =
      lays_twice s view before old whole lo ln (phased_frame s law view old new whole lo ln po pn p nodes_is before told_same caused unlaid asks windows)

  pub twice_at_most : (top : Render) (p : PhasedSteps s view old top new lo ln po pn) → LayoutsAreCaused before old → NewAreUnlaid before.frames old top → (before.same_view ≡ true → IsAskedAs view (root_tree old)) → WindowsStay before top
      → ln ≤ lo + 2 * length (layout_region before top)
  twice_at_most top p caused unlaid asks windows = subst (Twice whole) (sym top_is) (of_whole whole) p nodes_is caused unlaid asks windows
    where
      nodes : Forest RenderObject
      nodes = p.brings.second.nodes

      renders : renders_of nodes ≡ more_renders top no_renders
      renders =
          sym (ap renders_of (root_forest p.brought (sweep paint_marks true p.brings.second.painted at_top (sweep layout_marks true p.brings.second.laid at_top nodes)) p.brings.after.alone
          (p.brings.second.paints.plain (sweep layout_marks true p.brings.second.laid at_top nodes) (p.brings.second.layouts.plain nodes p.brings.second.is)))
          ∙ (renders_paint true p.brings.second.painted at_top (sweep layout_marks true p.brings.second.laid at_top nodes) ∙ renders_layout true p.brings.second.laid at_top nodes))
          ∙ p.brings.renders

      one : (h : Handle) × (o : RenderObject) × (kids : Forest RenderObject) × (nodes ≡ tree h o kids none)
      one = one_tree nodes top (subst (λ (rs : Renders). AreOuter nodes rs) renders (self_outer nodes))

      whole : Rooted
      whole = record { handle = one.0; value = one.1; kids = one.2 }

      nodes_is : nodes ≡ forest_of whole
      nodes_is = one.3

      first_render : (r t : Render) → more_renders r no_renders ≡ more_renders t no_renders → t ≡ r
      first_render r t e = cc

      top_is : top ≡ render_of whole
      top_is = first_render (render_of whole) top (sym (ap renders_of nodes_is) ∙ renders)
