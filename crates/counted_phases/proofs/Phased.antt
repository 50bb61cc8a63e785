-- A frame whose build goes in two phases runs at most twice as many rules as its layout region has nodes.
use Rattle.std.proofs.Common.{◌≡◌, ℕ, ◌+◌, ◌*◌, ◌≤◌, Bool, true, false, ◌&&◌, ◌||◌, Option, option_map, List, length, refl, ap, ◌∙◌, arith}
use Rattle.fx_geom.specs.declared.shapes.Size.{Size}
use Rattle.fx_handles.specs.declared.Handle.{Handle}
use Rattle.node_tree.specs.Forest.{Forest}
use Rattle.node_tree.specs.Forest.Forest.{none, tree}
use Rattle.plain_tree.specs.Render.{Render, render, no_renders, more_renders}
use Rattle.tree_marks.specs.Marking.{at_top, within}
use Rattle.tree_marks.specs.Marks.{listed, some_climbs, has_listed, sweep}
use Rattle.work_roles.specs.Place.{at_root}
use Rattle.work_sets.specs.Before.{Before}
use Rattle.work_sets.specs.Layout.{frame_judge, layout_region}
use Rattle.work_sets.specs.Region.{Judge, reaches_out}
use Rattle.layout_form.specs.declared.asks.Ask.{Ask}
use Rattle.layout_form.specs.Object.{Setting}
use Rattle.layout_walk.specs.Flush.{ticks}
use Rattle.layout_walk.specs.Node.{LayoutNode, ask_in}
use Rattle.layout_walk.specs.Rule.{LayoutParts}
use Rattle.layout_walk.specs.Rules.{parts_of}
use Rattle.layout_walk.specs.Work.{due_count, AreKnown}
use Rattle.layout_owner.specs.Roots.{rooted, view_asks, IsAskedAs}
use Rattle.render_tree.specs.Marks.{layout_marks}
use Rattle.render_tree.specs.Object.{RenderObject, object_look}
use Rattle.render_tree.specs.Plain.{lazy_children}
use Rattle.build_walk.specs.Changing.{render_over}
use Rattle.counted_work.specs.Inside.{RootFlagsInside}
use Rattle.counted_work.proofs.Counting.{layouts_inside}
use Rattle.counted_work.proofs.Inside.{no_other_renders}
use Rattle.counted_phases.specs.Outer.{AreOuter, RootOuterInside, AreOuterReached, OuterFirmEnds}
use Rattle.counted_phases.specs.Framed.{OuterHaveFrames}
use Rattle.kept_phases.specs.Lists.{scrolled_as}
use Rattle.counted_phases.specs.Phased.{Rooted, forest_of, render_of}
use Rattle.counted_phases.proofs.Layouts.{PhasedLayouts}
use Rattle.counted_phases.proofs.Inside.{root_marks_inside, outer_reached_inside, outer_layouts_inside}
use Rattle.counted_phases.proofs.Keeping.{second_inside}
use Rattle.counted_phases.proofs.Undue.{framed_firm, root_undue_flags, root_undue_firm, root_listed, swept_outer, swept_frames, swept_firm, rescrolled_firm, rescrolled_root}

or_false : (a : Bool) → (a || false) ≡ true → a ≡ true
or_false true e = refl
or_false false e = e

-- the marks of the first phase
pub first_inside : (before : Before) (hs : List Handle) (h : Handle) (o : RenderObject) (kids : Forest RenderObject) (top : Render) → AreOuter (tree h o kids none) (more_renders top no_renders)
    → OuterHaveFrames before.frames (tree h o kids none) → AreOuterReached (frame_judge before) hs at_root (tree h o kids none) (more_renders top no_renders)
    → RootOuterInside (frame_judge before) (tree h o kids none) top → RootOuterInside (frame_judge before) (sweep layout_marks true hs at_top (tree h o kids none)) top
first_inside before hs h o kids top outer framed reached flags =
    root_marks_inside (frame_judge before) hs h o kids top
    (outer_reached_inside (frame_judge before) hs (reaches_out (frame_judge before) at_root top) at_root (tree h o kids none) (more_renders top no_renders) outer
    (λ e. or_false (reaches_out (frame_judge before) at_root top) e) reached)
    (framed_firm before (reaches_out (frame_judge before) at_root top) at_root (tree h o kids none) (more_renders top no_renders) outer framed) flags

-- a root with its marks
abbrev pub marked_value : List Handle → Rooted → RenderObject
marked_value hs r =
    layout_marks.marked ((listed r.handle hs || some_climbs layout_marks hs (within layout_marks at_top r.value) r.kids) && true) (has_listed hs r.kids || (true && listed r.handle hs)) r.value

abbrev pub marked_kids : List Handle → Rooted → Forest RenderObject
marked_kids hs r = sweep layout_marks true hs (within layout_marks at_top r.value) r.kids

module _ (due : (P : LayoutParts) (outer : Bool) (asks : List (Option Ask)) (f : Forest LayoutNode) → AreKnown asks f → ticks P outer asks f ≤ due_count f)
    (s : Setting) (view : Size) (before : Before) (whole : Rooted) (lo ln : ℕ) (l : PhasedLayouts s view before whole lo ln) where
  abbrev now : Judge
  now = frame_judge before

  abbrev top : Render
  top = render_of whole

  -- ---- the first phase

  abbrev mv : RenderObject
  mv = marked_value l.changed l.first

  abbrev mk : Forest RenderObject
  mk = marked_kids l.changed l.first

  marked_outer : AreOuter (tree l.first.handle mv mk none) (more_renders top no_renders)
  marked_outer = swept_outer l.changed at_top (forest_of l.first) (more_renders top no_renders) l.outer

  marked_inside : RootOuterInside now (tree l.first.handle mv mk none) top
  marked_inside = first_inside before l.changed l.first.handle l.first.value l.first.kids top l.outer l.frames l.reached l.flags

  few_lists : ticks (parts_of s) true (view_asks view) (rooted (tree l.first.handle mv mk none)) ≤ length (layout_region before top)
  few_lists = outer_layouts_inside s before view l.first.handle mv mk top marked_outer l.here marked_inside l.asked

  -- ---- the outer flush

  laid_inside : RootOuterInside now (forest_of l.laid) top
  laid_inside = root_undue_flags before view l.first.handle l.laid.handle mv l.laid.value mk l.laid.kids top l.undue marked_outer l.laid_outer l.asked marked_inside

  laid_firm : OuterFirmEnds now (reaches_out now at_root top) at_root (forest_of l.laid) (more_renders top no_renders)
  laid_firm =
      root_undue_firm before view l.first.handle l.laid.handle mv l.laid.value mk l.laid.kids top l.undue marked_outer l.laid_outer l.asked marked_inside
      (swept_frames before l.changed at_top (forest_of l.first) l.frames) l.root_asked

  put_inside : RootOuterInside now (tree l.laid.handle (marked_value l.corrected l.laid) (marked_kids l.corrected l.laid) none) top
  put_inside =
      root_marks_inside now l.corrected l.laid.handle l.laid.value l.laid.kids top
      (root_listed before l.corrected view l.first.handle l.laid.handle mv l.laid.value mk l.laid.kids top l.undue marked_outer l.laid_outer l.asked marked_inside l.otherwise)
      laid_firm laid_inside

  put_firm : OuterFirmEnds now (reaches_out now at_root top) at_root (tree l.laid.handle (marked_value l.corrected l.laid) (marked_kids l.corrected l.laid) none) (more_renders top no_renders)
  put_firm = swept_firm before l.corrected at_top (reaches_out now at_root top) at_root (forest_of l.laid) (more_renders top no_renders) laid_firm

  -- ---- the second phase

  whole_inside : RootFlagsInside now (tree whole.handle (marked_value l.again whole) (marked_kids l.again whole) none)
  whole_inside =
      second_inside before l.again l.laid.handle whole.handle (record (marked_value l.corrected l.laid) { scroll = l.scrolls l.laid.handle }) whole.value (scrolled_as l.scrolls (marked_kids l.corrected l.laid)) whole.kids l.kept
      (rescrolled_root before l.scrolls l.laid.handle (marked_value l.corrected l.laid) (marked_kids l.corrected l.laid) top put_inside)
      (rescrolled_firm before l.scrolls (reaches_out now at_root top) at_root (tree l.laid.handle (marked_value l.corrected l.laid) (marked_kids l.corrected l.laid) none) (more_renders top no_renders) put_firm)
      l.items l.item_frames l.reached_again

  whole_asked : IsAskedAs view (tree whole.handle (marked_value l.again whole) (marked_kids l.again whole) none)
  whole_asked flag = ap (λ fr. option_map ask_in fr) l.kept.0.frame ∙ l.root_asked

  same_top : render_over (marked_value l.again whole) (marked_kids l.again whole) ≡ top
  same_top = λ i.
      render whole.value.number (object_look whole.value) whole.value.parent_data whole.value.scroll (lazy_children whole.value) (no_other_renders true l.again (within layout_marks at_top whole.value) whole.kids i)

  few_all : ticks (parts_of s) false (view_asks view) (rooted (tree whole.handle (marked_value l.again whole) (marked_kids l.again whole) none)) ≤ length (layout_region before (render_over (marked_value l.again whole) (marked_kids l.again whole)))
  few_all = layouts_inside due (parts_of s) before view whole.handle (marked_value l.again whole) (marked_kids l.again whole) whole_inside (λ e. whole_asked)

  pub twice : ln ≤ lo + 2 * length (layout_region before top)
  twice =
      let first = few_lists in
      let second = few_all in
      let same = ap (λ r. length (layout_region before r)) same_top in
      let a = l.lists in
      let b = l.all in
      omega (arith, first, second, same, a, b)
