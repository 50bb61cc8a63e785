-- From the nodes between the phases to those of the whole build: outer ones are as they were, and items have frames and flags of the last
-- frame.
use Rattle.std.proofs.Common.{◌≡◌, Bool, true, false, not, ◌&&◌, ◌||◌, List, refl, sym, ap, ◌∙◌, subst}
use Rattle.std.proofs.lemmas.Bool.{true≢false}
use Rattle.fx_handles.specs.declared.Handle.{Handle}
use Rattle.node_tree.specs.Forest.{Forest}
use Rattle.node_tree.specs.Forest.Forest.{none, tree}
use Rattle.widget_model.specs.Look.{Look}
use Rattle.plain_tree.specs.Render.{no_renders, more_renders}
use Rattle.tree_marks.specs.Marking.{is_boundary}
use Rattle.tree_marks.specs.Marks.{sweep}
use Rattle.work_roles.specs.Place.{RegionPlace, at_root, below}
use Rattle.work_sets.specs.Before.{Before, Frames}
use Rattle.work_sets.specs.Layout.{frame_judge}
use Rattle.work_sets.specs.Region.{Judge, is_inside, reaches_out}
use Rattle.layout_walk.specs.Rules.{is_list}
use Rattle.render_tree.specs.Marks.{layout_marks, ends_in}
use Rattle.render_tree.specs.Object.{RenderObject, bounds_in, object_look}
use Rattle.render_tree.specs.Plain.{renders_of}
use Rattle.build_walk.specs.Changing.{render_over}
use Rattle.counted_work.specs.Inside.{marks_above, FlagsInside, RootFlagsInside, AreReached, FirmEndsMarks}
use Rattle.counted_work.proofs.Changed.{AreFramed}
use Rattle.counted_work.proofs.Synced.{framed_ends}
use Rattle.counted_phases.specs.Framed.{HaveFrames, ItemsHaveFrames, IsOuterKept, AreKept, ItemsInside, RootItemsInside}
use Rattle.counted_phases.specs.Outer.{UnlessList, ListOr, OuterFlagsInside, RootOuterInside, OuterFirmEnds, FirmEndsOutside}
use Rattle.counted_phases.proofs.Whole.{whole_root_inside, all_reached_inside}

-- ---- flags

module _ (judge : Judge) where
  list_by : (list list_o : Bool) (O I X F : Type 0) → list ≡ list_o → UnlessList list_o O → ListOr list F I → UnlessList list_o X → (X → O → I → F) → F
  list_by true list_o O I X F e o i x go = i
  list_by false true O I X F e o i x go = absurd (true≢false (sym e))
  list_by false false O I X F e o i x go = go x o i

  pub kept_flags : (above : Bool) (p : RegionPlace) (f g : Forest RenderObject) → AreKept f g → OuterFlagsInside judge above p f (renders_of g) → ItemsInside judge above p g → FlagsInside judge above p g
  kept_flags above p none none kept flags items = tt
  kept_flags above p none (tree k w under rest) kept flags items = absurd kept
  kept_flags above p (tree h o kids more) none kept flags items = tt
  kept_flags above p (tree h o kids more) (tree k w under rest) kept flags items = (
    (λ shown.
        let was : o.shown ≡ true = sym kept.0.shown ∙ shown in (
          (λ flag. (flags.0 was).0 (sym kept.0.flag ∙ flag)),
          list_by (is_list (object_look w)) (is_list (object_look o)) (OuterFlagsInside judge inside (below p (object_look o)) kids (renders_of under)) (ItemsInside judge inside (below p (object_look w)) under) (AreKept kids under)
              (FlagsInside judge inside (below p (object_look w)) under) (ap is_list kept.0.look) (flags.0 was).1 (items.0 shown) kept.1
              (λ x o_in i_in. kept_flags inside (below p (object_look w)) kids under x (subst (λ (l : Look). OuterFlagsInside judge inside (below p l) kids (renders_of under)) (sym kept.0.look) o_in) i_in),
        )),
    kept_flags above p more rest kept.2 flags.1 items.1,
  )
    where
      inside : Bool
      inside = is_inside judge above p (render_over w under)

  -- a root's tree
  pub kept_root : (h k : Handle) (o w : RenderObject) (kids under : Forest RenderObject) → AreKept (tree h o kids none) (tree k w under none) → RootOuterInside judge (tree h o kids none) (render_over w under)
      → RootItemsInside judge (tree k w under none) → RootFlagsInside judge (tree k w under none)
  kept_root h k o w kids under kept flags items = (
    (λ flag. flags.0 (sym kept.0.flag ∙ flag)),
    list_by (is_list (object_look w)) (is_list (object_look o)) (OuterFlagsInside judge inside (below at_root (object_look o)) kids (renders_of under)) (ItemsInside judge inside (below at_root (object_look w)) under)
        (AreKept kids under) (FlagsInside judge inside (below at_root (object_look w)) under) (ap is_list kept.0.look) flags.1 items kept.1
        (λ x o_in i_in. kept_flags inside (below at_root (object_look w)) kids under x (subst (λ (l : Look). OuterFlagsInside judge inside (below at_root l) kids (renders_of under)) (sym kept.0.look) o_in) i_in),
  )
    where
      inside : Bool
      inside = is_inside judge (reaches_out judge at_root (render_over w under)) at_root (render_over w under)

  -- ---- boundaries

  always_ends : (above : Bool) (p : RegionPlace) (f : Forest RenderObject) → FirmEndsMarks judge p f → FirmEndsOutside judge above p f
  always_ends above p none firm = tt
  always_ends above p (tree h o kids rest) firm =
      ((λ out. firm.0), always_ends (is_inside judge above p (render_over o kids)) (below p (object_look o)) kids firm.1, always_ends above p rest firm.2)

framed_so : (frames : Frames) (f : Forest RenderObject) → HaveFrames frames f → AreFramed frames f
framed_so frames none framed = tt
framed_so frames (tree h o kids rest) framed = (framed.0, framed_so frames kids framed.1, framed_so frames rest framed.2)

module _ (before : Before) where
  abbrev now : Judge
  now = frame_judge before

  kept_boundary : (p : RegionPlace) (o w : RenderObject) → IsOuterKept o w → is_boundary layout_marks (marks_above p) o ≡ true → is_boundary layout_marks (marks_above p) w ≡ true
  kept_boundary p o w kept e = (λ i. not p.below_intrinsic && ends_in (bounds_in (kept.frame i)) p.top p.below_offstage (kept.look i)) ∙ e

  pub kept_firm : (above : Bool) (p : RegionPlace) (f g : Forest RenderObject) → AreKept f g → OuterFirmEnds now above p f (renders_of g) → ItemsHaveFrames before.frames g → FirmEndsOutside now above p g
  kept_firm above p none none kept firm items = tt
  kept_firm above p none (tree k w under rest) kept firm items = absurd kept
  kept_firm above p (tree h o kids more) none kept firm items = tt
  kept_firm above p (tree h o kids more) (tree k w under rest) kept firm items = (
    (λ out is. kept_boundary p o w kept.0 (firm.0 out is)),
    by (λ c a b. kept_firm (is_inside now above p (render_over w under)) (below p (object_look w)) kids under c a b) (is_list (object_look w)) (is_list (object_look o)) (ap is_list kept.0.look) firm.1 items.0 kept.1,
    kept_firm above p more rest kept.2 firm.2 items.1,
  )
    where
      inside : Bool
      inside = is_inside now above p (render_over w under)

      by : (AreKept kids under → OuterFirmEnds now inside (below p (object_look w)) kids (renders_of under) → ItemsHaveFrames before.frames under → FirmEndsOutside now inside (below p (object_look w)) under)
          → (list list_o : Bool) → list ≡ list_o → UnlessList list_o (OuterFirmEnds now inside (below p (object_look o)) kids (renders_of under))
          → ListOr list (HaveFrames before.frames under) (ItemsHaveFrames before.frames under) → UnlessList list_o (AreKept kids under) → FirmEndsOutside now inside (below p (object_look w)) under
      by go true list_o e a b c = always_ends now inside (below p (object_look w)) under (framed_ends before (below p (object_look w)) under (framed_so before.frames under b))
      by go false true e a b c = absurd (true≢false (sym e))
      by go false false e a b c =
          go c (subst (λ (l : Look). OuterFirmEnds now inside (below p l) kids (renders_of under)) (sym kept.0.look) a) b

  -- ---- the second phase

  pub second_inside : (hs : List Handle) (h k : Handle) (o w : RenderObject) (kids under : Forest RenderObject) → AreKept (tree h o kids none) (tree k w under none)
      → RootOuterInside now (tree h o kids none) (render_over w under)
      → OuterFirmEnds now (reaches_out now at_root (render_over w under)) at_root (tree h o kids none) (more_renders (render_over w under) no_renders)
      → RootItemsInside now (tree k w under none) → ItemsHaveFrames before.frames (tree k w under none)
      → AreReached now hs at_root (tree k w under none) → RootFlagsInside now (sweep layout_marks true hs (marks_above at_root) (tree k w under none))
  second_inside hs h k o w kids under kept flags firm items framed reached =
      whole_root_inside now hs (tree k w under none)
      (all_reached_inside now hs (reaches_out now at_root (render_over w under)) at_root (tree k w under none) root_out reached)
      (kept_firm (reaches_out now at_root (render_over w under)) at_root (tree h o kids none) (tree k w under none) kept firm framed)
      (kept_root now h k o w kids under kept flags items)
    where
      or_false : (a : Bool) → (a || false) ≡ true → a ≡ true
      or_false true e = refl
      or_false false e = e

      root_out : (reaches_out now at_root (render_over w under) || false) ≡ true → reaches_out now at_root (render_over w under) ≡ true
      root_out e = or_false (reaches_out now at_root (render_over w under)) e
