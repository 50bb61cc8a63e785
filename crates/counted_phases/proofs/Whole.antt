-- Marks on all nodes of a tree, where some boundaries have other bounds than in the last frame.
use Rattle.std.proofs.Common.{◌≡◌, Bool, true, not, ◌&&◌, ◌||◌, List, sym, subst, inl, inr}
use Rattle.std.proofs.lemmas.Bool.{or_left, or_right, false≢true}
use Rattle.fx_handles.specs.declared.Handle.{Handle}
use Rattle.node_tree.specs.Forest.{Forest}
use Rattle.node_tree.specs.Forest.Forest.{none, tree}
use Rattle.plain_tree.specs.Render.{Render, render}
use Rattle.tree_marks.specs.Marking.{is_boundary}
use Rattle.tree_marks.specs.Marks.{listed, some_climbs, sweep}
use Rattle.tree_marks.proofs.Closing.{either}
use Rattle.work_roles.specs.Place.{RegionPlace, at_root, below}
use Rattle.work_sets.specs.Region.{Judge, is_reached, is_inside, reaches_out, some_reaches_out}
use Rattle.render_tree.specs.Marks.{layout_marks}
use Rattle.render_tree.specs.Object.{RenderObject, object_look}
use Rattle.render_tree.specs.Plain.{lazy_children, renders_of}
use Rattle.build_walk.specs.Changing.{render_over}
use Rattle.counted_work.specs.Inside.{marks_above, FlagsInside, RootFlagsInside, AreReached}
use Rattle.counted_work.proofs.Inside.{no_other_renders, reached_inside}
use Rattle.counted_phases.specs.Outer.{ListedInside, FirmEndsOutside, all_in_region}
use Rattle.counted_phases.proofs.Inside.{climb_out, flag_inside}

module _ (judge : Judge) (hs : List Handle) where
  abbrev Climbs : RegionPlace → RenderObject → Forest RenderObject → Bool
  Climbs p o kids = some_climbs layout_marks hs (marks_above (below p (object_look o))) kids

  abbrev Starts : RegionPlace → Handle → RenderObject → Forest RenderObject → Bool
  Starts p h o kids = listed h hs || Climbs p o kids

  start_inside : (p : RegionPlace) (h : Handle) (o : RenderObject) (kids : Forest RenderObject) (inside : Bool) → (listed h hs ≡ true → inside ≡ true) → (Climbs p o kids ≡ true → inside ≡ true)
      → Starts p h o kids ≡ true → inside ≡ true
  start_inside p h o kids inside here under e = elim (either (listed h hs) (Climbs p o kids) e) [
    | inl a ↦ here a
    | inr a ↦ under a
  ]

  climbs_inside : (above : Bool) (p : RegionPlace) (f : Forest RenderObject) → ListedInside judge hs above p f → FirmEndsOutside judge above p f → some_climbs layout_marks hs (marks_above p) f ≡ true → above ≡ true
  climbs_inside above p none listed_in firm e = absurd (false≢true e)
  climbs_inside above p (tree h o kids rest) listed_in firm e =
      let r : Render = render_over o kids in
      let inside : Bool = is_inside judge above p r in
      elim (either (Starts p h o kids && not (is_boundary layout_marks (marks_above p) o)) (some_climbs layout_marks hs (marks_above p) rest) e) [
        | inl a ↦ climb_out judge hs above (judge.is_firm p r) (is_reached judge p r) (is_boundary layout_marks (marks_above p) o) (Starts p h o kids)
            (start_inside p h o kids inside listed_in.0 (λ c. climbs_inside inside (below p (object_look o)) kids listed_in.1 firm.1 c)) firm.0 a
        | inr a ↦ climbs_inside above p rest listed_in.2 firm.2 a
      ]

  pub whole_marks_inside : (above : Bool) (p : RegionPlace) (f : Forest RenderObject) → ListedInside judge hs above p f → FirmEndsOutside judge above p f → FlagsInside judge above p f
      → FlagsInside judge above p (sweep layout_marks true hs (marks_above p) f)
  whole_marks_inside above p none listed_in firm flags = tt
  whole_marks_inside above p (tree h o kids rest) listed_in firm flags =
      let q : RegionPlace = below p (object_look o) in
      let here : Render = render_over o kids in
      let inside : Bool = is_inside judge above p here in
      let swept : Forest RenderObject = sweep layout_marks true hs (marks_above q) kids in
      let started : Starts p h o kids ≡ true → inside ≡ true = start_inside p h o kids inside listed_in.0 (λ c. climbs_inside inside q kids listed_in.1 firm.1 c) in (
        (λ shown. subst
            (λ (r : Render). ((o.needs_layout || (Starts p h o kids && true)) ≡ true → is_inside judge above p r ≡ true) × FlagsInside judge (is_inside judge above p r) q swept)
            (λ i. render o.number (object_look o) o.parent_data o.scroll (lazy_children o) (sym (no_other_renders true hs (marks_above q) kids) i)) (
              flag_inside judge hs o.needs_layout (Starts p h o kids) inside (flags.0 shown).0 started,
              whole_marks_inside inside q kids listed_in.1 firm.1 (flags.0 shown).1,
            )),
        whole_marks_inside above p rest listed_in.2 firm.2 flags.1,
      )

  -- a root's tree
  pub whole_root_inside : (f : Forest RenderObject) → ListedInside judge hs (all_in_region judge f) at_root f → FirmEndsOutside judge (all_in_region judge f) at_root f → RootFlagsInside judge f
      → RootFlagsInside judge (sweep layout_marks true hs (marks_above at_root) f)
  whole_root_inside none listed_in firm flags = tt
  whole_root_inside (tree h o kids rest) listed_in firm flags =
      let q : RegionPlace = below at_root (object_look o) in
      let here : Render = render_over o kids in
      let inside_in : Render → Bool = λ r. is_inside judge (reaches_out judge at_root r) at_root r in
      let swept : Forest RenderObject = sweep layout_marks true hs (marks_above q) kids in
      let started : Starts at_root h o kids ≡ true → inside_in here ≡ true = start_inside at_root h o kids (inside_in here) listed_in.0 (λ c. climbs_inside (inside_in here) q kids listed_in.1 firm.1 c) in
      subst
      (λ (r : Render). ((o.needs_layout || (Starts at_root h o kids && true)) ≡ true → inside_in r ≡ true) × FlagsInside judge (inside_in r) q swept)
      (λ i. render o.number (object_look o) o.parent_data o.scroll (lazy_children o) (sym (no_other_renders true hs (marks_above q) kids) i))
      (flag_inside judge hs o.needs_layout (Starts at_root h o kids) (inside_in here) flags.0 started, whole_marks_inside (inside_in here) q kids listed_in.1 firm.1 flags.1)

  -- what is reached is in the region
  pub all_reached_inside : (above : Bool) (p : RegionPlace) (f : Forest RenderObject) → (some_reaches_out judge p (renders_of f) ≡ true → above ≡ true) → AreReached judge hs p f → ListedInside judge hs above p f
  all_reached_inside above p none out reached = tt
  all_reached_inside above p (tree h o kids rest) out reached =
      let q : RegionPlace = below p (object_look o) in
      let r : Render = render_over o kids in
      let inside : Bool = is_inside judge above p r in
      let into : is_reached judge p r ≡ true → inside ≡ true = reached_inside judge above p r (λ e. out (or_left (reaches_out judge p r) (some_reaches_out judge p (renders_of rest)) e)) in (
        (λ e. into (reached.0 e)),
        all_reached_inside inside q kids (λ e. into (or_right (judge.is_changed p r) (some_reaches_out judge q (renders_of kids)) e)) reached.1,
        all_reached_inside above p rest (λ e. out (or_right (reaches_out judge p r) (some_reaches_out judge p (renders_of rest)) e)) reached.2,
      )
