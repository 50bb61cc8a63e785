-- Flags in the region, and the marks that keep them there.
use Rattle.std.proofs.Common.{◌≡◌, ℕ, ◌+◌, ◌≤◌, Bool, true, false, not, ◌&&◌, ◌||◌, List, [], ◌∷◌, ◌++◌, length, refl, sym, ap, ◌∙◌, subst, arith, inl, inr, if◌then◌else◌}
use Rattle.std.proofs.lemmas.Bool.{and_parts, and_from, or_left, or_right, false≢true}
use Rattle.std.proofs.lemmas.List.{length-append}
use Rattle.fx_handles.specs.declared.Handle.{Handle}
use Rattle.node_tree.specs.Forest.{Forest, size}
use Rattle.node_tree.specs.Forest.Forest.{none, tree}
use Rattle.plain_tree.specs.Laws.{render_numbers_of, render_numbers_in}
use Rattle.plain_tree.specs.Render.{Render, render, more_renders}
use Rattle.tree_marks.specs.Marking.{Above, is_boundary, within}
use Rattle.tree_marks.specs.Marks.{listed, some_climbs, sweep}
use Rattle.tree_marks.proofs.Closing.{either}
use Rattle.work_roles.specs.Place.{RegionPlace, at_root, below}
use Rattle.work_sets.specs.Region.{Judge, is_reached, is_inside, reaches_out, some_reaches_out, region_in, region_below, region_of}
use Rattle.work_sets.proofs.Wholes.{region_all_below}
use Rattle.layout_walk.specs.Work.{due_count}
use Rattle.layout_rules.specs.Nodes.{layout_nodes}
use Rattle.layout_owner.specs.Roots.{rooted}
use Rattle.render_tree.specs.Marks.{layout_marks}
use Rattle.render_tree.specs.Object.{RenderObject, object_look}
use Rattle.render_tree.specs.Plain.{lazy_children, renders_of}
use Rattle.build_walk.specs.Changing.{render_over}
use Rattle.counted_work.specs.Inside.{marks_above, FlagsInside, RootFlagsInside, AreReached, FirmEndsMarks}

-- ---- as many nodes

pub numbers_sized : (f : Forest RenderObject) → length (render_numbers_in (renders_of f)) ≡ size f
numbers_sized none = refl
numbers_sized (tree h o kids rest) =
    let a = numbers_sized kids in
    let b = numbers_sized rest in
    let c = length-append (render_numbers_of (render_over o kids)) (render_numbers_in (renders_of rest)) in
    omega (arith, a, b, c)

pub nodes_sized : (f : Forest RenderObject) → size (layout_nodes f) ≡ size f
nodes_sized none = refl
nodes_sized (tree h o kids rest) = let a = nodes_sized kids in let b = nodes_sized rest in omega (arith, a, b)

-- marks are no part of a render node
pub no_other_renders : (also : Bool) (hs : List Handle) (p : Above) (f : Forest RenderObject) → renders_of (sweep layout_marks also hs p f) ≡ renders_of f
no_other_renders also hs p none = refl
no_other_renders also hs p (tree h o kids rest) = λ i.
    more_renders (render o.number (object_look o) o.parent_data o.scroll (lazy_children o) (no_other_renders also hs (within layout_marks p o) kids i)) (no_other_renders also hs p rest i)

module _ (judge : Judge) where
  all_sized : (p : RegionPlace) (f : Forest RenderObject) → length (region_below judge true p (renders_of f)) ≡ size f
  all_sized p f = ap length (region_all_below judge p (renders_of f)) ∙ numbers_sized f

  -- ---- what is due is in the region

  due_node : (shown flag inside : Bool) (number : ℕ) (p : RegionPlace) (kids : Forest RenderObject)
      → (shown ≡ true → (flag ≡ true → inside ≡ true) × (due_count (layout_nodes kids) ≤ length (region_below judge inside p (renders_of kids))))
      → (if shown then (if flag then 1 + size (layout_nodes kids) else due_count (layout_nodes kids)) else 0)
      ≤ length ((if inside then number ∷ [] else []) ++ region_below judge inside p (renders_of kids))
  due_node false flag inside number p kids e = omega arith
  due_node true true true number p kids e = let a = nodes_sized kids in let b = all_sized p kids in omega (arith, a, b)
  due_node true true false number p kids e = absurd (false≢true ((e refl).0 refl))
  due_node true false true number p kids e = let a = (e refl).1 in omega (arith, a)
  due_node true false false number p kids e = (e refl).1

  pub due_inside : (above : Bool) (p : RegionPlace) (f : Forest RenderObject) → FlagsInside judge above p f → due_count (layout_nodes f) ≤ length (region_below judge above p (renders_of f))
  due_inside above p none flags = omega arith
  due_inside above p (tree h o kids rest) flags =
      let inside : Bool = is_inside judge above p (render_over o kids) in
      let here = due_node o.shown o.needs_layout inside o.number (below p (object_look o)) kids
      (λ shown. ((flags.0 shown).0, due_inside inside (below p (object_look o)) kids (flags.0 shown).1)) in
      let later = due_inside above p rest flags.1 in
      let all = length-append (region_in judge above p (render_over o kids)) (region_below judge above p (renders_of rest)) in
      omega (arith, here, later, all)

  -- ---- what is reached is inside

  reached_by_firm : (firm reached above : Bool) → ((reached && not firm) ≡ true → above ≡ true) → reached ≡ true → (above || (firm && reached)) ≡ true
  reached_by_firm true reached above out e = or_right above reached e
  reached_by_firm false reached above out e = or_left above false (out (and_from reached true e refl))

  pub reached_inside : (above : Bool) (p : RegionPlace) (r : Render) → (reaches_out judge p r ≡ true → above ≡ true) → is_reached judge p r ≡ true → is_inside judge above p r ≡ true
  reached_inside above p (render number look told scroll count children) out e =
      let r : Render = render number look told scroll count children in
      reached_by_firm (judge.is_firm p r) (is_reached judge p r) above out e

  -- ---- marks

  module _ (hs : List Handle) where
    -- a listed node, and one that a climb comes to, is reached
    reach_node : (p : RegionPlace) (h : Handle) (o : RenderObject) (kids : Forest RenderObject) → (listed h hs ≡ true → is_reached judge p (render_over o kids) ≡ true)
        → (some_climbs layout_marks hs (marks_above (below p (object_look o))) kids ≡ true → some_reaches_out judge (below p (object_look o)) (renders_of kids) ≡ true)
        → (listed h hs || some_climbs layout_marks hs (marks_above (below p (object_look o))) kids) ≡ true → is_reached judge p (render_over o kids) ≡ true
    reach_node p h o kids here under e = elim (either (listed h hs) (some_climbs layout_marks hs (marks_above (below p (object_look o))) kids) e) [
      | inl a ↦ here a
      | inr a ↦ or_right (judge.is_changed p (render_over o kids)) (some_reaches_out judge (below p (object_look o)) (renders_of kids)) (under a)
    ]

    climb_out : (reached firm boundary start : Bool) → (start ≡ true → reached ≡ true) → (firm ≡ true → boundary ≡ true) → (start && not boundary) ≡ true → (reached && not firm) ≡ true
    climb_out reached true boundary start is ends e = absurd (false≢true (ap not (sym (ends refl)) ∙ (and_parts start (not boundary) e).1))
    climb_out reached false boundary start is ends e = and_from reached true (is (and_parts start (not boundary) e).0) refl

    climbs_reach : (p : RegionPlace) (f : Forest RenderObject) → AreReached judge hs p f → FirmEndsMarks judge p f → some_climbs layout_marks hs (marks_above p) f ≡ true → some_reaches_out judge p (renders_of f) ≡ true
    climbs_reach p none reached firm e = e
    climbs_reach p (tree h o kids rest) reached firm e =
        let q : RegionPlace = below p (object_look o) in
        let start : Bool = listed h hs || some_climbs layout_marks hs (marks_above q) kids in
        elim (either (start && not (is_boundary layout_marks (marks_above p) o)) (some_climbs layout_marks hs (marks_above p) rest) e) [
          | inl a ↦ or_left (reaches_out judge p (render_over o kids)) (some_reaches_out judge p (renders_of rest))
              (climb_out (is_reached judge p (render_over o kids)) (judge.is_firm p (render_over o kids)) (is_boundary layout_marks (marks_above p) o) start
              (reach_node p h o kids reached.0 (climbs_reach q kids reached.1 firm.1)) firm.0 a)
          | inr a ↦ or_right (reaches_out judge p (render_over o kids)) (some_reaches_out judge p (renders_of rest)) (climbs_reach p rest reached.2 firm.2 a)
        ]

    flag_inside : (flag start inside : Bool) → (flag ≡ true → inside ≡ true) → (start ≡ true → inside ≡ true) → (flag || (start && true)) ≡ true → inside ≡ true
    flag_inside true start inside before now e = before refl
    flag_inside false start inside before now e = now (and_parts start true e).0

    pub marks_inside : (also above : Bool) (p : RegionPlace) (f : Forest RenderObject) → AreReached judge hs p f → FirmEndsMarks judge p f
        → (some_reaches_out judge p (renders_of f) ≡ true → above ≡ true) → FlagsInside judge above p f → FlagsInside judge above p (sweep layout_marks also hs (marks_above p) f)
    marks_inside also above p none reached firm out flags = tt
    marks_inside also above p (tree h o kids rest) reached firm out flags =
        let q : RegionPlace = below p (object_look o) in
        let here : Render = render_over o kids in
        let swept : Forest RenderObject = sweep layout_marks also hs (marks_above q) kids in
        let start : Bool = listed h hs || some_climbs layout_marks hs (marks_above q) kids in
        let inside : is_reached judge p here ≡ true → is_inside judge above p here ≡ true = reached_inside above p here (λ e. out (or_left (reaches_out judge p here) (some_reaches_out judge p (renders_of rest)) e)) in
        let started : start ≡ true → is_inside judge above p here ≡ true = λ e. inside (reach_node p h o kids reached.0 (climbs_reach q kids reached.1 firm.1) e) in
        let under : some_reaches_out judge q (renders_of kids) ≡ true → is_inside judge above p here ≡ true = λ e. inside (or_right (judge.is_changed p here) (some_reaches_out judge q (renders_of kids)) e) in (
          (λ shown. subst
              (λ (r : Render). ((o.needs_layout || (start && true)) ≡ true → is_inside judge above p r ≡ true) × FlagsInside judge (is_inside judge above p r) q swept)
              (λ i. render o.number (object_look o) o.parent_data o.scroll (lazy_children o) (sym (no_other_renders also hs (marks_above q) kids) i)) (
                flag_inside o.needs_layout start (is_inside judge above p here) (flags.0 shown).0 started,
                marks_inside also (is_inside judge above p here) q kids reached.1 firm.1 under (flags.0 shown).1,
              )),
          marks_inside also above p rest reached.2 firm.2 (λ e. out (or_right (reaches_out judge p here) (some_reaches_out judge p (renders_of rest)) e)) flags.1,
        )

    -- a root's tree
    pub root_marks_inside : (also : Bool) (f : Forest RenderObject) → AreReached judge hs at_root f → FirmEndsMarks judge at_root f → RootFlagsInside judge f → RootFlagsInside judge (sweep layout_marks also hs (marks_above at_root) f)
    root_marks_inside also none reached firm flags = tt
    root_marks_inside also (tree h o kids rest) reached firm flags =
        let q : RegionPlace = below at_root (object_look o) in
        let here : Render = render_over o kids in
        let swept : Forest RenderObject = sweep layout_marks also hs (marks_above q) kids in
        let start : Bool = listed h hs || some_climbs layout_marks hs (marks_above q) kids in
        let inside_in : Render → Bool = λ r. is_inside judge (reaches_out judge at_root r) at_root r in
        let inside : is_reached judge at_root here ≡ true → inside_in here ≡ true = reached_inside (reaches_out judge at_root here) at_root here (λ e. e) in
        let started : start ≡ true → inside_in here ≡ true = λ e. inside (reach_node at_root h o kids reached.0 (climbs_reach q kids reached.1 firm.1) e) in
        let under : some_reaches_out judge q (renders_of kids) ≡ true → inside_in here ≡ true = λ e. inside (or_right (judge.is_changed at_root here) (some_reaches_out judge q (renders_of kids)) e) in
        subst
        (λ (r : Render). ((o.needs_layout || (start && true)) ≡ true → inside_in r ≡ true) × FlagsInside judge (inside_in r) q swept)
        (λ i. render o.number (object_look o) o.parent_data o.scroll (lazy_children o) (sym (no_other_renders also hs (marks_above q) kids) i))
        (flag_inside o.needs_layout start (inside_in here) flags.0 started, marks_inside also (inside_in here) q kids reached.1 firm.1 under flags.1)

  -- ---- what is due of a root's tree

  pub root_due_inside : (h : Handle) (o : RenderObject) (kids : Forest RenderObject) → RootFlagsInside judge (tree h o kids none) → due_count (rooted (tree h o kids none)) ≤ length (region_of judge (render_over o kids))
  root_due_inside h o kids flags =
      let r : Render = render_over o kids in
      let inside : Bool = is_inside judge (reaches_out judge at_root r) at_root r in
      let here = due_node true o.needs_layout inside o.number (below at_root (object_look o)) kids (λ shown. (flags.0, due_inside inside (below at_root (object_look o)) kids flags.1)) in
      omega (arith, here)

  -- below what is in the region all is
  pub all_inside : (p : RegionPlace) (f : Forest RenderObject) → FlagsInside judge true p f
  all_inside p none = tt
  all_inside p (tree h o kids rest) = ((λ shown. ((λ flag. refl), all_inside (below p (object_look o)) kids)), all_inside p rest)
