-- What is due of outer nodes is in the region of the whole build's tree, and the marks that keep it there.
use Rattle.std.proofs.Common.{◌≡◌, ℕ, ◌+◌, ◌≤◌, Bool, true, false, not, ◌&&◌, ◌||◌, Option, Some, None, List, [], ◌∷◌, ◌++◌, length, refl, sym, ap, ◌∙◌, arith, inl, inr, if◌then◌else◌}
use Rattle.std.proofs.lemmas.Bool.{and_parts, or_left, or_right, false≢true}
use Rattle.std.proofs.lemmas.List.{length-append, append-nil}
use Rattle.fx_geom.specs.Offset.{origin}
use Rattle.fx_geom.specs.declared.shapes.Size.{Size}
use Rattle.fx_handles.specs.declared.Handle.{Handle}
use Rattle.node_tree.specs.Forest.{Forest}
use Rattle.node_tree.specs.Forest.Forest.{none, tree}
use Rattle.plain_tree.specs.Laws.{render_numbers_of, render_numbers_in}
use Rattle.plain_tree.specs.Render.{Render, render, Renders, no_renders, more_renders}
use Rattle.tree_marks.specs.Marking.{is_boundary}
use Rattle.tree_marks.specs.Marks.{listed, some_climbs, sweep}
use Rattle.tree_marks.proofs.Closing.{either}
use Rattle.work_roles.specs.Place.{RegionPlace, at_root, below}
use Rattle.work_sets.specs.Before.{Before, is_touched}
use Rattle.work_sets.specs.InTree.{Standing, standing, children_of}
use Rattle.work_sets.specs.Layout.{frame_judge, layout_region, is_changed_since, is_same_for_layout, is_changed_root}
use Rattle.work_sets.specs.Region.{Judge, is_reached, is_inside, reaches_out, some_reaches_out, region_in, region_below, region_of}
use Rattle.work_sets.proofs.Wholes.{region_all_below}
use Rattle.layout_form.specs.Object.{Setting}
use Rattle.layout_walk.specs.Flush.{ticks}
use Rattle.layout_walk.specs.Here.{Here, HereAll}
use Rattle.layout_walk.specs.Node.{LayoutNode}
use Rattle.layout_walk.specs.Rule.{LayoutParts}
use Rattle.layout_walk.specs.Rules.{parts_of, is_list}
use Rattle.layout_walk.specs.Work.{AreKnown}
use Rattle.layout_owner.specs.Roots.{rooted, view_asks, IsAskedAs}
use Rattle.layout_rules.specs.Nodes.{layout_node, layout_nodes}
use Rattle.render_tree.specs.Marks.{layout_marks}
use Rattle.render_tree.specs.Object.{RenderObject, object_look}
use Rattle.counted_work.specs.Inside.{marks_above}
use Rattle.counted_work.proofs.Inside.{reached_inside}
use Rattle.counted_phases.specs.Outer.{outer_size, outer_due, UnlessList, ListOr, AreOuter, OuterFlagsInside, RootOuterInside, OuterListedInside, AreOuterReached, OuterFirmEnds}
use Rattle.counted_phases.proofs.Counting.{few_outer, due_outer}

-- ---- no more outer nodes than the whole build has

unless_few : (list : Bool) (X : Type 0) (n m : ℕ) → UnlessList list X → (X → n ≤ m) → (if list then 0 else n) ≤ m
unless_few true X n m x go = omega arith
unless_few false X n m x go = go x

pub outer_few : (f : Forest RenderObject) (rs : Renders) → AreOuter f rs → outer_size (layout_nodes f) ≤ length (render_numbers_in rs)
outer_few none no_renders outer = omega arith
outer_few none (more_renders r rs) outer = absurd outer
outer_few (tree h o kids rest) no_renders outer = absurd outer
outer_few (tree h o kids rest) (more_renders (render number look told scroll count children) rs) outer =
    let here = unless_few (is_list (object_look o)) (AreOuter kids children) (outer_size (layout_nodes kids)) (length (render_numbers_in children)) outer.1 (λ x. outer_few kids children x) in
    let more = outer_few rest rs outer.2 in
    let all = length-append (number ∷ render_numbers_in children) (render_numbers_in rs) in
    omega (arith, here, more, all)

module _ (judge : Judge) where
  all_numbers : (p : RegionPlace) (rs : Renders) → length (region_below judge true p rs) ≡ length (render_numbers_in rs)
  all_numbers p rs = ap length (region_all_below judge p rs)

  -- ---- what is due is in the region

  due_node : (shown flag inside list : Bool) (number all some : ℕ) (q : RegionPlace) (children : Renders) (X : Type 0)
      → (if list then 0 else all) ≤ length (render_numbers_in children)
      → (shown ≡ true → (flag ≡ true → inside ≡ true) × UnlessList list X) → (X → some ≤ length (region_below judge inside q children))
      → (if shown then (if flag then 1 + (if list then 0 else all) else (if list then 0 else some)) else 0)
      ≤ length ((if inside then number ∷ [] else []) ++ region_below judge inside q children)
  due_node false flag inside list number all some q children X few flags go = omega arith
  due_node true true true list number all some q children X few flags go = let a = all_numbers q children in omega (arith, few, a)
  due_node true true false list number all some q children X few flags go = absurd (false≢true ((flags refl).0 refl))
  due_node true false true list number all some q children X few flags go =
      let a = unless_few list X some (length (region_below judge true q children)) (flags refl).1 go in omega (arith, a)
  due_node true false false list number all some q children X few flags go =
      let a = unless_few list X some (length (region_below judge false q children)) (flags refl).1 go in omega (arith, a)

  pub due_inside : (above : Bool) (p : RegionPlace) (f : Forest RenderObject) (rs : Renders) → AreOuter f rs → OuterFlagsInside judge above p f rs → outer_due (layout_nodes f) ≤ length (region_below judge above p rs)
  due_inside above p none rs outer flags = omega arith
  due_inside above p (tree h o kids rest) no_renders outer flags = absurd outer
  due_inside above p (tree h o kids rest) (more_renders (render number look told scroll count children) rs) outer flags =
      let r : Render = render number look told scroll count children in
      let inside : Bool = is_inside judge above p r in
      let few = unless_few (is_list (object_look o)) (AreOuter kids children) (outer_size (layout_nodes kids)) (length (render_numbers_in children)) outer.1 (λ x. outer_few kids children x) in
      let same : length (region_below judge inside (below p (object_look o)) children) ≡ length (region_below judge inside (below p look) children) =
      ap (λ l. length (region_below judge inside (below p l) children)) outer.0.look in
      let here = due_node o.shown o.needs_layout inside (is_list (object_look o)) number (outer_size (layout_nodes kids)) (outer_due (layout_nodes kids)) (below p look) children
      (AreOuter kids children × OuterFlagsInside judge inside (below p (object_look o)) kids children) few
      (λ shown. ((flags.0 shown).0, both (is_list (object_look o)) (AreOuter kids children) (OuterFlagsInside judge inside (below p (object_look o)) kids children) outer.1 (flags.0 shown).1))
      (λ x. let a = due_inside inside (below p (object_look o)) kids children x.0 x.1 in omega (arith, a, same)) in
      let more = due_inside above p rest rs outer.2 flags.1 in
      let all = length-append (region_in judge above p r) (region_below judge above p rs) in
      omega (arith, here, more, all)
    where
      both : (list : Bool) (X Y : Type 0) → UnlessList list X → UnlessList list Y → UnlessList list (X × Y)
      both true X Y x y = tt
      both false X Y x y = (x, y)

  pub root_due_inside : (h : Handle) (o : RenderObject) (kids : Forest RenderObject) (top : Render) → AreOuter (tree h o kids none) (more_renders top no_renders) → RootOuterInside judge (tree h o kids none) top
      → outer_due (rooted (tree h o kids none)) ≤ length (region_of judge top)
  root_due_inside h o kids (render number look told scroll count children) outer flags =
      let r : Render = render number look told scroll count children in
      let inside : Bool = is_inside judge (reaches_out judge at_root r) at_root r in
      let few = unless_few (is_list (object_look o)) (AreOuter kids children) (outer_size (layout_nodes kids)) (length (render_numbers_in children)) outer.1 (λ x. outer_few kids children x) in
      let same : length (region_below judge inside (below at_root (object_look o)) children) ≡ length (region_below judge inside (below at_root look) children) =
      ap (λ l. length (region_below judge inside (below at_root l) children)) outer.0.look in
      let here = due_node true o.needs_layout inside (is_list (object_look o)) number (outer_size (layout_nodes kids)) (outer_due (layout_nodes kids)) (below at_root look) children
      (AreOuter kids children × OuterFlagsInside judge inside (below at_root (object_look o)) kids children) few
      (λ shown. (flags.0, both (is_list (object_look o)) (AreOuter kids children) (OuterFlagsInside judge inside (below at_root (object_look o)) kids children) outer.1 flags.1))
      (λ x. let a = due_inside inside (below at_root (object_look o)) kids children x.0 x.1 in omega (arith, a, same)) in
      omega (arith, here)
    where
      both : (list : Bool) (X Y : Type 0) → UnlessList list X → UnlessList list Y → UnlessList list (X × Y)
      both true X Y x y = tt
      both false X Y x y = (x, y)

  -- ---- marks

  module _ (hs : List Handle) where
    abbrev Climbs : RegionPlace → RenderObject → Forest RenderObject → Bool
    Climbs p o kids = some_climbs layout_marks hs (marks_above (below p (object_look o))) kids

    abbrev Starts : RegionPlace → Handle → RenderObject → Forest RenderObject → Bool
    Starts p h o kids = listed h hs || Climbs p o kids

    climb_by : (list climbs inside : Bool) (X Y : Type 0) → ListOr list (climbs ≡ true → inside ≡ true) X → UnlessList list Y → (X → Y → climbs ≡ true → inside ≡ true) → climbs ≡ true → inside ≡ true
    climb_by true climbs inside X Y items firm go e = items e
    climb_by false climbs inside X Y items firm go e = go items firm e

    -- a listed node, and one that a climb comes to, is in the region
    start_inside : (p : RegionPlace) (h : Handle) (o : RenderObject) (kids : Forest RenderObject) (inside : Bool) (X Y : Type 0) → (listed h hs ≡ true → inside ≡ true)
        → ListOr (is_list (object_look o)) (Climbs p o kids ≡ true → inside ≡ true) X → UnlessList (is_list (object_look o)) Y → (X → Y → Climbs p o kids ≡ true → inside ≡ true)
        → Starts p h o kids ≡ true → inside ≡ true
    start_inside p h o kids inside X Y here items firm go e = elim (either (listed h hs) (Climbs p o kids) e) [
      | inl a ↦ here a
      | inr a ↦ climb_by (is_list (object_look o)) (Climbs p o kids) inside X Y items firm go a
    ]

    -- and where it climbs out of a node, the one above is
    pub climb_out : (above firm reached boundary start : Bool) → (start ≡ true → (above || (firm && reached)) ≡ true) → (above ≡ false → firm ≡ true → boundary ≡ true) → (start && not boundary) ≡ true → above ≡ true
    climb_out true firm reached boundary start inside ends e = refl
    climb_out false true reached boundary start inside ends e = absurd (false≢true (ap not (sym (ends refl refl)) ∙ (and_parts start (not boundary) e).1))
    climb_out false false reached boundary start inside ends e = inside (and_parts start (not boundary) e).0

    climbs_inside : (above : Bool) (p : RegionPlace) (f : Forest RenderObject) (rs : Renders) → OuterListedInside judge hs above p f rs → OuterFirmEnds judge above p f rs → some_climbs layout_marks hs (marks_above p) f ≡ true → above ≡ true
    climbs_inside above p none rs listed_in firm e = absurd (false≢true e)
    climbs_inside above p (tree h o kids rest) no_renders listed_in firm e = absurd listed_in
    climbs_inside above p (tree h o kids rest) (more_renders r rs) listed_in firm e =
        let q : RegionPlace = below p (object_look o) in
        let inside : Bool = is_inside judge above p r in
        elim (either (Starts p h o kids && not (is_boundary layout_marks (marks_above p) o)) (some_climbs layout_marks hs (marks_above p) rest) e) [
          | inl a ↦ climb_out above (judge.is_firm p r) (is_reached judge p r) (is_boundary layout_marks (marks_above p) o) (Starts p h o kids)
              (start_inside p h o kids inside (OuterListedInside judge hs inside q kids (children_of r)) (OuterFirmEnds judge inside q kids (children_of r)) listed_in.0 listed_in.1 firm.1
              (λ x y c. climbs_inside inside q kids (children_of r) x y c)) firm.0 a
          | inr a ↦ climbs_inside above p rest rs listed_in.2 firm.2 a
        ]

    pub flag_inside : (flag start inside : Bool) → (flag ≡ true → inside ≡ true) → (start ≡ true → inside ≡ true) → (flag || (start && true)) ≡ true → inside ≡ true
    flag_inside true start inside before now e = before refl
    flag_inside false start inside before now e = now (and_parts start true e).0

    below_by : (list : Bool) (A Y Z V W : Type 0) → ListOr list A Y → UnlessList list Z → UnlessList list V → (Y → Z → V → W) → UnlessList list W
    below_by true A Y Z V W y z v go = tt
    below_by false A Y Z V W y z v go = go y z v

    pub outer_marks_inside : (above : Bool) (p : RegionPlace) (f : Forest RenderObject) (rs : Renders) → OuterListedInside judge hs above p f rs → OuterFirmEnds judge above p f rs
        → OuterFlagsInside judge above p f rs → OuterFlagsInside judge above p (sweep layout_marks true hs (marks_above p) f) rs
    outer_marks_inside above p none rs listed_in firm flags = tt
    outer_marks_inside above p (tree h o kids rest) no_renders listed_in firm flags = absurd listed_in
    outer_marks_inside above p (tree h o kids rest) (more_renders r rs) listed_in firm flags =
        let q : RegionPlace = below p (object_look o) in
        let inside : Bool = is_inside judge above p r in
        let started : Starts p h o kids ≡ true → inside ≡ true =
        start_inside p h o kids inside (OuterListedInside judge hs inside q kids (children_of r)) (OuterFirmEnds judge inside q kids (children_of r)) listed_in.0 listed_in.1 firm.1
        (λ x y c. climbs_inside inside q kids (children_of r) x y c) in (
          (λ shown. (
            flag_inside o.needs_layout (Starts p h o kids) inside (flags.0 shown).0 started,
            below_by (is_list (object_look o)) (Climbs p o kids ≡ true → inside ≡ true) (OuterListedInside judge hs inside q kids (children_of r)) (OuterFirmEnds judge inside q kids (children_of r))
                (OuterFlagsInside judge inside q kids (children_of r)) (OuterFlagsInside judge inside q (sweep layout_marks true hs (marks_above q) kids) (children_of r))
                listed_in.1 firm.1 (flags.0 shown).1 (λ a b c. outer_marks_inside inside q kids (children_of r) a b c),
          )),
          outer_marks_inside above p rest rs listed_in.2 firm.2 flags.1,
        )

    -- a root's tree
    pub root_marks_inside : (h : Handle) (o : RenderObject) (kids : Forest RenderObject) (top : Render)
        → OuterListedInside judge hs (reaches_out judge at_root top) at_root (tree h o kids none) (more_renders top no_renders)
        → OuterFirmEnds judge (reaches_out judge at_root top) at_root (tree h o kids none) (more_renders top no_renders)
        → RootOuterInside judge (tree h o kids none) top → RootOuterInside judge (sweep layout_marks true hs (marks_above at_root) (tree h o kids none)) top
    root_marks_inside h o kids top listed_in firm flags =
        let q : RegionPlace = below at_root (object_look o) in
        let inside : Bool = is_inside judge (reaches_out judge at_root top) at_root top in
        let started : Starts at_root h o kids ≡ true → inside ≡ true =
        start_inside at_root h o kids inside (OuterListedInside judge hs inside q kids (children_of top)) (OuterFirmEnds judge inside q kids (children_of top)) listed_in.0 listed_in.1 firm.1
        (λ x y c. climbs_inside inside q kids (children_of top) x y c) in (
          flag_inside o.needs_layout (Starts at_root h o kids) inside flags.0 started,
          below_by (is_list (object_look o)) (Climbs at_root o kids ≡ true → inside ≡ true) (OuterListedInside judge hs inside q kids (children_of top)) (OuterFirmEnds judge inside q kids (children_of top))
              (OuterFlagsInside judge inside q kids (children_of top)) (OuterFlagsInside judge inside q (sweep layout_marks true hs (marks_above q) kids) (children_of top))
              listed_in.1 firm.1 flags.1 (λ a b c. outer_marks_inside inside q kids (children_of top) a b c),
        )

    -- ---- what is reached is in the region

    pub outer_reached_inside : (above : Bool) (p : RegionPlace) (f : Forest RenderObject) (rs : Renders) → AreOuter f rs → (some_reaches_out judge p rs ≡ true → above ≡ true) → AreOuterReached judge hs p f rs → OuterListedInside judge hs above p f rs
    outer_reached_inside above p none rs outer out reached = tt
    outer_reached_inside above p (tree h o kids rest) no_renders outer out reached = absurd reached
    outer_reached_inside above p (tree h o kids rest) (more_renders (render number look told scroll count children) rs) outer out reached =
        let q : RegionPlace = below p (object_look o) in
        let r : Render = render number look told scroll count children in
        let inside : Bool = is_inside judge above p r in
        let into : is_reached judge p r ≡ true → inside ≡ true = reached_inside judge above p r (λ e. out (or_left (reaches_out judge p r) (some_reaches_out judge p rs) e)) in
        let under : some_reaches_out judge q children ≡ true → inside ≡ true =
        λ e. into (or_right (judge.is_changed p r) (some_reaches_out judge (below p look) children) (ap (λ l. some_reaches_out judge (below p l) children) (sym outer.0.look) ∙ e)) in (
          (λ e. into (reached.0 e)),
          kids_in (is_list (object_look o)) (Climbs p o kids) (is_reached judge p r) inside (AreOuter kids children) (AreOuterReached judge hs q kids children) (OuterListedInside judge hs inside q kids children)
              into outer.1 (λ a b. outer_reached_inside inside q kids children a under b) reached.1,
          outer_reached_inside above p rest rs outer.2 (λ e. out (or_right (reaches_out judge p r) (some_reaches_out judge p rs) e)) reached.2,
        )
      where
        kids_in : (list climbs reached inside : Bool) (X Y Z : Type 0) → (reached ≡ true → inside ≡ true) → UnlessList list X → (X → Y → Z) → ListOr list (climbs ≡ true → reached ≡ true) Y → ListOr list (climbs ≡ true → inside ≡ true) Z
        kids_in true climbs reached inside X Y Z into x go items = λ e. into (items e)
        kids_in false climbs reached inside X Y Z into x go items = go x items

-- ---- another view

by_view : (before : Before) (p : RegionPlace) (r : Render) → p.top ≡ true → before.same_view ≡ false → (x : Option Standing) → is_changed_since x before p r ≡ true
by_view before p r top view None = refl
by_view before p r top view (Some was) =
    or_right (not (is_same_for_layout was.node r)) (is_touched before.touched r || is_changed_root before was.place p)
    (or_right (is_touched before.touched r) (is_changed_root before was.place p) (other was.place.top p.top before.same_view top view))
  where
    other : (was_top now_top same : Bool) → now_top ≡ true → same ≡ false → (now_top && not (was_top && same)) ≡ true
    other true true true e f = absurd (false≢true (sym f))
    other false true true e f = refl
    other true true false e f = refl
    other false true false e f = refl
    other w false same e f = absurd (false≢true e)

pub root_in_other_view : (before : Before) (top : Render) → before.same_view ≡ false → is_inside (frame_judge before) (reaches_out (frame_judge before) at_root top) at_root top ≡ true
root_in_other_view before (render number look told scroll count children) view =
    let judge : Judge = frame_judge before in
    let r : Render = render number look told scroll count children in
    reached_inside judge (reaches_out judge at_root r) at_root r (λ e. e)
    (or_left (judge.is_changed at_root r) (some_reaches_out judge (below at_root look) children) (by_view before at_root r refl view (standing before.tree number)))

whole_region : (before : Before) (top : Render) → before.same_view ≡ false → length (layout_region before top) ≡ length (render_numbers_of top)
whole_region before (render number look told scroll count children) view = by_all (reaches_out judge at_root r) (root_in_other_view before r view)
  where
    judge : Judge
    judge = frame_judge before

    r : Render
    r = render number look told scroll count children

    by_inside : (inside : Bool) → inside ≡ true → length ((if inside then number ∷ [] else []) ++ region_below judge inside (below at_root look) children) ≡ length (number ∷ render_numbers_in children)
    by_inside true e = let a = ap length (region_all_below judge (below at_root look) children) in omega (arith, a)
    by_inside false e = absurd (false≢true e)

    by_all : (all : Bool) → is_inside judge all at_root r ≡ true → length (region_in judge all at_root r) ≡ length (number ∷ render_numbers_in children)
    by_all all e = by_inside (is_inside judge all at_root r) e

-- ---- the rules that an outer flush runs

-- the root counts as in the window
shown_here : (P : LayoutParts) (v : LayoutNode) (kids : Forest LayoutNode) → Here P v kids → Here P (record v { shown = true; offset = Some origin }) kids
shown_here P v kids here = record {
  consistent = λ e. let g = here.consistent e in record {
    ask = g.ask;
    asked = g.asked;
    gives = record { facts = g.gives.facts; scroll = g.gives.scroll; placed = g.gives.placed };
  };
  closed = here.closed;
  marked = here.marked;
}

rooted_here : (P : LayoutParts) (h : Handle) (o : RenderObject) (kids : Forest RenderObject) → HereAll P (layout_nodes (tree h o kids none)) → HereAll P (rooted (tree h o kids none))
rooted_here P h o kids here = (shown_here P (layout_node o) (layout_nodes kids) here.0, here.1, tt)

known_root : (view : Size) (h : Handle) (o : RenderObject) (kids : Forest RenderObject) → IsAskedAs view (tree h o kids none) → AreKnown (view_asks view) (rooted (tree h o kids none))
known_root view h o kids asks = (record { shown = refl; asked = asks }, tt)

by_same_view : (s : Setting) (before : Before) (view : Size) (h : Handle) (o : RenderObject) (kids : Forest RenderObject) (top : Render) → AreOuter (tree h o kids none) (more_renders top no_renders)
    → HereAll (parts_of s) (rooted (tree h o kids none)) → RootOuterInside (frame_judge before) (tree h o kids none) top
    → (b : Bool) → before.same_view ≡ b → (before.same_view ≡ true → IsAskedAs view (tree h o kids none))
    → ticks (parts_of s) true (view_asks view) (rooted (tree h o kids none)) ≤ length (layout_region before top)
by_same_view s before view h o kids top outer here flags true e asks =
    let few = due_outer s (view_asks view) (rooted (tree h o kids none)) here (known_root view h o kids (asks e)) in
    let inside = root_due_inside (frame_judge before) h o kids top outer flags in
    omega (arith, few, inside)
by_same_view s before view h o kids top outer here flags false e asks =
    let few = few_outer s (view_asks view) (rooted (tree h o kids none)) here in
    let sized : outer_size (layout_nodes (tree h o kids none)) ≤ length (render_numbers_in (more_renders top no_renders)) = outer_few (tree h o kids none) (more_renders top no_renders) outer in
    let whole = whole_region before top e in
    let all : length (render_numbers_in (more_renders top no_renders)) ≡ length (render_numbers_of top) = ap length (append-nil (render_numbers_of top)) in
    omega (arith, few, sized, whole, all)

pub outer_layouts_inside : (s : Setting) (before : Before) (view : Size) (h : Handle) (o : RenderObject) (kids : Forest RenderObject) (top : Render) → AreOuter (tree h o kids none) (more_renders top no_renders)
    → HereAll (parts_of s) (layout_nodes (tree h o kids none)) → RootOuterInside (frame_judge before) (tree h o kids none) top → (before.same_view ≡ true → IsAskedAs view (tree h o kids none))
    → ticks (parts_of s) true (view_asks view) (rooted (tree h o kids none)) ≤ length (layout_region before top)
outer_layouts_inside s before view h o kids top outer here flags asks = by_same_view s before view h o kids top outer (rooted_here (parts_of s) h o kids here) flags before.same_view refl asks
