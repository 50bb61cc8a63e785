-- A frame whose second phase has a fault: what its one layout counts.
use Rattle.std.proofs.Common.{◌≡◌, ℕ, ◌+◌, ◌≤◌, Bool, true, false, not, ◌||◌, ◌&&◌, if◌then◌else◌, Some, None, List, [], ◌∷◌, ◌++◌, length, refl, sym, ap, ◌∙◌, subst, Decides, arith}
use Rattle.std.proofs.lemmas.Bool.{and_parts, and_from, or_left, or_right, false≢true}
use Rattle.std.proofs.lemmas.List.{append-nil, length-append}
use Rattle.std.specs.Option.{option_to_list}
use Rattle.fx_geom.specs.declared.shapes.Size.{Size}
use Rattle.fx_handles.specs.declared.Handle.{Handle}
use Rattle.node_tree.specs.Forest.{Forest, tops, Stands}
use Rattle.node_tree.specs.Forest.Forest.{none, tree}
use Rattle.node_tree.specs.Tree.{Tree, Is, node_at}
use Rattle.plain_tree.specs.declared.render.ParentData.{ParentData}
use Rattle.plain_tree.specs.Laws.{AllDiffer, render_numbers_of, render_numbers_in}
use Rattle.plain_tree.specs.Render.{Render, render, Renders, no_renders, more_renders}
use Rattle.tree_marks.specs.Marking.{Above, at_top, within}
use Rattle.tree_marks.specs.Marks.{listed, has_listed, some_climbs, sweep}
use Rattle.widget_model.specs.Look.{Look}
use Rattle.work_roles.specs.Place.{RegionPlace, at_root, below}
use Rattle.work_roles.specs.WorkRole.{is_sliver_lazy}
use Rattle.work_sets.specs.Before.{Before}
use Rattle.work_sets.specs.InTree.{children_of, look_of, standing}
use Rattle.work_sets.specs.Layout.{is_told_same, is_changed, is_changed_since, idle_judge, frame_judge, first_judge, layout_region, first_region}
use Rattle.work_sets.specs.Region.{Judge, is_reached, is_inside, reaches_out, some_reaches_out, region_in, region_below, region_of}
use Rattle.layout_form.specs.Object.{Setting}
use Rattle.layout_walk.specs.Flush.{ticks}
use Rattle.layout_walk.specs.Here.{HereAll}
use Rattle.layout_walk.specs.Node.{LayoutNode}
use Rattle.layout_walk.specs.Rules.{parts_of, is_list}
use Rattle.layout_owner.specs.Roots.{in_window, rooted, view_asks, top_render, IsAskedAs}
use Rattle.layout_rules.specs.Nodes.{layout_nodes}
use Rattle.kept_layouts.specs.Items.{all_without_items}
use Rattle.render_tree.specs.Marks.{layout_marks}
use Rattle.render_tree.specs.Object.{RenderObject, object_look}
use Rattle.render_tree.specs.Plain.{renders_of, root_tree}
use Rattle.screen_owner.proofs.Showing.{root_forest}
use Rattle.build_walk.specs.Changing.{render_over}
use Rattle.counted_work.specs.Caused.{NewAreUnlaid, LayoutsAreCaused}
use Rattle.counted_work.specs.Inside.{marks_above, RootFlagsInside}
use Rattle.counted_work.specs.Windows.{WindowsStay, AllWindowsStay}
use Rattle.counted_work.proofs.Differing.{differ_tree}
use Rattle.counted_work.proofs.Painted.{swept_paints}
use Rattle.counted_work.proofs.Synced.{lone_root}
use Rattle.counted_phases.specs.Framed.{OuterHaveFrames, OuterAsBefore}
use Rattle.counted_phases.specs.Outer.{UnlessList, ListOr, AreOuter, RootOuterInside, AreOuterReached}
use Rattle.counted_phases.specs.Unreached.{AreOuterDiffering}
use Rattle.frame_owner.specs.Working.{LaysLists}
use Rattle.counted_frames.proofs.Outer.{one_tree}
use Rattle.counted_frames.proofs.First.{claimed, changed, both_marks, mid_is, outer_is, here, as_before, frames_of, asked_in, differs, same_nodes}

-- ---- a region by more causes is larger

module _ (j k : Judge) (firm : (p : RegionPlace) (r : Render) → j.is_firm p r ≡ k.is_firm p r) (more : (p : RegionPlace) (r : Render) → j.is_changed p r ≡ true → k.is_changed p r ≡ true) where
  or_more : (a b c d : Bool) → (a ≡ true → c ≡ true) → (b ≡ true → d ≡ true) → (a || b) ≡ true → (c || d) ≡ true
  or_more true b c d f g e = or_left c d (f refl)
  or_more false b c d f g e = or_right c d (g e)

  mutual
    out_more : (p : RegionPlace) (r : Render) → reaches_out j p r ≡ true → reaches_out k p r ≡ true
    out_more p (render number look told scroll count children) e =
        let r = render number look told scroll count children in
        let parts = and_parts (j.is_changed p r || some_reaches_out j (below p look) children) (not (j.is_firm p r)) e in
        and_from (k.is_changed p r || some_reaches_out k (below p look) children) (not (k.is_firm p r))
        (or_more (j.is_changed p r) (some_reaches_out j (below p look) children) (k.is_changed p r) (some_reaches_out k (below p look) children) (more p r) (all_out_more (below p look) children) parts.0)
        (ap not (sym (firm p r)) ∙ parts.1)

    all_out_more : (p : RegionPlace) (rs : Renders) → some_reaches_out j p rs ≡ true → some_reaches_out k p rs ≡ true
    all_out_more p no_renders e = e
    all_out_more p (more_renders r rs) e = or_more (reaches_out j p r) (some_reaches_out j p rs) (reaches_out k p r) (some_reaches_out k p rs) (out_more p r) (all_out_more p rs) e

  inside_more : (a b : Bool) (p : RegionPlace) (number : ℕ) (look : Look) (told : ParentData) (scroll count : ℕ) (children : Renders) → (a ≡ true → b ≡ true)
      → is_inside j a p (render number look told scroll count children) ≡ true → is_inside k b p (render number look told scroll count children) ≡ true
  inside_more a b p number look told scroll count children f e =
      let r = render number look told scroll count children in
      or_more a (j.is_firm p r && is_reached j p r) b (k.is_firm p r && is_reached k p r) f (λ x.
      let parts = and_parts (j.is_firm p r) (is_reached j p r) x in
      and_from (k.is_firm p r) (is_reached k p r) (sym (firm p r) ∙ parts.0)
      (or_more (j.is_changed p r) (some_reaches_out j (below p look) children) (k.is_changed p r) (some_reaches_out k (below p look) children) (more p r) (all_out_more (below p look) children) parts.1)) e

  own_more : (a b : Bool) (n : ℕ) → (a ≡ true → b ≡ true) → length (if a then n ∷ [] else []) ≤ length (if b then n ∷ [] else [])
  own_more true true n f = omega arith
  own_more true false n f = absurd (false≢true (f refl))
  own_more false true n f = omega arith
  own_more false false n f = omega arith

  mutual
    region_more : (a b : Bool) (p : RegionPlace) (r : Render) → (a ≡ true → b ≡ true) → length (region_in j a p r) ≤ length (region_in k b p r)
    region_more a b p (render number look told scroll count children) f =
        let r = render number look told scroll count children in
        let x = is_inside j a p r in
        let y = is_inside k b p r in
        let into = inside_more a b p number look told scroll count children f in
        let own = own_more x y number into in
        let inner = all_region_more x y (below p look) children into in
        let one = length-append (if x then number ∷ [] else []) (region_below j x (below p look) children) in
        let two = length-append (if y then number ∷ [] else []) (region_below k y (below p look) children) in
        omega (arith, own, inner, one, two)

    all_region_more : (a b : Bool) (p : RegionPlace) (rs : Renders) → (a ≡ true → b ≡ true) → length (region_below j a p rs) ≤ length (region_below k b p rs)
    all_region_more a b p no_renders f = omega arith
    all_region_more a b p (more_renders r rs) f =
        let here = region_more a b p r f in
        let later = all_region_more a b p rs f in
        let one = length-append (region_in j a p r) (region_below j a p rs) in
        let two = length-append (region_in k b p r) (region_below k b p rs) in
        omega (arith, here, later, one, two)

  pub whole_more : (r : Render) → length (region_of j r) ≤ length (region_of k r)
  whole_more r = region_more (reaches_out j at_root r) (reaches_out k at_root r) at_root r (out_more at_root r)

-- ---- the layout of the lists

-- the laws of first phases
pub record FirstLaws : Type 0 where
  pub flags : (before : Before) (old : Tree RenderObject) (h k : Handle) (o w : RenderObject) (kids under : Forest RenderObject) (top : Render)
      → before.tree ≡ Some (render_over o kids) → AllDiffer (render_numbers_of (render_over o kids)) → Stands (node_at old) None (tree h o kids none)
      → OuterAsBefore old (tree k w under none) → AreOuter (tree k w under none) (more_renders top no_renders)
      → RootFlagsInside (idle_judge before) (tree h o kids none) → RootOuterInside (frame_judge before) (tree k w under none) top
  pub first : (before : Before) (h : Handle) (o : RenderObject) (kids : Forest RenderObject) (top : Render) → before.tree ≡ None
      → AreOuter (tree h o kids none) (more_renders top no_renders) → RootOuterInside (frame_judge before) (tree h o kids none) top
  pub reached : (before : Before) (old : Tree RenderObject) (claimed : Handle → Bool) (hs : List Handle) (p : RegionPlace) (last : Render) (f : Forest RenderObject) (rs : Renders)
      → before.tree ≡ Some last → AllDiffer (render_numbers_of last) → AreOuter f rs → AllWindowsStay before rs
      → AreOuterDiffering before old claimed hs p f rs → AreOuterReached (frame_judge before) hs p f rs
  pub marks : (before : Before) (hs : List Handle) (h : Handle) (o : RenderObject) (kids : Forest RenderObject) (top : Render)
      → AreOuter (tree h o kids none) (more_renders top no_renders) → OuterHaveFrames before.frames (tree h o kids none)
      → AreOuterReached (frame_judge before) hs at_root (tree h o kids none) (more_renders top no_renders)
      → RootOuterInside (frame_judge before) (tree h o kids none) top → RootOuterInside (frame_judge before) (sweep layout_marks true hs at_top (tree h o kids none)) top
  pub layouts : (s : Setting) (before : Before) (view : Size) (h : Handle) (o : RenderObject) (kids : Forest RenderObject) (top : Render)
      → AreOuter (tree h o kids none) (more_renders top no_renders) → HereAll (parts_of s) (layout_nodes (tree h o kids none))
      → RootOuterInside (frame_judge before) (tree h o kids none) top → (before.same_view ≡ true → IsAskedAs view (tree h o kids none))
      → ticks (parts_of s) true (view_asks view) (rooted (tree h o kids none)) ≤ length (layout_region before top)

swept_outer : (hs : List Handle) (a : Above) (f : Forest RenderObject) (rs : Renders) → AreOuter f rs → AreOuter (sweep layout_marks true hs a f) rs
swept_outer hs a none rs outer = outer
swept_outer hs a (tree h o kids rest) no_renders outer = outer
swept_outer hs a (tree h o kids rest) (more_renders r rs) outer =
    (record { number = outer.0.number; look = outer.0.look; told = outer.0.told; count = outer.0.count }, by_list (is_list (object_look o)) outer.1 (λ x. swept_outer hs (within layout_marks a o) kids (children_of r) x), swept_outer hs a rest rs outer.2)
  where
    by_list : (b : Bool) → {A B : Type 0} → UnlessList b A → (A → B) → UnlessList b B
    by_list true x go = tt
    by_list false x go = go x

-- before the first frame each node is changed
none_reached : (before : Before) (hs : List Handle) → before.tree ≡ None → (p : RegionPlace) (f : Forest RenderObject) (rs : Renders) → AreOuter f rs → AreOuterReached (frame_judge before) hs p f rs
none_reached before hs was p none rs outer = tt
none_reached before hs was p (tree h o kids rest) no_renders outer = absurd outer
none_reached before hs was p (tree h o kids rest) (more_renders (render number look told scroll count children) rs) outer =
    ((λ is. here), by_list (is_list (object_look o)) outer.1 (λ x. none_reached before hs was (below p (object_look o)) kids children x), none_reached before hs was p rest rs outer.2)
  where
    r : Render
    r = render number look told scroll count children

    here : is_reached (frame_judge before) p r ≡ true
    here = or_left (is_changed before p r) (some_reaches_out (frame_judge before) (below p look) children) (ap (λ t. is_changed_since (standing t number) before p r) was)

    by_list : (b : Bool) → UnlessList b (AreOuter kids children) → (AreOuter kids children → AreOuterReached (frame_judge before) hs (below p (object_look o)) kids children)
        → ListOr b (some_climbs layout_marks hs (marks_above (below p (object_look o))) kids ≡ true → is_reached (frame_judge before) p r ≡ true) (AreOuterReached (frame_judge before) hs (below p (object_look o)) kids children)
    by_list true x go = λ climbs. here
    by_list false x go = go x

module _ (laws : FirstLaws) (told_same : (a b : ParentData) → Decides (is_told_same a b) (a ≡ b)) (s : Setting) (view : Size) (old : Tree RenderObject) (top : Render) (lo ln : ℕ) (lists : LaysLists s view old lo ln)
    (whole_is : all_without_items (renders_of (root_tree lists.mid)) ≡ all_without_items (more_renders top no_renders)) (before : Before) (caused : LayoutsAreCaused before old) (unlaid : NewAreUnlaid before.frames old top)
    (asks : before.same_view ≡ true → IsAskedAs view (root_tree old)) (windows : WindowsStay before top) (apart : AllDiffer (render_numbers_of top)) where
  abbrev tops_only : Renders
  tops_only = more_renders top no_renders

  abbrev hs : List Handle
  hs = changed s view old top lo ln lists whole_is

  apart_all : AllDiffer (render_numbers_in tops_only)
  apart_all = subst AllDiffer (sym (append-nil (render_numbers_of top))) apart

  old_is : root_tree old ≡ lists.before.tree.0
  old_is = root_forest old lists.before.tree.0 lists.before.alone lists.before.tree.1

  one_some : (x : Handle) (xs : List Handle) → x ∷ xs ≡ [] → ⊥
  one_some x xs e = cc

  module _ (h : Handle) (o : RenderObject) (kids : Forest RenderObject) (nodes_is : lists.first.nodes ≡ tree h o kids none) where
    abbrev f : Forest RenderObject
    f = tree h o kids none

    outer : AreOuter f tops_only
    outer = subst (λ g. AreOuter g tops_only) nodes_is (outer_is s view old top lo ln lists whole_is)

    framed : OuterHaveFrames before.frames f
    framed = subst (OuterHaveFrames before.frames) nodes_is (frames_of s view old top lo ln lists whole_is before.frames caused.frames unlaid)

    alike : OuterAsBefore old f
    alike = subst (OuterAsBefore old) nodes_is (as_before s view old top lo ln lists whole_is)

    abbrev Both : Type 0
    Both = AreOuterReached (frame_judge before) hs at_root f tops_only × RootOuterInside (frame_judge before) f top

    both : Both
    both = by_old lists.before.tree.0 lists.before.tree.1 (caused.tree ∙ ap (λ g. top_render (renders_of g)) old_is) (subst (RootFlagsInside (idle_judge before)) old_is caused.flags)
      where
        by_old : (g : Forest RenderObject) → Is old g → before.tree ≡ top_render (renders_of g) → RootFlagsInside (idle_judge before) g → Both
        by_old none is was flags = (none_reached before hs was at_root f tops_only outer, laws.first before h o kids top was outer)
        by_old (tree j v under (tree i x inner rest)) is was flags =
            absurd (one_some i (tops rest) (lone_root old.root j (i ∷ tops rest) (ap (λ xs. option_to_list old.root ++ xs) (sym lists.before.alone) ∙ is.tops)).1)
        by_old (tree j v under none) is was flags =
            let apart_old : AllDiffer (render_numbers_of (render_over v under)) =
            subst AllDiffer (append-nil (render_numbers_of (render_over v under)))
            (subst (λ g. AllDiffer (render_numbers_in (renders_of g))) (root_forest old (tree j v under none) lists.before.alone is) (differ_tree old lists.before.tree lists.before.alone lists.before.differ)) in (
              laws.reached before old (claimed s view old top lo ln lists whole_is) hs at_root (render_over v under) f tops_only was apart_old outer (windows, tt)
                  (subst (λ g. AreOuterDiffering before old (claimed s view old top lo ln lists whole_is) hs at_root g tops_only) nodes_is (differs s view old top lo ln lists whole_is before told_same caused apart_all)),
              laws.flags before old j h v o under kids top was apart_old is.stands alike outer flags,
            )

    few : ticks (parts_of s) true (view_asks view) (rooted (sweep layout_marks true hs at_top f)) ≤ length (layout_region before top)
    few =
        laws.layouts s before view h (marked_top) (sweep layout_marks true hs (within layout_marks at_top o) kids) top (swept_outer hs at_top f tops_only outer)
        (subst (λ g. HereAll (parts_of s) (layout_nodes (sweep layout_marks true hs at_top g))) nodes_is (here s view old top lo ln lists whole_is))
        (laws.marks before hs h o kids top outer framed both.0 both.1)
        (λ e. subst (λ g. IsAskedAs view (sweep layout_marks true hs at_top g)) nodes_is (asked_in s view old top lo ln lists whole_is (asks e)))
      where
        marked_top : RenderObject
        marked_top = layout_marks.marked ((listed h hs || some_climbs layout_marks hs (within layout_marks at_top o) kids) && true) (has_listed hs kids || (true && listed h hs)) o

    mid_nodes : layout_nodes (root_tree lists.mid) ≡ layout_nodes (sweep layout_marks true hs at_top f)
    mid_nodes =
        ap layout_nodes (mid_is s view old top lo ln lists whole_is)
        ∙ (sym (same_nodes (sweep layout_marks true hs at_top lists.first.nodes) (both_marks s view old top lo ln lists whole_is lists.first.nodes)
        (swept_paints true (lists.first.painted ++ lists.first.lost) at_top (sweep layout_marks true hs at_top lists.first.nodes))) ∙ ap (λ g. layout_nodes (sweep layout_marks true hs at_top g)) nodes_is)

    counted : ln ≤ lo + length (layout_region before top)
    counted =
        let all = subst (λ (m : Forest LayoutNode). ln ≤ lo + ticks (parts_of s) true (view_asks view) (in_window m)) mid_nodes lists.counts.ticks in
        let less = few in
        omega (arith, all, less)

  first_more : length (layout_region before top) ≤ length (first_region before top)
  first_more = whole_more (frame_judge before) (first_judge before) (λ p r. refl) (λ p r e. or_left (is_changed before p r) (is_sliver_lazy (look_of r)) e) top

  pub lists_counted : ln ≤ lo + length (first_region before top)
  lists_counted =
      let one = one_tree lists.first.nodes top (outer_is s view old top lo ln lists whole_is) in
      let few = counted one.0 one.1 one.2 one.3 in
      let more = first_more in
      omega (arith, few, more)
