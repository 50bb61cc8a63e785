-- What the first phase of a build marks differs: an outer node from that of the last frame with its number; and an item that is left lost a
-- child.
use Rattle.std.proofs.Common.{◌≡◌, ℕ, Bool, true, false, eqb, cond, if◌then◌else◌, Option, Some, None, option_map, List, ◌++◌, refl, sym, ap, ◌∙◌, subst, Decides}
use Rattle.std.specs.Option.{option_or}
use Rattle.fx_handles.specs.declared.Handle.{Handle}
use Rattle.node_tree.specs.Forest.{TreeNode, Forest, tops, Stands, pruned, below as forest_below}
use Rattle.node_tree.specs.Forest.Forest.{none, tree}
use Rattle.node_tree.specs.Tree.{Tree, IsTree, node_at, children_of as children_in, subtree_at}
use Rattle.plain_tree.specs.declared.render.ParentData.{ParentData}
use Rattle.plain_tree.specs.Laws.{AllDiffer, render_numbers_of}
use Rattle.plain_tree.specs.Render.{Render, render, Renders, no_renders, more_renders}
use Rattle.tree_marks.specs.Marks.{listed}
use Rattle.work_roles.specs.Place.{RegionPlace, at_root, below}
use Rattle.work_roles.specs.WorkRole.{is_offstage}
use Rattle.work_sets.specs.Before.{Before}
use Rattle.work_sets.specs.InTree.{Standing, standing, standing_at, standing_in, number_of, children_of}
use Rattle.work_sets.specs.Layout.{is_told_same}
use Rattle.work_sets.proofs.Found.{Finds, FindsAll, found}
use Rattle.layout_walk.specs.Rules.{is_list}
use Rattle.render_tree.specs.Changes.{BecomesRoot}
use Rattle.render_tree.specs.Object.{RenderObject, object_look}
use Rattle.render_tree.specs.Tree.{object_at}
use Rattle.render_sync.specs.Numbering.{NumbersDiffer}
use Rattle.build_walk.specs.Changing.{AreStored, StoodBelow, AreSizedSame, KeepsForLayout, render_over}
use Rattle.counted_work.specs.Caused.{FramesAgree}
use Rattle.counted_work.proofs.Twins.{IsCarried, AreCarried}
use Rattle.counted_phases.specs.Left.{some_claimed, AreBereft, AreUnclaimed, AreLeftItems}
use Rattle.counted_phases.specs.Outer.{UnlessList, ListOr, IsOuter, AreOuter}
use Rattle.counted_phases.specs.Unreached.{StaysAsRead, IsBereft, AreOuterDiffering}
use Rattle.kept_phases.specs.Parts.{RedrawsPart}
use Rattle.counted_frames.proofs.Planned.{no_some, some_is, AllStored, HoldLeft}
use Rattle.counted_frames.proofs.Part.{made_stands, made_object, stands_stored, was_below, unlisted}
use Rattle.counted_frames.proofs.Outer.{ListsFree}
use Rattle.counted_frames.proofs.Was.{WasNode, root_was, have_frames, finds_standing}
use Rattle.counted_frames.proofs.Kept.{AreStill, none_pruned, none_claimed, outer_still, own_still}

-- ---- what stands below what was found

module _ (S : ℕ → Option Standing) where
  this_below : (wanted : ℕ) (p : RegionPlace) (r : Render) (st : Standing) (b : Bool) (other : Option Standing) → Finds S p r → (other ≡ Some st → Finds S st.place st.node)
      → cond b (Some (record { place = p; node = r })) other ≡ Some st → Finds S st.place st.node
  this_below wanted p r st true other finds go e = subst (λ (x : Standing). Finds S x.place x.node) (some_is (record { place = p; node = r }) st e) finds
  this_below wanted p r st false other finds go e = go e

  or_below : (a b : Option Standing) (st : Standing) → (a ≡ Some st → Finds S st.place st.node) → (b ≡ Some st → Finds S st.place st.node) → option_or a b ≡ Some st → Finds S st.place st.node
  or_below (Some x) b st f g e = f e
  or_below None b st f g e = g e

  mutual
    found_below : (wanted : ℕ) (p : RegionPlace) (r : Render) (st : Standing) → Finds S p r → standing_at wanted p r ≡ Some st → Finds S st.place st.node
    found_below wanted p (render number look told scroll count children) st finds e =
        this_below wanted p (render number look told scroll count children) st (eqb number wanted) (standing_in wanted (below p look) children) finds
        (λ under. all_found_below wanted (below p look) children st finds.1 under) e

    all_found_below : (wanted : ℕ) (p : RegionPlace) (rs : Renders) (st : Standing) → FindsAll S p rs → standing_in wanted p rs ≡ Some st → Finds S st.place st.node
    all_found_below wanted p no_renders st finds e = no_some st e
    all_found_below wanted p (more_renders r rs) st finds e =
        or_below (standing_at wanted p r) (standing_in wanted p rs) st (λ this. found_below wanted p r st finds.0 this) (λ later. all_found_below wanted p rs st finds.1 later) e

-- ---- the first phase of a build

module _ (old mid : Tree RenderObject) (first : RedrawsPart old mid) (claimed : Handle → Bool) (is_old : IsTree old)
    (root_alone : (k : Handle) (n : TreeNode RenderObject) → first.committed.root ≡ Some k → node_at first.committed k ≡ Some n → n.parent ≡ None) where
  abbrev made : Tree RenderObject
  made = first.made

  abbrev hs : List Handle
  hs = first.laid ++ first.lost

  abbrev Node : Option Handle → Handle → RenderObject → Forest RenderObject → Type 0
  Node q k w under = node_at first.committed k ≡ Some (record { parent = q; children = tops under; value = w })

  -- a node below another one is no root
  below_root : (q k : Handle) (w : RenderObject) (under : Forest RenderObject) → Node (Some q) k w under → BecomesRoot made first.committed.root k → ⊥
  below_root q k w under at root = no_some q (sym (root_alone k (record { parent = Some q; children = tops under; value = w }) root.0 at))

  stored_tops : (q : Option Handle) (f : Forest RenderObject) → Stands (node_at made) q f → AreStored made f
  stored_tops q none s = tt
  stored_tops q (tree h o kids rest) s = (ap (option_map (λ (n : TreeNode RenderObject). n.value)) s.0, stored_tops q rest s.2)

  -- what stood below a node of the last frame
  stood_below : (p : Option Handle) (h : Handle) (o : RenderObject) (kids : Forest RenderObject) → node_at old h ≡ Some (record { parent = p; children = tops kids; value = o }) → Stands (node_at old) (Some h) kids → StoodBelow made h kids
  stood_below p h o kids at stands = record {
    list = sym (ap children_in (made_stands old made first.grows is_old p (tree h o kids none) (at, stands, tt)).0);
    stored = stored_tops (Some h) kids (made_stands old made first.grows is_old (Some h) kids stands);
  }

  -- ---- items that are left

  pub bereft : (q : Handle) (f : Forest RenderObject) → Stands (node_at old) (Some q) f → Stands (node_at first.committed) (Some q) (pruned claimed f) → AreBereft claimed hs f
  bereft q none stands left = tt
  bereft q (tree h o kids rest) stands left =
      by_claim (claimed h) left (λ inner. bereft h kids stands.1 inner) (λ later. bereft q rest stands.2 later)
    where
      stored : object_at made h ≡ Some o
      stored = made_object old made first.grows is_old h o (ap (option_map (λ (n : TreeNode RenderObject). n.value)) stands.0)

      lost_child : Stands (node_at first.committed) (Some q) (tree h o (pruned claimed kids) (pruned claimed rest)) → (b : Bool) → some_claimed claimed kids ≡ b → listed h hs ≡ true → b ≡ true
      lost_child s true e is = refl
      lost_child s false e is =
          let still = none_pruned claimed (is_offstage (object_look o)) kids e in
          let stood = stood_below (Some q) h o kids stands.0 stands.1 in
          absurd (unlisted old mid first is_old h o (pruned claimed kids) (Some q) s.0 s.1 o kids stored stood
          (record { own = refl; list = still.list; told = still.told }, still.sized) (below_root q h o (pruned claimed kids) s.0) is)

      by_claim : (b : Bool) → Stands (node_at first.committed) (Some q) (if b then pruned claimed rest else tree h o (pruned claimed kids) (pruned claimed rest))
          → (Stands (node_at first.committed) (Some h) (pruned claimed kids) → AreBereft claimed hs kids) → (Stands (node_at first.committed) (Some q) (pruned claimed rest) → AreBereft claimed hs rest)
          → ListOr b (Unit {0}) ((listed h hs ≡ true → some_claimed claimed kids ≡ true) × AreBereft claimed hs kids) × AreBereft claimed hs rest
      by_claim true s inner later = (tt, later s)
      by_claim false s inner later = ((lost_child s (some_claimed claimed kids) refl, inner s.1), later s.2)

module _ (before : Before) (told_same : (a b : ParentData) → Decides (is_told_same a b) (a ≡ b)) (old mid : Tree RenderObject) (first : RedrawsPart old mid) (claimed : Handle → Bool)
    (is_old : IsTree old) (differ : NumbersDiffer first.made) (agree : FramesAgree before.frames old)
    (root_alone : (k : Handle) (n : TreeNode RenderObject) → first.committed.root ≡ Some k → node_at first.committed k ≡ Some n → n.parent ≡ None) where
  abbrev made_first : Tree RenderObject
  made_first = first.made

  abbrev marked_hs : List Handle
  marked_hs = first.laid ++ first.lost

  abbrev Planned : Option Handle → Handle → RenderObject → Forest RenderObject → Type 0
  Planned q k w under = node_at first.committed k ≡ Some (record { parent = q; children = tops under; value = w })

  -- ---- a root's tree, where there was one

  module _ (h0 : Handle) (o0 : RenderObject) (kids0 : Forest RenderObject) (stands0 : Stands (node_at old) None (tree h0 o0 kids0 none)) (root0 : old.root ≡ Some h0)
      (was_tree : before.tree ≡ Some (render_over o0 kids0)) (differ0 : AllDiffer (render_numbers_of (render_over o0 kids0))) where
    was : (wanted : ℕ) (st : Standing) → standing before.tree wanted ≡ Some st → WasNode old h0 wanted st
    was wanted st e = root_was old h0 wanted o0 kids0 st stands0 (sym (ap (λ t. standing t wanted) was_tree) ∙ e)

    finds : (wanted : ℕ) (st : Standing) → standing before.tree wanted ≡ Some st → Finds (standing before.tree) st.place st.node
    finds wanted st e =
        found_below (standing before.tree) wanted at_root (render_over o0 kids0) st
        (subst (λ t. Finds (standing t) at_root (render_over o0 kids0)) (sym was_tree) (found at_root (render_over o0 kids0) differ0)) (sym (ap (λ t. standing t wanted) was_tree) ∙ e)

    -- a node that is planned, and what the render node of the whole build there is
    module _ (p : RegionPlace) (q : Option Handle) (k : Handle) (w : RenderObject) (under : Forest RenderObject) (r : Render) (at : Planned q k w under) (beneath : Stands (node_at first.committed) (Some k) under)
        (carried : IsCarried (object_at made_first) k w) (carried_below : AreCarried (object_at made_first) under) (outer : IsOuter w r) (outer_below : UnlessList (is_list (object_look w)) (AreOuter under (children_of r)))
        (left : ListOr (is_list (object_look w)) (under ≡ pruned claimed (forest_below (subtree_at made_first k))) (HoldLeft made_first claimed under))
        (free : ListOr (is_list (object_look w)) (AreUnclaimed old claimed (children_of r)) (ListsFree old made_first claimed (children_of r)))
        (no_root : (st : Standing) → (x : WasNode old h0 (number_of r) st) → x.handle ≡ k → (p.top ≡ true → st.place.top ≡ true) → BecomesRoot made_first first.committed.root k → ⊥) where
      module _ (st : Standing) (e : standing before.tree (number_of r) ≡ Some st) where
        x : WasNode old h0 (number_of r) st
        x = was (number_of r) st e

        stored_there : object_at made_first x.handle ≡ Some x.object
        stored_there = made_object old made_first first.grows is_old x.handle x.object (ap (option_map (λ (n : TreeNode RenderObject). n.value)) x.at)

        handle : x.handle ≡ k
        handle =
            differ (number_of r) x.handle k (ap (option_map (λ (o : RenderObject). o.number)) stored_there ∙ ap (λ n. Some n) x.number)
            (ap (option_map (λ (o : RenderObject). o.number)) carried.is ∙ ap (λ n. Some n) (sym carried.number ∙ outer.number))

        stored : object_at made_first k ≡ Some x.object
        stored = ap (object_at made_first) (sym handle) ∙ stored_there

        value : carried.stored ≡ x.object
        value = some_is carried.stored x.object (sym carried.is ∙ stored)

        stood : StoodBelow made_first k x.under
        stood = subst (λ y. StoodBelow made_first y x.under) handle (stood_below old mid first claimed is_old root_alone x.parent x.handle x.object x.under x.at x.stands)

        stored_below : AllStored (object_at old) x.under
        stored_below = stands_stored old made_first first.grows is_old old (Some x.handle) x.under x.stands

        made_below : AllStored (object_at made_first) x.under
        made_below = stands_stored old made_first first.grows is_old made_first (Some x.handle) x.under (made_stands old made_first first.grows is_old (Some x.handle) x.under x.stands)

        was_items : forest_below (subtree_at made_first k) ≡ x.under
        was_items = ap (λ y. forest_below (subtree_at made_first y)) (sym handle) ∙ was_below old made_first first.grows is_old x.parent x.handle x.object x.under x.at x.stands

        abbrev hidden : Bool
        hidden = is_offstage (object_look x.object)

        still_below : StaysAsRead before (render_over x.object x.under) r → (b : Bool) → UnlessList b (AreOuter under (children_of r)) → ListOr b (under ≡ pruned claimed (forest_below (subtree_at made_first k))) (HoldLeft made_first claimed under)
            → ListOr b (AreUnclaimed old claimed (children_of r)) (ListsFree old made_first claimed (children_of r)) → AreStill hidden x.under under
        still_below stays true o l f =
            subst (AreStill hidden x.under) (sym (l ∙ ap (pruned claimed) was_items))
            (none_pruned claimed hidden x.under (none_claimed before told_same old made_first differ claimed x.under (children_of r) stored_below stays.lists f))
        still_below stays false o l f =
            outer_still before told_same old made_first differ hidden x.under under (children_of r) made_below carried_below o (have_frames before.frames old (Some x.handle) x.under agree x.stands) stays.lists stays.sized

        stays_kept : StaysAsRead before (render_over x.object x.under) r → KeepsForLayout x.object x.under w under × AreSizedSame hidden x.under under
        stays_kept stays =
            let still = still_below stays (is_list (object_look w)) outer_below left free in (
              record {
                own = own_still before told_same old made_first differ x.object x.under w r outer (carried.scroll ∙ ap (λ (o : RenderObject). o.scroll) value) stays.look stays.count;
                list = still.list;
                told = still.told;
              },
              still.sized,
            )

        pub node_differs : listed k marked_hs ≡ true → (p.top ≡ true → st.place.top ≡ true) → StaysAsRead before st.node r → ⊥
        node_differs is high stays =
            unlisted old mid first is_old k w under q at beneath x.object x.under stored stood (stays_kept (subst (λ n. StaysAsRead before n r) x.node stays)) (no_root st x handle high) is

        -- a list
        pub list_bereft : is_list (object_look w) ≡ true → (l : AreLeftItems before old claimed (number_of r) under) × AreUnclaimed old claimed (children_of r) × AreBereft claimed marked_hs l.items
        list_bereft is =
            let here : under ≡ pruned claimed x.under =
            subst (λ (b : Bool). ListOr b (under ≡ pruned claimed (forest_below (subtree_at made_first k))) (HoldLeft made_first claimed under)) is left ∙ ap (pruned claimed) was_items in (
              record {
                place = st.place;
                handle = x.handle;
                list = x.object;
                items = x.under;
                number_is = x.number;
                stood = e ∙ ap (λ n. Some (record { place = st.place; node = n })) x.node;
                stands = x.stands;
                places = finds_standing before (below st.place (object_look x.object)) x.under (subst (Finds (standing before.tree) st.place) x.node (finds (number_of r) st e)).1;
                frames = have_frames before.frames old (Some x.handle) x.under agree x.stands;
                left = here;
              },
              subst (λ (b : Bool). ListOr b (AreUnclaimed old claimed (children_of r)) (ListsFree old made_first claimed (children_of r))) is free,
              bereft old mid first claimed is_old root_alone x.handle x.under x.stands (subst (λ y. Stands (node_at first.committed) (Some y) (pruned claimed x.under)) (sym handle) (subst (Stands (node_at first.committed) (Some k)) here beneath)),
            )

    -- ---- all nodes

    -- none of these becomes a root whose number the root had
    abbrev NoRoots : RegionPlace → Option Handle → Type 0
    NoRoots p q =
        (k : Handle) (w : RenderObject) (under : Forest RenderObject) (n : ℕ) (st : Standing) → Planned q k w under → (x : WasNode old h0 n st) → x.handle ≡ k → (p.top ≡ true → st.place.top ≡ true)
        → BecomesRoot made_first first.committed.root k → ⊥

    pub outer_differ : (p : RegionPlace) (q : Option Handle) (g : Forest RenderObject) (rs : Renders) → Stands (node_at first.committed) q g → AreCarried (object_at made_first) g → HoldLeft made_first claimed g → AreOuter g rs
        → ListsFree old made_first claimed rs → NoRoots p q → AreOuterDiffering before old claimed marked_hs p g rs
    outer_differ p q none rs stands carried left outer free roots = tt
    outer_differ p q (tree k w under rest) no_renders stands carried left outer free roots = absurd outer
    outer_differ p q (tree k w under rest) (more_renders (render number look told scroll count children) rs) stands carried left outer free roots = (
      (λ is st e high stays.
          node_differs p q k w under r stands.0 stands.1 carried.0 carried.1 outer.0 outer.1 left.0 free_here (λ st x same top becomes. roots k w under number st stands.0 x same top becomes) st e is high stays),
      by_list (is_list (object_look w)) refl outer.1 left.0 free_here
          (λ o l f. outer_differ (below p (object_look w)) (Some k) under children stands.1 carried.1 l o f
          (λ j v beneath n st at x same top becomes. below_root old mid first claimed is_old root_alone k j v beneath at becomes)),
      outer_differ p q rest rs stands.2 carried.2 left.1 outer.2 free.1 roots,
    )
      where
        r : Render
        r = render number look told scroll count children

        free_here : ListOr (is_list (object_look w)) (AreUnclaimed old claimed children) (ListsFree old made_first claimed children)
        free_here = subst (λ (b : Bool). ListOr b (AreUnclaimed old claimed children) (ListsFree old made_first claimed children)) (ap is_list (sym outer.0.look)) free.0

        by_list : (b : Bool) → is_list (object_look w) ≡ b → UnlessList b (AreOuter under children) → ListOr b (under ≡ pruned claimed (forest_below (subtree_at made_first k))) (HoldLeft made_first claimed under)
            → ListOr b (AreUnclaimed old claimed children) (ListsFree old made_first claimed children)
            → (AreOuter under children → HoldLeft made_first claimed under → ListsFree old made_first claimed children → AreOuterDiffering before old claimed marked_hs (below p (object_look w)) under children)
            → ListOr b (IsBereft before old claimed marked_hs under r) (AreOuterDiffering before old claimed marked_hs (below p (object_look w)) under children)
        by_list true e o l f go = λ st s. list_bereft p q k w under r stands.0 stands.1 carried.0 carried.1 outer.0 outer.1 left.0 free_here (λ st x same top becomes. roots k w under number st stands.0 x same top becomes) st s e
        by_list false e o l f go = go o l f

-- before the first frame
pub none_differ : (before : Before) (old : Tree RenderObject) (claimed : Handle → Bool) (marked : List Handle) → before.tree ≡ None → (p : RegionPlace) (g : Forest RenderObject) (rs : Renders) → AreOuter g rs → AreOuterDiffering before old claimed marked p g rs
none_differ before old claimed marked was p none rs outer = tt
none_differ before old claimed marked was p (tree k w under rest) no_renders outer = absurd outer
none_differ before old claimed marked was p (tree k w under rest) (more_renders r rs) outer = (
  (λ is st e high stays. nothing st e),
  by_list (is_list (object_look w)) outer.1 (λ o. none_differ before old claimed marked was (below p (object_look w)) under (children_of r) o),
  none_differ before old claimed marked was p rest rs outer.2,
)
  where
    nothing : {B : Type 0} (st : Standing) → standing before.tree (number_of r) ≡ Some st → B
    nothing st e = no_some st (sym (ap (λ t. standing t (number_of r)) was) ∙ e)

    by_list : (b : Bool) → UnlessList b (AreOuter under (children_of r)) → (AreOuter under (children_of r) → AreOuterDiffering before old claimed marked (below p (object_look w)) under (children_of r))
        → ListOr b (IsBereft before old claimed marked under r) (AreOuterDiffering before old claimed marked (below p (object_look w)) under (children_of r))
    by_list true o go = λ st e. nothing st e
    by_list false o go = go o
