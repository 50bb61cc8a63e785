-- The items of lazy lists, once the first phase's nodes are laid out and its Viewports put back: each is marked as it was.
use Rattle.std.proofs.Common.{◌≡◌, ℕ, Bool, true, false, ◌||◌, ◌&&◌, Option, Some, None, option_map, List, [], ◌++◌, refl, sym, ap, ◌∙◌, subst}
use Rattle.std.proofs.lemmas.Bool.{or_parts}
use Rattle.fx_handles.specs.declared.Handle.{Handle}
use Rattle.node_tree.specs.Forest.{TreeNode, Forest, tops, Stands, pruned, below as forest_below}
use Rattle.node_tree.specs.Forest.Forest.{none, tree}
use Rattle.node_tree.specs.Tree.{Tree, IsTree, node_at, children_at, subtree_at}
use Rattle.tree_marks.specs.Marking.{Above, within}
use Rattle.tree_marks.specs.Marks.{listed, has_listed, some_climbs, sweep}
use Rattle.work_roles.specs.Place.{RegionPlace, below}
use Rattle.layout_walk.specs.Node.{LayoutNode}
use Rattle.layout_walk.specs.Rules.{is_list}
use Rattle.layout_rules.specs.Nodes.{layout_nodes}
use Rattle.render_tree.specs.Marks.{layout_marks, paint_marks}
use Rattle.render_tree.specs.Object.{RenderObject, object_look}
use Rattle.render_tree.specs.Plain.{renders_of}
use Rattle.render_tree.specs.Tree.{object_at}
use Rattle.render_sync.specs.Numbering.{NumbersDiffer}
use Rattle.counted_work.proofs.Twins.{IsCarried, AreCarried}
use Rattle.counted_work.specs.Inside.{marks_above}
use Rattle.counted_phases.specs.Framed.{AllAsBefore}
use Rattle.counted_phases.specs.Left.{AreBereft, AreUnclaimed}
use Rattle.counted_phases.specs.Lists.{AreSeen, IsListLeft, ListsLeft}
use Rattle.counted_phases.specs.Outer.{UnlessList, ListOr, AreOuter}
use Rattle.layout_walk.specs.Walk.{HeldOr}
use Rattle.kept_phases.specs.Lists.{AreScrolledOtherwise, scrolled_as}
use Rattle.kept_phases.specs.Parts.{RedrawsPart}
use Rattle.counted_frames.proofs.Planned.{some_is, AllStored, HoldLeft}
use Rattle.counted_frames.proofs.Part.{made_object, was_below}
use Rattle.counted_frames.proofs.Outer.{ListsFree}
use Rattle.counted_frames.proofs.Differs.{bereft}
use Rattle.counted_frames.proofs.Laid.{AreAlike, ListsAlike, none_climbs}

-- ---- items that are left

module _ (ranged : Tree RenderObject) (repainted corrected : List Handle) (scrolls : Handle → ℕ) where
  -- with marks for painting, then as a flush left them, then with marks that don't reach them
  pub items_seen : (b c : Above) (f g : Forest RenderObject) → AreAlike (layout_nodes (sweep paint_marks true repainted b f)) (layout_nodes g) → has_listed corrected g ≡ false
      → AllStored (object_at ranged) (scrolled_as scrolls (sweep layout_marks true corrected c g)) → AreSeen ranged f
  items_seen b c none g alike free stored = tt
  items_seen b c (tree h o kids more) none alike free stored = absurd alike
  items_seen b c (tree h o kids more) (tree k w under rest) alike free stored =
      let parts = or_parts (listed k corrected) (has_listed corrected under || has_listed corrected rest) free in
      let inner = or_parts (has_listed corrected under) (has_listed corrected rest) parts.1 in (
        record {
          object = record (layout_marks.marked ((listed k corrected || some_climbs layout_marks corrected (within layout_marks c w) under) && true) (has_listed corrected under || (true && listed k corrected)) w) { scroll = scrolls k };
          is = ap (object_at ranged) alike.0 ∙ stored.0;
          number = alike.1;
          flag = no_flag w.needs_layout (listed k corrected) (some_climbs layout_marks corrected (within layout_marks c w) under) parts.0 (none_climbs corrected (within layout_marks c w) under inner.0) ∙ alike.2;
          shown = alike.4;
        },
        items_seen (within paint_marks b o) (within layout_marks c w) kids under alike.5 inner.0 stored.1,
        items_seen b c more rest alike.6 inner.1 stored.2,
      )
    where
      no_flag : (flag a x : Bool) → a ≡ false → x ≡ false → (flag || ((a || x) && true)) ≡ flag
      no_flag true a x e f = refl
      no_flag false a x e f = λ i. (e i || f i) && true

-- the same nodes, to a layout
same_listed : (hs : List Handle) (f : Forest RenderObject) → has_listed hs (layout_nodes f) ≡ false → has_listed hs f ≡ false
same_listed hs f e = sym (listed_nodes hs f) ∙ e
  where
    listed_nodes : (hs : List Handle) (f : Forest RenderObject) → has_listed hs (layout_nodes f) ≡ has_listed hs f
    listed_nodes hs none = refl
    listed_nodes hs (tree h o kids rest) = λ i. listed h hs || (listed_nodes hs kids i || listed_nodes hs rest i)

-- ---- all lists

module _ (old mid ranged : Tree RenderObject) (first : RedrawsPart old mid) (claimed : Handle → Bool) (is_old : IsTree old) (differ : NumbersDiffer first.made)
    (root_alone : (k : Handle) (n : TreeNode RenderObject) → first.committed.root ≡ Some k → node_at first.committed k ≡ Some n → n.parent ≡ None)
    (corrected : List Handle) (scrolls : Handle → ℕ) where
  abbrev made : Tree RenderObject
  made = first.made

  abbrev hs : List Handle
  hs = first.laid ++ first.lost

  abbrev repainted : List Handle
  repainted = first.painted ++ first.lost

  -- the nodes of the first phase with all their marks
  abbrev marked : Above → Above → Forest RenderObject → Forest RenderObject
  marked a b f = sweep paint_marks true repainted b (sweep layout_marks true hs a f)

  abbrev put : Above → Forest RenderObject → Forest RenderObject
  put c g = scrolled_as scrolls (sweep layout_marks true corrected c g)

  -- one list, with what is known of it in the first phase, after the flush, and in the whole build
  one_list : (p : RegionPlace) (b c : Above) (k : Handle) (v : RenderObject) (under_v under_g : Forest RenderObject) (w : RenderObject) (under : Forest RenderObject)
      → IsCarried (object_at made) k v → Stands (node_at first.committed) (Some k) under_v → under_v ≡ pruned claimed (forest_below (subtree_at made k)) → v.number ≡ w.number → object_look v ≡ object_look w
      → AreAlike (layout_nodes (marked (within layout_marks (marks_above p) v) b under_v)) (layout_nodes under_g) → has_listed corrected under_g ≡ false → AllStored (object_at ranged) (put c under_g)
      → AllAsBefore ranged under → AreUnclaimed old claimed (renders_of under) → IsListLeft old ranged claimed hs p w under
  one_list p b c k v under_v under_g w under carried stands left number look alike free stored as_before unclaimed = record {
    left = λ h o kids at is kids_stand list. items h o kids at is kids_stand list (node_at old h) refl;
    alike = as_before;
    free = unclaimed;
  }
    where
      items : (h : Handle) (o : RenderObject) (kids : Forest RenderObject) → object_at old h ≡ Some o → o.number ≡ w.number → Stands (node_at old) (Some h) kids → tops kids ≡ children_at old h
          → (x : Option (TreeNode RenderObject)) → node_at old h ≡ x
          → AreSeen ranged (sweep layout_marks true hs (marks_above (below p (object_look w))) (pruned claimed kids)) × AreBereft claimed hs kids
      items h o kids at is kids_stand list None e = no_node (sym (ap (option_map (λ (n : TreeNode RenderObject). n.value)) e) ∙ at)
        where
          no_node : {B : Type 0} → None ≡ Some o → B
          no_node e = absurd (cc)
      items h o kids at is kids_stand list (Some n) e =
          let value : n.value ≡ o = some_is n.value o (sym (ap (option_map (λ (m : TreeNode RenderObject). m.value)) e) ∙ at) in
          let stored_h = made_object old made first.grows is_old h o at in
          let handle : h ≡ k =
          differ w.number h k (ap (option_map (λ (x : RenderObject). x.number)) stored_h ∙ ap (λ m. Some m) is)
          (ap (option_map (λ (x : RenderObject). x.number)) carried.is ∙ ap (λ m. Some m) (sym carried.number ∙ number)) in
          let node : node_at old h ≡ Some (record { parent = n.parent; children = tops kids; value = n.value }) =
          e ∙ ap (λ l. Some (record { parent = n.parent; children = l; value = n.value })) (sym (list ∙ ap children_in_node e)) in
          let here : under_v ≡ pruned claimed kids =
          left ∙ ap (pruned claimed) (ap (λ y. forest_below (subtree_at made y)) (sym handle) ∙ was_below old made first.grows is_old n.parent h n.value kids node kids_stand) in (
            subst (λ f. AreSeen ranged (sweep layout_marks true hs (marks_above (below p (object_look w))) f)) here
                (subst (λ l. AreSeen ranged (sweep layout_marks true hs (marks_above (below p l)) under_v)) look
                (items_seen ranged repainted corrected scrolls b c (sweep layout_marks true hs (within layout_marks (marks_above p) v) under_v) under_g alike free stored)),
            bereft old mid first claimed is_old root_alone h kids kids_stand
                (subst (λ y. Stands (node_at first.committed) (Some y) (pruned claimed kids)) (sym handle) (subst (Stands (node_at first.committed) (Some k)) here stands)),
          )
        where
          children_in_node : Option (TreeNode RenderObject) → List Handle
          children_in_node None = []
          children_in_node (Some m) = m.children

  pub lists_left : (p : RegionPlace) (q : Option Handle) (b c : Above) (f g w : Forest RenderObject) → Stands (node_at first.committed) q f → AreCarried (object_at made) f → HoldLeft made claimed f
      → AreOuter f (renders_of w) → ListsAlike (layout_nodes (marked (marks_above p) b f)) (layout_nodes g) → (m : Forest LayoutNode) → AreScrolledOtherwise corrected m (layout_nodes g) → AllStored (object_at ranged) (put c g)
      → AllAsBefore ranged w → ListsFree old made claimed (renders_of w) → ListsLeft old ranged claimed hs p w
  lists_left p q b c f g none stands carried left outer alike m otherwise stored as_before free = tt
  lists_left p q b c none g (tree j x beneath others) stands carried left outer alike m otherwise stored as_before free = absurd outer
  lists_left p q b c (tree k v under_v more) none (tree j x beneath others) stands carried left outer alike m otherwise stored as_before free = absurd alike
  lists_left p q b c (tree k v under_v more) (tree i z under_g rest) (tree j x beneath others) stands carried left outer alike none otherwise stored as_before free = absurd otherwise
  lists_left p q b c (tree k v under_v more) (tree i z under_g rest) (tree j x beneath others) stands carried left outer alike (tree l y under_m rest_m) otherwise stored as_before free = (
    subst (λ (d : Bool). ListOr d (IsListLeft old ranged claimed hs p x beneath) (ListsLeft old ranged claimed hs (below p (object_look x)) beneath)) same_x
        (by_list (is_list (object_look v)) left.0 outer.1 alike.2
        (subst (λ (d : Bool). HeldOr d (has_listed corrected (layout_nodes under_g) ≡ false) (AreScrolledOtherwise corrected under_m (layout_nodes under_g))) (sym same_z) otherwise.1)
        (subst (λ (d : Bool). ListOr d (AreUnclaimed old claimed (renders_of beneath)) (ListsFree old made claimed (renders_of beneath))) (sym same_x) free.0)
        (λ l o a s n. lists_left (below p (object_look x)) (Some k) (within paint_marks b marked_v) (within layout_marks c z) under_v under_g beneath stands.1 carried.1 l o
        (subst (λ y. ListsAlike (layout_nodes (marked (marks_above (below p y)) (within paint_marks b marked_v) under_v)) (layout_nodes under_g)) outer.0.look a)
        under_m s stored.1 as_before.1 n)),
    lists_left p q b c more rest others stands.2 carried.2 left.1 outer.2 alike.3 rest_m otherwise.2 stored.2 as_before.2 free.1,
  )
    where
      marked_v : RenderObject
      marked_v = layout_marks.marked ((listed k hs || some_climbs layout_marks hs (within layout_marks (marks_above p) v) under_v) && true) (has_listed hs under_v || (true && listed k hs)) v

      same_x : is_list (object_look v) ≡ is_list (object_look x)
      same_x = ap is_list outer.0.look

      same_z : is_list (object_look v) ≡ is_list (object_look z)
      same_z = ap is_list alike.1

      inner : Forest RenderObject
      inner = marked (within layout_marks (marks_above p) v) (within paint_marks b marked_v) under_v

      by_list : (d : Bool) → ListOr d (under_v ≡ pruned claimed (forest_below (subtree_at made k))) (HoldLeft made claimed under_v) → UnlessList d (AreOuter under_v (renders_of beneath))
          → ListOr d (AreAlike (layout_nodes inner) (layout_nodes under_g)) (ListsAlike (layout_nodes inner) (layout_nodes under_g))
          → HeldOr d (has_listed corrected (layout_nodes under_g) ≡ false) (AreScrolledOtherwise corrected under_m (layout_nodes under_g))
          → ListOr d (AreUnclaimed old claimed (renders_of beneath)) (ListsFree old made claimed (renders_of beneath))
          → (HoldLeft made claimed under_v → AreOuter under_v (renders_of beneath) → ListsAlike (layout_nodes inner) (layout_nodes under_g) → AreScrolledOtherwise corrected under_m (layout_nodes under_g)
          → ListsFree old made claimed (renders_of beneath) → ListsLeft old ranged claimed hs (below p (object_look x)) beneath)
          → ListOr d (IsListLeft old ranged claimed hs p x beneath) (ListsLeft old ranged claimed hs (below p (object_look x)) beneath)
      by_list true l o a s n go =
          one_list p (within paint_marks b marked_v) (within layout_marks c z) k v under_v under_g x beneath carried.0 stands.1 l outer.0.number outer.0.look a (same_listed corrected under_g s) stored.1 as_before.1 n
      by_list false l o a s n go = go l o a s n
