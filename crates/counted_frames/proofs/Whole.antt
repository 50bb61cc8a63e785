-- The whole build's nodes: each that is marked differs from that of the last frame, and items have the frames of their last layouts.
use Rattle.std.proofs.Common.{◌≡◌, ℕ, Bool, true, false, ◌&&◌, Option, Some, None, option_map, List, [], ◌∷◌, ◌++◌, refl, sym, ap, ◌∙◌, subst, inl, inr, Decides, arith}
use Rattle.std.proofs.lemmas.Bool.{and_parts, false≢true}
use lib.Pointwise.{pointwise}
use Rattle.fx_geom.specs.declared.shapes.Size.{Size}
use Rattle.fx_handles.specs.declared.Handle.{Handle}
use Rattle.fx_handles.specs.Handle.{Among}
use Rattle.fx_handles.specs.HandleLaws.{cases_same, times_there}
use Rattle.node_tree.specs.Forest.{TreeNode, Forest, tops, Stands, pruned, below as forest_below}
use Rattle.node_tree.specs.Forest.Forest.{none, tree}
use Rattle.node_tree.specs.Tree.{Tree, node_at, children_of as children_in, children_at, subtree_at}
use Rattle.node_tree.proofs.TreeLemmas.{is_node}
use Rattle.plain_tree.specs.declared.render.ParentData.{ParentData}
use Rattle.plain_tree.specs.Laws.{AllDiffer, render_numbers_of, render_numbers_in}
use Rattle.plain_tree.specs.Render.{Render, render, Renders, no_renders, more_renders}
use Rattle.tree_marks.specs.Marks.{listed}
use Rattle.work_roles.specs.ForLayout.{for_layout}
use Rattle.work_roles.specs.Place.{RegionPlace, below}
use Rattle.work_roles.specs.WorkRole.{is_offstage, is_viewport}
use Rattle.work_sets.specs.Before.{Before}
use Rattle.work_sets.specs.InTree.{Standing, standing}
use Rattle.work_sets.specs.Layout.{is_told_same, is_child_same, list_below}
use Rattle.work_sets.proofs.Found.{IsIn, in_left, in_right}
use Rattle.layout_form.specs.Object.{Setting}
use Rattle.layout_walk.specs.Rules.{is_list}
use Rattle.layout_rules.specs.Nodes.{layout_nodes}
use Rattle.kept_layouts.specs.Items.{all_without_items}
use Rattle.render_tree.specs.Changes.{BecomesRoot}
use Rattle.render_tree.specs.Marks.{has_say}
use Rattle.render_tree.specs.Object.{RenderObject, object_look, bounds_in}
use Rattle.render_tree.specs.Plain.{lazy_children, renders_of, root_tree}
use Rattle.render_tree.specs.Tree.{object_at}
use Rattle.render_sync.specs.Numbering.{NumbersDiffer, number_at}
use Rattle.render_sync.specs.Renders.{EachNumber, AllNumbers}
use Rattle.build_walk.specs.Changing.{AreStored, StoodBelow, render_over}
use Rattle.counted_work.specs.Caused.{FramesAgree, IsNewUnlaid, NewAreUnlaid}
use Rattle.counted_work.proofs.Twins.{IsCarried, AreCarried}
use Rattle.counted_phases.specs.Framed.{HaveFrames, ItemsHaveFrames}
use Rattle.counted_phases.specs.Left.{AreUnclaimed}
use Rattle.counted_phases.specs.Outer.{UnlessList, ListOr, IsOuter, AreOuter}
use Rattle.counted_phases.specs.Unreached.{StaysAsRead, DiffersFromLast, AreDiffering}
use Rattle.counted_phases.proofs.Left.{offstage_by}
use Rattle.kept_phases.specs.Lists.{FlushesLists, StaysBuilt}
use Rattle.kept_phases.specs.Redraws.{Redraws}
use Rattle.frame_owner.specs.Working.{LaysLists}
use Rattle.counted_frames.proofs.Planned.{no_some, some_is, HoldLeft}
use Rattle.counted_frames.proofs.Part.{made_node, made_object, stands_stored, was_below}
use Rattle.counted_frames.proofs.Outer.{IsItemNumber, ListsFree}
use Rattle.counted_frames.proofs.Was.{WasNode, have_frames}
use Rattle.counted_frames.proofs.Kept.{AreStill, none_pruned, none_claimed, child_parts}
use Rattle.counted_frames.proofs.First.{claimed, both_marks, differ}
use Rattle.counted_frames.proofs.Laid.{ListsAlike}
use Rattle.counted_frames.proofs.Ranged.{IsRangedSo, ranged_node, mid_back}
use Rattle.counted_frames.proofs.Again.{unmarked, look_by, count_by, items_still, AreThere, AreRenewed, renewed}
use Rattle.counted_frames.proofs.Second.{IsItemOf, mid_node, WasMade, made_back, unclaimed, flushed_frame, IsOldStill, old_still}

either_in : (B : Type 0) (n : ℕ) (xs ys : List ℕ) → IsIn n (xs ++ ys) → (IsIn n xs → B) → (IsIn n ys → B) → B
either_in B n [] ys i f g = g i
either_in B n (x ∷ xs) ys (inl e) f g = f (inl e)
either_in B n (x ∷ xs) ys (inr i) f g = either_in B n xs ys i (λ a. f (inr a)) g

-- a property of each number of some render nodes
mutual
  number_of_one : (P : ℕ → Type 0) (r : Render) (n : ℕ) → EachNumber P r → IsIn n (render_numbers_of r) → P n
  number_of_one P (render number look told scroll count children) n h (inl e) = subst P (sym e) h.0
  number_of_one P (render number look told scroll count children) n h (inr i) = number_among P children n h.1 i

  pub number_among : (P : ℕ → Type 0) (rs : Renders) (n : ℕ) → AllNumbers P rs → IsIn n (render_numbers_in rs) → P n
  number_among P no_renders n h i = absurd i
  number_among P (more_renders r rs) n h i = either_in (P n) n (render_numbers_of r) (render_numbers_in rs) i (λ a. number_of_one P r n h.0 a) (λ b. number_among P rs n h.1 b)

module _ (s : Setting) (view : Size) (old : Tree RenderObject) (top : Render) (lo ln : ℕ) (lists : LaysLists s view old lo ln)
    (whole_is : all_without_items (renders_of (root_tree lists.mid)) ≡ all_without_items (more_renders top no_renders)) (apart : AllDiffer (render_numbers_in (more_renders top no_renders)))
    (ranged : Tree RenderObject) (fl : FlushesLists s view lists.mid ranged) (stays_built : StaysBuilt lists.mid ranged)
    (alike : ListsAlike (layout_nodes (both_marks s view old top lo ln lists whole_is lists.first.nodes)) (layout_nodes (root_tree fl.flushed)))
    (brought : Tree RenderObject) (second : Redraws ranged brought) (made_apart : NumbersDiffer second.made)
    (before : Before) (told_same : (a b : ParentData) → Decides (is_told_same a b) (a ≡ b)) (agree : FramesAgree before.frames old) where
  abbrev claims : Handle → Bool
  claims = claimed s view old top lo ln lists whole_is

  abbrev Item : ℕ → Type 0
  Item n = IsItemOf s view old top lo ln lists whole_is apart ranged fl stays_built alike n

  abbrev Still : Handle → TreeNode RenderObject → Type 0
  Still k n = IsOldStill s view old top lo ln lists whole_is apart ranged fl stays_built alike k n

  still : (k : Handle) (n : TreeNode RenderObject) → node_at old k ≡ Some n → Item n.value.number → Still k n
  still k n at item = old_still s view old top lo ln lists whole_is apart ranged fl stays_built alike k n at item

  -- what is kept for the second phase
  pub kept_object : (k : Handle) (n : TreeNode RenderObject) → node_at ranged k ≡ Some n → object_at second.made k ≡ Some n.value
  kept_object k n at = ap (option_map (λ (x : TreeNode RenderObject). x.value)) (second.grows.keeps k (is_node (node_at ranged k) n at) ∙ at)

  kept_children : (k : Handle) (n : TreeNode RenderObject) → node_at ranged k ≡ Some n → children_at second.made k ≡ n.children
  kept_children k n at = ap children_in (second.grows.keeps k (is_node (node_at ranged k) n at) ∙ at)

  pub one_handle : (h k : Handle) (v w : RenderObject) → object_at second.made h ≡ Some v → object_at second.made k ≡ Some w → v.number ≡ w.number → h ≡ k
  one_handle h k v w a b e =
      made_apart w.number h k (ap (option_map (λ (o : RenderObject). o.number)) a ∙ ap (λ n. Some n) e) (ap (option_map (λ (o : RenderObject). o.number)) b)

  -- ---- children of the last frame whose numbers are those of items

  abbrev NumbersOf : Forest RenderObject → Type 0
  NumbersOf g = (n : ℕ) → IsIn n (render_numbers_in (renders_of g)) → Item n

  rest_numbers : (k : Handle) (w : RenderObject) (under rest : Forest RenderObject) → NumbersOf (tree k w under rest) → NumbersOf rest
  rest_numbers k w under rest items n i = items n (in_right n (render_numbers_of (render_over w under)) (render_numbers_in (renders_of rest)) i)

  under_numbers : (k : Handle) (w : RenderObject) (under rest : Forest RenderObject) → NumbersOf (tree k w under rest) → NumbersOf under
  under_numbers k w under rest items n i = items n (in_left n (render_numbers_of (render_over w under)) (render_numbers_in (renders_of rest)) (inr i))

  own_number : (k : Handle) (w : RenderObject) (under rest : Forest RenderObject) → NumbersOf (tree k w under rest) → Item w.number
  own_number k w under rest items = items w.number (in_left w.number (render_numbers_of (render_over w under)) (render_numbers_in (renders_of rest)) (inl refl))

  are_there : (q : Option Handle) (f g : Forest RenderObject) → Stands (node_at old) q f → pointwise is_child_same (list_below (renders_of f)) (list_below (renders_of g)) ≡ true → NumbersOf g → AreThere old second.made f
  are_there q none g stands same items = tt
  are_there q (tree h o kids rest) none stands same items = absurd (false≢true same)
  are_there q (tree h o kids rest) (tree k w under more) stands same items =
      let split = and_parts (is_child_same (o.number, o.parent_data) (w.number, w.parent_data)) (pointwise is_child_same (list_below (renders_of rest)) (list_below (renders_of more))) same in
      let number = (child_parts before told_same old second.made made_apart o.number o.parent_data w.number w.parent_data split.0).0 in
      let x = still h (record { parent = q; children = tops kids; value = o }) stands.0 (subst Item (sym number) (own_number k w under more items)) in
      ((x.node.value, kept_object h x.node x.at, x.kept), are_there q rest more stands.2 split.1 (rest_numbers k w under more items))

  child_item : (c : Handle) (v : RenderObject) → object_at old c ≡ Some v → (q : Option Handle) (f g : Forest RenderObject) → Stands (node_at old) q f
      → pointwise is_child_same (list_below (renders_of f)) (list_below (renders_of g)) ≡ true → NumbersOf g → Among c (tops f) → Item v.number
  child_item c v at q none g stands same items among = absurd (omega (arith, among))
  child_item c v at q (tree h o kids rest) none stands same items among = absurd (false≢true same)
  child_item c v at q (tree h o kids rest) (tree k w under more) stands same items among =
      let split = and_parts (is_child_same (o.number, o.parent_data) (w.number, w.parent_data)) (pointwise is_child_same (list_below (renders_of rest)) (list_below (renders_of more))) same in
      let number = (child_parts before told_same old second.made made_apart o.number o.parent_data w.number w.parent_data split.0).0 in
      elim (cases_same h c) [
        | inl here ↦
            let value : o ≡ v = some_is o v (sym (ap (option_map (λ (n : TreeNode RenderObject). n.value)) stands.0) ∙ (ap (object_at old) here ∙ at)) in
            subst Item (sym number ∙ ap (λ (y : RenderObject). y.number) value) (own_number k w under more items)
        | inr ne ↦ let n = times_there c h (tops rest) ne in child_item c v at q rest more stands.2 split.1 (rest_numbers k w under more items) (omega (arith, among, n))
      ]

  child_live : (c : Handle) (q : Option Handle) (f : Forest RenderObject) → Stands (node_at old) q f → Among c (tops f) → (o : RenderObject) × (object_at old c ≡ Some o)
  child_live c q none stands among = absurd (omega (arith, among))
  child_live c q (tree h o kids rest) stands among = elim (cases_same h c) [
    | inl here ↦ (o, ap (object_at old) (sym here) ∙ ap (option_map (λ (n : TreeNode RenderObject). n.value)) stands.0)
    | inr ne ↦ let n = times_there c h (tops rest) ne in child_live c q rest stands.2 (omega (arith, among, n))
  ]

  -- a node of the first phase, before the second
  abbrev pub Ranged : Handle → TreeNode RenderObject → Type 0
  Ranged j n =
      (m : TreeNode RenderObject) × (node_at ranged j ≡ Some m) × (m.children ≡ n.children) × (m.value.number ≡ n.value.number) × (m.value.widget ≡ n.value.widget) × (m.value.parent_data ≡ n.value.parent_data)

  pub ranged_outer : (j : Handle) (n : TreeNode RenderObject) → node_at lists.first.committed j ≡ Some n → Ranged j n
  ranged_outer j n at =
      let there = mid_node s view old top lo ln lists whole_is apart ranged fl stays_built alike j n at in
      let now = ranged_node s view lists.mid ranged fl stays_built j there.node there.at in
      (now.node, now.at, now.children ∙ there.children, now.number ∙ there.number, now.widget ∙ there.widget, now.told ∙ there.told)

  -- ---- a root's tree, where there was one

  module _ (h0 : Handle) (was : (wanted : ℕ) (st : Standing) → standing before.tree wanted ≡ Some st → WasNode old h0 wanted st)
      (no_root : (k : Handle) → BecomesRoot second.made second.committed.root k → ⊥) where
    abbrev Node : Option Handle → Handle → RenderObject → Forest RenderObject → Type 0
    Node q k w under = node_at second.committed k ≡ Some (record { parent = q; children = tops under; value = w })

    -- a node that was there, whose children are those that it had, as far as it has the same
    common : (k : Handle) (w : RenderObject) (under : Forest RenderObject) (q : Option Handle) → Node q k w under → Stands (node_at second.committed) (Some k) under → AreCarried (object_at second.made) under
        → (st : Standing) → (x : WasNode old h0 w.number st) → (v : RenderObject) → object_at second.made k ≡ Some v → children_at second.made k ≡ tops x.under
        → (for_layout (object_look x.object) ≡ for_layout (object_look w) → for_layout (object_look v) ≡ for_layout (object_look x.object)) → (lazy_children x.object ≡ lazy_children w → lazy_children v ≡ lazy_children x.object)
        → w.scroll ≡ v.scroll → NumbersOf under → listed k second.laid ≡ true → StaysAsRead before (render_over x.object x.under) (render_over w under) → ⊥
    common k w under q at beneath carried_below st x v stored children looks counts scroll items is stays =
        unmarked ranged brought second k w under q at beneath v r.now stored stood (
          record {
            own = λ i. record { look = (sym stays.look ∙ sym look) i; scroll = scroll i; count = (sym stays.count ∙ sym count) i };
            list = still_below.list;
            told = still_below.told;
          },
          still_below.sized,
        ) (no_root k) is
      where
        look : for_layout (object_look v) ≡ for_layout (object_look x.object)
        look = looks stays.look

        count : lazy_children v ≡ lazy_children x.object
        count = counts stays.count

        r : AreRenewed old second.made x.under
        r = renewed old second.made x.under (are_there (Some x.handle) x.under under x.stands stays.lists items)

        stood : StoodBelow second.made k r.now
        stood = record { list = r.list ∙ sym children; stored = r.stored }

        still_below : AreStill (is_offstage (object_look v)) r.now under
        still_below =
            subst (λ (b : Bool). AreStill b r.now under) (sym (offstage_by (object_look v) (object_look x.object) look))
            (items_still before told_same old second.made made_apart (is_offstage (object_look x.object)) x.under r.now under r.kept r.stored carried_below (have_frames before.frames old (Some x.handle) x.under agree x.stands) stays.lists stays.sized)

    -- ---- items

    item_differs : (p : RegionPlace) (k : Handle) (w : RenderObject) (under : Forest RenderObject) (q : Option Handle) → Node q k w under → Stands (node_at second.committed) (Some k) under → IsCarried (object_at second.made) k w
        → AreCarried (object_at second.made) under → Item w.number → NumbersOf under → listed k second.laid ≡ true → DiffersFromLast before p (render_over w under)
    item_differs p k w under q at beneath carry carried_below own items is st e high stays =
        common k w under q at beneath carried_below st x y.node.value stored
        (ap (children_at second.made) (sym handle) ∙ (kept_children x.handle y.node y.at ∙ y.same (λ c o among at_c. child_item c o at_c (Some x.handle) x.under under x.stands stays_here.lists items among) (λ c among. child_live c (Some x.handle) x.under x.stands among)))
        (λ same. ap for_layout (look_by x.object y.node.value y.kept.widget)) (λ same. count_by x.object y.node.value y.kept.widget) (carry.scroll ∙ ap (λ (o : RenderObject). o.scroll) value) items is stays_here
      where
        x : WasNode old h0 w.number st
        x = was w.number st e

        y : Still x.handle (record { parent = x.parent; children = tops x.under; value = x.object })
        y = still x.handle (record { parent = x.parent; children = tops x.under; value = x.object }) x.at (subst Item (sym x.number) own)

        stays_here : StaysAsRead before (render_over x.object x.under) (render_over w under)
        stays_here = subst (λ n. StaysAsRead before n (render_over w under)) x.node stays

        handle : x.handle ≡ k
        handle = one_handle x.handle k y.node.value carry.stored (kept_object x.handle y.node y.at) carry.is (y.kept.number ∙ (x.number ∙ carry.number))

        stored : object_at second.made k ≡ Some y.node.value
        stored = ap (object_at second.made) (sym handle) ∙ kept_object x.handle y.node y.at

        value : carry.stored ≡ y.node.value
        value = some_is carry.stored y.node.value (sym carry.is ∙ stored)

    pub items_differ : (p : RegionPlace) (q : Option Handle) (f : Forest RenderObject) → Stands (node_at second.committed) q f → AreCarried (object_at second.made) f → NumbersOf f → AreDiffering before second.laid p f
    items_differ p q none stands carry items = tt
    items_differ p q (tree k w under rest) stands carry items = (
      item_differs p k w under q stands.0 stands.1 carry.0 carry.1 (own_number k w under rest items) (under_numbers k w under rest items),
      items_differ (below p (object_look w)) (Some k) under stands.1 carry.1 (under_numbers k w under rest items),
      items_differ p q rest stands.2 carry.2 (rest_numbers k w under rest items),
    )

    -- ---- outer nodes

    pub record AreAgain (hidden : Bool) (f under : Forest RenderObject) : Type 0 where
      pub now : Forest RenderObject
      pub list : tops now ≡ tops f
      pub stored : AreStored second.made now
      pub still : AreStill hidden now under

    again : (hidden : Bool) (q : Option Handle) (f under : Forest RenderObject) → Stands (node_at lists.first.committed) q f → AreOuter f (renders_of under) → AreCarried (object_at second.made) under → AreAgain hidden f under
    again hidden q none none stands outer carry = record { now = none; list = refl; stored = tt; still = record { list = refl; told = tt; sized = tt } }
    again hidden q none (tree k w below_w rest) stands outer carry = absurd outer
    again hidden q (tree j v kids more) none stands outer carry = absurd outer
    again hidden q (tree j v kids more) (tree k w below_w rest) stands outer carry =
        let z = ranged_outer j (record { parent = q; children = tops kids; value = v }) stands.0 in
        let later = again hidden q more rest stands.2 outer.2 carry.2 in
        let stored = kept_object j z.0 z.1 in
        let handle : k ≡ j = one_handle k j carry.0.stored z.0.value carry.0.is stored (sym carry.0.number ∙ (sym outer.0.number ∙ sym z.3)) in
        let look : object_look w ≡ object_look z.0.value = sym outer.0.look ∙ sym (look_by v z.0.value z.4) in
        let say : Bool = has_say hidden (bounds_in z.0.value.frame) in
        record {
          now = tree j z.0.value none later.now;
          list = ap (λ l. j ∷ l) later.list;
          stored = (stored, later.stored);
          still = record {
            list = (λ i. handle i ∷ tops rest) ∙ ap (λ l. j ∷ l) later.still.list;
            told = (z.5 ∙ outer.0.told, later.still.told);
            sized = (ap (λ l. say && is_viewport l) look, ap (λ l. say && is_offstage l) look, later.still.sized);
          };
        }

    -- a node that is no list is as it was
    outer_same : (k j : Handle) (v w : RenderObject) (kids under : Forest RenderObject) (q r : Option Handle) → node_at lists.first.committed j ≡ Some (record { parent = q; children = tops kids; value = v })
        → Stands (node_at lists.first.committed) (Some j) kids → IsOuter v (render_over w under) → AreOuter kids (renders_of under) → Node r k w under → Stands (node_at second.committed) (Some k) under
        → IsCarried (object_at second.made) k w → AreCarried (object_at second.made) under → listed k second.laid ≡ true → ⊥
    outer_same k j v w kids under q r at stands outer outer_below at_w beneath carry carried_below is =
        unmarked ranged brought second k w under r at_w beneath z.0.value below_it.now stored
        (record { list = below_it.list ∙ (sym z.2 ∙ (sym (kept_children j z.0 z.1) ∙ ap (children_at second.made) handle)); stored = below_it.stored }) (
          record {
            own = λ i. record { look = ap for_layout look i; scroll = (carry.scroll ∙ ap (λ (o : RenderObject). o.scroll) value) i; count = (sym outer.count ∙ sym (count_by v z.0.value z.4)) i };
            list = below_it.still.list;
            told = below_it.still.told;
          },
          below_it.still.sized,
        ) (no_root k) is
      where
        z : Ranged j (record { parent = q; children = tops kids; value = v })
        z = ranged_outer j (record { parent = q; children = tops kids; value = v }) at

        handle : j ≡ k
        handle = one_handle j k z.0.value carry.stored (kept_object j z.0 z.1) carry.is (z.3 ∙ (outer.number ∙ carry.number))

        stored : object_at second.made k ≡ Some z.0.value
        stored = ap (object_at second.made) (sym handle) ∙ kept_object j z.0 z.1

        value : carry.stored ≡ z.0.value
        value = some_is carry.stored z.0.value (sym carry.is ∙ stored)

        look : object_look w ≡ object_look z.0.value
        look = sym outer.look ∙ sym (look_by v z.0.value z.4)

        below_it : AreAgain (is_offstage (object_look z.0.value)) kids under
        below_it = again (is_offstage (object_look z.0.value)) (Some j) kids under stands outer_below carried_below

    -- a list whose items are those that it had is as it was
    list_differs : (p : RegionPlace) (k j : Handle) (v w : RenderObject) (kids under : Forest RenderObject) (q r : Option Handle) → node_at lists.first.committed j ≡ Some (record { parent = q; children = tops kids; value = v })
        → IsCarried (object_at lists.first.made) j v → kids ≡ pruned claims (forest_below (subtree_at lists.first.made j)) → IsOuter v (render_over w under) → AreUnclaimed old claims (renders_of under) → NumbersOf under
        → Node r k w under → Stands (node_at second.committed) (Some k) under → IsCarried (object_at second.made) k w → AreCarried (object_at second.made) under → listed k second.laid ≡ true → DiffersFromLast before p (render_over w under)
    list_differs p k j v w kids under q r at first_carry left outer free items at_w beneath carry carried_below is st e high stays =
        common k w under r at_w beneath carried_below st x z.0.value stored (ap (children_at second.made) (sym handle) ∙ (kept_children j z.0 z.1 ∙ (z.2 ∙ (ap tops same_items ∙ none_gone.list))))
        (λ same. ap for_layout (look_by v z.0.value z.4 ∙ outer.look) ∙ sym same) (λ same. count_by v z.0.value z.4 ∙ (outer.count ∙ sym same)) (carry.scroll ∙ ap (λ (o : RenderObject). o.scroll) value) items is stays_here
      where
        x : WasNode old h0 w.number st
        x = was w.number st e

        z : Ranged j (record { parent = q; children = tops kids; value = v })
        z = ranged_outer j (record { parent = q; children = tops kids; value = v }) at

        stays_here : StaysAsRead before (render_over x.object x.under) (render_over w under)
        stays_here = subst (λ n. StaysAsRead before n (render_over w under)) x.node stays

        handle : j ≡ k
        handle = one_handle j k z.0.value carry.stored (kept_object j z.0 z.1) carry.is (z.3 ∙ (outer.number ∙ carry.number))

        stored : object_at second.made k ≡ Some z.0.value
        stored = ap (object_at second.made) (sym handle) ∙ kept_object j z.0 z.1

        value : carry.stored ≡ z.0.value
        value = some_is carry.stored z.0.value (sym carry.is ∙ stored)

        first_differ : NumbersDiffer lists.first.made
        first_differ = differ s view old top lo ln lists whole_is

        was_here : x.handle ≡ j
        was_here =
            first_differ w.number x.handle j
            (ap (option_map (λ (o : RenderObject). o.number)) (made_object old lists.first.made lists.first.grows lists.before.tree x.handle x.object (ap (option_map (λ (n : TreeNode RenderObject). n.value)) x.at)) ∙ ap (λ n. Some n) x.number)
            (ap (option_map (λ (o : RenderObject). o.number)) first_carry.is ∙ ap (λ n. Some n) (sym first_carry.number ∙ outer.number))

        same_items : kids ≡ pruned claims x.under
        same_items =
            left ∙ ap (pruned claims) (ap (λ y. forest_below (subtree_at lists.first.made y)) (sym was_here)
            ∙ was_below old lists.first.made lists.first.grows lists.before.tree x.parent x.handle x.object x.under x.at x.stands)

        none_gone : AreStill false x.under (pruned claims x.under)
        none_gone =
            none_pruned claims false x.under
            (none_claimed before told_same old second.made made_apart claims x.under (renders_of under) (stands_stored old lists.first.made lists.first.grows lists.before.tree old (Some x.handle) x.under x.stands) stays_here.lists free)

    -- all of them
    pub outer_differ : (p : RegionPlace) (q r : Option Handle) (f g : Forest RenderObject) → Stands (node_at lists.first.committed) q f → AreCarried (object_at lists.first.made) f → HoldLeft lists.first.made claims f
        → AreOuter f (renders_of g) → ListsFree old lists.first.made claims (renders_of g) → ((n : ℕ) → IsItemNumber n (renders_of g) → Item n) → Stands (node_at second.committed) r g → AreCarried (object_at second.made) g
        → AreDiffering before second.laid p g
    outer_differ p q r none none stands first_carry left outer free items stood carry = tt
    outer_differ p q r none (tree k w under rest) stands first_carry left outer free items stood carry = absurd outer
    outer_differ p q r (tree j v kids more) none stands first_carry left outer free items stood carry = absurd outer
    outer_differ p q r (tree j v kids more) (tree k w under rest) stands first_carry left outer free items stood carry =
        let both =
        by_list (is_list (object_look v)) (is_list (object_look w)) refl (ap is_list (sym outer.0.look)) left.0 outer.1 free.0
        (λ l o f i. outer_differ (below p (object_look w)) (Some j) (Some k) kids under stands.1 first_carry.1 l o f i stood.1 carry.1) in (
          both.0,
          both.1,
          outer_differ p q r more rest stands.2 first_carry.2 left.1 outer.2 free.1 (λ n i. items n (inr (inr i))) stood.2 carry.2,
        )
      where
        by_list : (a b : Bool) → is_list (object_look v) ≡ a → b ≡ a → ListOr a (kids ≡ pruned claims (forest_below (subtree_at lists.first.made j))) (HoldLeft lists.first.made claims kids) → UnlessList a (AreOuter kids (renders_of under))
            → ListOr b (AreUnclaimed old claims (renders_of under)) (ListsFree old lists.first.made claims (renders_of under))
            → (HoldLeft lists.first.made claims kids → AreOuter kids (renders_of under) → ListsFree old lists.first.made claims (renders_of under) → ((n : ℕ) → IsItemNumber n (renders_of under) → Item n)
            → AreDiffering before second.laid (below p (object_look w)) under)
            → (listed k second.laid ≡ true → DiffersFromLast before p (render_over w under)) × AreDiffering before second.laid (below p (object_look w)) under
        by_list true true list same l o f go =
            let numbers : NumbersOf under = λ n i. items n (inl (ap is_list (sym outer.0.look) ∙ list, i)) in (
              list_differs p k j v w kids under q r stands.0 first_carry.0 l outer.0 f numbers stood.0 stood.1 carry.0 carry.1,
              items_differ (below p (object_look w)) (Some k) under stood.1 carry.1 numbers,
            )
        by_list true false list same l o f go = absurd (false≢true same)
        by_list false true list same l o f go = absurd (false≢true (sym same))
        by_list false false list same l o f go = (
          (λ is st e high stays. absurd (outer_same k j v w kids under q r stands.0 stands.1 outer.0 o stood.0 stood.1 carry.0 carry.1 is)),
          go l o f (λ n i. items n (inr (inl (ap is_list (sym outer.0.look) ∙ list, i)))),
        )

  -- ---- frames of items

  module _ (unlaid : NewAreUnlaid before.frames old top) where
    new_unlaid : (n : ℕ) → IsIn n (render_numbers_in (more_renders top no_renders)) → IsNewUnlaid before.frames old n
    new_unlaid n i = number_among (IsNewUnlaid before.frames old) (more_renders top no_renders) n (unlaid, tt) i

    item_framed : (k : Handle) (w : RenderObject) → IsCarried (object_at second.made) k w → Item w.number → IsIn w.number (render_numbers_in (more_renders top no_renders)) → w.frame ≡ before.frames w.number
    item_framed k w carry item inside = by_ranged (node_at ranged k) refl (node_at second.made k) refl
      where
        -- nobody had its number
        nobody_in : ((j : Handle) (n : TreeNode RenderObject) → node_at old j ≡ Some n → n.value.number ≡ w.number → ⊥) → (j : Handle) → number_at old j ≡ Some w.number → ⊥
        nobody_in none_had j number = by_old (node_at old j) refl
          where
            by_old : (x : Option (TreeNode RenderObject)) → node_at old j ≡ x → ⊥
            by_old None e = no_some w.number (sym (ap (λ (y : Option (TreeNode RenderObject)). option_map (λ (o : RenderObject). o.number) (option_map (λ (m : TreeNode RenderObject). m.value) y)) e) ∙ number)
            by_old (Some n) e =
                none_had j n e (some_is n.value.number w.number
                (sym (ap (λ (y : Option (TreeNode RenderObject)). option_map (λ (o : RenderObject). o.number) (option_map (λ (m : TreeNode RenderObject). m.value) y)) e) ∙ number))

        unframed : w.frame ≡ None → ((j : Handle) (n : TreeNode RenderObject) → node_at old j ≡ Some n → n.value.number ≡ w.number → ⊥) → w.frame ≡ before.frames w.number
        unframed none_yet none_had = none_yet ∙ sym (new_unlaid w.number inside (nobody_in none_had))

        -- it was made for the second phase
        newest : node_at ranged k ≡ None → (y : Option (TreeNode RenderObject)) → node_at second.made k ≡ y → w.frame ≡ before.frames w.number
        newest gone None e = no_some carry.stored (sym (ap (option_map (λ (n : TreeNode RenderObject). n.value)) e) ∙ carry.is)
        newest gone (Some n) e =
            let fresh = second.grows.fresh k n gone e in
            let value : carry.stored ≡ n.value = some_is carry.stored n.value (sym carry.is ∙ ap (option_map (λ (m : TreeNode RenderObject). m.value)) e) in
            unframed (carry.frame ∙ (ap (λ (o : RenderObject). o.frame) value ∙ ap (λ (m : TreeNode RenderObject). m.value.frame) fresh.2))
            (λ j m at number.
            let y = still j m at (subst Item (sym number) item) in
            let handle : j ≡ k = one_handle j k y.node.value carry.stored (kept_object j y.node y.at) carry.is (y.kept.number ∙ (number ∙ carry.number)) in
            no_some y.node (sym gone ∙ (ap (node_at ranged) (sym handle) ∙ y.at)))

        -- it was there before
        earlier : (r : TreeNode RenderObject) → node_at ranged k ≡ Some r → (m : TreeNode RenderObject) → node_at lists.mid k ≡ Some m → (x : Option (TreeNode RenderObject)) → node_at old k ≡ x → w.frame ≡ before.frames w.number
        earlier r at m at_m x e = by_old x e
          where
            value : carry.stored ≡ r.value
            value = some_is carry.stored r.value (sym carry.is ∙ kept_object k r at)

            n : WasMade s view old top lo ln lists whole_is apart ranged fl stays_built alike k m
            n = made_back s view old top lo ln lists whole_is apart ranged fl stays_built alike k m at_m

            now : IsRangedSo s view lists.mid ranged fl stays_built k m
            now = ranged_node s view lists.mid ranged fl stays_built k m at_m

            same_value : now.node.value ≡ r.value
            same_value = ap (λ (y : TreeNode RenderObject). y.value) (some_is now.node r (sym now.at ∙ at))

            number : n.node.value.number ≡ w.number
            number = sym n.number ∙ (sym now.number ∙ (ap (λ (o : RenderObject). o.number) (same_value ∙ sym value) ∙ sym carry.number))

            made_at : object_at lists.first.made k ≡ Some n.node.value
            made_at = ap (option_map (λ (y : TreeNode RenderObject). y.value)) n.at

            free : claims k ≡ false
            free = unclaimed s view old top lo ln lists whole_is apart ranged fl stays_built alike k n.node.value made_at (subst Item (sym number) item)

            frame : w.frame ≡ n.node.value.frame
            frame =
                carry.frame ∙ (ap (λ (o : RenderObject). o.frame) (value ∙ sym same_value)
                ∙ (now.frame (flushed_frame s view old top lo ln lists whole_is apart ranged fl stays_built alike k m at_m free) ∙ n.frame))

            by_old : (x : Option (TreeNode RenderObject)) → node_at old k ≡ x → w.frame ≡ before.frames w.number
            by_old (Some o) e =
                let same_node : n.node ≡ o = some_is n.node o (sym n.at ∙ made_node old lists.first.made lists.first.grows lists.before.tree k o e) in
                frame ∙ (ap (λ (y : TreeNode RenderObject). y.value.frame) same_node
                ∙ (agree k o.value (ap (option_map (λ (y : TreeNode RenderObject). y.value)) e) ∙ ap before.frames (ap (λ (y : TreeNode RenderObject). y.value.number) (sym same_node) ∙ number)))
            by_old None e =
                let fresh = lists.first.grows.fresh k n.node e n.at in
                unframed (frame ∙ ap (λ (y : TreeNode RenderObject). y.value.frame) fresh.2) (λ j o at_j same_number.
                let handle : j ≡ k =
                (differ s view old top lo ln lists whole_is) w.number j k
                (ap (option_map (λ (v : RenderObject). v.number)) (made_object old lists.first.made lists.first.grows lists.before.tree j o.value (ap (option_map (λ (y : TreeNode RenderObject). y.value)) at_j)) ∙ ap (λ i. Some i) same_number)
                (ap (option_map (λ (v : RenderObject). v.number)) made_at ∙ ap (λ i. Some i) number) in
                no_some o (sym e ∙ (ap (node_at old) (sym handle) ∙ at_j)))

        by_ranged : (x : Option (TreeNode RenderObject)) → node_at ranged k ≡ x → (y : Option (TreeNode RenderObject)) → node_at second.made k ≡ y → w.frame ≡ before.frames w.number
        by_ranged None e y f = newest e y f
        by_ranged (Some r) e y f = let m = mid_back s view lists.mid ranged fl stays_built k r e in earlier r e m.0 m.1 (node_at old k) refl

    items_framed : (f : Forest RenderObject) → AreCarried (object_at second.made) f → NumbersOf f → ((n : ℕ) → IsIn n (render_numbers_in (renders_of f)) → IsIn n (render_numbers_in (more_renders top no_renders))) → HaveFrames before.frames f
    items_framed none carry items inside = tt
    items_framed (tree k w under rest) carry items inside = (
      item_framed k w carry.0 (own_number k w under rest items) (inside w.number (in_left w.number (render_numbers_of (render_over w under)) (render_numbers_in (renders_of rest)) (inl refl))),
      items_framed under carry.1 (under_numbers k w under rest items) (λ n i. inside n (in_left n (render_numbers_of (render_over w under)) (render_numbers_in (renders_of rest)) (inr i))),
      items_framed rest carry.2 (rest_numbers k w under rest items) (λ n i. inside n (in_right n (render_numbers_of (render_over w under)) (render_numbers_in (renders_of rest)) i)),
    )

    pub lists_framed : (g : Forest RenderObject) → AreCarried (object_at second.made) g → ((n : ℕ) → IsItemNumber n (renders_of g) → Item n)
        → ((n : ℕ) → IsIn n (render_numbers_in (renders_of g)) → IsIn n (render_numbers_in (more_renders top no_renders))) → ItemsHaveFrames before.frames g
    lists_framed none carry items inside = tt
    lists_framed (tree k w under rest) carry items inside = (
      by_list (is_list (object_look w)) refl (λ i j. lists_framed under carry.1 i j),
      lists_framed rest carry.2 (λ n i. items n (inr (inr i))) (λ n i. inside n (in_right n (render_numbers_of (render_over w under)) (render_numbers_in (renders_of rest)) i)),
    )
      where
        inside_under : (n : ℕ) → IsIn n (render_numbers_in (renders_of under)) → IsIn n (render_numbers_in (more_renders top no_renders))
        inside_under n i = inside n (in_left n (render_numbers_of (render_over w under)) (render_numbers_in (renders_of rest)) (inr i))

        by_list : (b : Bool) → is_list (object_look w) ≡ b
            → (((n : ℕ) → IsItemNumber n (renders_of under) → Item n) → ((n : ℕ) → IsIn n (render_numbers_in (renders_of under)) → IsIn n (render_numbers_in (more_renders top no_renders))) → ItemsHaveFrames before.frames under)
            → ListOr b (HaveFrames before.frames under) (ItemsHaveFrames before.frames under)
        by_list true e go = items_framed under carry.1 (λ n i. items n (inl (e, i))) inside_under
        by_list false e go = go (λ n i. items n (inr (inl (e, i)))) inside_under
