-- Flags for painting from the last frame on, through both phases.
use Rattle.std.proofs.Common.{◌≡◌, Bool, true, false, ◌||◌, ◌⊎◌, Option, Some, None, option_map, List, [], ◌∷◌, ◌++◌, refl, sym, ap, ◌∙◌, inl, inr}
use Rattle.std.proofs.lemmas.Bool.{cases_Bool, false≢true}
use Rattle.std.specs.Option.{option_to_list}
use Rattle.fx_handles.specs.declared.Handle.{Handle}
use Rattle.fx_handles.specs.Handle.{same}
use Rattle.fx_handles.specs.HandleLaws.{same-true}
use Rattle.fx_handles.specs.ArenaLaws.{same_Some}
use Rattle.node_tree.specs.Forest.{TreeNode, Forest, tops, append, Stands, map_values}
use Rattle.node_tree.specs.Forest.Forest.{none, tree}
use Rattle.node_tree.specs.Part.{kept_by}
use Rattle.node_tree.specs.Plan.{PlanEntry, entries, entry_at, IsUpdated}
use Rattle.node_tree.specs.Tree.{Tree, IsNode, IsTree, node_at, children_at, children_of}
use Rattle.node_tree.proofs.Children.{mapped_is}
use Rattle.node_tree.proofs.TreeLemmas.{is_node}
use Rattle.tree_marks.specs.Marking.{at_top}
use Rattle.tree_marks.specs.Marks.{listed, has_node, sweep}
use Rattle.tree_marks.proofs.Closing.{either}
use Rattle.tree_marks.proofs.MarkSteps.{node_stands}
use Rattle.work_roles.specs.WorkRole.{is_repaint_boundary}
use Rattle.kept_layers.specs.Group.{is_boundary}
use Rattle.layout_rules.specs.Painting.{KeepsRest}
use Rattle.layout_rules.specs.Reads.{state_at}
use Rattle.render_tree.specs.Changes.{KeepsLook, KeepsList, EachEntry}
use Rattle.render_tree.specs.LayoutState.{with_layout_state}
use Rattle.render_tree.specs.Marks.{layout_marks, paint_marks}
use Rattle.render_tree.specs.Object.{RenderObject, object_look}
use Rattle.render_tree.specs.Redraw.{Redraw, redrawn}
use Rattle.render_tree.specs.Tree.{object_at}
use Rattle.render_sync.specs.Synced.{Grows}
use Rattle.kept_phases.specs.Parts.{RedrawsPart}
use Rattle.kept_phases.specs.Redraws.{Redraws}
use Rattle.build_walk.proofs.Reporting.{same_tops}
use Rattle.counted_work.proofs.Relaid.{brought_node, same_lists}
use Rattle.counted_phases.specs.Climbing.{flagged_before, AreMarkedBy}
use Rattle.counted_phases.specs.Paints.{KeepsBelow}
use Rattle.counted_phases.specs.Seen.{PaintSeen, paint_seen, SeenSame}
use Rattle.counted_phases.proofs.Climbing.{IsShapedBut, node_of, object_live, was_there, marks_shape, marked_moved, marked_more, listed_first, listed_second}

-- ---- nodes that go on

pub none_some : {A : Type 0} {P : Type 0} (x : A) → None ≡ Some x → P
none_some x e = absurd (cc)

value_of : (t : Tree RenderObject) (k : Handle) (n : TreeNode RenderObject) → node_at t k ≡ Some n → object_at t k ≡ Some n.value
value_of t k n e = ap (option_map (λ (m : TreeNode RenderObject). m.value)) e

-- a node goes on where a tree grows
pub grown_node : (old new : Tree RenderObject) → Grows old new → (k : Handle) (n : TreeNode RenderObject) → node_at old k ≡ Some n → node_at new k ≡ Some n
grown_node old new grows k n e = grows.keeps k (is_node (node_at old k) n e) ∙ e

-- or it is new
pub grown_from : (old new : Tree RenderObject) → Grows old new → (k : Handle) (w : RenderObject) → object_at new k ≡ Some w → (object_at old k ≡ Some w) ⊎ (node_at old k ≡ None)
grown_from old new grows k w at = by_node (node_at old k) refl
  where
    by_node : (x : Option (TreeNode RenderObject)) → node_at old k ≡ x → (object_at old k ≡ Some w) ⊎ (node_at old k ≡ None)
    by_node None e = inr e
    by_node (Some n) e = inl (ap (option_map (λ (m : TreeNode RenderObject). m.value)) (sym (grows.keeps k (is_node (node_at old k) n e))) ∙ at)

flagged_at : (old : Tree RenderObject) (k : Handle) (o : RenderObject) → object_at old k ≡ Some o → o.needs_paint ≡ true → flagged_before (object_at old k) ≡ true
flagged_at old k o at flag = ap flagged_before at ∙ flag

flagged_new : (old : Tree RenderObject) (k : Handle) → node_at old k ≡ None → flagged_before (object_at old k) ≡ true
flagged_new old k gone = ap (λ (x : Option (TreeNode RenderObject)). flagged_before (option_map (λ (m : TreeNode RenderObject). m.value) x)) gone

-- ---- the first phase

module _ (old mid : Tree RenderObject) (first : RedrawsPart old mid) where
  abbrev pub first_marks : List Handle
  first_marks = first.painted ++ first.lost

  -- what is at a handle after a plan for a part
  pub by_entry : (x : Option (PlanEntry Redraw)) (k : Handle) (o : Option (TreeNode RenderObject)) (n : TreeNode RenderObject) → kept_by redrawn x (entries None first.updates) k o ≡ Some n → (m : TreeNode RenderObject) × (o ≡ Some m) × (n.value.needs_paint ≡ m.value.needs_paint)
  by_entry None k None n e = none_some n e
  by_entry None k (Some m) n e = (m, refl, ap (λ (y : TreeNode RenderObject). y.value.needs_paint) (sym (same_Some e)))
  by_entry (Some x) k None n e = none_some n e
  by_entry (Some x) k (Some m) n e = (m, refl, ap (λ (y : TreeNode RenderObject). y.value.needs_paint) (sym (same_Some e)))

  still_there : (x : Option (PlanEntry Redraw)) (k : Handle) (m : TreeNode RenderObject) → kept_by redrawn x (entries None first.updates) k (Some m) ≡ None → ⊥
  still_there None k m e = absurd (cc)
  still_there (Some x) k m e = absurd (cc)

  committed_from : (k : Handle) (w : RenderObject) → object_at first.committed k ≡ Some w → (v : RenderObject) × (object_at first.made k ≡ Some v) × (w.needs_paint ≡ v.needs_paint)
  committed_from k w at =
      let n = node_of first.committed k w at in
      let m = by_entry (entry_at (entries None first.updates) k) k (node_at first.made k) n.0 (sym (first.commits.nodes k) ∙ n.1) in
      (m.0.value, value_of first.made k m.0 m.1, ap (λ (o : RenderObject). o.needs_paint) (sym n.2) ∙ m.2)

  tree_committed : IsTree first.laid_marked
  tree_committed = (sweep layout_marks true (first.laid ++ first.lost) at_top (append first.nodes first.others), first.layouts.plain (append first.nodes first.others) first.is)

  pub tree_mid : IsTree mid
  tree_mid = (sweep paint_marks true first_marks at_top tree_committed.0, first.paints.plain tree_committed.0 tree_committed.1)

  -- a flag before the marks for painting is of the last frame, or of a new node
  flags_laid : AreMarkedBy old first.laid_marked []
  flags_laid k w at flag =
      let c = was_there old layout_marks (λ f b o. refl) (first.laid ++ first.lost) [] first.committed first.laid_marked first.layouts k w at in
      let m = committed_from k c.0.value (value_of first.committed k c.0 c.1) in
      let flag_made : m.0.needs_paint ≡ true = sym m.2 ∙ (ap (λ (o : RenderObject). o.needs_paint) (sym c.2.2) ∙ flag) in
      elim (grown_from old first.made first.grows k m.0 m.1) [
        | inl was ↦ inl (flagged_at old k m.0 was flag_made)
        | inr gone ↦ inl (flagged_new old k gone)
      ]

  pub flags_mid : AreMarkedBy old mid first_marks
  flags_mid = marked_more old first.laid_marked mid [] first_marks first.paints tree_committed flags_laid

  -- what was in the last frame's tree is there
  pub kept_there : (k : Handle) → node_at mid k ≡ None → node_at old k ≡ None
  kept_there k e = by_node (node_at old k) refl
    where
      in_marked : (n : TreeNode RenderObject) → node_at first.committed k ≡ Some n → ⊥
      in_marked n at =
          let l = first.layouts.only k n at in
          let m = first.paints.only k (record n { value = layout_marks.marked l.0 l.1 n.value }) l.2 in
          none_some (record n { value = paint_marks.marked m.0 m.1 (layout_marks.marked l.0 l.1 n.value) }) (sym e ∙ m.2)

      by_committed : (m : TreeNode RenderObject) (x : Option (TreeNode RenderObject)) → node_at first.made k ≡ Some m → node_at first.committed k ≡ x → ⊥
      by_committed m None made at =
          still_there (entry_at (entries None first.updates) k) k m (ap (kept_by redrawn (entry_at (entries None first.updates) k) (entries None first.updates) k) (sym made) ∙ (sym (first.commits.nodes k) ∙ at))
      by_committed m (Some n) made at = in_marked n at

      by_node : (x : Option (TreeNode RenderObject)) → node_at old k ≡ x → node_at old k ≡ None
      by_node None f = f
      by_node (Some n) f = absurd (by_committed n (node_at first.committed k) (grown_node old first.made first.grows k n f) refl)

-- ---- a layout

module _ (t u : Tree RenderObject) (keeps : KeepsRest t u) where
  pub relaid_tree : IsTree t → IsTree u
  relaid_tree is = (
    map_values (λ k o. with_layout_state (state_at u k) o) is.0,
    mapped_is (λ k o. with_layout_state (state_at u k) o) t u is.0 is.1 keeps.nodes (λ i. option_to_list (keeps.root i) ++ keeps.inactive i),
  )

  pub relaid_from : (k : Handle) (w : RenderObject) → object_at u k ≡ Some w → (v : RenderObject) × (object_at t k ≡ Some v) × (w ≡ with_layout_state (state_at u k) v)
  relaid_from k w at =
      let n = node_of u k w at in
      let m = brought_node t u keeps k n.0 n.1 in
      (m.0.value, value_of t k m.0 m.1, sym n.2 ∙ ap (λ (x : TreeNode RenderObject). x.value) m.2)

  pub relaid_shape : (ks : List Handle) → IsTree t → IsShapedBut ks t u
  relaid_shape ks is = record {
    tree = relaid_tree is;
    kinds = λ k c o w among at_o at_w.
        let v = relaid_from c w at_w in
        ap is_boundary v.2 ∙ ap is_boundary (same_Some (sym v.1 ∙ at_o));
    lists = λ k live. inr (same_lists t u keeps k);
  }

  pub flags_relaid : (old : Tree RenderObject) (hs : List Handle) → IsTree t → AreMarkedBy old t hs → AreMarkedBy old u hs
  flags_relaid old hs is marked =
      marked_moved old t u hs hs (relaid_shape hs is) (λ k e. e)
      (λ k w at flag. let v = relaid_from k w at in inr (v.0, v.1, ap (λ (o : RenderObject). o.needs_paint) (sym v.2) ∙ flag)) marked

-- ---- the same nodes, as painting sees them

module _ (t u : Tree RenderObject) (same : SeenSame t u) where
  -- what is seen there was seen
  by_seen : (x y : Option (TreeNode RenderObject)) → option_map paint_seen y ≡ option_map paint_seen x → (n : TreeNode RenderObject) → y ≡ Some n → (m : TreeNode RenderObject) × (x ≡ Some m) × (paint_seen n ≡ paint_seen m)
  by_seen None y e n is = none_some (paint_seen n) (sym e ∙ ap (option_map paint_seen) is)
  by_seen (Some m) y e n is = (m, refl, same_Some (sym (ap (option_map paint_seen) is) ∙ e))

  pub seen_node : (k : Handle) (n : TreeNode RenderObject) → node_at u k ≡ Some n → (m : TreeNode RenderObject) × (node_at t k ≡ Some m) × (paint_seen n ≡ paint_seen m)
  seen_node k n is = by_seen (node_at t k) (node_at u k) (same k) n is

  seen_list : (x y : Option (TreeNode RenderObject)) → option_map paint_seen y ≡ option_map paint_seen x → children_of x ≡ children_of y
  seen_list None None e = refl
  seen_list None (Some n) e = none_some (paint_seen n) (sym e)
  seen_list (Some m) None e = none_some (paint_seen m) e
  seen_list (Some m) (Some n) e = ap (λ (s : PaintSeen). s.children) (sym (same_Some e))

  pub seen_lists : (k : Handle) → children_at t k ≡ children_at u k
  seen_lists k = seen_list (node_at t k) (node_at u k) (same k)

  pub seen_from : (k : Handle) (w : RenderObject) → object_at u k ≡ Some w → (v : RenderObject) × (object_at t k ≡ Some v) × (object_look w ≡ object_look v) × (w.needs_paint ≡ v.needs_paint)
  seen_from k w at =
      let n = node_of u k w at in
      let m = seen_node k n.0 n.1 in
      (m.0.value, value_of t k m.0 m.1, ap object_look (sym n.2) ∙ ap (λ (s : PaintSeen). s.look) m.2, ap (λ (o : RenderObject). o.needs_paint) (sym n.2) ∙ ap (λ (s : PaintSeen). s.flag) m.2)

  pub flags_seen : (old : Tree RenderObject) (hs : List Handle) → IsTree u → AreMarkedBy old t hs → AreMarkedBy old u hs
  flags_seen old hs is marked =
      marked_moved old t u hs hs
      (record {
        tree = is;
        kinds = λ k c o w among at_o at_w.
            let v = seen_from c w at_w in
            ap is_repaint_boundary v.2 ∙ ap is_boundary (same_Some (sym v.1 ∙ at_o));
        lists = λ k live. inr (seen_lists k);
      }) (λ k e. e)
      (λ k w at flag. let v = seen_from k w at in inr (v.0, v.1, sym v.3 ∙ flag)) marked

-- ---- the second phase

each_left : (P : PlanEntry Redraw → Type 0) (es fs : List (PlanEntry Redraw)) → EachEntry P (es ++ fs) → EachEntry P es
each_left P [] fs h = tt
each_left P (e ∷ es) fs h = (h.0, each_left P es fs h.1)

each_right : (P : PlanEntry Redraw → Type 0) (es fs : List (PlanEntry Redraw)) → EachEntry P (es ++ fs) → EachEntry P fs
each_right P [] fs h = h
each_right P (e ∷ es) fs h = each_right P es fs h.1

module _ (made committed : Tree RenderObject) (hs : List Handle) where
  abbrev Look : PlanEntry Redraw → Type 0
  Look e = listed e.at hs ≡ false → KeepsLook made e × KeepsList made e

  abbrev entry : Handle → Option Handle → Forest Redraw → Redraw → PlanEntry Redraw
  entry h p kids u = record { at = h; parent = p; children = tops kids; update = u }

  listed_or : (k : Handle) {A : Type 0} → (listed k hs ≡ false → A) → (listed k hs ≡ true) ⊎ A
  listed_or k f = elim (cases_Bool (listed k hs)) [
    | inl a ↦ inl a
    | inr b ↦ inr (f b)
  ]

  -- each planned node that isn't listed keeps its children
  lists_kept : (p q : Option Handle) (d : Forest Redraw) (g : Forest RenderObject) → IsUpdated redrawn (object_at made) d g → EachEntry Look (entries p d) → Stands (node_at committed) q g → (k : Handle) → has_node k g ≡ true
      → (listed k hs ≡ true) ⊎ (children_at made k ≡ children_at committed k)
  lists_kept p q none none u a s k there = absurd (false≢true there)
  lists_kept p q none (tree j w under rest) u a s k there = absurd u
  lists_kept p q (tree x y kids more) none u a s k there = absurd u
  lists_kept p q (tree x y kids more) (tree j w under rest) u a s k there =
      let own = each_right Look (entries (Some x) kids) (entry x p kids y ∷ entries p more) a in
      elim (either (same j k) (has_node k under || has_node k rest) there) [
        | inl e ↦
            let handle : j ≡ k = same-true j k e in
            listed_or k (λ free.
            let keeps = own.0 (ap (λ h. listed h hs) (u.0 ∙ handle) ∙ free) in
            ap (children_at made) (sym (u.0 ∙ handle)) ∙ (sym keeps.1 ∙ (sym (same_tops made kids under u.2) ∙ (sym (ap children_of s.0) ∙ ap (children_at committed) handle))))
        | inr later ↦ elim (either (has_node k under) (has_node k rest) later) [
          | inl b ↦ lists_kept (Some x) (Some j) kids under u.2 (each_left Look (entries (Some x) kids) (entry x p kids y ∷ entries p more) a) s.1 k b
          | inr b ↦ lists_kept p q more rest u.3 own.1 s.2 k b
        ]
      ]

  -- and each is one that was made or was there
  updated_at : (q : Option Handle) (d : Forest Redraw) (g : Forest RenderObject) → IsUpdated redrawn (object_at made) d g → Stands (node_at committed) q g → (k : Handle) → has_node k g ≡ true
      → (w : RenderObject) → object_at committed k ≡ Some w → (v : RenderObject) × (object_at made k ≡ Some v) × ((y : Redraw) × (w ≡ redrawn y v))
  updated_at q none none u s k there w at = absurd (false≢true there)
  updated_at q none (tree j x under rest) u s k there w at = absurd u
  updated_at q (tree x y kids more) none u s k there w at = absurd u
  updated_at q (tree x y kids more) (tree j z under rest) u s k there w at = elim (either (same j k) (has_node k under || has_node k rest) there) [
    | inl e ↦
        let handle : j ≡ k = same-true j k e in
        let value : z ≡ w = same_Some (sym (value_of committed j _ s.0) ∙ (ap (object_at committed) handle ∙ at)) in
        by_made (object_at made x) refl (ap (object_at made) (u.0 ∙ handle)) (u.1 ∙ ap (λ o. Some o) value)
    | inr later ↦ elim (either (has_node k under) (has_node k rest) later) [
      | inl b ↦ updated_at (Some j) kids under u.2 s.1 k b w at
      | inr b ↦ updated_at q more rest u.3 s.2 k b w at
    ]
  ]
    where
      by_made : (o : Option RenderObject) → object_at made x ≡ o → object_at made x ≡ object_at made k → option_map (redrawn y) (object_at made x) ≡ Some w → (v : RenderObject) × (object_at made k ≡ Some v) × ((y : Redraw) × (w ≡ redrawn y v))
      by_made None e handle is = none_some w (sym (ap (option_map (redrawn y)) e) ∙ is)
      by_made (Some v) e handle is = (v, sym handle ∙ e, (y, sym (same_Some (sym (ap (option_map (redrawn y)) e) ∙ is))))

module _ (ranged brought : Tree RenderObject) (second : Redraws ranged brought) where
  pub tree_committed_second : IsTree second.laid_marked
  tree_committed_second = (sweep layout_marks true second.laid at_top second.nodes, second.layouts.plain second.nodes second.is)

  pub tree_brought : IsTree brought
  tree_brought = (sweep paint_marks true second.painted at_top tree_committed_second.0, second.paints.plain tree_committed_second.0 tree_committed_second.1)

  planned_node : (k : Handle) (w : RenderObject) → object_at second.committed k ≡ Some w → has_node k second.nodes ≡ true
  planned_node k w at = node_stands second.committed second.nodes k second.is (object_live second.committed k w at)

  pub second_from : (k : Handle) (w : RenderObject) → object_at second.committed k ≡ Some w → (v : RenderObject) × (object_at second.made k ≡ Some v) × ((y : Redraw) × (w ≡ redrawn y v))
  second_from k w at = updated_at second.made second.committed second.painted None second.updates second.nodes second.updated second.is.stands k (planned_node k w at) w at

  -- what is there after the second phase, and where it was
  pub brought_from : (k : Handle) (w : RenderObject) → object_at brought k ≡ Some w → (c : RenderObject) × (object_at second.committed k ≡ Some c) × ((f : Bool) × (b : Bool) × (g : Bool) × (d : Bool) × (w ≡ paint_marks.marked g d (layout_marks.marked f b c)))
  brought_from k w at =
      let m = was_there ranged paint_marks (λ f b o. refl) second.painted [] second.laid_marked brought second.paints k w at in
      let c = was_there ranged layout_marks (λ f b o. refl) second.laid [] second.committed second.laid_marked second.layouts k m.0.value (value_of second.laid_marked k m.0 m.1) in
      (c.0.value, value_of second.committed k c.0 c.1, (c.2.0, c.2.1, m.2.0, m.2.1, m.2.2 ∙ ap (paint_marks.marked m.2.0 m.2.1) c.2.2))

  pub flags_brought : (old : Tree RenderObject) (hs : List Handle) → KeepsBelow ranged second.committed → ((k : Handle) → node_at ranged k ≡ None → node_at old k ≡ None) → AreMarkedBy old ranged hs
      → AreMarkedBy old brought ((hs ++ second.painted) ++ second.painted)
  flags_brought old hs kinds there marked = marked_more old second.laid_marked brought (hs ++ second.painted) second.painted second.paints tree_committed_second flags_laid_second
    where
      list_grown : (k : Handle) → children_at ranged k ≡ children_at second.made k
      list_grown k = by_node (node_at ranged k) (node_at second.made k) refl refl
        where
          by_node : (x y : Option (TreeNode RenderObject)) → node_at ranged k ≡ x → node_at second.made k ≡ y → children_at ranged k ≡ children_at second.made k
          by_node (Some n) y e f = ap children_of (sym (second.grows.keeps k (is_node (node_at ranged k) n e)))
          by_node None None e f = ap children_of e ∙ sym (ap children_of f)
          by_node None (Some m) e f = ap children_of e ∙ (sym (ap (λ (n : TreeNode RenderObject). n.children) (second.grows.fresh k m e f).2) ∙ sym (ap children_of f))

      planned_list : (k : Handle) → IsNode second.committed k → (listed k (hs ++ second.painted) ≡ true) ⊎ (children_at ranged k ≡ children_at second.committed k)
      planned_list k live = elim (lists_kept second.made second.committed second.painted None None second.updates second.nodes second.updated second.painted_anew.own second.is.stands k (node_stands second.committed second.nodes k second.is live)) [
        | inl l ↦ inl (listed_second k hs second.painted l)
        | inr e ↦ inr (list_grown k ∙ e)
      ]

      flags_committed : AreMarkedBy old second.committed (hs ++ second.painted)
      flags_committed =
          marked_moved old ranged second.committed hs (hs ++ second.painted) (record { tree = (second.nodes, second.is); kinds = kinds; lists = planned_list }) (λ k e. listed_first k hs second.painted e)
          (λ k w at flag.
          let v = second_from k w at in
          elim (grown_from ranged second.made second.grows k v.0 v.1) [
            | inl was ↦ inr (v.0, was, ap (λ (o : RenderObject). o.needs_paint) (sym v.2.1) ∙ flag)
            | inr gone ↦ inl (flagged_new old k (there k gone))
          ]) marked

      flags_laid_second : AreMarkedBy old second.laid_marked (hs ++ second.painted)
      flags_laid_second =
          marked_moved old second.committed second.laid_marked (hs ++ second.painted) (hs ++ second.painted)
          (marks_shape old layout_marks (λ f b o. refl) second.laid (hs ++ second.painted) second.committed second.laid_marked second.layouts (second.nodes, second.is)) (λ k e. e)
          (λ k w at flag.
          let c = was_there old layout_marks (λ f b o. refl) second.laid [] second.committed second.laid_marked second.layouts k w at in
          inr (c.0.value, value_of second.committed k c.0 c.1, ap (λ (o : RenderObject). o.needs_paint) (sym c.2.2) ∙ flag)) flags_committed
