-- A frame in both phases, as painting compares its trees.
use Rattle.std.proofs.Common.{◌≡◌, ◌+◌, ◌⊎◌, ℕ, ◌≤◌, Bool, true, false, not, ◌&&◌, ◌||◌, cond, Option, Some, None, option_map, List, [], ◌∷◌, ◌++◌, filter, append-nil, refl, sym, ap, ◌∙◌, subst, inl, inr, arith}
use Rattle.std.proofs.lemmas.Bool.{cases_Bool, and_parts, and_from, or_left, or_right, false≢true, true≢false}
use Rattle.std.specs.Option.{option_to_list}
use Rattle.fx_geom.specs.Offset.{origin}
use Rattle.fx_geom.specs.declared.shapes.Size.{Size}
use Rattle.fx_handles.specs.declared.Handle.{Handle}
use Rattle.fx_handles.specs.Handle.{same, times, Among}
use Rattle.fx_handles.specs.HandleLaws.{same-true, same_self, times_here, times-cons}
use Rattle.fx_handles.specs.ArenaLaws.{same_Some}
use Rattle.node_tree.specs.Forest.{TreeNode, Forest, tops, count, In, Stands, pruned, below as forest_below}
use Rattle.node_tree.specs.Forest.Forest.{none, tree}
use Rattle.node_tree.specs.Part.{is_named, kept_by, left_parent}
use Rattle.node_tree.specs.Plan.{PlanEntry, entries, entry_at}
use Rattle.node_tree.specs.Tree.{Tree, IsTree, node_at, parent_at, parent_of, children_at, children_of, subtree_at}
use Rattle.node_tree.proofs.ForestLemmas.{find}
use Rattle.node_tree.proofs.PartForests.{tops-pruned}
use Rattle.node_tree.proofs.PlanLemmas.{times-entries, entry-some, weigh-updated}
use Rattle.node_tree.proofs.TreeLemmas.{is_node, child_of}
use Rattle.plain_tree.specs.Laid.{Laid, laid, Laids, no_laids, more_laids}
use Rattle.plain_tree.specs.Laws.{AllDiffer, render_numbers_in}
use Rattle.plain_tree.specs.Render.{Render, no_renders, more_renders}
use Rattle.tree_marks.specs.Marking.{at_top}
use Rattle.tree_marks.specs.Marks.{has_node}
use Rattle.tree_marks.proofs.Climbing.{missing}
use Rattle.tree_marks.proofs.Closing.{either}
use Rattle.work_roles.specs.WorkRole.{is_repaint_boundary}
use Rattle.kept_layers.specs.Group.{is_boundary}
use Rattle.kept_layers.proofs.RootTrees.{root_stands}
use Rattle.kept_layouts.specs.Items.{all_without_items}
use Rattle.layout_form.specs.Layout.{lay_view}
use Rattle.layout_form.specs.Object.{Setting}
use Rattle.layout_owner.specs.Calm.{IsLaidCalm}
use Rattle.layout_owner.specs.Roots.{view_asks, IsPlaced}
use Rattle.layout_owner.specs.Undue.{RootAsked}
use Rattle.layout_rules.specs.Nodes.{layout_nodes, seen_node}
use Rattle.layout_rules.specs.Painting.{KeepsRest}
use Rattle.layout_rules.specs.Reads.{state_at}
use Rattle.layout_walk.specs.Here.{HereAll, outer_back}
use Rattle.layout_walk.specs.Node.{LayoutNode}
use Rattle.layout_walk.specs.Rule.{Lawful}
use Rattle.layout_walk.specs.Rules.{parts_of, is_list}
use Rattle.layout_walk.specs.Walk.{SameMembers}
use Rattle.layout_walk.proofs.Correcting.{corrected_same}
use Rattle.render_tree.specs.LayoutState.{with_layout_state}
use Rattle.render_tree.specs.Marks.{layout_marks, paint_marks}
use Rattle.render_tree.specs.Object.{RenderObject, object_look}
use Rattle.render_tree.specs.Plain.{facts_of, laid_of, laids_of, offset_or, renders_of, root_tree}
use Rattle.render_tree.specs.Redraw.{Redraw, redrawn}
use Rattle.render_tree.specs.Tree.{object_at}
use Rattle.render_sync.specs.Numbering.{number_at}
use Rattle.screen_owner.proofs.Showing.{root_forest}
use Rattle.kept_phases.specs.Lists.{FlushesLists}
use Rattle.frame_owner.specs.Working.{BringsInPhases}
use Rattle.counted_work.specs.Shows.{ArePutSo, LookOtherwise}
use Rattle.counted_work.proofs.Relaid.{SameNodes, IsRelaid, laid_node, relaid_forest, same_lists, swept_nodes}
use Rattle.counted_phases.specs.Outer.{UnlessList, ListOr, AreOuter}
use Rattle.counted_phases.specs.OuterLaid.{outer_laid, outer_laids}
use Rattle.counted_phases.specs.Paints.{IsEither, StaysBetween, AreStill, KeepsBelow, BuiltInPhases}
use Rattle.counted_phases.specs.Seen.{SeenSame}
use Rattle.counted_phases.proofs.AsOne.{StoredSeen, stored_at, stored_is, stored_none}
use Rattle.counted_phases.proofs.Climbing.{first_or_later, node_of, marks_list, was_there}
use Rattle.counted_phases.proofs.SeenBetween.{has_outer, outer_same, state_same}
use Rattle.counted_phases.proofs.SeenEnds.{SameOuter, AreEnding, ends}
use Rattle.counted_phases.proofs.SeenFrame.{IsAskedIn, members_outer, outer_back_again, outer_trans, tops_apart, outer_times, item_times, times_sum, items_free, boxes_empty, are_plugged, IsSingle, root_left}
use Rattle.counted_phases.proofs.SeenPut.{seen_trans, seen_ranges, seen_put, put_tree, seen_stored, marks_stored}
use Rattle.counted_phases.proofs.SeenStill.{NoneOuter, ItemsFree, own_either, place_either, still}
use Rattle.counted_phases.proofs.Stages.{none_some, kept_there, relaid_from, tree_mid, brought_from, second_from, grown_node, seen_from, seen_lists}
use Rattle.counted_frames.proofs.Outer.{HasOuter, are_outer, named_outer}
use Rattle.counted_frames.proofs.Planned.{HoldLeft}
use Rattle.counted_frames.proofs.Moved.{IsAsWas, as_was, planned_item}
use Rattle.counted_frames.proofs.First.{mid_is, planned, left}
use Rattle.counted_frames.proofs.Again.{look_by}
use Rattle.counted_frames.proofs.Part.{front_stands, was_below}

-- ---- forests

relaid_outer : (f g : Forest RenderObject) → IsRelaid f g → SameOuter f g
relaid_outer none none r = tt
relaid_outer none (tree k w under rest) r = absurd r
relaid_outer (tree h v kids more) none r = absurd r
relaid_outer (tree h v kids more) (tree k w under rest) r =
    (r.0, ap object_look (sym r.1.1), ap (λ (o : RenderObject). o.number) (sym r.1.1), by_list (is_list (object_look v)) (relaid_outer kids under r.2), relaid_outer more rest r.3)
  where
    by_list : (b : Bool) → SameOuter kids under → UnlessList b (SameOuter kids under)
    by_list true s = tt
    by_list false s = s

single_of : (s : Setting) (f : Forest RenderObject) (top : Render) → AreOuter f (more_renders top no_renders) → IsSingle s f
single_of s none top a = absurd a
single_of s (tree h o kids none) top a = tt
single_of s (tree h o kids (tree k v under rest)) top a = absurd a.2

single_same : (s : Setting) (f l : Forest RenderObject) → SameOuter f l → IsSingle s f → IsSingle s l
single_same z none l s one = absurd one
single_same z (tree h o kids (tree k v under rest)) l s one = absurd one
single_same z (tree h o kids none) none s one = absurd s
single_same z (tree h o kids none) (tree j x under none) s one = tt
single_same z (tree h o kids none) (tree j x under (tree i y inner rest)) s one = absurd s.4

root_laids : (s : Setting) (l : Forest RenderObject) (L : Laid) → IsSingle s l → IsPlaced l → laid_of l ≡ Some L → laids_of l ≡ more_laids origin L no_laids
root_laids s none L one placed shown = absurd one
root_laids s (tree j x under (tree i y inner rest)) L one placed shown = absurd one
root_laids s (tree j x under none) L one placed shown =
    ap (λ b. cond {A = Laids} b (more_laids (offset_or x.offset) (laid x.number (object_look x) (facts_of x) (laids_of under)) no_laids) no_laids) placed.0
    ∙ (λ i. more_laids (offset_or (placed.1 i)) (same_Some shown i) no_laids)

either_on : {A : Type 0} (y x a z : A) → y ≡ x → IsEither x a z → IsEither y a z
either_on y x a z e (inl i) = inl (e ∙ i)
either_on y x a z e (inr i) = inr (e ∙ i)

filter_all : (claimed : Handle → Bool) (hs : List Handle) → ((c : Handle) → Among c hs → claimed c ≡ false) → filter (λ h. not (claimed h)) hs ≡ hs
filter_all claimed [] none_is = refl
filter_all claimed (h ∷ hs) none_is =
    ap (λ b. cond (not b) (h ∷ filter (λ j. not (claimed j)) hs) (filter (λ j. not (claimed j)) hs)) (none_is h (omega (arith, times_here h hs)))
    ∙ ap (λ l. h ∷ l) (filter_all claimed hs (λ c a. none_is c (omega (arith, a, times-cons c h hs))))

-- an outer node stands at the top, or below an outer node
outer_above : (t : Tree RenderObject) (q : Option Handle) (h : Forest RenderObject) → Stands (node_at t) q h → (c : Handle) → has_outer c h ≡ true → (parent_at t c ≡ q) ⊎ ((p : Handle) × (parent_at t c ≡ Some p) × (has_outer p h ≡ true))
outer_above t q none s c o = absurd (false≢true o)
outer_above t q (tree i v kids more) s c o = elim (either (same i c) ((not (is_list (object_look v)) && has_outer c kids) || has_outer c more) o) [
  | inl here ↦ inl (ap (parent_at t) (sym (same-true i c here)) ∙ ap parent_of s.0)
  | inr later ↦ elim (either (not (is_list (object_look v)) && has_outer c kids) (has_outer c more) later) [
    | inl x ↦
        let parts = and_parts (not (is_list (object_look v))) (has_outer c kids) x in
        inr (elim (outer_above t (Some i) kids s.1 c parts.1) [
          | inl e ↦ (i, e, or_left (same i i) ((not (is_list (object_look v)) && has_outer i kids) || has_outer i more) (same_self i))
          | inr e ↦ (
            e.0,
            e.1,
            or_right (same i e.0) ((not (is_list (object_look v)) && has_outer e.0 kids) || has_outer e.0 more)
                (or_left (not (is_list (object_look v)) && has_outer e.0 kids) (has_outer e.0 more) (and_from (not (is_list (object_look v))) (has_outer e.0 kids) parts.0 e.2)),
          )
        ])
    | inr x ↦ elim (outer_above t q more s.2 c x) [
      | inl e ↦ inl e
      | inr e ↦ inr (e.0, e.1, or_right (same i e.0) ((not (is_list (object_look v)) && has_outer e.0 kids) || has_outer e.0 more) (or_right (not (is_list (object_look v)) && has_outer e.0 kids) (has_outer e.0 more) e.2))
    ]
  ]
]

-- the outer nodes of a forest, as a test
outer_test : (k : Handle) (n f : Forest RenderObject) → SameNodes n f → HasOuter k n → has_outer k f ≡ true
outer_test k none f s o = absurd o
outer_test k (tree h v kids more) none s o = absurd s
outer_test k (tree h v kids more) (tree i w below rest) s (inl here) =
    or_left (same i k) ((not (is_list (object_look w)) && has_outer k below) || has_outer k rest) (ap (λ y. same y k) (sym s.0 ∙ here) ∙ same_self k)
outer_test k (tree h v kids more) (tree i w below rest) s (inr (inl inner)) =
    or_right (same i k) ((not (is_list (object_look w)) && has_outer k below) || has_outer k rest)
    (or_left (not (is_list (object_look w)) && has_outer k below) (has_outer k rest)
    (and_from (not (is_list (object_look w))) (has_outer k below) (ap not (ap is_list (sym s.1) ∙ inner.0)) (outer_test k kids below s.3 inner.1)))
outer_test k (tree h v kids more) (tree i w below rest) s (inr (inr later)) =
    or_right (same i k) ((not (is_list (object_look w)) && has_outer k below) || has_outer k rest) (or_right (not (is_list (object_look w)) && has_outer k below) (has_outer k rest) (outer_test k more rest s.4 later))

test_outer : (k : Handle) (n f : Forest RenderObject) → SameNodes n f → has_outer k f ≡ true → HasOuter k n
test_outer k none none s o = absurd (false≢true o)
test_outer k none (tree i w below rest) s o = absurd s
test_outer k (tree h v kids more) none s o = absurd s
test_outer k (tree h v kids more) (tree i w below rest) s o = elim (either (same i k) ((not (is_list (object_look w)) && has_outer k below) || has_outer k rest) o) [
  | inl here ↦ inl (s.0 ∙ same-true i k here)
  | inr later ↦ elim (either (not (is_list (object_look w)) && has_outer k below) (has_outer k rest) later) [
    | inl x ↦
        let parts = and_parts (not (is_list (object_look w))) (has_outer k below) x in
        inr (inl (free_of (is_list (object_look v)) (ap not (ap is_list s.1) ∙ parts.0), test_outer k kids below s.3 parts.1))
    | inr x ↦ inr (inr (test_outer k more rest s.4 x))
  ]
]
  where
    free_of : (b : Bool) → not b ≡ true → b ≡ false
    free_of true e = absurd (false≢true e)
    free_of false e = refl

-- what is known of an outer node in two forests
outer_nodes : (t u : Tree RenderObject) (q p : Option Handle) (f l : Forest RenderObject) → Stands (node_at t) q f → Stands (node_at u) p l → SameOuter f l → (k : Handle) → has_outer k f ≡ true
    → (m w : RenderObject) → object_at t k ≡ Some m → object_at u k ≡ Some w → object_look m ≡ object_look w
outer_nodes t u q p none l sf sl s k o m w at_m at_w = absurd (false≢true o)
outer_nodes t u q p (tree h v kids more) none sf sl s k o m w at_m at_w = absurd s
outer_nodes t u q p (tree h v kids more) (tree j x under others) sf sl s k o m w at_m at_w = elim (either (same h k) ((not (is_list (object_look v)) && has_outer k kids) || has_outer k more) o) [
  | inl here ↦
      let handle = same-true h k here in
      let one : v ≡ m = same_Some (sym (ap (option_map (λ (n : TreeNode RenderObject). n.value)) sf.0) ∙ (ap (object_at t) handle ∙ at_m)) in
      let two : x ≡ w = same_Some (sym (ap (option_map (λ (n : TreeNode RenderObject). n.value)) sl.0) ∙ (ap (object_at u) (sym s.0 ∙ handle) ∙ at_w)) in
      ap object_look (sym one) ∙ (s.1 ∙ ap object_look two)
  | inr later ↦ elim (either (not (is_list (object_look v)) && has_outer k kids) (has_outer k more) later) [
    | inl y ↦ let parts = and_parts (not (is_list (object_look v))) (has_outer k kids) y in by_list (is_list (object_look v)) parts.0 s.3 (λ i. outer_nodes t u (Some h) (Some j) kids under sf.1 sl.1 i k parts.1 m w at_m at_w)
    | inr y ↦ outer_nodes t u q p more others sf.2 sl.2 s.4 k y m w at_m at_w
  ]
]
  where
    by_list : (b : Bool) → not b ≡ true → UnlessList b (SameOuter kids under) → (SameOuter kids under → object_look m ≡ object_look w) → object_look m ≡ object_look w
    by_list true free s go = absurd (false≢true free)
    by_list false free s go = go s

outer_tops : (f l : Forest RenderObject) → SameOuter f l → tops f ≡ tops l
outer_tops none none s = refl
outer_tops none (tree j x under others) s = absurd s
outer_tops (tree h v kids more) none s = absurd s
outer_tops (tree h v kids more) (tree j x under others) s = let later = outer_tops more others s.4 in λ i. s.0 i ∷ later i

-- one that is no list has the same children in both
outer_children : (t u : Tree RenderObject) (q p : Option Handle) (f l : Forest RenderObject) → Stands (node_at t) q f → Stands (node_at u) p l → SameOuter f l → (k : Handle) → has_outer k f ≡ true
    → (m : RenderObject) → object_at t k ≡ Some m → is_list (object_look m) ≡ false → children_at t k ≡ children_at u k
outer_children t u q p none l sf sl s k o m at_m free = absurd (false≢true o)
outer_children t u q p (tree h v kids more) none sf sl s k o m at_m free = absurd s
outer_children t u q p (tree h v kids more) (tree j x under others) sf sl s k o m at_m free = elim (either (same h k) ((not (is_list (object_look v)) && has_outer k kids) || has_outer k more) o) [
  | inl here ↦
      let handle = same-true h k here in
      let one : v ≡ m = same_Some (sym (ap (option_map (λ (n : TreeNode RenderObject). n.value)) sf.0) ∙ (ap (object_at t) handle ∙ at_m)) in
      let kids_same : SameOuter kids under = subst (λ b. UnlessList b (SameOuter kids under)) (ap (λ (y : RenderObject). is_list (object_look y)) one ∙ free) s.3 in
      sym (ap (children_at t) handle) ∙ (ap children_of sf.0 ∙ (outer_tops kids under kids_same ∙ (sym (ap children_of sl.0) ∙ ap (children_at u) (sym s.0 ∙ handle))))
  | inr later ↦ elim (either (not (is_list (object_look v)) && has_outer k kids) (has_outer k more) later) [
    | inl y ↦ let parts = and_parts (not (is_list (object_look v))) (has_outer k kids) y in by_list (is_list (object_look v)) parts.0 s.3 (λ i. outer_children t u (Some h) (Some j) kids under sf.1 sl.1 i k parts.1 m at_m free)
    | inr y ↦ outer_children t u q p more others sf.2 sl.2 s.4 k y m at_m free
  ]
]
  where
    by_list : (b : Bool) → not b ≡ true → UnlessList b (SameOuter kids under) → (SameOuter kids under → children_at t k ≡ children_at u k) → children_at t k ≡ children_at u k
    by_list true none_free s go = absurd (false≢true none_free)
    by_list false none_free s go = go s

-- the items of a list of a first phase
list_children : (made t : Tree RenderObject) (claimed : Handle → Bool) (q : Option Handle) (n : Forest RenderObject) → Stands (node_at t) q n → HoldLeft made claimed n → (k : Handle) → HasOuter k n → (c : RenderObject) → object_at t k ≡ Some c
    → is_list (object_look c) ≡ true → children_at t k ≡ tops (pruned claimed (forest_below (subtree_at made k)))
list_children made t claimed q none s hold k o c at_c list = absurd o
list_children made t claimed q (tree h v kids more) s hold k (inl here) c at_c list =
    let one : v ≡ c = same_Some (sym (ap (option_map (λ (n : TreeNode RenderObject). n.value)) s.0) ∙ (ap (object_at t) here ∙ at_c)) in
    let items : kids ≡ pruned claimed (forest_below (subtree_at made h)) = subst (λ b. ListOr b (kids ≡ pruned claimed (forest_below (subtree_at made h))) (HoldLeft made claimed kids)) (ap (λ (y : RenderObject). is_list (object_look y)) one ∙ list) hold.0 in
    sym (ap (children_at t) here) ∙ (ap children_of s.0 ∙ (ap tops items ∙ ap (λ y. tops (pruned claimed (forest_below (subtree_at made y)))) here))
list_children made t claimed q (tree h v kids more) s hold k (inr (inl inner)) c at_c list =
    list_children made t claimed (Some h) kids s.1 (subst (λ b. ListOr b (kids ≡ pruned claimed (forest_below (subtree_at made h))) (HoldLeft made claimed kids)) inner.0 hold.0) k inner.1 c at_c list
list_children made t claimed q (tree h v kids more) s hold k (inr (inr later)) c at_c list = list_children made t claimed q more s.2 hold.1 k later c at_c list

-- ---- the frame

module _ (s : Setting) (view : Size) (old brought laid : Tree RenderObject) (top : Render) (lo lb : ℕ) (q : BringsInPhases s view old brought top lo lb) (keeps : KeepsRest brought laid) (is_laid : IsTree laid) (alone_laid : laid.inactive ≡ []) where
  abbrev mid : Tree RenderObject
  mid = q.lists.mid

  abbrev fl : FlushesLists s view mid q.ranged
  fl = q.flushes

  abbrev flushed : Tree RenderObject
  flushed = fl.flushed

  abbrev run : Tree RenderObject
  run = fl.paints.paints.laid

  abbrev marked : Tree RenderObject
  marked = fl.paints.laid

  abbrev changed : List Handle
  changed = fl.paints.paints.changed

  abbrev claimed : Handle → Bool
  claimed = is_named (entries None q.lists.drawn)

  is_old : IsTree old
  is_old = q.lists.before.tree

  is_mid : IsTree mid
  is_mid = tree_mid old mid q.lists.first

  abbrev f : Forest RenderObject
  f = root_tree mid

  abbrev g : Forest RenderObject
  g = root_tree flushed

  abbrev F : Forest RenderObject
  F = root_tree brought

  abbrev l : Forest RenderObject
  l = root_tree laid

  sf : Stands (node_at mid) None f
  sf = root_stands mid is_mid

  sg : Stands (node_at flushed) None g
  sg = root_stands flushed fl.tree

  sF : Stands (node_at brought) None F
  sF = root_stands brought q.after.tree

  sl : Stands (node_at laid) None l
  sl = root_stands laid is_laid

  -- ---- numbers and handles

  pub mid_number : (k : Handle) (o : RenderObject) → object_at mid k ≡ Some o → number_at q.second.made k ≡ Some o.number
  mid_number k o at =
      let w = q.stays.drawn k o at in
      let n = node_of q.ranged k w.0 w.1 in
      ap (λ (y : Option (TreeNode RenderObject)). option_map (λ (x : RenderObject). x.number) (option_map (λ (x : TreeNode RenderObject). x.value) y)) (grown_node q.ranged q.second.made q.second.grows k n.0 n.1)
      ∙ ap (λ m. Some m) (ap (λ (x : RenderObject). x.number) n.2 ∙ w.2)

  pub brought_number : (k : Handle) (w : RenderObject) → object_at brought k ≡ Some w → number_at q.second.made k ≡ Some w.number
  brought_number k w at =
      let c = brought_from q.ranged brought q.second k w at in
      let v = second_from q.ranged brought q.second k c.0 c.1 in
      ap (option_map (λ (x : RenderObject). x.number)) v.1
      ∙ ap (λ m. Some m) (ap (λ (x : RenderObject). x.number) (sym v.2.1) ∙ ap (λ (x : RenderObject). x.number) (sym c.2.4))

  one_handle : (h k : Handle) (o w : RenderObject) → object_at mid h ≡ Some o → object_at brought k ≡ Some w → o.number ≡ w.number → h ≡ k
  one_handle h k o w at_h at_k number = q.apart o.number h k (mid_number h o at_h) (brought_number k w at_k ∙ ap (λ m. Some m) (sym number))

  -- ---- the same outer nodes

  outer_same_fF : (a c : Option Handle) (x y : Forest RenderObject) → Stands (node_at mid) a x → Stands (node_at brought) c y → AreOuter x (renders_of y) → SameOuter x y
  outer_same_fF a c none none sx sy o = tt
  outer_same_fF a c none (tree j w under others) sx sy o = absurd o
  outer_same_fF a c (tree h v kids more) none sx sy o = absurd o
  outer_same_fF a c (tree h v kids more) (tree j w under others) sx sy o = (
    one_handle h j v w (ap (option_map (λ (n : TreeNode RenderObject). n.value)) sx.0) (ap (option_map (λ (n : TreeNode RenderObject). n.value)) sy.0) o.0.number,
    o.0.look,
    o.0.number,
    by_list (is_list (object_look v)) o.1 (λ i. outer_same_fF (Some h) (Some j) kids under sx.1 sy.1 i),
    outer_same_fF a c more others sx.2 sy.2 o.2,
  )
    where
      by_list : (b : Bool) → UnlessList b (AreOuter kids (renders_of under)) → (AreOuter kids (renders_of under) → SameOuter kids under) → UnlessList b (SameOuter kids under)
      by_list true i go = tt
      by_list false i go = go i

  same_outer : all_without_items (renders_of f) ≡ all_without_items (renders_of F)
  same_outer = q.outer ∙ ap all_without_items (sym q.renders)

  same_fF : SameOuter f F
  same_fF = outer_same_fF None None f F sf sF (are_outer f (renders_of F) same_outer)

  tops_Fl : tops F ≡ tops l
  tops_Fl =
      let one = q.after.tree in
      let root_F = root_forest brought one.0 q.after.alone one.1 in
      let root_l = root_forest laid is_laid.0 alone_laid is_laid.1 in
      ap tops root_F ∙ (sym one.1.tops ∙ (ap (λ r. option_to_list r ++ brought.inactive) (sym keeps.root) ∙ (ap (λ hs. option_to_list laid.root ++ hs) (sym keeps.inactive) ∙ (is_laid.1.tops ∙ ap tops (sym root_l)))))

  same_fl : SameOuter f l
  same_fl = outer_trans f F l same_fF (relaid_outer F l (relaid_forest brought laid keeps None F l sF sl tops_Fl))

  members_fg : SameMembers (layout_nodes f) (layout_nodes g)
  members_fg = corrected_same (parts_of s) (outer_back (parts_of s)) (view_asks view) (layout_nodes f) (layout_nodes g) fl.stays

  same_fg : SameOuter f g
  same_fg = members_outer f g members_fg

  same_gl : SameOuter g l
  same_gl = outer_trans g f l (outer_back_again f g same_fg) same_fl

  single : IsSingle s f
  single = single_of s f top (subst (λ rs. AreOuter f rs) q.renders (are_outer f (renders_of F) same_outer))

  -- ---- what painting sees between the phases

  seen_flushed : SeenSame marked flushed
  seen_flushed = seen_ranges marked flushed fl.paints.ranges

  seen_ranged : SeenSame flushed q.ranged
  seen_ranged = seen_put flushed q.ranged fl.corrected fl.scrolls fl.tree fl.plain

  stored_flushed : (k : Handle) → stored_at flushed k ≡ stored_at run k
  stored_flushed k = seen_stored marked flushed seen_flushed k ∙ marks_stored run marked changed fl.paints.paints.marks k

  stored_ranged : (k : Handle) → stored_at q.ranged k ≡ stored_at flushed k
  stored_ranged k = seen_stored flushed q.ranged seen_ranged k

  otherwise : LookOtherwise mid run changed
  otherwise k among looks =
      let few = fl.paints.paints.once k in
      let one : times k changed ≡ 1 = omega (arith, among, few) in
      fl.paints.paints.repaints.other k one looks

  otherwise_flushed : LookOtherwise mid flushed changed
  otherwise_flushed k among looks = otherwise k among (record {
    own = ap (λ (x : StoredSeen). x.own) (sym (stored_flushed k)) ∙ looks.own;
    places = λ c a. ap (λ (x : StoredSeen). x.place) (sym (stored_flushed c)) ∙ looks.places c a;
  })

  looks_flushed : (k : Handle) (v w : RenderObject) → object_at mid k ≡ Some v → object_at flushed k ≡ Some w → object_look w ≡ object_look v
  looks_flushed k v w at_v at_w =
      let m = seen_from marked flushed seen_flushed k w at_w in
      let n = was_there old paint_marks (λ a c o. refl) changed [] run marked fl.paints.paints.marks k m.0 m.1 in
      let r = relaid_from mid run fl.paints.paints.rest k n.0.value (ap (option_map (λ (x : TreeNode RenderObject). x.value)) n.1) in
      m.2 ∙ (ap object_look n.2.2 ∙ (ap object_look r.2 ∙ ap object_look (same_Some (sym r.1 ∙ at_v))))

  no_in : (k : Handle) → has_node k f ≡ false → In k f → ⊥
  no_in k gone inside = let none_of = missing k f gone in omega (arith, inside, none_of)

  beside : (k : Handle) → has_node k f ≡ false → stored_at flushed k ≡ stored_at mid k
  beside k gone = by_seen (node_at flushed k) (node_at mid k) (fl.others k (no_in k gone)) refl refl
    where
      by_seen : (x y : Option (TreeNode RenderObject)) → option_map seen_node x ≡ option_map seen_node y → node_at flushed k ≡ x → node_at mid k ≡ y → stored_at flushed k ≡ stored_at mid k
      by_seen None None e at_x at_y =
          stored_none flushed k (ap (option_map (λ (n : TreeNode RenderObject). n.value)) at_x) ∙ sym (stored_none mid k (ap (option_map (λ (n : TreeNode RenderObject). n.value)) at_y))
      by_seen None (Some y) e at_x at_y = none_some (seen_node y) e
      by_seen (Some x) None e at_x at_y = none_some (seen_node x) (sym e)
      by_seen (Some x) (Some y) e at_x at_y =
          stored_is flushed k x.value (ap (option_map (λ (n : TreeNode RenderObject). n.value)) at_x)
          ∙ (state_same x.value y.value (ap (λ (n : TreeNode LayoutNode). n.value) (same_Some e)) ∙ sym (stored_is mid k y.value (ap (option_map (λ (n : TreeNode RenderObject). n.value)) at_y)))

  -- ---- items

  outer_fg : (k : Handle) → has_outer k f ≡ has_outer k g
  outer_fg k = outer_same k f g same_fg

  outer_fl : (k : Handle) → has_outer k f ≡ has_outer k l
  outer_fl k = outer_same k f l same_fl

  forest_l : l ≡ is_laid.0
  forest_l = root_forest laid is_laid.0 alone_laid is_laid.1

  once_l : (k : Handle) → outer_times k l + item_times k l ≤ 1
  once_l k =
      let few : count k l ≤ 1 = subst (λ x. count k x ≤ 1) (sym forest_l) (is_laid.1.distinct k) in
      let sum = times_sum k l in omega (arith, few, sum)

  free : ItemsFree f l
  free = items_free f l once_l outer_fl l (λ k. omega arith)

  -- ---- what is left

  module _ (law : Lawful (parts_of s)) (shown_so : outer_laids (laids_of g) ≡ more_laids origin (outer_laid (lay_view s top view)) no_laids)
      (placed : IsPlaced l) (shown : laid_of l ≡ Some (lay_view s top view)) (put : ArePutSo s.delegates l) (here : HereAll (parts_of s) (layout_nodes l)) (calm : IsLaidCalm l) (differ : AllDiffer (render_numbers_in (renders_of l))) where
    seen_gl : outer_laids (laids_of g) ≡ outer_laids (laids_of l)
    seen_gl = shown_so ∙ ap outer_laids (sym (root_laids s l (lay_view s top view) (single_same s f l same_fl single) placed shown))

    asked_so : (x : Forest RenderObject) → RootAsked view (layout_nodes x) → IsAskedIn s view x
    asked_so none asked = tt
    asked_so (tree k w under rest) asked = asked

    ending : AreEnding f g l
    ending =
        ends s.delegates f g l (root_left s law view f g single fl.good.here fl.held fl.placed (asked_so g fl.asked) fl.stays) same_gl seen_gl put (boxes_empty s law l here calm)
        (are_plugged s mid flushed fl.plugs None None f g sf sg members_fg) (tops_apart l differ)

    own_ends : (k : Handle) → IsEither (state_at q.ranged k).frame (state_at mid k).frame (state_at laid k).frame × IsEither (state_at q.ranged k).plugged (state_at mid k).plugged (state_at laid k).plugged
    own_ends k =
        let e = own_either mid flushed laid looks_flushed is_mid changed otherwise_flushed f g l sf sg sl ending outer_fg beside k in
        let same_stored = stored_ranged k in (
          either_on (state_at q.ranged k).frame (state_at flushed k).frame (state_at mid k).frame (state_at laid k).frame (ap (λ (x : StoredSeen). x.own.frame) same_stored) e.0,
          either_on (state_at q.ranged k).plugged (state_at flushed k).plugged (state_at mid k).plugged (state_at laid k).plugged (ap (λ (x : StoredSeen). x.own.plugged) same_stored) e.1,
        )

    place_ends : (k c : Handle) → children_at mid k ≡ children_at laid k → Among c (children_at laid k)
        → IsEither (state_at q.ranged c).offset (state_at mid c).offset (state_at laid c).offset × IsEither (state_at q.ranged c).shown (state_at mid c).shown (state_at laid c).shown
    place_ends k c list among =
        let e = place_either mid flushed laid looks_flushed is_mid changed otherwise_flushed f g l sf sg sl ending outer_fg beside k c list among in
        let same_stored = stored_ranged c in (
          either_on (state_at q.ranged c).offset (state_at flushed c).offset (state_at mid c).offset (state_at laid c).offset (ap (λ (x : StoredSeen). x.place.offset) same_stored) e.0,
          either_on (state_at q.ranged c).shown (state_at flushed c).shown (state_at mid c).shown (state_at laid c).shown (ap (λ (x : StoredSeen). x.place.shown) same_stored) e.1,
        )

    still_on : (x : Forest RenderObject) → AreStill mid flushed changed x → AreStill mid q.ranged changed x
    still_on none is = tt
    still_on (tree k w under rest) is = (
      (λ e. still_on under (is.0 e)),
      (λ e. (ap (λ (x : StoredSeen). x.place.offset) (stored_ranged k) ∙ (is.1 e).0, (is.1 e).1)),
      still_on rest is.2,
    )

    stays_still : AreStill mid q.ranged changed l
    stays_still = still_on l (still mid flushed laid looks_flushed is_mid changed otherwise_flushed f g l sf sg sl ending outer_fg beside same_gl free)

    -- ---- nodes that are as in the last frame

    planned_nodes : SameNodes q.lists.first.nodes f
    planned_nodes =
        subst (SameNodes q.lists.first.nodes) (sym (mid_is s view old top lo lb q.lists q.outer))
        (swept_nodes (q.lists.first.laid ++ q.lists.first.lost) (q.lists.first.painted ++ q.lists.first.lost) at_top at_top q.lists.first.nodes)

    named_test : (k : Handle) → claimed k ≡ true → has_outer k f ≡ true
    named_test k e = outer_test k q.lists.first.nodes f planned_nodes (named_outer (object_at q.lists.first.made) _ k q.lists.drawn q.lists.first.nodes q.lists.bare (planned s view old top lo lb q.lists q.outer) e)

    unclaimed : (k : Handle) → has_outer k f ≡ false → claimed k ≡ false
    unclaimed k none_outer = elim (cases_Bool (claimed k)) [
      | inl e ↦ absurd (true≢false (sym (named_test k e) ∙ none_outer))
      | inr e ↦ e
    ]

    -- a node that is no outer one is as it was
    was_so : (k : Handle) (n : TreeNode RenderObject) → node_at old k ≡ Some n → has_outer k f ≡ false → IsAsWas old mid q.lists.first is_old q.lists.drawn (planned s view old top lo lb q.lists q.outer) (left s view old top lo lb q.lists q.outer) k n
    was_so k n at none_outer = as_was old mid q.lists.first is_old q.lists.drawn (planned s view old top lo lb q.lists q.outer) (left s view old top lo lb q.lists q.outer) k n at (unclaimed k none_outer)

    mid_look : (k : Handle) (c m : RenderObject) → object_at q.lists.first.committed k ≡ Some c → object_at mid k ≡ Some m → object_look m ≡ object_look c
    mid_look k c m at_c at_m =
        let n = node_of q.lists.first.committed k c at_c in
        let a = q.lists.first.layouts.only k n.0 n.1 in
        let d = q.lists.first.paints.only k (record n.0 { value = layout_marks.marked a.0 a.1 n.0.value }) a.2 in
        ap object_look (same_Some (sym at_m ∙ ap (option_map (λ (y : TreeNode RenderObject). y.value)) d.2)) ∙ ap object_look n.2

    mid_list : (k : Handle) → children_at q.lists.first.committed k ≡ children_at mid k
    mid_list k =
        marks_list old layout_marks (λ a x o. refl) (q.lists.first.laid ++ q.lists.first.lost) [] q.lists.first.committed q.lists.first.laid_marked q.lists.first.layouts k
        ∙ marks_list old paint_marks (λ a x o. refl) (q.lists.first.painted ++ q.lists.first.lost) [] q.lists.first.laid_marked mid q.lists.first.paints k

    item_look : (k : Handle) (o m : RenderObject) → object_at old k ≡ Some o → object_at mid k ≡ Some m → has_outer k f ≡ false → object_look m ≡ object_look o
    item_look k o m at_o at_m none_outer =
        let n = node_of old k o at_o in
        let w = was_so k n.0 n.1 none_outer in
        mid_look k n.0.value m (ap (option_map (λ (y : TreeNode RenderObject). y.value)) w.at) at_m ∙ ap object_look n.2

    looks_between : (k : Handle) (o m w : RenderObject) → object_at old k ≡ Some o → object_at mid k ≡ Some m → object_at laid k ≡ Some w → object_look o ≡ object_look w → object_look m ≡ object_look o
    looks_between k o m w at_o at_m at_w e = elim (cases_Bool (has_outer k f)) [
      | inl outer ↦ outer_nodes mid laid None None f l sf sl same_fl k outer m w at_m at_w ∙ sym e
      | inr item ↦ item_look k o m at_o at_m item
    ]

    -- no child of an item is an outer node
    item_children : (k c : Handle) → has_outer k f ≡ false → Among c (children_at laid k) → has_outer c f ≡ false
    item_children k c none_outer among = elim (cases_Bool (has_outer c f)) [
      | inr e ↦ e
      | inl e ↦ absurd (elim (outer_above laid None l sl c (sym (outer_fl c) ∙ e)) [
        | inl a ↦ none_some k (sym a ∙ (child_of laid is_laid.0 k c is_laid.1 among).parent)
        | inr a ↦ true≢false (sym (subst (λ y. has_outer y l ≡ true) (same_Some (sym a.1 ∙ (child_of laid is_laid.0 k c is_laid.1 among).parent)) a.2) ∙ (sym (outer_fl k) ∙ none_outer))
      ])
    ]

    -- nor is one of a list
    list_items : (a : Option Handle) (x : Forest RenderObject) → Stands (node_at laid) a x → ItemsFree f x → (k c : Handle) → has_outer k x ≡ true → (w : RenderObject) → object_at laid k ≡ Some w → is_list (object_look w) ≡ true
        → Among c (children_at laid k) → has_outer c f ≡ false
    list_items a none sx fx k c o w at_w list among = absurd (false≢true o)
    list_items a (tree j x under rest) sx fx k c o w at_w list among = elim (either (same j k) ((not (is_list (object_look x)) && has_outer k under) || has_outer k rest) o) [
      | inl here ↦
          let one : x ≡ w = same_Some (sym (ap (option_map (λ (n : TreeNode RenderObject). n.value)) sx.0) ∙ (ap (object_at laid) (same-true j k here) ∙ at_w)) in
          let items : NoneOuter f under = subst (λ b. ListOr b (NoneOuter f under) (ItemsFree f under)) (ap (λ (y : RenderObject). is_list (object_look y)) one ∙ list) fx.0 in
          top_free under items c (subst (Among c) (sym (ap (children_at laid) (same-true j k here)) ∙ ap children_of sx.0) among)
      | inr later ↦ elim (either (not (is_list (object_look x)) && has_outer k under) (has_outer k rest) later) [
        | inl y ↦ let parts = and_parts (not (is_list (object_look x))) (has_outer k under) y in by_list (is_list (object_look x)) parts.0 fx.0 (λ i. list_items (Some j) under sx.1 i k c parts.1 w at_w list among)
        | inr y ↦ list_items a rest sx.2 fx.1 k c y w at_w list among
      ]
    ]
      where
        top_free : (u : Forest RenderObject) → NoneOuter f u → (d : Handle) → Among d (tops u) → has_outer d f ≡ false
        top_free none n d m = absurd (omega arith)
        top_free (tree i y inner more) n d m = elim (first_or_later d i (tops more) m) [
          | inl e ↦ ap (λ z. has_outer z f) e ∙ n.0
          | inr e ↦ top_free more n.2 d e
        ]

        by_list : (b : Bool) → not b ≡ true → ListOr b (NoneOuter f under) (ItemsFree f under) → (ItemsFree f under → has_outer c f ≡ false) → has_outer c f ≡ false
        by_list true none_free i go = absurd (false≢true none_free)
        by_list false none_free i go = go i

    lists_between : (k : Handle) (o w : RenderObject) → object_at old k ≡ Some o → object_at laid k ≡ Some w → children_at old k ≡ children_at laid k → children_at mid k ≡ children_at old k
    lists_between k o w at_o at_w e = elim (cases_Bool (has_outer k f)) [
      | inl outer ↦ elim (cases_Bool (is_list (object_look w))) [
        | inl list ↦ list_between outer list
        | inr other ↦
            let m = mid_there in
            outer_children mid laid None None f l sf sl same_fl k outer m.0 m.1 (ap is_list (outer_nodes mid laid None None f l sf sl same_fl k outer m.0 w m.1 at_w) ∙ other) ∙ sym e
      ]
      | inr item ↦
          let n = node_of old k o at_o in
          let so = was_so k n.0 n.1 item in
          let old_list : children_at old k ≡ n.0.children = ap children_of n.1 in
          sym (mid_list k) ∙ (ap children_of so.at ∙ (so.same (λ c among. unclaimed c (item_children k c item (subst (Among c) (sym old_list ∙ e) among))) ∙ sym old_list))
    ]
      where
        mid_there : (m : RenderObject) × (object_at mid k ≡ Some m)
        mid_there = by_mid (node_at mid k) refl
          where
            by_mid : (x : Option (TreeNode RenderObject)) → node_at mid k ≡ x → (m : RenderObject) × (object_at mid k ≡ Some m)
            by_mid (Some n) at = (n.value, ap (option_map (λ (y : TreeNode RenderObject). y.value)) at)
            by_mid None at = let n = node_of old k o at_o in none_some n.0 (sym (kept_there old mid q.lists.first k at) ∙ n.1)

        committed_there : (m : RenderObject) → object_at mid k ≡ Some m → (c : RenderObject) × (object_at q.lists.first.committed k ≡ Some c)
        committed_there m at =
            let a = was_there old paint_marks (λ a x o. refl) (q.lists.first.painted ++ q.lists.first.lost) [] q.lists.first.laid_marked mid q.lists.first.paints k m at in
            let d = was_there old layout_marks (λ a x o. refl) (q.lists.first.laid ++ q.lists.first.lost) [] q.lists.first.committed q.lists.first.laid_marked q.lists.first.layouts k a.0.value (ap (option_map (λ (y : TreeNode RenderObject). y.value)) a.1) in
            (d.0.value, ap (option_map (λ (y : TreeNode RenderObject). y.value)) d.1)

        list_between : has_outer k f ≡ true → is_list (object_look w) ≡ true → children_at mid k ≡ children_at old k
        list_between outer list =
            let n = node_of old k o at_o in
            let m = mid_there in
            let c = committed_there m.0 m.1 in
            let found = find (node_at old) None is_old.0 k is_old.1.stands (is_old.1.whole k (is_node (node_at old k) n.0 n.1)) (is_old.1.distinct k) in
            let below_is : forest_below (subtree_at q.lists.first.made k) ≡ found.kids = was_below old q.lists.first.made q.lists.first.grows is_old found.parent k found.value found.kids found.is found.stands in
            let old_list : children_at old k ≡ tops found.kids = ap children_of found.is in
            let look : object_look c.0 ≡ object_look w = sym (mid_look k c.0 m.0 c.1 m.1) ∙ outer_nodes mid laid None None f l sf sl same_fl k outer m.0 w m.1 at_w in
            sym (mid_list k)
            ∙ (list_children q.lists.first.made q.lists.first.committed claimed None q.lists.first.nodes (front_stands (node_at q.lists.first.committed) None q.lists.first.nodes q.lists.first.others q.lists.first.is.stands)
            (left s view old top lo lb q.lists q.outer) k (test_outer k q.lists.first.nodes f planned_nodes outer) c.0 c.1 (ap is_list look ∙ list)
            ∙ (ap (λ x. tops (pruned claimed x)) below_is
            ∙ (tops-pruned claimed found.kids
            ∙ (filter_all claimed (tops found.kids) (λ d among. unclaimed d (list_items None l sl free k d (sym (outer_fl k) ∙ outer) w at_w list (subst (Among d) (sym old_list ∙ e) among)))
            ∙ sym old_list))))

    -- ---- the root

    one_root : (a b : Option Handle) → option_to_list a ≡ option_to_list b → a ≡ b
    one_root None None e = refl
    one_root None (Some k) e = cc
    one_root (Some h) None e = cc
    one_root (Some h) (Some k) e = ap Some (head_is h k e)
      where
        head_is : (x y : Handle) → x ∷ [] ≡ y ∷ [] → x ≡ y
        head_is x y p = cc

    node_tops : (x y : Forest RenderObject) → SameNodes x y → tops x ≡ tops y
    node_tops none none m = refl
    node_tops none (tree k w under rest) m = absurd m
    node_tops (tree h v kids more) none m = absurd m
    node_tops (tree h v kids more) (tree k w under rest) m = let later = node_tops more rest m.4 in λ i. m.0 i ∷ later i

    root_same : mid.root ≡ laid.root
    root_same =
        one_root mid.root laid.root
        (ap option_to_list (q.lists.first.paints.root ∙ q.lists.first.layouts.root) ∙ (q.lists.first.root ∙ (node_tops q.lists.first.nodes f planned_nodes ∙ (outer_tops f l same_fl
        ∙ (ap tops forest_l ∙ (sym is_laid.1.tops ∙ (ap (λ hs. option_to_list laid.root ++ hs) alone_laid ∙ append-nil (option_to_list laid.root))))))))

    stays_between : StaysBetween old mid laid
    stays_between = record { looks = looks_between; lists = lists_between; root = root_same }

    -- ---- boundaries

    module _ (kinds_old : (k : Handle) (o w : RenderObject) → object_at old k ≡ Some o → object_at laid k ≡ Some w → is_boundary w ≡ is_boundary o) where
      -- what is committed is there at the end
      pub record IsThere (c : Handle) (v : RenderObject) : Type 0 where
        pub object : RenderObject
        pub is : object_at laid c ≡ Some object
        pub look : object_look object ≡ object_look v

      end_there : (c : Handle) (v : RenderObject) → object_at q.second.committed c ≡ Some v → IsThere c v
      end_there c v at =
          let n = node_of q.second.committed c v at in
          let a = q.second.layouts.only c n.0 n.1 in
          let d = q.second.paints.only c (record n.0 { value = layout_marks.marked a.0 a.1 n.0.value }) a.2 in
          let e = laid_node brought laid keeps c (record n.0 { value = paint_marks.marked d.0 d.1 (layout_marks.marked a.0 a.1 n.0.value) }) d.2 in
          record {
            object = with_layout_state (state_at laid c) (paint_marks.marked d.0 d.1 (layout_marks.marked a.0 a.1 n.0.value));
            is = ap (option_map (λ (y : TreeNode RenderObject). y.value)) e;
            look = ap object_look n.2;
          }

      list_ranged : (k : Handle) → children_at mid k ≡ children_at q.ranged k
      list_ranged k =
          same_lists mid run fl.paints.paints.rest k
          ∙ (marks_list old paint_marks (λ a x o. refl) changed [] run marked fl.paints.paints.marks k ∙ (seen_lists marked flushed seen_flushed k ∙ seen_lists flushed q.ranged seen_ranged k))

      -- a node that stood below another and is no outer one was in the last frame
      planned_in : (c : Handle) (x : PlanEntry Redraw) → entry_at (entries None q.lists.first.updates) c ≡ Some x → In c q.lists.first.nodes
      planned_in c x e =
          let a = (entry-some (entries None q.lists.first.updates) c x e).1 in
          let t = times-entries c None q.lists.first.updates in
          let d = weigh-updated redrawn (λ j. cond {A = ℕ} (same j c) 1 0) (object_at q.lists.first.made) q.lists.first.updates q.lists.first.nodes q.lists.first.updated in
          omega (arith, a, t, d)

      not_fresh : (k c : Handle) → parent_at mid c ≡ Some k → has_outer c f ≡ false → node_at old c ≡ None → ⊥
      not_fresh k c parent none_outer gone = by_made (node_at q.lists.first.made c) refl
        where
          es : List (PlanEntry Redraw)
          es = entries None q.lists.first.updates

          parent_mid : parent_at q.lists.first.committed c ≡ Some k
          parent_mid = by_committed (node_at q.lists.first.committed c) refl
            where
              by_committed : (x : Option (TreeNode RenderObject)) → node_at q.lists.first.committed c ≡ x → parent_at q.lists.first.committed c ≡ Some k
              by_committed None e = none_some k (sym (ap parent_of (q.lists.first.paints.absent c (q.lists.first.layouts.absent c e))) ∙ parent)
              by_committed (Some n) e =
                  let a = q.lists.first.layouts.only c n e in
                  let d = q.lists.first.paints.only c (record n { value = layout_marks.marked a.0 a.1 n.value }) a.2 in
                  ap parent_of e ∙ (sym (ap parent_of d.2) ∙ parent)

          by_entry : (n : TreeNode RenderObject) → n.parent ≡ None → node_at q.lists.first.made c ≡ Some n → (x : Option (PlanEntry Redraw)) → entry_at es c ≡ x → ⊥
          by_entry n lone at None e =
              none_some k
              (sym (ap (left_parent es c) lone)
              ∙ (sym (ap parent_of (q.lists.first.commits.nodes c ∙ ((λ i. kept_by redrawn (e i) es c (node_at q.lists.first.made c)) ∙ ap (kept_by redrawn None es c) at))) ∙ parent_mid))
          by_entry n lone at (Some x) e =
              let item = planned_item old mid q.lists.first is_old q.lists.drawn (planned s view old top lo lb q.lists q.outer) (left s view old top lo lb q.lists q.outer) c (unclaimed c none_outer) (planned_in c x e) in
              none_some item.parent (sym lone ∙ ap (λ (y : TreeNode RenderObject). y.parent) (same_Some (sym at ∙ item.was)))

          by_made : (x : Option (TreeNode RenderObject)) → node_at q.lists.first.made c ≡ x → ⊥
          by_made (Some n) e = by_entry n (ap (λ (y : TreeNode RenderObject). y.parent) (q.lists.first.grows.fresh c n gone e).2) e (entry_at es c) refl
          by_made None e = none_some k (sym (ap parent_of (q.lists.first.commits.nodes c ∙ (ap (kept_by redrawn (entry_at es c) es c) e ∙ none_kept (entry_at es c)))) ∙ parent_mid)
            where
              none_kept : (y : Option (PlanEntry Redraw)) → kept_by redrawn y es c None ≡ None
              none_kept None = refl
              none_kept (Some y) = refl

      mid_widget : (c : Handle) (o : RenderObject) → object_at q.ranged c ≡ Some o → (m : RenderObject) × (object_at mid c ≡ Some m) × (object_look o ≡ object_look m)
      mid_widget c o at = by_mid (object_at mid c) refl
        where
          by_mid : (x : Option RenderObject) → object_at mid c ≡ x → (m : RenderObject) × (object_at mid c ≡ Some m) × (object_look o ≡ object_look m)
          by_mid None e = none_some o.widget (sym (ap (option_map (λ (y : RenderObject). y.widget)) e) ∙ (sym (q.stays.widgets c) ∙ ap (option_map (λ (y : RenderObject). y.widget)) at))
          by_mid (Some m) e =
              (m, e, look_by m o (same_Some (sym (ap (option_map (λ (y : RenderObject). y.widget)) at) ∙ (q.stays.widgets c ∙ ap (option_map (λ (y : RenderObject). y.widget)) e))))

      kinds_below : KeepsBelow q.ranged q.second.committed
      kinds_below k c o v among at_o at_v = elim (cases_Bool (has_outer c f)) [
        | inl outer ↦ ap is_repaint_boundary (sym there.look ∙ (sym (outer_nodes mid laid None None f l sf sl same_fl c outer m.0 there.object m.1 there.is) ∙ sym m.2))
        | inr item ↦ by_old item (node_at old c) refl
      ]
        where
          m : (m : RenderObject) × (object_at mid c ≡ Some m) × (object_look o ≡ object_look m)
          m = mid_widget c o at_o

          there : IsThere c v
          there = end_there c v at_v

          by_old : has_outer c f ≡ false → (x : Option (TreeNode RenderObject)) → node_at old c ≡ x → is_boundary v ≡ is_boundary o
          by_old item None e = absurd (not_fresh k c (child_of mid is_mid.0 k c is_mid.1 (subst (Among c) (sym (list_ranged k)) among)).parent item e)
          by_old item (Some n) e =
              let at_old : object_at old c ≡ Some n.value = ap (option_map (λ (y : TreeNode RenderObject). y.value)) e in
              ap is_repaint_boundary (sym there.look) ∙ (kinds_old c n.value there.object at_old there.is ∙ ap is_repaint_boundary (sym (item_look c n.value m.0 at_old m.1 item) ∙ sym m.2))

      pub built : BuiltInPhases old brought laid
      built = record {
        mid = mid;
        first = q.lists.first;
        run = run;
        keeps = fl.paints.paints.rest;
        changed = changed;
        otherwise = otherwise;
        marked = marked;
        marks = fl.paints.paints.marks;
        ranged = q.ranged;
        is_tree = put_tree flushed q.ranged fl.corrected fl.scrolls fl.tree fl.plain;
        same = seen_trans marked flushed q.ranged seen_flushed seen_ranged;
        root = q.stays.root;
        second = q.second;
        apart = q.apart;
        kinds = kinds_below;
        ends = record { own = λ k o w at_o at_w list. own_ends k; places = λ k o w at_o at_w list c among. place_ends k c (lists_between k o w at_o at_w list ∙ list) among };
        between = stays_between;
        still = stays_still;
      }
