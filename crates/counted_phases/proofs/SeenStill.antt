-- What an outer flush marks for painting, and what it leaves at each handle, against the end of the frame.
use Rattle.std.proofs.Common.{◌≡◌, ap, refl, sym, subst, ◌∙◌, inl, inr, ◌⊎◌, Bool, true, false, not, ◌&&◌, ◌||◌, Option, Some, None, List}
use Rattle.std.proofs.lemmas.Bool.{cases_Bool, and_parts, and_from, or_from, or_left, or_right, false≢true, true≢false}
use Rattle.fx_handles.specs.declared.Handle.{Handle}
use Rattle.fx_handles.specs.Handle.{same, Among}
use Rattle.fx_handles.specs.HandleLaws.{same-true, same_self}
use Rattle.node_tree.specs.Forest.{Forest, tops, Stands}
use Rattle.node_tree.specs.Forest.Forest.{none, tree}
use Rattle.node_tree.specs.Tree.{Tree, IsTree, node_at, parent_at, parent_of, children_at, children_of}
use Rattle.node_tree.proofs.TreeLemmas.{child_of}
use Rattle.tree_marks.specs.Marks.{listed, has_listed, has_node}
use Rattle.tree_marks.proofs.Closing.{either}
use Rattle.layout_rules.specs.Nodes.{layout_node, layout_nodes}
use Rattle.layout_rules.specs.Painting.{LooksSame, PaintedOwn, own_in, place_in}
use Rattle.layout_rules.specs.Reads.{state_at, state_or}
use Rattle.layout_walk.specs.Node.{LayoutNode}
use Rattle.layout_walk.specs.Rules.{is_list}
use Rattle.render_tree.specs.declared.layout_state.LayoutState.{LayoutState}
use Rattle.render_tree.specs.Object.{RenderObject, object_look}
use Rattle.render_tree.specs.Tree.{object_at}
use Rattle.counted_work.specs.Shows.{LookOtherwise}
use Rattle.counted_phases.specs.Outer.{UnlessList, ListOr}
use Rattle.counted_phases.specs.Paints.{IsEither, AreStill}
use Rattle.counted_phases.proofs.AsOne.{StoredSeen, stored_at}
use Rattle.counted_phases.proofs.Climbing.{listed_among}
use Rattle.counted_phases.proofs.SeenBetween.{has_outer, tree_parts, no_tree, value_of, node_still, tops_still, IsEmptyList, IsItemStill, sorted, EndsSo, outer_ends}
use Rattle.counted_phases.proofs.SeenEnds.{SameOuter, ItemsEnd, AreEnding}

some_is : {A : Type 0} (x y : A) → Some x ≡ Some y → x ≡ y
some_is x y e = cc

none_is : {A : Type 0} {P : Type 0} (x : A) → None ≡ Some x → P
none_is x e = absurd (cc)

-- no node of these is an outer one of a forest
abbrev pub NoneOuter : Forest RenderObject → Forest RenderObject → Type 0
NoneOuter f none = Unit {0}
NoneOuter f (tree k w under rest) = (has_outer k f ≡ false) × NoneOuter f under × NoneOuter f rest

-- nor is one below a list
abbrev pub ItemsFree : Forest RenderObject → Forest RenderObject → Type 0
ItemsFree f none = Unit {0}
ItemsFree f (tree k w under rest) = ListOr (is_list (object_look w)) (NoneOuter f under) (ItemsFree f under) × ItemsFree f rest

module _ (mid run laid : Tree RenderObject) (keeps : (k : Handle) (v w : RenderObject) → object_at mid k ≡ Some v → object_at run k ≡ Some w → object_look w ≡ object_look v) (is_mid : IsTree mid) (changed : List Handle) (otherwise : LookOtherwise mid run changed) (f g l : Forest RenderObject)
    (sf : Stands (node_at mid) None f) (sg : Stands (node_at run) None g) (sl : Stands (node_at laid) None l) (ending : AreEnding f g l) (outer_fg : (k : Handle) → has_outer k f ≡ has_outer k g)
    (beside : (k : Handle) → has_node k f ≡ false → stored_at run k ≡ stored_at mid k) where
  abbrev Item : Handle → Type 0
  Item k = IsItemStill mid run keeps laid f k

  sort : (k : Handle) → has_node k f ≡ true → (has_outer k f ≡ true) ⊎ Item k
  sort k there = sorted mid run keeps laid f None None None f g l sf sg sl ending (λ j o. o) k there

  ends_so : (k : Handle) → has_outer k f ≡ true → EndsSo mid run keeps laid f k
  ends_so k o = outer_ends mid run keeps laid f None None None f g l sf sg sl ending k (sym (outer_fg k) ∙ o)

  -- ---- what is left at a handle

  state_of : (t : Tree RenderObject) (k : Handle) (o : RenderObject) {A : Type 0} (read : LayoutState → A) → object_at t k ≡ Some o → read (state_at t k) ≡ read (state_or (Some o))
  state_of t k o read at = ap (λ x. read (state_or x)) at

  either_at : {A : Type 0} (read : LayoutState → A) (k : Handle) (e : EndsSo mid run keeps laid f k) → IsEither (read (state_or (Some e.now))) (read (state_or (Some e.was))) (read (state_or (Some e.end))) → IsEither (read (state_at run k)) (read (state_at mid k)) (read (state_at laid k))
  either_at read k e (inl x) = inl (state_of run k e.now read e.now_at ∙ (x ∙ sym (state_of mid k e.was read e.was_at)))
  either_at read k e (inr x) = inr (state_of run k e.now read e.now_at ∙ (x ∙ sym (state_of laid k e.end read e.end_at)))

  pub own_either : (k : Handle) → IsEither (state_at run k).frame (state_at mid k).frame (state_at laid k).frame × IsEither (state_at run k).plugged (state_at mid k).plugged (state_at laid k).plugged
  own_either k = elim (cases_Bool (has_node k f)) [
    | inl there ↦ elim (sort k there) [
      | inl o ↦ let e = ends_so k o in (either_at (λ u. u.frame) k e e.ending.frame, either_at (λ u. u.plugged) k e e.ending.plugged)
      | inr i ↦ (inl (ap (λ (p : PaintedOwn). p.frame) i.own), inl (ap (λ (p : PaintedOwn). p.plugged) i.own))
    ]
    | inr gone ↦ let e = beside k gone in (inl (ap (λ (s : StoredSeen). s.own.frame) e), inl (ap (λ (s : StoredSeen). s.own.plugged) e))
  ]

  -- of a child of a node with the same children
  pub place_either : (k c : Handle) → children_at mid k ≡ children_at laid k → Among c (children_at laid k)
      → IsEither (state_at run c).offset (state_at mid c).offset (state_at laid c).offset × IsEither (state_at run c).shown (state_at mid c).shown (state_at laid c).shown
  place_either k c list among = elim (cases_Bool (has_node c f)) [
    | inl there ↦ elim (sort c there) [
      | inl o ↦ let e = ends_so c o in (either_at (λ u. u.offset) c e e.ending.offset, either_at (λ u. u.shown) c e e.ending.shown)
      | inr i ↦ (inl i.offset, by_shown i.shown)
    ]
    | inr gone ↦ let e = beside c gone in (inl (ap (λ (s : StoredSeen). s.place.offset) e), inl (ap (λ (s : StoredSeen). s.place.shown) e))
  ]
    where
      parent : parent_at mid c ≡ Some k
      parent = (child_of mid is_mid.0 k c is_mid.1 (subst (Among c) (sym list) among)).parent

      by_shown : ((state_at run c).shown ≡ (state_at mid c).shown) ⊎ (((state_at run c).shown ≡ false) × ((p : Handle) × (parent_at mid c ≡ Some p) × IsEmptyList mid run keeps laid f p))
          → IsEither (state_at run c).shown (state_at mid c).shown (state_at laid c).shown
      by_shown (inl e) = inl e
      by_shown (inr x) =
          let here : x.1.0 ≡ k = some_is x.1.0 k (sym x.1.1 ∙ parent) in
          inr (x.0 ∙ sym (x.1.2.empty c (subst (λ y. Among c (children_at laid y)) (sym here) among)))

  -- ---- what isn't marked

  not_listed : (k : Handle) → LooksSame mid run k → listed k changed ≡ false
  not_listed k looks = elim (cases_Bool (listed k changed)) [
    | inl e ↦ absurd (otherwise k (listed_among k changed e) looks)
    | inr e ↦ e
  ]

  -- an outer node stands at the top, or below an outer node
  outer_parent : (q : Option Handle) (h : Forest RenderObject) → Stands (node_at mid) q h → (c : Handle) → has_outer c h ≡ true → (parent_at mid c ≡ q) ⊎ ((p : Handle) × (parent_at mid c ≡ Some p) × (has_outer p h ≡ true))
  outer_parent q none s c o = absurd (false≢true o)
  outer_parent q (tree i v kids more) s c o = elim (either (same i c) ((not (is_list (object_look v)) && has_outer c kids) || has_outer c more) o) [
    | inl here ↦ inl (ap (parent_at mid) (sym (same-true i c here)) ∙ ap parent_of s.0)
    | inr later ↦ elim (either (not (is_list (object_look v)) && has_outer c kids) (has_outer c more) later) [
      | inl x ↦
          let parts = and_parts (not (is_list (object_look v))) (has_outer c kids) x in
          inr (elim (outer_parent (Some i) kids s.1 c parts.1) [
            | inl e ↦ (i, e, or_left (same i i) ((not (is_list (object_look v)) && has_outer i kids) || has_outer i more) (same_self i))
            | inr e ↦ (
              e.0,
              e.1,
              or_right (same i e.0) ((not (is_list (object_look v)) && has_outer e.0 kids) || has_outer e.0 more)
                  (or_left (not (is_list (object_look v)) && has_outer e.0 kids) (has_outer e.0 more) (and_from (not (is_list (object_look v))) (has_outer e.0 kids) parts.0 e.2)),
            )
          ])
      | inr x ↦ elim (outer_parent q more s.2 c x) [
        | inl e ↦ inl e
        | inr e ↦ inr (e.0, e.1, or_right (same i e.0) ((not (is_list (object_look v)) && has_outer e.0 kids) || has_outer e.0 more) (or_right (not (is_list (object_look v)) && has_outer e.0 kids) (has_outer e.0 more) e.2))
      ]
    ]
  ]

  -- an item, and what stands beside the root's tree, look as before
  item_own : (k : Handle) → has_outer k f ≡ false → (own_in (state_at run k) ≡ own_in (state_at mid k)) × ((state_at run k).offset ≡ (state_at mid k).offset)
  item_own k free = elim (cases_Bool (has_node k f)) [
    | inl there ↦ elim (sort k there) [
      | inl o ↦ absurd (true≢false (sym o ∙ free))
      | inr i ↦ (i.own, i.offset)
    ]
    | inr gone ↦ let e = beside k gone in (ap (λ (s : StoredSeen). s.own) e, ap (λ (s : StoredSeen). s.place.offset) e)
  ]

  item_place : (k c : Handle) → has_outer k f ≡ false → Among c (children_at mid k) → place_in (state_at run c) ≡ place_in (state_at mid c)
  item_place k c free among = elim (cases_Bool (has_node c f)) [
    | inl there ↦ elim (sort c there) [
      | inl o ↦ absurd (elim (outer_parent None f sf c o) [
        | inl e ↦ none_is k (sym e ∙ parent)
        | inr e ↦ true≢false (sym (subst (λ y. has_outer y f ≡ true) (some_is e.0 k (sym e.1 ∙ parent)) e.2) ∙ free)
      ])
      | inr i ↦ let shown = by_shown i.shown in λ n. record { offset = i.offset n; shown = shown n }
    ]
    | inr gone ↦ ap (λ (s : StoredSeen). s.place) (beside c gone)
  ]
    where
      parent : parent_at mid c ≡ Some k
      parent = (child_of mid is_mid.0 k c is_mid.1 among).parent

      by_shown : ((state_at run c).shown ≡ (state_at mid c).shown) ⊎ (((state_at run c).shown ≡ false) × ((p : Handle) × (parent_at mid c ≡ Some p) × IsEmptyList mid run keeps laid f p)) → (state_at run c).shown ≡ (state_at mid c).shown
      by_shown (inl e) = e
      by_shown (inr x) = absurd (true≢false (sym (subst (λ y. has_outer y f ≡ true) (some_is x.1.0 k (sym x.1.1 ∙ parent)) x.1.2.outer) ∙ free))

  item_unlisted : (k : Handle) → has_outer k f ≡ false → listed k changed ≡ false
  item_unlisted k free = not_listed k (record { own = (item_own k free).0; places = λ c among. item_place k c free among })

  -- ---- at the end

  none_listed : (u : Forest RenderObject) → NoneOuter f u → has_listed changed u ≡ false
  none_listed none free = refl
  none_listed (tree k w under rest) free =
      or_from (listed k changed) (has_listed changed under || has_listed changed rest) (item_unlisted k free.0)
      (or_from (has_listed changed under) (has_listed changed rest) (none_listed under free.1) (none_listed rest free.2))

  items_still : (u : Forest RenderObject) → NoneOuter f u → AreStill mid run changed u
  items_still none free = tt
  items_still (tree k w under rest) free = (
    (λ shown. items_still under free.1),
    (λ unseen. ((item_own k free.0).1, or_from (listed k changed) (has_listed changed under || false) (item_unlisted k free.0) (or_from (has_listed changed under) false (none_listed under free.1) refl))),
    items_still rest free.2,
  )

  by_items : (b : Bool) (under : Forest RenderObject) → ListOr b (NoneOuter f under) (ItemsFree f under) → (b ≡ false → ItemsFree f under → has_listed changed under ≡ false) → has_listed changed under ≡ false
  by_items true under free go = none_listed under free
  by_items false under free go = go refl free

  -- where nothing is changed, nothing is marked
  none_changed : (q r : Option Handle) (x y z : Forest RenderObject) → Stands (node_at mid) q x → Stands (node_at run) r y → layout_nodes y ≡ layout_nodes x → SameOuter y z → ItemsFree f z → has_listed changed z ≡ false
  none_changed q r x none none s t e same_yz free = refl
  none_changed q r x none (tree j o under others) s t e same_yz free = absurd same_yz
  none_changed q r x (tree i w below rest) none s t e same_yz free = absurd same_yz
  none_changed q r none (tree i w below rest) (tree j o under others) s t e same_yz free = absurd (no_tree i (layout_node w) (layout_nodes below) (layout_nodes rest) e)
  none_changed q r (tree h v kids more) (tree i w below rest) (tree j o under others) s t e same_yz free =
      let parts = tree_parts h i v w kids below more rest e in
      let still = node_still mid run keeps h i v w parts.0 (value_of mid run keeps mid h q (tops kids) v s.0) (value_of mid run keeps run i r (tops below) w t.0) parts.1 in
      let list : children_at mid i ≡ tops kids = ap (children_at mid) parts.0 ∙ ap children_of s.0 in
      let looks : LooksSame mid run i = record {
        own = ap (λ (x : StoredSeen). x.own) still;
        places = λ c among. ap (λ (x : StoredSeen). x.place) (tops_still mid run keeps (Some h) (Some i) kids below s.1 t.1 parts.2 c (subst (Among c) list among));
      } in
      or_from (listed j changed) (has_listed changed under || has_listed changed others) (ap (λ y. listed y changed) (sym same_yz.0) ∙ not_listed i looks)
      (or_from (has_listed changed under) (has_listed changed others)
      (by_items (is_list (object_look o)) under free.0
      (λ other inner. none_changed (Some h) (Some i) kids below under s.1 t.1 parts.2 (subst (λ b. UnlessList b (SameOuter below under)) (ap is_list same_yz.1 ∙ other) same_yz.3) inner))
      (none_changed q r more rest others s.2 t.2 parts.3 same_yz.4 free.1))

  all_still_now : (q r : Option Handle) (x y z : Forest RenderObject) → Stands (node_at mid) q x → Stands (node_at run) r y → AreEnding x y z → SameOuter y z → ItemsFree f z → AreStill mid run changed z
  all_still_now q r x y none s t e same_yz free = tt
  all_still_now q r none none (tree j o under others) s t e same_yz free = absurd e
  all_still_now q r none (tree i w below rest) (tree j o under others) s t e same_yz free = absurd e
  all_still_now q r (tree h v kids more) none (tree j o under others) s t e same_yz free = absurd e
  all_still_now q r (tree h v kids more) (tree i w below rest) (tree j o under others) s t e same_yz free = (
    (λ shown. shown_still (is_list (object_look w)) (is_list (object_look o)) (ap is_list same_yz.1) e.4 same_yz.3 free.0 (λ a m c. all_still_now (Some h) (Some i) kids below under s.1 t.1 a m c)),
    (λ unseen. (
      unseen_offset unseen,
      or_from (listed j changed) (has_listed changed under || false) (ap (λ y. listed y changed) (sym same_yz.0) ∙ not_listed i (unseen_looks unseen))
          (or_from (has_listed changed under) false
          (by_items (is_list (object_look o)) under free.0
          (λ other inner. none_changed (Some h) (Some i) kids below under s.1 t.1 (e.3 unseen) (subst (λ b. UnlessList b (SameOuter below under)) (ap is_list same_yz.1 ∙ other) same_yz.3) inner)) refl),
    )),
    all_still_now q r more rest others s.2 t.2 e.5 same_yz.4 free.1,
  )
    where
      at_v : object_at mid i ≡ Some v
      at_v = ap (object_at mid) (sym e.0) ∙ value_of mid run keeps mid h q (tops kids) v s.0

      at_w : object_at run i ≡ Some w
      at_w = value_of mid run keeps run i r (tops below) w t.0

      unseen_offset : o.shown ≡ false → (state_at run j).offset ≡ (state_at mid j).offset
      unseen_offset unseen =
          subst (λ y. (state_at run y).offset ≡ (state_at mid y).offset) same_yz.0
          (ap (λ y. (state_or y).offset) at_w ∙ (ap (λ (y : LayoutNode). y.offset) (e.2.still unseen) ∙ sym (ap (λ y. (state_or y).offset) at_v)))

      unseen_looks : o.shown ≡ false → LooksSame mid run i
      unseen_looks unseen = record {
        own = ap (λ y. own_in (state_or y)) at_w ∙ ((λ n. record { frame = (e.2.still unseen n).frame; plugged = (e.2.still unseen n).plugged }) ∙ sym (ap (λ y. own_in (state_or y)) at_v));
        places = λ c among.
            ap (λ (x : StoredSeen). x.place)
            (tops_still mid run keeps (Some h) (Some i) kids below s.1 t.1 (e.3 unseen) c (subst (Among c) (ap (children_at mid) (sym e.0) ∙ ap children_of s.0) among));
      }

      shown_still : (a c : Bool) → a ≡ c → ListOr a (ItemsEnd kids below under) (AreEnding kids below under) → UnlessList a (SameOuter below under) → ListOr c (NoneOuter f under) (ItemsFree f under)
          → (AreEnding kids below under → SameOuter below under → ItemsFree f under → AreStill mid run changed under) → AreStill mid run changed under
      shown_still true true p items m free go = items_still under free
      shown_still true false p items m free go = absurd (true≢false p)
      shown_still false true p inner m free go = absurd (false≢true p)
      shown_still false false p inner m free go = go inner m free

  pub still : SameOuter g l → ItemsFree f l → AreStill mid run changed l
  still same_gl free = all_still_now None None f g l sf sg ending same_gl free
