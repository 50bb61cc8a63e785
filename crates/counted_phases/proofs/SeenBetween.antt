-- What an outer flush leaves at each handle, where it leaves outer nodes as the frame ends, and items as they are.
use Rattle.std.proofs.Common.{◌≡◌, ap, refl, sym, subst, ◌∙◌, inl, inr, ◌⊎◌, Bool, true, false, not, ◌&&◌, ◌||◌, Option, Some, option_map, List, arith}
use Rattle.std.proofs.lemmas.Bool.{and_parts, and_from, or_left, or_right, false≢true, true≢false}
use Rattle.fx_handles.specs.declared.Handle.{Handle}
use Rattle.fx_handles.specs.Handle.{same, Among}
use Rattle.fx_handles.specs.HandleLaws.{same-true, same_self}
use Rattle.node_tree.specs.Forest.{TreeNode, Forest, tops, Stands}
use Rattle.node_tree.specs.Forest.Forest.{none, tree}
use Rattle.node_tree.specs.Tree.{Tree, node_at, parent_at, parent_of, children_at, children_of}
use Rattle.tree_marks.specs.Marks.{has_node}
use Rattle.tree_marks.proofs.Closing.{either}
use Rattle.layout_rules.specs.Nodes.{layout_node, layout_nodes}
use Rattle.layout_rules.specs.Painting.{own_in, place_in}
use Rattle.layout_rules.specs.Reads.{state_at, state_or}
use Rattle.layout_walk.specs.Node.{LayoutNode}
use Rattle.layout_walk.specs.Rules.{is_list}
use Rattle.render_tree.specs.Object.{RenderObject, object_look}
use Rattle.render_tree.specs.Tree.{object_at}
use Rattle.counted_phases.specs.Outer.{UnlessList, ListOr}
use Rattle.counted_phases.proofs.AsOne.{StoredSeen, stored_at, stored_of, stored_is}
use Rattle.counted_phases.proofs.Climbing.{first_or_later}
use Rattle.counted_phases.proofs.SeenEnds.{SameOuter, IsEnding, NoneShown, ItemsEnd, AreEnding}
use Rattle.counted_phases.proofs.SeenLeft.{AllLeft}

-- ---- outer nodes and items

abbrev pub has_outer : Handle → Forest RenderObject → Bool
has_outer k none = false
has_outer k (tree h o kids rest) = same h k || ((not (is_list (object_look o)) && has_outer k kids) || has_outer k rest)

-- two forests with the same outer nodes have the same
pub outer_same : (k : Handle) (g l : Forest RenderObject) → SameOuter g l → has_outer k g ≡ has_outer k l
outer_same k none none same_g = refl
outer_same k none (tree j x under others) same_g = absurd same_g
outer_same k (tree i w below rest) none same_g = absurd same_g
outer_same k (tree i w below rest) (tree j x under others) same_g =
    (λ n. same (same_g.0 n) k || ((not (is_list (object_look w)) && has_outer k below) || has_outer k rest))
    ∙ ap (λ y. same j k || y) (two (is_list (object_look w)) (is_list (object_look x)) (ap is_list same_g.1) same_g.3 (λ s. outer_same k below under s) (outer_same k rest others same_g.4))
  where
    two : (a b : Bool) → a ≡ b → UnlessList a (SameOuter below under) → (SameOuter below under → has_outer k below ≡ has_outer k under) → has_outer k rest ≡ has_outer k others
        → ((not a && has_outer k below) || has_outer k rest) ≡ ((not b && has_outer k under) || has_outer k others)
    two true true e s go later = later
    two true false e s go later = absurd (true≢false e)
    two false true e s go later = absurd (false≢true e)
    two false false e s go later = (λ n. go s n || later n)

-- ---- two forests that a layout sees as one

pub state_same : (w v : RenderObject) → layout_node w ≡ layout_node v → stored_of w ≡ stored_of v
state_same w v e = λ i. record {
  own = record { frame = (e i).frame; plugged = (e i).plugged };
  place = record { offset = (e i).offset; shown = (e i).shown };
}

pub tree_parts : (h k : Handle) (v w : RenderObject) (kids below more rest : Forest RenderObject) → tree k (layout_node w) (layout_nodes below) (layout_nodes rest) ≡ tree h (layout_node v) (layout_nodes kids) (layout_nodes more)
    → (k ≡ h) × (layout_node w ≡ layout_node v) × (layout_nodes below ≡ layout_nodes kids) × (layout_nodes rest ≡ layout_nodes more)
tree_parts h k v w kids below more rest e = (cc, cc, cc, cc)

pub no_tree : (k : Handle) (w : LayoutNode) (below rest : Forest LayoutNode) → tree k w below rest ≡ none → ⊥
no_tree k w below rest e = cc

module _ (mid run : Tree RenderObject) (keeps : (k : Handle) (v w : RenderObject) → object_at mid k ≡ Some v → object_at run k ≡ Some w → object_look w ≡ object_look v) where
  pub value_of : (t : Tree RenderObject) (k : Handle) (q : Option Handle) (l : List Handle) (w : RenderObject) → node_at t k ≡ Some (record { parent = q; children = l; value = w }) → object_at t k ≡ Some w
  value_of t k q l w e = ap (option_map (λ (n : TreeNode RenderObject). n.value)) e

  abbrev Still : Handle → Type 0
  Still k = stored_at run k ≡ stored_at mid k

  pub node_still : (h k : Handle) (v w : RenderObject) → k ≡ h → object_at mid h ≡ Some v → object_at run k ≡ Some w → layout_node w ≡ layout_node v → Still k
  node_still h k v w e at_v at_w same_node = stored_is run k w at_w ∙ (state_same w v same_node ∙ (sym (stored_is mid h v at_v) ∙ ap (stored_at mid) (sym e)))

  -- so each node of them is as it was
  pub all_still : (q r : Option Handle) (f g : Forest RenderObject) → Stands (node_at mid) q f → Stands (node_at run) r g → layout_nodes g ≡ layout_nodes f → (k : Handle) → has_node k f ≡ true → Still k
  all_still q r none g s t e k there = absurd (false≢true there)
  all_still q r (tree h v kids more) none s t e k there = absurd (no_tree h (layout_node v) (layout_nodes kids) (layout_nodes more) (sym e))
  all_still q r (tree h v kids more) (tree j w below rest) s t e k there =
      let parts = tree_parts h j v w kids below more rest e in
      elim (either (same h k) (has_node k kids || has_node k more) there) [
        | inl here ↦ subst Still (parts.0 ∙ same-true h k here) (node_still h j v w parts.0 (value_of mid h q (tops kids) v s.0) (value_of run j r (tops below) w t.0) parts.1)
        | inr later ↦ elim (either (has_node k kids) (has_node k more) later) [
          | inl x ↦ all_still (Some h) (Some j) kids below s.1 t.1 parts.2 k x
          | inr x ↦ all_still q r more rest s.2 t.2 parts.3 k x
        ]
      ]

  -- and its first nodes
  pub tops_still : (q r : Option Handle) (f g : Forest RenderObject) → Stands (node_at mid) q f → Stands (node_at run) r g → layout_nodes g ≡ layout_nodes f → (c : Handle) → Among c (tops f) → Still c
  tops_still q r none g s t e c among = absurd (omega arith)
  tops_still q r (tree h v kids more) none s t e c among = absurd (no_tree h (layout_node v) (layout_nodes kids) (layout_nodes more) (sym e))
  tops_still q r (tree h v kids more) (tree j w below rest) s t e c among =
      let parts = tree_parts h j v w kids below more rest e in
      elim (first_or_later c h (tops more) among) [
        | inl here ↦ subst Still (parts.0 ∙ sym here) (node_still h j v w parts.0 (value_of mid h q (tops kids) v s.0) (value_of run j r (tops below) w t.0) parts.1)
        | inr later ↦ tops_still q r more rest s.2 t.2 parts.3 c later
      ]

  -- ---- at each handle

  module _ (laid : Tree RenderObject) (whole : Forest RenderObject) where
    -- a list among the outer nodes, below which nothing is in the window at the end
    pub record IsEmptyList (parent : Handle) : Type 0 where
      pub outer : has_outer parent whole ≡ true
      pub empty : (c : Handle) → Among c (children_at laid parent) → (state_at laid c).shown ≡ false

    -- an item is as it was, or is out of the window, as all are that its list has at the end
    pub record IsItemStill (k : Handle) : Type 0 where
      pub own : own_in (state_at run k) ≡ own_in (state_at mid k)
      pub offset : (state_at run k).offset ≡ (state_at mid k).offset
      pub shown : ((state_at run k).shown ≡ (state_at mid k).shown) ⊎ (((state_at run k).shown ≡ false) × ((parent : Handle) × (parent_at mid k ≡ Some parent) × IsEmptyList parent))

    still_item : (k : Handle) → Still k → IsItemStill k
    still_item k e = record { own = ap (λ (s : StoredSeen). s.own) e; offset = ap (λ (s : StoredSeen). s.place.offset) e; shown = inl (ap (λ (s : StoredSeen). s.place.shown) e) }

    none_shown : (q : Option Handle) (l : Forest RenderObject) → Stands (node_at laid) q l → NoneShown l → (c : Handle) → Among c (tops l) → (state_at laid c).shown ≡ false
    none_shown q none s n c among = absurd (omega arith)
    none_shown q (tree j x under rest) s n c among = elim (first_or_later c j (tops rest) among) [
      | inl e ↦ ap (λ y. (state_at laid y).shown) e ∙ (ap (λ (y : Option RenderObject). (state_or y).shown) (value_of laid j q (tops under) x s.0) ∙ n.0)
      | inr later ↦ none_shown q rest s.2 n.1 c later
    ]

    left_item : (list : Handle) (empty : IsEmptyList list) (f g : Forest RenderObject) → Stands (node_at mid) (Some list) f → Stands (node_at run) (Some list) g
        → AllLeft (layout_nodes f) (layout_nodes g) → (k : Handle) → has_node k f ≡ true → IsItemStill k
    left_item list empty none g s t left k there = absurd (false≢true there)
    left_item list empty (tree h v kids more) none s t left k there = absurd left
    left_item list empty (tree h v kids more) (tree j w below rest) s t left k there = elim (either (same h k) (has_node k kids || has_node k more) there) [
      | inl here ↦
          subst IsItemStill (same-true h k here)
          (let at_w : object_at run h ≡ Some w = ap (object_at run) left.0 ∙ value_of run j (Some list) (tops below) w t.0 in
          let state_w = ap (λ (y : Option RenderObject). state_or y) at_w in
          let state_v = ap (λ (y : Option RenderObject). state_or y) (value_of mid h (Some list) (tops kids) v s.0) in
          record {
            own =
                ap own_in state_w ∙ ((λ i. record { frame = (left.1.value i).frame; plugged = (left.1.value i).plugged }) ∙ sym (ap own_in state_v));
            offset = ap (λ u. (place_in u).offset) state_w ∙ (ap (λ (y : LayoutNode). y.offset) left.1.value ∙ sym (ap (λ u. (place_in u).offset) state_v));
            shown = inr (ap (λ u. (place_in u).shown) state_w ∙ left.2, (list, ap parent_of s.0, empty));
          })
      | inr later ↦ elim (either (has_node k kids) (has_node k more) later) [
        | inl x ↦ still_item k (all_still (Some h) (Some j) kids below s.1 t.1 left.1.inside k x)
        | inr x ↦ left_item list empty more rest s.2 t.2 left.3 k x
      ]
    ]

    look_on : (h k : Handle) (v w : RenderObject) → h ≡ k → object_at mid h ≡ Some v → object_at run k ≡ Some w → object_look w ≡ object_look v
    look_on h k v w e at_v at_w = keeps k v w (ap (object_at mid) (sym e) ∙ at_v) at_w

    abbrev Sort : Handle → Forest RenderObject → Type 0
    Sort k f = (has_outer k f ≡ true) ⊎ IsItemStill k

    list_items : (h i j k : Handle) (kids below under : Forest RenderObject) → h ≡ i → i ≡ j → Stands (node_at mid) (Some h) kids → Stands (node_at run) (Some i) below → Stands (node_at laid) (Some j) under
        → children_at laid j ≡ tops under → has_outer h whole ≡ true → ItemsEnd kids below under → has_node k kids ≡ true → IsItemStill k
    list_items h i j k kids below under one two s t u list outer (inl e) there = still_item k (all_still (Some h) (Some i) kids below s t e k there)
    list_items h i j k kids below under one two s t u list outer (inr x) there =
        left_item h
        (record {
          outer = outer;
          empty = λ c among. none_shown (Some j) under u x.1 c (subst (Among c) (ap (children_at laid) (one ∙ two) ∙ list) among);
        }) kids below s (subst (λ y. Stands (node_at run) (Some y) below) (sym one) t) x.0 k there

    -- each node of a forest is an outer one, or such an item
    pub sorted : (q r p : Option Handle) (f g l : Forest RenderObject) → Stands (node_at mid) q f → Stands (node_at run) r g → Stands (node_at laid) p l → AreEnding f g l → ((k : Handle) → has_outer k f ≡ true → has_outer k whole ≡ true)
        → (k : Handle) → has_node k f ≡ true → Sort k f
    sorted q r p none g l s t u e inside k there = absurd (false≢true there)
    sorted q r p (tree h v kids more) none l s t u e inside k there = absurd e
    sorted q r p (tree h v kids more) (tree i w below rest) none s t u e inside k there = absurd e
    sorted q r p (tree h v kids more) (tree i w below rest) (tree j x under others) s t u e inside k there = elim (either (same h k) (has_node k kids || has_node k more) there) [
      | inl here ↦ inl (or_left (same h k) ((not (is_list (object_look v)) && has_outer k kids) || has_outer k more) here)
      | inr later ↦ elim (either (has_node k kids) (has_node k more) later) [
        | inl y ↦ by_list (is_list (object_look w)) (ap is_list (sym look)) e.4
            (λ inner free. sorted (Some h) (Some i) (Some j) kids below under s.1 t.1 u.1 inner (λ c o. inside c (or_right (same h c) ((not (is_list (object_look v)) && has_outer c kids) || has_outer c more)
            (or_left (not (is_list (object_look v)) && has_outer c kids) (has_outer c more) (and_from (not (is_list (object_look v))) (has_outer c kids) free o)))) k y) y
        | inr y ↦ elim (sorted q r p more rest others s.2 t.2 u.2 e.5 (λ c o. inside c (or_right (same h c) ((not (is_list (object_look v)) && has_outer c kids) || has_outer c more)
            (or_right (not (is_list (object_look v)) && has_outer c kids) (has_outer c more) o))) k y) [
              | inl o ↦ inl (or_right (same h k) ((not (is_list (object_look v)) && has_outer k kids) || has_outer k more) (or_right (not (is_list (object_look v)) && has_outer k kids) (has_outer k more) o))
              | inr o ↦ inr o
            ]
      ]
    ]
      where
        look : object_look w ≡ object_look v
        look = look_on h i v w e.0 (value_of mid h q (tops kids) v s.0) (value_of run i r (tops below) w t.0)

        free_of : (b : Bool) → b ≡ false → not b ≡ true
        free_of true n = absurd (true≢false n)
        free_of false n = refl

        by_list : (b : Bool) → is_list (object_look v) ≡ b → ListOr b (ItemsEnd kids below under) (AreEnding kids below under)
            → (AreEnding kids below under → not (is_list (object_look v)) ≡ true → Sort k kids) → has_node k kids ≡ true → Sort k (tree h v kids more)
        by_list true is items go y =
            inr (list_items h i j k kids below under e.0 e.1 s.1 t.1 u.1 (ap children_of u.0) (inside h (or_left (same h h) ((not (is_list (object_look v)) && has_outer h kids) || has_outer h more) (same_self h))) items y)
        by_list false is inner go y = elim (go inner (free_of (is_list (object_look v)) is)) [
          | inl o ↦ inl (or_right (same h k) ((not (is_list (object_look v)) && has_outer k kids) || has_outer k more)
              (or_left (not (is_list (object_look v)) && has_outer k kids) (has_outer k more) (and_from (not (is_list (object_look v))) (has_outer k kids) (free_of (is_list (object_look v)) is) o)))
          | inr o ↦ inr o
        ]

    -- ---- outer nodes

    pub record EndsSo (k : Handle) : Type 0 where
      pub was : RenderObject
      pub was_at : object_at mid k ≡ Some was
      pub now : RenderObject
      pub now_at : object_at run k ≡ Some now
      pub end : RenderObject
      pub end_at : object_at laid k ≡ Some end
      pub ending : IsEnding was now end

    pub outer_ends : (q r p : Option Handle) (f g l : Forest RenderObject) → Stands (node_at mid) q f → Stands (node_at run) r g → Stands (node_at laid) p l → AreEnding f g l → (k : Handle) → has_outer k g ≡ true → EndsSo k
    outer_ends q r p none none none s t u e k o = absurd (false≢true o)
    outer_ends q r p none none (tree j x under others) s t u e k o = absurd e
    outer_ends q r p none (tree i w below rest) l s t u e k o = absurd e
    outer_ends q r p (tree h v kids more) none l s t u e k o = absurd e
    outer_ends q r p (tree h v kids more) (tree i w below rest) none s t u e k o = absurd e
    outer_ends q r p (tree h v kids more) (tree i w below rest) (tree j x under others) s t u e k o = elim (either (same i k) ((not (is_list (object_look w)) && has_outer k below) || has_outer k rest) o) [
      | inl here ↦ subst EndsSo (same-true i k here) (record {
        was = v;
        was_at = ap (object_at mid) (sym e.0) ∙ value_of mid h q (tops kids) v s.0;
        now = w;
        now_at = value_of run i r (tops below) w t.0;
        end = x;
        end_at = ap (object_at laid) e.1 ∙ value_of laid j p (tops under) x u.0;
        ending = e.2;
      })
      | inr later ↦ elim (either (not (is_list (object_look w)) && has_outer k below) (has_outer k rest) later) [
        | inl y ↦
            let parts = and_parts (not (is_list (object_look w))) (has_outer k below) y in
            by_list (is_list (object_look w)) parts.0 e.4 (λ inner. outer_ends (Some h) (Some i) (Some j) kids below under s.1 t.1 u.1 inner k parts.1)
        | inr y ↦ outer_ends q r p more rest others s.2 t.2 u.2 e.5 k y
      ]
    ]
      where
        by_list : (b : Bool) → not b ≡ true → ListOr b (ItemsEnd kids below under) (AreEnding kids below under) → (AreEnding kids below under → EndsSo k) → EndsSo k
        by_list true free items go = absurd (false≢true free)
        by_list false free inner go = go inner
