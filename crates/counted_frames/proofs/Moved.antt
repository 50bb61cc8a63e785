-- Nodes that the first phase doesn't claim: the commit of its plan leaves each as it was, but for children that are claimed.
use Rattle.std.proofs.Common.{◌≡◌, ◌≢◌, ◌⊎◌, ℕ, zero, suc, Bool, true, false, not, cond, if◌then◌else◌, Option, Some, None, option_map, List, [], ◌∷◌, filter, inl, inr, refl, sym, ap, ◌∙◌, subst, arith}
use Rattle.std.proofs.lemmas.Bool.{false≢true, true≢false}
use Rattle.fx_handles.specs.declared.Handle.{Handle}
use Rattle.fx_handles.specs.Handle.{same, Among}
use Rattle.fx_handles.specs.HandleLaws.{cases_same, same-ne, times-cons, times_here}
use Rattle.node_tree.specs.Forest.{TreeNode, Forest, tops, count, In, Stands, pruned, below as forest_below}
use Rattle.node_tree.specs.Forest.Forest.{none, tree}
use Rattle.node_tree.specs.Part.{is_named, left_node, kept_by}
use Rattle.node_tree.specs.Plan.{PlanEntry, entries, planned, entry_at, IsUpdated}
use Rattle.node_tree.specs.Tree.{Tree, IsTree, node_at, parent_of, children_of, parent_at, subtree_at}
use Rattle.node_tree.proofs.ForestLemmas.{count_here}
use Rattle.node_tree.proofs.Handles.{has-among, has-true}
use Rattle.node_tree.proofs.PartForests.{tops-pruned}
use Rattle.node_tree.proofs.PlanLemmas.{times-entries, entry-named, entry-some, weigh-updated}
use Rattle.node_tree.proofs.TreeLemmas.{child_of}
use Rattle.layout_walk.specs.Rules.{is_list}
use Rattle.render_tree.specs.Object.{RenderObject, object_look}
use Rattle.render_tree.specs.Redraw.{Redraw, redrawn}
use Rattle.render_tree.specs.Tree.{object_at}
use Rattle.build_walk.specs.Merging.{lists_redraw}
use Rattle.build_owner.specs.Staying.{left_items}
use Rattle.counted_phases.specs.Outer.{ListOr}
use Rattle.kept_phases.specs.Parts.{RedrawsPart}
use Rattle.counted_frames.proofs.Planned.{no_some, some_is, with_below, list_is, HoldLeft}
use Rattle.counted_frames.proofs.Part.{front_stands, made_node, below_stands}
use Rattle.counted_frames.proofs.Outer.{HasOuter}

-- ---- outer nodes are claimed

module _ (at : Handle → Option RenderObject) (items : Handle → Forest Redraw) where
  outer_in : (k : Handle) (D : Forest Redraw) (g : Forest RenderObject) → IsUpdated redrawn at (with_below items D) g → HasOuter k g → In k D
  outer_in k none none u is = absurd is
  outer_in k none (tree j w under more) u is = absurd u
  outer_in k (tree h x kids rest) none u is = absurd u
  outer_in k (tree h x kids rest) (tree j w under more) u (inl here) = subst (λ y. In y (tree h x kids rest)) (u.0 ∙ here) (count_here h x kids rest)
  outer_in k (tree h x kids rest) (tree j w under more) u (inr (inl inner)) =
      let i = outer_in k kids under (by_list (lists_redraw x) (list_is at x w (at h) u.1 ∙ inner.0) u.2) inner.1 in omega (arith, i)
    where
      by_list : (t : Bool) → t ≡ false → IsUpdated redrawn at (cond t (items h) (with_below items kids)) under → IsUpdated redrawn at (with_below items kids) under
      by_list true e v = absurd (true≢false e)
      by_list false e v = v
  outer_in k (tree h x kids rest) (tree j w under more) u (inr (inr later)) = let i = outer_in k rest more u.3 later in omega (arith, i)

  pub outer_named : (k : Handle) (D : Forest Redraw) (g : Forest RenderObject) → IsUpdated redrawn at (with_below items D) g → HasOuter k g → is_named (entries None D) k ≡ true
  outer_named k D g u is =
      let i = outer_in k D g u is in
      let e = times-entries k None D in
      has-among k (planned (entries None D)) (omega (arith, i, e))

-- ---- where items stand

filter_all : (claimed : Handle → Bool) (hs : List Handle) → ((c : Handle) → Among c hs → claimed c ≡ false) → filter (λ h. not (claimed h)) hs ≡ hs
filter_all claimed [] none_is = refl
filter_all claimed (h ∷ hs) none_is =
    ap (λ b. cond (not b) (h ∷ filter (λ j. not (claimed j)) hs) (filter (λ j. not (claimed j)) hs)) (none_is h (omega (arith, times_here h hs)))
    ∙ ap (λ l. h ∷ l) (filter_all claimed hs (λ c a. none_is c (omega (arith, a, times-cons c h hs))))

module _ (old mid : Tree RenderObject) (first : RedrawsPart old mid) (is_old : IsTree old) (drawn : Forest Redraw)
    (planned_is : IsUpdated redrawn (object_at first.made) (with_below (left_items first.made (is_named (entries None drawn))) drawn) first.nodes)
    (left : HoldLeft first.made (is_named (entries None drawn)) first.nodes) where
  abbrev made : Tree RenderObject
  made = first.made

  abbrev claimed : Handle → Bool
  claimed = is_named (entries None drawn)

  abbrev es : List (PlanEntry Redraw)
  es = entries None first.updates

  -- an item keeps its parent and its value, and its children but for those that are claimed
  pub record IsItem (c : Handle) : Type 0 where
    pub parent : Handle
    pub object : RenderObject
    pub kids : Forest RenderObject
    pub was : node_at made c ≡ Some (record { parent = Some parent; children = tops kids; value = object })
    pub now : node_at first.committed c ≡ Some (record { parent = Some parent; children = tops (pruned claimed kids); value = object })
    pub inside : In parent first.nodes

  item_in : (c q : Handle) (f : Forest RenderObject) → Stands (node_at made) (Some q) f → Stands (node_at first.committed) (Some q) (pruned claimed f)
      → ((j : Handle) → In j (pruned claimed f) → In j first.nodes) → In q first.nodes → In c (pruned claimed f) → IsItem c
  item_in c q none was now inside top i = absurd (omega (arith, i))
  item_in c q (tree h o kids rest) was now inside top i =
      by_claim (claimed h) now inside i (λ s j k. item_in c h kids was.1 s j k) (λ s j k. item_in c q rest was.2 s j top k)
    where
      Inner : Type 0
      Inner = Stands (node_at first.committed) (Some h) (pruned claimed kids) → ((j : Handle) → In j (pruned claimed kids) → In j first.nodes) → In h first.nodes → In c (pruned claimed kids) → IsItem c

      Later : Type 0
      Later = Stands (node_at first.committed) (Some q) (pruned claimed rest) → ((j : Handle) → In j (pruned claimed rest) → In j first.nodes) → In c (pruned claimed rest) → IsItem c

      this : h ≡ c → node_at first.committed h ≡ Some (record { parent = Some q; children = tops (pruned claimed kids); value = o }) → IsItem c
      this e at = record {
        parent = q;
        object = o;
        kids = kids;
        was = subst (λ y. node_at made y ≡ Some (record { parent = Some q; children = tops kids; value = o })) e was.0;
        now = subst (λ y. node_at first.committed y ≡ Some (record { parent = Some q; children = tops (pruned claimed kids); value = o })) e at;
        inside = top;
      }

      by_count : (n : ℕ) → count c (pruned claimed kids) ≡ n → (h ≢ c) → Stands (node_at first.committed) (Some q) (tree h o (pruned claimed kids) (pruned claimed rest))
          → ((j : Handle) → In j (tree h o (pruned claimed kids) (pruned claimed rest)) → In j first.nodes) → In c (tree h o (pruned claimed kids) (pruned claimed rest))
          → (In c (pruned claimed kids) → IsItem c) → Later → IsItem c
      by_count zero e ne s j k inner later =
          let off : cond {A = ℕ} (same h c) 1 0 ≡ 0 = ap (λ b. cond {A = ℕ} b 1 0) (same-ne h c ne) in
          later s.2 (λ y m. j y (omega (arith, m))) (omega (arith, k, e, off))
      by_count (suc n) e ne s j k inner later = inner (omega (arith, e))

      by_claim : (b : Bool) → Stands (node_at first.committed) (Some q) (if b then pruned claimed rest else tree h o (pruned claimed kids) (pruned claimed rest))
          → ((j : Handle) → In j (if b then pruned claimed rest else tree h o (pruned claimed kids) (pruned claimed rest)) → In j first.nodes)
          → In c (if b then pruned claimed rest else tree h o (pruned claimed kids) (pruned claimed rest)) → Inner → Later → IsItem c
      by_claim true s j k inner later = later s j k
      by_claim false s j k inner later = elim (cases_same h c) [
        | inl here ↦ this here s.0
        | inr ne ↦ by_count (count c (pruned claimed kids)) refl ne s j k (λ m. inner s.1 (λ y n. j y (omega (arith, n))) (j h (count_here h o (pruned claimed kids) (pruned claimed rest))) m) later
      ]

  -- each planned node is an outer one or an item
  where_is : (c : Handle) (q : Option Handle) (g : Forest RenderObject) (d : Forest Redraw) → IsUpdated redrawn (object_at made) d g → Stands (node_at first.committed) q g → HoldLeft made claimed g
      → ((j : Handle) → In j g → In j first.nodes) → In c g → HasOuter c g ⊎ IsItem c
  where_is c q none d u stands l inside i = absurd (omega (arith, i))
  where_is c q (tree k w under rest) none u stands l inside i = absurd u
  where_is c q (tree k w under rest) (tree x y kids more) u stands l inside i =
      by_here (cases_same k c) (λ s m. where_is c (Some k) under kids u.2 stands.1 s (λ j n. inside j (omega (arith, n))) m) (λ m. where_is c q rest more u.3 stands.2 l.1 (λ j n. inside j (omega (arith, n))) m)
    where
      Inner : Type 0
      Inner = HoldLeft made claimed under → In c under → HasOuter c under ⊎ IsItem c

      stored_k : (z : Option RenderObject) → object_at made x ≡ z → (v : RenderObject) × (object_at made k ≡ Some v)
      stored_k None e = no_some w (sym (ap (option_map (redrawn y)) e) ∙ u.1)
      stored_k (Some v) e = (v, ap (object_at made) (sym u.0) ∙ e)

      below_list : under ≡ pruned claimed (forest_below (subtree_at made k)) → In c under → IsItem c
      below_list e m =
          let v = stored_k (object_at made x) refl in
          item_in c k (forest_below (subtree_at made k)) (below_stands old made first.grows is_old k v.0 v.1) (subst (Stands (node_at first.committed) (Some k)) e stands.1)
          (λ j n. inside j (let z = subst (In j) (sym e) n in omega (arith, z))) (inside k (count_here k w under rest)) (subst (In c) e m)

      by_list : (b : Bool) → is_list (object_look w) ≡ b → ListOr b (under ≡ pruned claimed (forest_below (subtree_at made k))) (HoldLeft made claimed under) → Inner → In c under
          → ((b ≡ false) × HasOuter c under) ⊎ IsItem c
      by_list true e m go n = inr (below_list m n)
      by_list false e m go n = elim (go m n) [
        | inl outer ↦ inl (refl, outer)
        | inr item ↦ inr item
      ]

      into : (((is_list (object_look w) ≡ false) × HasOuter c under) ⊎ IsItem c) → HasOuter c (tree k w under rest) ⊎ IsItem c
      into (inl outer) = inl (inr (inl outer))
      into (inr item) = inr item

      after : (HasOuter c rest ⊎ IsItem c) → HasOuter c (tree k w under rest) ⊎ IsItem c
      after (inl outer) = inl (inr (inr outer))
      after (inr item) = inr item

      by_count : (n : ℕ) → count c under ≡ n → cond {A = ℕ} (same k c) 1 0 ≡ 0 → Inner → (In c rest → HasOuter c rest ⊎ IsItem c) → HasOuter c (tree k w under rest) ⊎ IsItem c
      by_count zero e off go later = after (later (omega (arith, i, e, off)))
      by_count (suc n) e off go later = into (by_list (is_list (object_look w)) refl l.0 go (omega (arith, e)))

      by_here : (k ≡ c) ⊎ (k ≢ c) → Inner → (In c rest → HasOuter c rest ⊎ IsItem c) → HasOuter c (tree k w under rest) ⊎ IsItem c
      by_here (inl e) go later = inl (inl e)
      by_here (inr ne) go later = by_count (count c under) refl (ap (λ b. cond {A = ℕ} b 1 0) (same-ne k c ne)) go later

  -- what isn't claimed and is planned is an item
  pub planned_item : (c : Handle) → claimed c ≡ false → In c first.nodes → IsItem c
  planned_item c free i = elim (where_is c None first.nodes first.updates first.updated (front_stands (node_at first.committed) None first.nodes first.others first.is.stands) left (λ j m. m) i) [
    | inl outer ↦ absurd (false≢true (sym free ∙ outer_named (object_at made) (left_items made claimed) c drawn first.nodes planned_is outer))
    | inr item ↦ item
  ]

  counts : (c : Handle) → count c first.updates ≡ count c first.nodes
  counts c = sym (weigh-updated redrawn (λ j. cond {A = ℕ} (same j c) 1 0) (object_at made) first.updates first.nodes first.updated)

  -- ---- a node that isn't claimed keeps its value, and its children where none of them is

  pub record IsAsWas (k : Handle) (n : TreeNode RenderObject) : Type 0 where
    pub parent : Option Handle
    pub children : List Handle
    pub at : node_at first.committed k ≡ Some (record { parent = parent; children = children; value = n.value })
    pub same : ((c : Handle) → Among c n.children → claimed c ≡ false) → children ≡ n.children

  pub as_was : (k : Handle) (n : TreeNode RenderObject) → node_at old k ≡ Some n → claimed k ≡ false → IsAsWas k n
  as_was k n at free = by_entry (entry_at es k) refl
    where
      made_at : node_at made k ≡ Some n
      made_at = made_node old made first.grows is_old k n at

      made_parent : (c : Handle) → parent_at old c ≡ Some k → (x : Option (TreeNode RenderObject)) → node_at old c ≡ x → parent_at made c ≡ Some k
      made_parent c e None f = no_some k (sym (ap parent_of f) ∙ e)
      made_parent c e (Some m) f = ap parent_of (made_node old made first.grows is_old c m f) ∙ (sym (ap parent_of f) ∙ e)

      -- a child that is planned stands below it there
      child_out : entry_at es k ≡ None → (c : Handle) → claimed c ≡ false → Among c n.children → (b : Bool) → is_named es c ≡ b → b ≡ false
      child_out none_is c c_free among false e = refl
      child_out none_is c c_free among true e =
          let inside : In c first.nodes = (let a = has-true c (planned es) e in let t = times-entries c None first.updates in let d = counts c in omega (arith, a, t, d)) in
          let item = planned_item c c_free inside in
          let child = child_of old is_old.0 k c is_old.1 (subst (Among c) (sym (ap children_of at)) among) in
          let parent : Some item.parent ≡ Some k = sym (ap parent_of item.was) ∙ made_parent c child.parent (node_at old c) refl in
          let here : In k first.nodes = subst (λ y. In y first.nodes) (some_is item.parent k parent) item.inside in
          let named = entry-named es k (let t = times-entries k None first.updates in let d = counts k in omega (arith, here, t, d)) in
          no_some named.0 (sym none_is ∙ named.1)

      by_entry : (x : Option (PlanEntry Redraw)) → entry_at es k ≡ x → IsAsWas k n
      by_entry None e = record {
        parent = (left_node es k n).parent;
        children = filter (λ h. not (is_named es h)) n.children;
        at = first.commits.nodes k ∙ (λ i. kept_by redrawn (e i) es k (made_at i));
        same = λ kids_free. filter_all (is_named es) n.children (λ c a. child_out e c (kids_free c a) a (is_named es c) refl);
      }
      by_entry (Some x) e =
          let inside : In k first.nodes = (let a = (entry-some es k x e).1 in let t = times-entries k None first.updates in let d = counts k in omega (arith, a, t, d)) in
          let item = planned_item k free inside in
          let same_node : record { parent = Some item.parent; children = tops item.kids; value = item.object } ≡ n =
          some_is (record { parent = Some item.parent; children = tops item.kids; value = item.object }) n (sym item.was ∙ made_at) in
          record {
            parent = Some item.parent;
            children = tops (pruned claimed item.kids);
            at = item.now ∙ ap (λ o. Some (record { parent = Some item.parent; children = tops (pruned claimed item.kids); value = o })) (ap (λ (m : TreeNode RenderObject). m.value) same_node);
            same = λ kids_free. tops-pruned claimed item.kids ∙ (ap (filter (λ h. not (claimed h))) (ap (λ (m : TreeNode RenderObject). m.children) same_node) ∙ filter_all claimed n.children kids_free);
          }
