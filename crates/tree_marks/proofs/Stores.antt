-- What holds of a forest that stands in a store holds of the store, so that the next commit may begin with it.
use Rattle.std.proofs.Common.{◌≡◌, inl, inr, Bool, true, false, ◌||◌, List, [], ◌∷◌, Option, Some, None, refl, sym, ap, ◌∙◌, subst}
use Rattle.std.proofs.lemmas.Bool.{false≢true}
use Rattle.fx_handles.specs.declared.Handle.{Handle}
use Rattle.fx_handles.specs.Handle.{same}
use Rattle.fx_handles.specs.HandleLaws.{same-true}
use Rattle.fx_handles.specs.ArenaLaws.{same_Some}
use Rattle.node_tree.specs.Forest.{TreeNode, Forest, tops, Stands, map_values}
use Rattle.node_tree.specs.Forest.Forest.{none, tree}
use Rattle.node_tree.specs.Tree.{Tree, node_at, Is}
use Rattle.node_tree.proofs.TreeLemmas.{is_node}
use Rattle.tree_marks.specs.Marking.{Above, at_top, Marking, within}
use Rattle.tree_marks.specs.Marks.{has_node}
use Rattle.tree_marks.specs.Closed.{any_mark, IsLinked, EndsTops, IsClosed, is_apart}
use Rattle.tree_marks.specs.Commit.{Parts, SeenChild, NodeBuild, tops_by, stored_by, seen, piece, LawStore, LawForest, LawBelowStore, LawBelow, has_mark, any_mark_stored, IsLinkedStore, EndsNode, EndsStored, IsClosedStore}
use Rattle.tree_marks.proofs.Closing.{either}
use Rattle.tree_marks.proofs.Surviving.{stored-stands}
use Rattle.tree_marks.proofs.MarkSteps.{node_stands}

-- ---- two forests that stand below the same handles

handles-eq : {h k : Handle} {xs ys : List Handle} → h ∷ xs ≡ k ∷ ys → (h ≡ k) × (xs ≡ ys)
handles-eq {h = h} {k = k} {xs = xs} {ys = ys} e = (first e, later e)
  where
    first : h ∷ xs ≡ k ∷ ys → h ≡ k
    first x = cc

    later : h ∷ xs ≡ k ∷ ys → xs ≡ ys
    later x = cc

stands-once : {V : Type 0} (at : Handle → Option (TreeNode V)) (p q : Option Handle) (f g : Forest V) → Stands at p f → Stands at q g → tops f ≡ tops g → f ≡ g
stands-once at p q none none sf sg e = refl
stands-once at p q none (tree k w c s) sf sg e = absurd (cc)
stands-once at p q (tree h v b r) none sf sg e = absurd (cc)
stands-once {V} at p q (tree h v b r) (tree k w c s) sf sg e =
    let two = handles-eq e in
    let node : Option Handle → List Handle → V → TreeNode V = λ o l x. record { parent = o; children = l; value = x } in
    let same_node : node p (tops b) v ≡ node q (tops c) w = same_Some (sym sf.0 ∙ (ap at two.0 ∙ sg.0)) in
    ap (λ y. tree y v b r) two.0
    ∙ (ap (λ y. tree k y b r) (ap (λ (n : TreeNode V). n.value) same_node)
    ∙ (ap (λ y. tree k w y r) (stands-once at (Some h) (Some k) b c sf.1 sg.1 (ap (λ (n : TreeNode V). n.children) same_node))
    ∙ ap (λ y. tree k w c y) (stands-once at p q r s sf.2 sg.2 two.1)))

-- a node of a store that stands in a forest
pub record Spot {V : Type 0} (at : Handle → Option (TreeNode V)) (k : Handle) (n : TreeNode V) (P : Above → Handle → V → Forest V → Type 0) : Type 0 where
  pub above : Above
  pub kids : Forest V
  pub list : n.children ≡ tops kids
  pub stands : Stands at (Some k) kids
  pub holds : P above k n.value kids

module _ {V : Type 0} (m : Marking V) (at : Handle → Option (TreeNode V)) (P : Above → Handle → V → Forest V → Type 0) where
  -- this holds of every node of a forest
  abbrev pub AllNodes : Above → Forest V → Type 0
  AllNodes p none = Unit {0}
  AllNodes p (tree k v kids rest) = P p k v kids × AllNodes (within m p v) kids × AllNodes p rest

  pub spot : (q : Option Handle) (p : Above) (f : Forest V) (k : Handle) (n : TreeNode V) → Stands at q f → AllNodes p f → at k ≡ Some n → has_node k f ≡ true → Spot at k n P
  spot q p none k n stands all is e = absurd (false≢true e)
  spot q p (tree h v kids rest) k n stands all is e = elim (either (same h k) (has_node k kids || has_node k rest) e) [
    | inl s ↦
        let here : h ≡ k = same-true h k s in
        let node : n ≡ record { parent = q; children = tops kids; value = v } = same_Some (sym is ∙ (ap at (sym here) ∙ stands.0)) in
        record {
          above = p;
          kids = kids;
          list = ap (λ (y : TreeNode V). y.children) node;
          stands = subst (λ y. Stands at (Some y) kids) here stands.1;
          holds = subst (λ y. P p y n.value kids) here (subst (λ y. P p h y kids) (sym (ap (λ (y : TreeNode V). y.value) node)) all.0);
        }
    | inr a ↦ elim (either (has_node k kids) (has_node k rest) a) [
      | inl b ↦ spot (Some h) (within m p v) kids k n stands.1 all.1 is b
      | inr b ↦ spot q p rest k n stands.2 all.2 is b
    ]
  ]

module _ {V O D S : Type 0} (m : Marking V) (x : Parts V O D S) where
  -- ---- closed and linked

  ends_stored : (at : Handle → Option (TreeNode V)) (ends : Above → V → Bool) (s : Option Handle) (q : Above) (f : Forest V) → Stands at s f → EndsTops m ends [] q f → EndsStored m x ends at q (tops f)
  ends_stored at ends s q none stands closed = tt
  ends_stored at ends s q (tree h v kids rest) stands closed = (
    subst (EndsNode m x ends q) (sym stands.0) (λ fl. closed.0 fl refl),
    ends_stored at ends s q rest stands.2 closed.1,
  )

  place_free : (shown : V → Bool) (at : Handle → Option (TreeNode V)) (p r : Above) (w : V) (hs : List Handle) → EndsStored m x (is_apart m shown) at (within m p w) hs → EndsStored m x (is_apart m shown) at (within m r w) hs
  place_free shown at p r w [] ends = tt
  place_free shown at p r w (h ∷ hs) ends = (by_node (at h) ends.0, place_free shown at p r w hs ends.1)
    where
      by_node : (o : Option (TreeNode V)) → EndsNode m x (is_apart m shown) (within m p w) o → EndsNode m x (is_apart m shown) (within m r w) o
      by_node None e = tt
      by_node (Some n) e = e

  closed_nodes : (shown : V → Bool) (at : Handle → Option (TreeNode V)) (p : Above) (f : Forest V) → IsClosed m (is_apart m shown) [] p f
      → AllNodes m at (λ q k v kids. m.flag v ≡ false → EndsTops m (is_apart m shown) [] (within m q v) kids) p f
  closed_nodes shown at p none closed = tt
  closed_nodes shown at p (tree k v kids rest) closed = (λ e. closed.0 e refl, closed_nodes shown at (within m p v) kids closed.1, closed_nodes shown at p rest closed.2)

  pub closed_store : (shown : V → Bool) (t : Tree V) (f : Forest V) → Is t f → IsClosed m (is_apart m shown) [] at_top f → IsClosedStore m x shown (node_at t)
  closed_store shown t f is closed = λ k n there e.
      let s = spot m (node_at t) (λ q k v kids. m.flag v ≡ false → EndsTops m (is_apart m shown) [] (within m q v) kids) None at_top f k n is.stands (closed_nodes shown (node_at t) at_top f closed) there (node_stands t f k is (is_node (node_at t k) n there)) in
      place_free shown (node_at t) s.above at_top n.value n.children
      (subst (EndsStored m x (is_apart m shown) (node_at t) (within m s.above n.value)) (sym s.list) (ends_stored (node_at t) (is_apart m shown) (Some k) (within m s.above n.value) s.kids s.stands (s.holds e)))

  marks_stored : (at : Handle → Option (TreeNode V)) (s : Option Handle) (f : Forest V) → Stands at s f → any_mark_stored m x at (tops f) ≡ any_mark m f
  marks_stored at s none stands = refl
  marks_stored at s (tree h v kids rest) stands = ap (λ o. has_mark m x o || any_mark_stored m x at (tops rest)) stands.0 ∙ ap (λ b. (m.flag v || m.below v) || b) (marks_stored at s rest stands.2)

  linked_nodes : (at : Handle → Option (TreeNode V)) (p : Above) (f : Forest V) → IsLinked m f → AllNodes m at (λ q k v kids. any_mark m kids ≡ true → m.below v ≡ true) p f
  linked_nodes at p none linked = tt
  linked_nodes at p (tree k v kids rest) linked = (linked.0 refl, linked_nodes at (within m p v) kids linked.1, linked_nodes at p rest linked.2)

  pub linked_store : (t : Tree V) (f : Forest V) → Is t f → IsLinked m f → IsLinkedStore m x (node_at t)
  linked_store t f is linked = λ k n there e.
      let s = spot m (node_at t) (λ q k v kids. any_mark m kids ≡ true → m.below v ≡ true) None at_top f k n is.stands (linked_nodes (node_at t) at_top f linked) there (node_stands t f k is (is_node (node_at t k) n there)) in
      s.holds (sym (marks_stored (node_at t) (Some k) s.kids s.stands) ∙ (ap (any_mark_stored m x (node_at t)) (sym s.list) ∙ e))

  -- ---- laws

  module _ (law : O → S → List (Handle × Option (SeenChild D S)) → Type 0) where
    law_nodes : (at : Handle → Option (TreeNode V)) (p : Above) (f : Forest V) → LawForest m x law f → AllNodes m at (λ q k v kids. m.flag v ≡ false → law (x.own v) (x.stored v) (tops_by (seen m x (m.hides v)) kids)) p f
    law_nodes at p none holds = tt
    law_nodes at p (tree k v kids rest) holds = (holds.0, law_nodes at (within m p v) kids holds.1, law_nodes at p rest holds.2)

    pub law_store : (t : Tree V) (f : Forest V) → Is t f → LawForest m x law f → LawStore m x law (node_at t)
    law_store t f is holds = λ k n there e.
        let s = spot m (node_at t) (λ q k v kids. m.flag v ≡ false → law (x.own v) (x.stored v) (tops_by (seen m x (m.hides v)) kids)) None at_top f k n is.stands (law_nodes (node_at t) at_top f holds) there (node_stands t f k is (is_node (node_at t k) n there)) in
        subst (law (x.own n.value) (x.stored n.value)) (sym (ap (stored_by (seen m x (m.hides n.value)) (node_at t)) s.list ∙ stored-stands (node_at t) (seen m x (m.hides n.value)) (Some k) s.kids s.stands)) (s.holds e)

  module _ (law : O → S → List (Handle × Option (SeenChild D S)) → Forest (NodeBuild O D) → Type 0) where
    below_nodes : (at : Handle → Option (TreeNode V)) (p : Above) (f : Forest V) → LawBelow m x law f
        → AllNodes m at (λ q k v kids. m.flag v ≡ false → m.asks v ≡ true → law (x.own v) (x.stored v) (tops_by (seen m x (m.hides v)) kids) (map_values (λ h w. piece m x w) kids)) p f
    below_nodes at p none holds = tt
    below_nodes at p (tree k v kids rest) holds = (holds.0, below_nodes at (within m p v) kids holds.1, below_nodes at p rest holds.2)

    pub below_store : (t : Tree V) (f : Forest V) → Is t f → LawBelow m x law f → LawBelowStore m x law (node_at t)
    below_store t f is holds = λ k n g there e a stands same_tops.
        let s = spot m (node_at t) (λ q k v kids. m.flag v ≡ false → m.asks v ≡ true → law (x.own v) (x.stored v) (tops_by (seen m x (m.hides v)) kids) (map_values (λ h w. piece m x w) kids)) None at_top f k n is.stands
        (below_nodes (node_at t) at_top f holds) there (node_stands t f k is (is_node (node_at t k) n there)) in
        let one : s.kids ≡ g = stands-once (node_at t) (Some k) (Some k) s.kids g s.stands stands (sym s.list ∙ same_tops) in
        subst (λ y. law (x.own n.value) (x.stored n.value) y (map_values (λ h w. piece m x w) g)) (sym (ap (stored_by (seen m x (m.hides n.value)) (node_at t)) s.list ∙ stored-stands (node_at t) (seen m x (m.hides n.value)) (Some k) s.kids s.stands))
        (subst (λ y. law (x.own n.value) (x.stored n.value) (tops_by (seen m x (m.hides n.value)) s.kids) (map_values (λ h w. piece m x w) y)) one (s.holds e a))
