-- Lemmas for walks over a tree.
use Rattle.std.proofs.Common.{◌≡◌, ◌≢◌, ℕ, suc, ◌+◌, ◌-◌, ◌<◌, ◌≤◌, Bool, true, false, cond, [], ◌∷◌, Option, Some, None, option_map, refl, sym, ap, ◌∙◌, inl, inr, arith}
use Rattle.fx_handles.specs.declared.Handle.{Handle}
use Rattle.fx_handles.specs.Handle.{same, times, Among}
use Rattle.fx_handles.specs.Arena.{used_count}
use Rattle.fx_handles.specs.HandleLaws.{same_self, same-eq, same-ne, cases_same, times_here, times_there}
use Rattle.node_tree.specs.Forest.{with_value_at, TreeNode, Forest, tops, weigh, size, count, In, IsDistinct, tree_of, set_value, SameShape}
use Rattle.node_tree.specs.Forest.Forest.{none, tree}
use Rattle.node_tree.specs.Tree.{Tree, node_at, IsNode, parent_of, children_of, parent_at, children_at, Is, IsTree, subtree_at, StandsAt}
use Rattle.node_tree.specs.Edits.{WritesValue}
use Rattle.node_tree.proofs.ForestLemmas.{hit-true, find, weigh-kids, weigh-set_value, Stands-same, Stands-set_value, tops-set_value, tree_of-here, tree_of-rest, count-tree_of-le, times-le-count, plain-tree_of}
use Rattle.node_tree.proofs.TreeLemmas.{size-le, subtree_is-tree_of, Holds-from_Is, live_from_child, parent_lists, parent_facts}
use Rattle.node_tree.proofs.TreeEdits.{child_in, node_inside}

-- forests of one shape have the same tops, and the same numbers
pub tops-shape : {T U : Type 0} (f : Forest T) (g : Forest U) → SameShape f g → tops f ≡ tops g
tops-shape none none shape = refl
tops-shape none (tree k w below rest) shape = absurd shape
tops-shape (tree h v kids more) none shape = absurd shape
tops-shape (tree h v kids more) (tree k w below rest) shape = ap (λ x. x ∷ tops more) shape.0 ∙ ap (λ xs. k ∷ xs) (tops-shape more rest shape.2)

pub weigh-shape : {T U : Type 0} (u : Handle → ℕ) (f : Forest T) (g : Forest U) → SameShape f g → weigh u f ≡ weigh u g
weigh-shape u none none shape = refl
weigh-shape u none (tree k w below rest) shape = absurd shape
weigh-shape u (tree h v kids more) none shape = absurd shape
weigh-shape u (tree h v kids more) (tree k w below rest) shape =
    let here = ap u shape.0 in
    omega (arith, weigh-shape u kids below shape.1, weigh-shape u more rest shape.2)

module _ {T : Type 0} where
  pub shape-set_value : (h : Handle) (w : T) (f : Forest T) → SameShape f (set_value h w f)
  shape-set_value h w none = tt
  shape-set_value h w (tree k v below rest) = (refl, shape-set_value h w below, shape-set_value h w rest)

  -- the trees of two tops have no handle in common
  pub two_tops : (f : Forest T) (k c x : Handle) → IsDistinct f → Among k (tops f) → Among c (tops f) → k ≢ c → count x (tree_of k f) + count x (tree_of c f) ≤ count x f
  two_tops none k c x distinct first second ne = absurd (omega arith)
  two_tops (tree h v below rest) k c x distinct first second ne =
      elim (cases_same h k) [
        | inl is_k ↦
            let other : h ≢ c = λ e. absurd (ne (sym is_k ∙ e)) in
            let later : Among c (tops rest) = omega (arith, times_there c h (tops rest) other) in
            let there : 1 ≤ count c rest = omega (arith, times-le-count c rest) in
            let one = ap (count x) (tree_of-here k h v below rest (same-eq h k is_k)) in
            let two = ap (count x) (tree_of-rest c h v below rest (same-ne h c other) (omega (arith, distinct c))) in
            omega (arith, count-tree_of-le x c rest (omega (arith, distinct c)))
        | inr not_k ↦
            let later_k : Among k (tops rest) = omega (arith, times_there k h (tops rest) not_k) in
            let there_k : 1 ≤ count k rest = omega (arith, times-le-count k rest) in
            let two = ap (count x) (tree_of-rest k h v below rest (same-ne h k not_k) (omega (arith, distinct k))) in
            elim (cases_same h c) [
              | inl is_c ↦
                  let one = ap (count x) (tree_of-here c h v below rest (same-eq h c is_c)) in
                  omega (arith, count-tree_of-le x k rest (omega (arith, distinct k)))
              | inr not_c ↦
                  let later_c : Among c (tops rest) = omega (arith, times_there c h (tops rest) not_c) in
                  let there_c : 1 ≤ count c rest = omega (arith, times-le-count c rest) in
                  let one = ap (count x) (tree_of-rest c h v below rest (same-ne h c not_c) (omega (arith, distinct c))) in
                  omega (arith, two_tops rest k c x (λ y. omega (arith, distinct y)) later_k later_c ne)
            ]
      ]

  -- a node and the forest of its children
  pub record Kids (t : Tree T) (h : Handle) : Type 0 where
    pub value : T
    pub kids : Forest T
    pub list : children_at t h ≡ tops kids
    pub distinct : IsDistinct kids
    pub absent : count h kids ≡ 0
    pub whole : subtree_at t h ≡ tree h value kids none
    pub part : (c : Handle) → Among c (tops kids) → subtree_at t c ≡ tree_of c kids

  pub kids_of : (t : Tree T) (f : Forest T) (h : Handle) → Is t f → IsNode t h → Kids t h
  kids_of t f h is live =
      let inside = is.whole h live in
      let found = find (node_at t) None f h is.stands inside (is.distinct h) in
      let few : IsDistinct found.kids = λ x. omega (arith, weigh-kids (λ y. cond {A = ℕ} (same y x) 1 0) (node_at t) None f h found (is.distinct h), is.distinct x) in
      record {
        value = found.value;
        kids = found.kids;
        list = ap children_of found.is;
        distinct = few;
        absent = omega (arith, weigh-kids (λ y. cond {A = ℕ} (same y h) 1 0) (node_at t) None f h found (is.distinct h), hit-true h h (same_self h), is.distinct h);
        whole = subtree_is-tree_of t f h is inside ∙ found.tree_is;
        part = λ c top. plain-tree_of (node_at t) (Some h) found.kids c (used_count t.nodes) found.stands (omega (arith, times-le-count c found.kids)) (few c) (size-le t.nodes (Some h) found.kids found.stands few);
      }

  pub child_inside : (t : Tree T) (f : Forest T) (h k x : Handle) → Is t f → Among k (children_at t h) → In x (subtree_at t k) → In x (subtree_at t h)
  child_inside t f h k x is among inside =
      let kids = kids_of t f h is (live_from_child (node_at t h) k among) in
      let top : Among k (tops kids.kids) = rw kids.list at among in
      let there : In x (tree_of k kids.kids) = rw (kids.part k top) at inside in
      rw kids.whole (omega (arith, count-tree_of-le x k kids.kids (kids.distinct k)))

  pub child_without_parent : (t : Tree T) (f : Forest T) (h k : Handle) → Is t f → Among k (children_at t h) → In h (subtree_at t k) → ⊥
  child_without_parent t f h k is among inside =
      let kids = kids_of t f h is (live_from_child (node_at t h) k among) in
      let top : Among k (tops kids.kids) = rw kids.list at among in
      let there : In h (tree_of k kids.kids) = rw (kids.part k top) at inside in
      absurd (omega (arith, count-tree_of-le h k kids.kids (kids.distinct k), kids.absent))

  pub children_apart : (t : Tree T) (f : Forest T) (h k c x : Handle) → Is t f → Among k (children_at t h) → Among c (children_at t h) → k ≢ c → In x (subtree_at t k) → In x (subtree_at t c) → ⊥
  children_apart t f h k c x is first second ne in_k in_c =
      let kids = kids_of t f h is (live_from_child (node_at t h) k first) in
      let top_k : Among k (tops kids.kids) = rw kids.list at first in
      let top_c : Among c (tops kids.kids) = rw kids.list at second in
      let there_k : In x (tree_of k kids.kids) = rw (kids.part k top_k) at in_k in
      let there_c : In x (tree_of c kids.kids) = rw (kids.part c top_c) at in_c in
      absurd (omega (arith, two_tops kids.kids k c x kids.distinct top_k top_c ne, kids.distinct x))

  -- the top of a subtree stands in it
  top_in : (h : Handle) (s : Forest T) → tops s ≡ h ∷ [] → In h s
  top_in h s e =
      let one : times h (tops s) ≡ times h (h ∷ []) = ap (times h) e in
      omega (arith, times-le-count h s, times_here h [])

  pub frame : (old new : Tree T) (h : Handle) (s : Forest T) → StandsAt old h s → ((k : Handle) → In k s → node_at new k ≡ node_at old k) → StandsAt new h s
  frame old new h s stands same_at =
      let parent : parent_at new h ≡ parent_at old h = ap parent_of (same_at h (top_in h s stands.top)) in
      record {
        top = stands.top;
        stands = rw parent (Stands-same (node_at old) (node_at new) (parent_at old h) s stands.stands same_at);
        distinct = stands.distinct;
      }

  parent_kept : (k h : Handle) (w : T) (o : Option (TreeNode T)) → parent_of (option_map (with_value_at k w h) o) ≡ parent_of o
  parent_kept k h w None = refl
  parent_kept k h w (Some n) = by_head (same h k)
    where
      by_head : (b : Bool) → (cond b (record n { value = w }) n).parent ≡ n.parent
      by_head true = refl
      by_head false = refl

  pub written_stands : (old new : Tree T) (h k : Handle) (w : T) (s : Forest T) → StandsAt old h s → WritesValue old.nodes new.nodes k w → StandsAt new h (set_value k w s)
  written_stands old new h k w s stands writes =
      let parent : parent_at new h ≡ parent_at old h = ap parent_of (writes.nodes h) ∙ parent_kept k h w (node_at old h) in
      record {
        top = tops-set_value k w s ∙ stands.top;
        stands = rw parent (Stands-set_value (node_at old) (node_at new) k w (parent_at old h) s stands.stands (λ x among. writes.nodes x));
        distinct = λ x. omega (arith, weigh-set_value (λ y. cond {A = ℕ} (same y x) 1 0) k w s, stands.distinct x);
      }

  -- the place that a climb has come to is in the subtree
  abbrev pub Reaches : Tree T → Handle → Option Handle → Type 0
  Reaches t top None = ⊥
  Reaches t top (Some k) = In k (subtree_at t top)

  -- how far a climb may still go
  abbrev pub climb : Tree T → Option Handle → ℕ
  climb t None = 0
  climb t (Some k) = suc (used_count t.nodes - size (subtree_at t k))

  -- a climb from h towards top
  pub record Climbs (t : Tree T) (h top : Handle) (next : Option Handle) : Type 0 where
    pub is_tree : IsTree t
    pub live : IsNode t top
    pub up : In h (subtree_at t top) → Reaches t top next
    pub down : Reaches t top next → In h (subtree_at t top)

  pub climbs-start : (t : Tree T) (h top : Handle) → IsTree t → IsNode t top → Climbs t h top (Some h)
  climbs-start t h top is live = record { is_tree = is; live = live; up = λ among. among; down = λ among. among }

  above_inside : (t : Tree T) (f : Forest T) (top k : Handle) → Is t f → IsNode t top → k ≢ top → In k (subtree_at t top) → (p : Handle) × (parent_at t k ≡ Some p) × In p (subtree_at t top)
  above_inside t f top k is live ne inside =
      let holds = Holds-from_Is t f top is live in
      let found = find (node_at t) (parent_at t top) (subtree_at t top) k holds.stands inside (holds.distinct k) in
      let parent : parent_at t k ≡ found.parent = ap parent_of found.is in
      elim found.above [
        | inl is_top ↦ absurd (let only : times k (tops (subtree_at t top)) ≡ times k (top ∷ []) = ap (times k) holds.top in omega (arith, times_there k top [] (λ e. ne (sym e)), is_top.1))
        | inr q ↦ (q.0, parent ∙ q.2, q.5)
      ]

  pub climbs-more : (t : Tree T) (h top k : Handle) (next : Option Handle) → Climbs t h top next → next ≡ Some k → k ≢ top → Climbs t h top (parent_at t k)
  climbs-more t h top k next so_far is_k ne =
      let is = so_far.is_tree in
      let here : Reaches t top next ≡ In k (subtree_at t top) = ap (Reaches t top) is_k in
      record {
        is_tree = is;
        live = so_far.live;
        up = λ among.
            let inside : In k (subtree_at t top) = rw is_k at (so_far.up among) in
            let above = above_inside t is.0 top k is.1 so_far.live ne inside in
            rw above.1 above.2;
        down = λ reaches. so_far.down (rw is_k (from_parent (parent_at t k) refl reaches));
      }
    where
      from_parent : (q : Option Handle) → parent_at t k ≡ q → Reaches t top q → In k (subtree_at t top)
      from_parent None e reaches = absurd reaches
      from_parent (Some p) e reaches =
          let is = so_far.is_tree in
          child_in t is.0 top p k is.1 so_far.live reaches (parent_lists t is.0 k p is.1 e).1

  pub climbs-found : (t : Tree T) (h top k : Handle) (next : Option Handle) → Climbs t h top next → next ≡ Some k → k ≡ top → In h (subtree_at t top)
  climbs-found t h top k next so_far is_k e =
      let is = so_far.is_tree in
      so_far.down (rw (is_k ∙ ap Some e) (node_inside t is.0 top is.1 so_far.live))

  pub climbs-ended : (t : Tree T) (h top : Handle) (next : Option Handle) → Climbs t h top next → ((x : Handle) → next ≡ Some x → ⊥) → In h (subtree_at t top) → ⊥
  climbs-ended t h top None so_far not_some among = so_far.up among
  climbs-ended t h top (Some x) so_far not_some among = absurd (not_some x refl)

  pub climb_less : (t : Tree T) (f : Forest T) (k : Handle) → Is t f → climb t (parent_at t k) < climb t (Some k)
  climb_less t f k is = by_parent (parent_at t k) refl
    where
      by_parent : (q : Option Handle) → parent_at t k ≡ q → climb t q < climb t (Some k)
      by_parent None e = omega arith
      by_parent (Some p) e =
          let facts = parent_facts t f k p is e in
          let few = size-le t.nodes (parent_at t p) (subtree_at t p) facts.0.stands facts.0.distinct in
          omega (arith, facts.1)
