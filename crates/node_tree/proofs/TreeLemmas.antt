-- Lemmas on trees and the plain forests that they are.
use Rattle.std.proofs.Common.{◌≡◌, ◌≢◌, ℕ, ◌+◌, ◌<◌, ◌≤◌, ◌↔◌, cond, [], ◌∷◌, ◌++◌, insert, Option, Some, None, IsSome, IfSome, option_map, refl, sym, ap, ◌∙◌, subst, inl, inr, arith}
use Rattle.std.specs.Option.{option_to_list}
use Rattle.std.proofs.lemmas.List.Sums.{sum_by-append}
use Rattle.fx_handles.specs.declared.Handle.{Handle}
use Rattle.fx_handles.specs.Handle.{same, times, Among}
use Rattle.fx_handles.specs.Arena.{Arena, get, IsLive, used_count, with_value, IsNew}
use Rattle.fx_handles.specs.HandleLaws.{same_self, same-eq, same-ne, cases_same, times_here}
use Rattle.fx_handles.specs.ArenaLaws.{some_of, written}
use Rattle.fx_handles.specs.ArenaLaws.{length-le-used_count, used_count-le-length}
use Rattle.node_tree.specs.Forest.{without_child, with_child, with_value_at, TreeNode, Forest, others_than, tops, weigh, size, count, In, IsDistinct, append, paste, without, tree_of, set_value, handles, Stands}
use Rattle.node_tree.specs.Forest.Forest.{none, tree}
use Rattle.node_tree.specs.Tree.{Tree, node_at, IsNode, parent_of, children_of, parent_at, children_at, tops_at, Is, IsTree, subtree_at, StandsAt, Holds}
use Rattle.node_tree.specs.Edits.{HasOneParent, WritesValue}
use Rattle.node_tree.specs.Lends.{written_at, tree_written}
use Rattle.node_tree.proofs.ForestLemmas.{same_Some, is_zero, hit-true, hit-false, weigh-append, weigh-paste, weigh-without, weigh-set_value, Under, Stands-same, Stands-append, Stands-paste, Stands-without, Stands-set_value, tops-append, tops-paste, tops_with, tops-without, tops-set_value, count-without, count-without-le, count-tree_of-le, without_absent, find, weigh-kids, Stands-tree_of, only_parent, parent_of_top, plain_is, plain_dead, plain-tree_of, node_in, same_node, length-handles, times-handles, times-le-count}

-- what is there, before and after a change of it
pub is_node : {X : Type 0} (o : Option X) (x : X) → o ≡ Some x → IsSome o
is_node o x e = rw e refl

pub mapped_node : {X Y : Type 0} (g : X → Y) (o : Option X) → IsSome (option_map g o) → IsSome o
mapped_node g None some = absurd (cc)
mapped_node g (Some x) some = refl

pub if_some_then : {A : Type 0} (o : Option A) (P : A → Type 0) → ((x : A) → o ≡ Some x → P x) → IfSome o P
if_some_then None P make = tt
if_some_then (Some x) P make = make x refl

module _ {T : Type 0} where
  -- a forest that stands in an arena has at most as many nodes as the arena has values
  pub size-le : (a : Arena (TreeNode T)) (p : Option Handle) (f : Forest T) → Stands (get a) p f → IsDistinct f → size f ≤ used_count a
  size-le a p f stands distinct =
      omega (
        arith,
        length-handles f,
        length-le-used_count a (handles f)
            (λ h. omega (arith, times-handles h f, distinct h))
            (λ h among. let node = node_in (get a) p f h stands (omega (arith, times-handles h f)) in is_node _ node.0 node.1),
      )

  -- a tree has as many nodes as its arena has values
  pub size_is : (t : Tree T) (f : Forest T) → Is t f → size f ≡ used_count t.nodes
  size_is t f is =
      omega (
        arith,
        size-le t.nodes None f is.stands is.distinct,
        length-handles f,
        used_count-le-length t.nodes (handles f)
            (λ h live. omega (arith, times-handles h f, is.whole h live)),
      )

  -- the subtree of a node is the node's tree in the forest
  pub subtree_is-tree_of : (t : Tree T) (f : Forest T) (h : Handle) → Is t f → In h f → subtree_at t h ≡ tree_of h f
  subtree_is-tree_of t f h is among = plain-tree_of (node_at t) None f h (used_count t.nodes) is.stands among (is.distinct h) (size-le t.nodes None f is.stands is.distinct)

  pub subtree_is : (t : Tree T) (h : Handle) (s : Forest T) → StandsAt t h s → subtree_at t h ≡ s
  subtree_is t h s stands = rw stands.top at (plain_is (node_at t) (parent_at t h) s (used_count t.nodes) stands.stands (size-le t.nodes (parent_at t h) s stands.stands stands.distinct))

  -- in a tree each node's subtree stands
  pub Holds-from_Is : (t : Tree T) (f : Forest T) (h : Handle) → Is t f → IsNode t h → Holds t h
  Holds-from_Is t f h is live =
      let among = is.whole h live in
      let found = find (node_at t) None f h is.stands among (is.distinct h) in
      let parent : parent_at t h ≡ found.parent = ap parent_of found.is in
      rw (subtree_is-tree_of t f h is among) (record {
        top = rw found.tree_is refl;
        stands = rw parent (Stands-tree_of (node_at t) None f h found);
        distinct = λ x. omega (arith, count-tree_of-le x h f (is.distinct h), is.distinct x);
      })

  -- a leaf is put in below q, or as the root
  pub added : (old new : Tree T) (q : Option Handle) (i : ℕ) (h : Handle) (v : T) (f : Forest T) → Is old f
      → node_at old h ≡ None
      → node_at new h ≡ Some (record { parent = q; children = []; value = v })
      → ((k : Handle) → k ≢ h → node_at new k ≡ option_map (with_child q i h k) (node_at old k))
      → Under q f
      → tops_at new ≡ tops_with q h (tops_at old)
      → Is new (paste q i (tree h v none none) f)
  added old new q i h v f is absent found others under tops_new =
      record {
        tops = tops_new ∙ ap (tops_with q h) is.tops ∙ sym (tops-paste q i h leaf f refl);
        stands = Stands-paste (node_at old) (node_at new) q i h leaf f is.stands is.distinct under refl (found, tt, tt) (λ k among. others k (apart k among));
        distinct = λ x. omega (arith, weigh-paste (λ k. cond {A = ℕ} (same k x) 1 0) q i leaf f is.distinct under, once x);
        whole = λ k live. elim (cases_same k h) [
          | inl e ↦ omega (arith, weigh-paste (λ y. cond {A = ℕ} (same y k) 1 0) q i leaf f is.distinct under, hit-true k h (same-eq h k (sym e)))
          | inr ne ↦ omega (arith, weigh-paste (λ y. cond {A = ℕ} (same y k) 1 0) q i leaf f is.distinct under, is.whole k (mapped_node (with_child q i h k) (node_at old k) (rw (others k ne) at live)))
        ];
      }
    where
      leaf : Forest T
      leaf = tree h v none none

      apart : (k : Handle) → In k f → k ≢ h
      apart k among e = absurd (let node = node_in (node_at old) None f k is.stands among in let here = ap (node_at old) e in cc)

      nowhere : count h f ≡ 0
      nowhere = elim (is_zero (count h f)) [ inl none_there ↦ none_there | inr there ↦ absurd (apart h there refl) ]

      once : (x : Handle) → count x f + (cond {A = ℕ} (same h x) 1 0 + 0 + 0) ≤ 1
      once x = elim (cases_same h x) [
        | inl e ↦ let absent = ap (λ y. count y f) (sym e) in omega (arith, nowhere, hit-true x h (same-eq h x e))
        | inr ne ↦ omega (arith, is.distinct x, hit-false x h (same-ne h x ne))
      ]

  -- a leaf is put last among the tops
  pub added_loose : (old new : Tree T) (h : Handle) (v : T) (f : Forest T) → Is old f
      → node_at old h ≡ None
      → node_at new h ≡ Some (record { parent = None; children = []; value = v })
      → ((k : Handle) → k ≢ h → node_at new k ≡ node_at old k)
      → tops_at new ≡ tops_at old ++ h ∷ []
      → Is new (append f (tree h v none none))
  added_loose old new h v f is absent found others tops_new =
      record {
        tops = tops_new ∙ ap (λ hs. hs ++ h ∷ []) is.tops ∙ sym (tops-append f leaf);
        stands = Stands-append (node_at new) None f leaf (Stands-same (node_at old) (node_at new) None f is.stands (λ k among. others k (apart k among))) (found, tt, tt);
        distinct = λ x. omega (arith, weigh-append (λ k. cond {A = ℕ} (same k x) 1 0) f leaf, once x);
        whole = λ k live. elim (cases_same k h) [
          | inl e ↦ omega (arith, weigh-append (λ y. cond {A = ℕ} (same y k) 1 0) f leaf, hit-true k h (same-eq h k (sym e)))
          | inr ne ↦ omega (arith, weigh-append (λ y. cond {A = ℕ} (same y k) 1 0) f leaf, is.whole k (rw (others k ne) at live))
        ];
      }
    where
      leaf : Forest T
      leaf = tree h v none none

      apart : (k : Handle) → In k f → k ≢ h
      apart k among e = absurd (let node = node_in (node_at old) None f k is.stands among in let here = ap (node_at old) e in cc)

      nowhere : count h f ≡ 0
      nowhere = elim (is_zero (count h f)) [ inl none_there ↦ none_there | inr there ↦ absurd (apart h there refl) ]

      once : (x : Handle) → count x f + (cond {A = ℕ} (same h x) 1 0 + 0 + 0) ≤ 1
      once x = elim (cases_same h x) [
        | inl e ↦ let absent = ap (λ y. count y f) (sym e) in omega (arith, nowhere, hit-true x h (same-eq h x e))
        | inr ne ↦ omega (arith, is.distinct x, hit-false x h (same-ne h x ne))
      ]

  -- a leaf is taken away
  pub removed : (old new : Tree T) (h : Handle) (n : TreeNode T) (f : Forest T) → Is old f
      → node_at old h ≡ Some n
      → n.children ≡ []
      → node_at new h ≡ None
      → ((k : Handle) → k ≢ h → node_at new k ≡ option_map (without_child h) (node_at old k))
      → tops_at new ≡ others_than h (tops_at old)
      → Is new (without h f)
  removed old new h n f is was leaf gone others tops_new =
      record {
        tops = tops_new ∙ ap (others_than h) is.tops ∙ sym (tops-without h f);
        stands = Stands-without (node_at old) (node_at new) h None f is.stands (λ k among ne. others k ne);
        distinct = λ x. omega (arith, count-without-le x h f, is.distinct x);
        whole = λ k live. elim (cases_same k h) [
          | inl e ↦ absurd (let dead : node_at new k ≡ None = ap (node_at new) e ∙ gone in let found = some_of (node_at new k) live in cc)
          | inr ne ↦
              let among = is.whole h (is_node (node_at old h) n was) in
              let found = find (node_at old) None f h is.stands among (is.distinct h) in
              let list : tops found.kids ≡ [] = sym (ap (λ (x : TreeNode T). x.children) (same_Some (sym was ∙ found.is))) ∙ leaf in
              let nothing = no_kids found.kids list in
              let kids = ap (weigh (λ y. cond {A = ℕ} (same y k) 1 0)) nothing in
              omega (arith, weigh-kids (λ y. cond {A = ℕ} (same y k) 1 0) (node_at old) None f h found (is.distinct h), hit-false k h (same-ne h k (λ e. ne (sym e))), is.whole k (mapped_node (without_child h) (node_at old k) (rw (others k ne) at live)))
        ];
      }
    where
      no_kids : (g : Forest T) → tops g ≡ [] → g ≡ none
      no_kids none e = refl
      no_kids (tree k v below rest) e = absurd (cc)

  -- the tree of h stands where h has another parent and no other node of it changes
  pub Stands-hooked : (old new : Tree T) (q : Option Handle) (i : ℕ) (h : Handle) (n : TreeNode T) (f : Forest T) → Is old f
      → node_at old h ≡ Some n
      → node_at new h ≡ Some (record n { parent = q })
      → ((k : Handle) → k ≢ h → node_at new k ≡ option_map (with_child q i h k) (option_map (without_child h) (node_at old k)))
      → ((p : Handle) → q ≡ Some p → In p (tree_of h f) → ⊥)
      → (tops (tree_of h f) ≡ h ∷ []) × Stands (node_at new) q (tree_of h f)
  Stands-hooked old new q i h n f is was now others apart =
      let among = is.whole h (is_node (node_at old h) n was) in
      let found = find (node_at old) None f h is.stands among (is.distinct h) in
      let node : n ≡ record { parent = found.parent; children = tops found.kids; value = found.value } = same_Some (sym was ∙ found.is) in
      let absent : count h found.kids ≡ 0 = omega (arith, weigh-kids (λ y. cond {A = ℕ} (same y h) 1 0) (node_at old) None f h found (is.distinct h), hit-true h h (same_self h), is.distinct h) in
      let below : Stands (node_at new) (Some h) (without h found.kids) = Stands-without (node_at old) (node_at new) h (Some h) found.kids found.stands
      (λ k inside ne. others k ne ∙ untouched q k (λ p e. λ d. apart p e (let P : Handle → Type 0 = λ x. In x (tree_of h f) in let here : In k (tree_of h f) = rw found.tree_is (omega arith) in subst P d here)) (option_map (without_child h) (node_at old k))) in
      rw found.tree_is (refl, (now ∙ ap (λ (m : TreeNode T). Some (record m { parent = q })) node, rw (without_absent h found.kids absent) at below, tt))
    where
      untouched : (q : Option Handle) (k : Handle) → ((p : Handle) → q ≡ Some p → k ≢ p) → (o : Option (TreeNode T)) → option_map (with_child q i h k) o ≡ o
      untouched None k other None = refl
      untouched None k other (Some m) = refl
      untouched (Some p) k other None = refl
      untouched (Some p) k other (Some m) = ap Some (ap (λ b. cond b (record m { children = insert m.children i h }) m) (same-ne k p (other p refl)))

  -- h's tree is put below another node, or before all tops
  pub hooked : (old new : Tree T) (q : Option Handle) (i : ℕ) (h : Handle) (n : TreeNode T) (f : Forest T) → Is old f
      → node_at old h ≡ Some n
      → node_at new h ≡ Some (record n { parent = q })
      → ((k : Handle) → k ≢ h → node_at new k ≡ option_map (with_child q i h k) (option_map (without_child h) (node_at old k)))
      → ((p : Handle) → q ≡ Some p → In p (tree_of h f) → ⊥)
      → Under q f
      → tops_at new ≡ tops_with q h (others_than h (tops_at old))
      → Is new (paste q i (tree_of h f) (without h f))
  hooked old new q i h n f is was now others apart under tops_new =
      let part = Stands-hooked old new q i h n f is was now others apart in
      let few : IsDistinct (without h f) = λ x. omega (arith, count-without-le x h f, is.distinct x) in
      let left = under_left q under apart in
      let middle : Stands (λ k. option_map (without_child h) (node_at old k)) None (without h f) = Stands-without (node_at old) (λ k. option_map (without_child h) (node_at old k)) h None f is.stands (λ k among ne. refl) in
      record {
        tops = tops_new ∙ ap (λ hs. tops_with q h (others_than h hs)) is.tops ∙ ap (tops_with q h) (sym (tops-without h f)) ∙ sym (tops-paste q i h (tree_of h f) (without h f) part.0);
        stands = Stands-paste (λ k. option_map (without_child h) (node_at old k)) (node_at new) q i h (tree_of h f) (without h f) middle few left part.0 part.1
            (λ k among. others k (λ e. absurd (let here : count k (without h f) ≡ count h (without h f) = ap (λ y. count y (without h f)) e in omega (arith, count-without h f))));
        distinct = λ x. omega (arith, weigh-paste (λ y. cond {A = ℕ} (same y x) 1 0) q i (tree_of h f) (without h f) few left, weigh-without (λ y. cond {A = ℕ} (same y x) 1 0) h f (is.distinct h), is.distinct x);
        whole = λ k live. omega (arith, weigh-paste (λ y. cond {A = ℕ} (same y k) 1 0) q i (tree_of h f) (without h f) few left, weigh-without (λ y. cond {A = ℕ} (same y k) 1 0) h f (is.distinct h), still k live);
      }
    where
      under_left : (q : Option Handle) → Under q f → ((p : Handle) → q ≡ Some p → In p (tree_of h f) → ⊥) → Under q (without h f)
      under_left None under apart = tt
      under_left (Some p) under apart = elim (is_zero (count p (tree_of h f))) [
        | inl absent ↦ omega (arith, weigh-without (λ y. cond {A = ℕ} (same y p) 1 0) h f (is.distinct h))
        | inr there ↦ absurd (apart p refl there)
      ]

      still : (k : Handle) → IsNode new k → In k f
      still k live = elim (cases_same k h) [
        | inl e ↦ is.whole k (is_node (node_at old k) n (ap (node_at old) e ∙ was))
        | inr ne ↦ is.whole k (mapped_node (without_child h) (node_at old k) (mapped_node (with_child q i h k) _ (rw (others k ne) at live)))
      ]

  -- h's tree is put last among the tops
  pub detached : (old new : Tree T) (h : Handle) (n : TreeNode T) (f : Forest T) → Is old f
      → node_at old h ≡ Some n
      → node_at new h ≡ Some (record n { parent = None })
      → ((k : Handle) → k ≢ h → node_at new k ≡ option_map (without_child h) (node_at old k))
      → tops_at new ≡ others_than h (tops_at old) ++ h ∷ []
      → Is new (append (without h f) (tree_of h f))
  detached old new h n f is was now others tops_new =
      let part = Stands-hooked old new None 0 h n f is was now (λ k ne. others k ne ∙ sym (same_node (option_map (without_child h) (node_at old k)))) (λ p e. absurd (cc)) in
      record {
        tops = tops_new ∙ ap (λ hs. others_than h hs ++ h ∷ []) is.tops ∙ ap (λ hs. hs ++ h ∷ []) (sym (tops-without h f)) ∙ ap (λ hs. tops (without h f) ++ hs) (sym part.0) ∙ sym (tops-append (without h f) (tree_of h f));
        stands = Stands-append (node_at new) None (without h f) (tree_of h f) (Stands-without (node_at old) (node_at new) h None f is.stands (λ k among ne. others k ne)) part.1;
        distinct = λ x. omega (arith, weigh-append (λ y. cond {A = ℕ} (same y x) 1 0) (without h f) (tree_of h f), weigh-without (λ y. cond {A = ℕ} (same y x) 1 0) h f (is.distinct h), is.distinct x);
        whole = λ k live. omega (arith, weigh-append (λ y. cond {A = ℕ} (same y k) 1 0) (without h f) (tree_of h f), weigh-without (λ y. cond {A = ℕ} (same y k) 1 0) h f (is.distinct h), still k live);
      }
    where
      still : (k : Handle) → IsNode new k → In k f
      still k live = elim (cases_same k h) [
        | inl e ↦ is.whole k (is_node (node_at old k) n (ap (node_at old) e ∙ was))
        | inr ne ↦ is.whole k (mapped_node (without_child h) (node_at old k) (rw (others k ne) at live))
      ]

  -- a value is written
  pub wrote : (old new : Tree T) (h : Handle) (w : T) (f : Forest T) → Is old f
      → ((k : Handle) → node_at new k ≡ option_map (with_value_at h w k) (node_at old k))
      → tops_at new ≡ tops_at old
      → Is new (set_value h w f)
  wrote old new h w f is written tops_new =
      record {
        tops = tops_new ∙ is.tops ∙ sym (tops-set_value h w f);
        stands = Stands-set_value (node_at old) (node_at new) h w None f is.stands (λ k among. written k);
        distinct = λ x. omega (arith, weigh-set_value (λ y. cond {A = ℕ} (same y x) 1 0) h w f, is.distinct x);
        whole = λ k live. omega (arith, weigh-set_value (λ y. cond {A = ℕ} (same y k) 1 0) h w f, is.whole k (mapped_node (with_value_at h w k) (node_at old k) (rw (written k) at live)));
      }

  -- what has a parent is live, and so is what has children
  pub live_from_parent : (o : Option (TreeNode T)) (p : Handle) → parent_of o ≡ Some p → IsSome o
  live_from_parent None p e = absurd (cc)
  live_from_parent (Some n) p e = refl

  pub live_from_child : (o : Option (TreeNode T)) (c : Handle) → Among c (children_of o) → IsSome o
  live_from_child None c among = absurd (omega arith)
  live_from_child (Some n) c among = refl

  -- a handle at the top of a tree is live
  pub top_live : (t : Tree T) (f : Forest T) (h : Handle) → Is t f → Among h (tops_at t) → IsNode t h
  top_live t f h is among =
      let node = parent_of_top (node_at t) None f h is.stands (rw is.tops at among) in
      is_node (node_at t h) node.0 node.1

  -- a child's subtree stands, is smaller than its parent's, and has that parent
  pub record IsChild (t : Tree T) (h c : Handle) : Type 0 where
    pub holds : Holds t c
    pub smaller : size (subtree_at t c) < size (subtree_at t h)
    pub parent : parent_at t c ≡ Some h

  pub child_of : (t : Tree T) (f : Forest T) (h c : Handle) → Is t f → Among c (children_at t h) → IsChild t h c
  child_of t f h c is among =
      let live = live_from_child (node_at t h) c among in
      let inside = is.whole h live in
      let found = find (node_at t) None f h is.stands inside (is.distinct h) in
      let list : children_at t h ≡ tops found.kids = ap children_of found.is in
      let top : Among c (tops found.kids) = rw list at among in
      let few : IsDistinct found.kids = λ x. omega (arith, weigh-kids (λ y. cond {A = ℕ} (same y x) 1 0) (node_at t) None f h found (is.distinct h), is.distinct x) in
      let here : In c found.kids = omega (arith, times-le-count c found.kids) in
      let node = parent_of_top (node_at t) (Some h) found.kids c found.stands top in
      let part = plain-tree_of (node_at t) (Some h) found.kids c (used_count t.nodes) found.stands here (few c) (size-le t.nodes (Some h) found.kids found.stands few) in
      let whole = ap size (subtree_is-tree_of t f h is inside ∙ found.tree_is) in
      let sizes = ap size part in
      record {
        holds = Holds-from_Is t f c is (is_node (node_at t c) node.0 node.1);
        smaller = omega (arith, weigh-without (λ _. 1) c found.kids (few c));
        parent = ap parent_of node.1 ∙ node.2;
      }

  -- a node's parent is live, and has it among its children
  pub parent_lists : (t : Tree T) (f : Forest T) (h p : Handle) → Is t f → parent_at t h ≡ Some p → IsNode t p × Among h (children_at t p)
  parent_lists t f h p is has =
      let live = live_from_parent (node_at t h) p has in
      let found = find (node_at t) None f h is.stands (is.whole h live) (is.distinct h) in
      let parent : found.parent ≡ Some p = sym (ap parent_of found.is) ∙ has in
      elim found.above [
        | inl top ↦ absurd (let both = sym parent ∙ top.0 in cc)
        | inr q ↦
            let is_p : q.0 ≡ p = same_Some (sym q.2 ∙ parent) in
            let at_p : node_at t p ≡ Some q.1 = ap (node_at t) (sym is_p) ∙ q.3 in
            (is_node (node_at t p) q.1 at_p, rw (ap children_of at_p) q.4)
      ]

  -- only its parent has a node among its children
  pub one_parent : (t : Tree T) (f : Forest T) (h : Handle) → Is t f → IsNode t h → HasOneParent t.nodes h
  one_parent t f h is live =
      record {
        only = λ k n at_k among.
            let node = only_parent (node_at t) None f k h n is.stands (is.whole k (is_node (node_at t k) n at_k)) (is.distinct k) at_k among in
            ap parent_of node.1 ∙ node.2;
        once = λ k n at_k.
            let inside = is.whole k (is_node (node_at t k) n at_k) in
            let found = find (node_at t) None f k is.stands inside (is.distinct k) in
            let list : n.children ≡ tops found.kids = ap (λ (x : TreeNode T). x.children) (same_Some (sym at_k ∙ found.is)) in
            rw list (omega (arith, times-le-count h found.kids, weigh-kids (λ y. cond {A = ℕ} (same y h) 1 0) (node_at t) None f k found (is.distinct k), is.distinct h));
        not_own = λ e.
            let lists = parent_lists t f h h is e in
            let child = child_of t f h h is lists.1 in
            absurd (omega (arith, child.smaller));
      }

  -- a node with a parent is no top, and a top stands once among the tops
  pub no_top : (t : Tree T) (f : Forest T) (h p : Handle) → Is t f → parent_at t h ≡ Some p → times h (tops_at t) ≡ 0
  no_top t f h p is has = elim (is_zero (times h (tops_at t))) [
    | inl absent ↦ absent
    | inr there ↦
        let node = parent_of_top (node_at t) None f h is.stands (rw is.tops at there) in
        absurd (let both = sym (ap parent_of node.1 ∙ node.2) ∙ has in cc)
  ]

  pub tops_once : (t : Tree T) (f : Forest T) (h : Handle) → Is t f → times h (tops_at t) ≤ 1
  tops_once t f h is = rw is.tops (omega (arith, times-le-count h f, is.distinct h))

  -- a live node without a parent is a top
  pub is_top : (t : Tree T) (f : Forest T) (h : Handle) → Is t f → IsNode t h → parent_at t h ≡ None → Among h (tops_at t)
  is_top t f h is live has_none =
      let found = find (node_at t) None f h is.stands (is.whole h live) (is.distinct h) in
      elim found.above [
        | inl top ↦ rw is.tops top.1
        | inr q ↦ absurd (let parent = sym (ap parent_of found.is) ∙ has_none in let both = sym q.2 ∙ parent in cc)
      ]

  pub top_iff : (t : Tree T) (f : Forest T) (h : Handle) → Is t f → IsNode t h → ((parent_at t h ≡ None) ↔ Among h (tops_at t))
  top_iff t f h is live = (
    is_top t f h is live,
    λ top.
        let node = parent_of_top (node_at t) None f h is.stands (rw is.tops at top) in
        ap parent_of node.1 ∙ node.2,
  )

  -- a subtree is at most as large as the tree
  pub subtree_few : (t : Tree T) (f : Forest T) (h : Handle) → Is t f → size (subtree_at t h) ≤ used_count t.nodes
  subtree_few t f h is = by_node (node_at t h) refl
    where
      by_node : (o : Option (TreeNode T)) → node_at t h ≡ o → size (subtree_at t h) ≤ used_count t.nodes
      by_node (Some n) e =
          let holds = Holds-from_Is t f h is (is_node (node_at t h) n e) in
          size-le t.nodes (parent_at t h) (subtree_at t h) holds.stands holds.distinct
      by_node None e = let nothing = ap size (plain_dead (node_at t) h (used_count t.nodes) e) in omega arith

  -- a tree without nodes
  pub empty_is : (t : Tree T) → IsNew t.nodes → tops_at t ≡ [] → Is t none
  empty_is t new no_tops =
      record {
        tops = no_tops;
        stands = tt;
        distinct = λ h. omega arith;
        whole = λ h live. absurd (let found = some_of (node_at t h) live in let absent = new.absent h in cc);
      }

  -- a value is written in the arena
  pub writes_value : (a : Arena (TreeNode T)) (h : Handle) (n : TreeNode T) (w : T) → get a h ≡ Some n → WritesValue a (with_value a h (record n { value = w })) h w
  writes_value a h n w live =
      let wrote_it = written a h (record n { value = w }) (is_node (get a h) n live) in
      record {
        nodes = λ k. elim (cases_same k h) [
          | inl e ↦ ap (get (with_value a h (record n { value = w }))) e ∙ wrote_it.found ∙ sym (ap (option_map (with_value_at h w k)) (ap (get a) e ∙ live) ∙ ap Some (ap (λ b. cond b (record n { value = w }) n) (same-eq k h e)))
          | inr ne ↦ wrote_it.others k ne ∙ sym (untouched h w k ne (get a k))
        ];
        handles = record { generations = wrote_it.generations; spent = wrote_it.spent; used = wrote_it.used; retired = wrote_it.retired; generation_sum = wrote_it.generation_sum; inserted = wrote_it.inserted };
      }
    where
      untouched : (h : Handle) (w : T) (k : Handle) → k ≢ h → (o : Option (TreeNode T)) → option_map (with_value_at h w k) o ≡ o
      untouched h w k ne None = refl
      untouched h w k ne (Some m) = ap Some (ap (λ b. cond b (record m { value = w }) m) (same-ne k h ne))

  pub written_writes : (a : Arena (TreeNode T)) (h : Handle) (w : T) → IsLive a h → WritesValue a (written_at a h w (get a h)) h w
  written_writes a h w live =
      let found = some_of (get a h) live in
      rw found.1 (writes_value a h found.0 w found.1)

  pub wrote_is : (old new : Tree T) (h : Handle) (w : T) → WritesValue old.nodes new.nodes h w → new.root ≡ old.root → new.inactive ≡ old.inactive
      → (f : Forest T) → Is old f → Is new (set_value h w f)
  wrote_is old new h w writes root inactive f is = wrote old new h w f is writes.nodes (rw (root, inactive) refl)

  pub IsTree-written : (t : Tree T) (h : Handle) (w : T) → IsTree t → IsTree (tree_written t h w)
  IsTree-written t h w is = by_node (get t.nodes h) refl
    where
      by_node : (o : Option (TreeNode T)) → get t.nodes h ≡ o → IsTree (record t { nodes = written_at t.nodes h w o })
      by_node None e = is
      by_node (Some n) e = (set_value h w is.0, wrote_is t (record t { nodes = with_value t.nodes h (record n { value = w }) }) h w (writes_value t.nodes h n w e) refl refl is.0 is.1)

  -- what the readers promise of handles
  pub root_holds : (t : Tree T) (f : Forest T) → Is t f → IfSome t.root (Holds t)
  root_holds t f is = if_some_then t.root (Holds t) (λ h e. Holds-from_Is t f h is (top_live t f h is (at_root t.root h e)))
    where
      at_root : (root : Option Handle) (h : Handle) → root ≡ Some h → Among h (option_to_list root ++ t.inactive)
      at_root None h e = absurd (cc)
      at_root (Some k) h e = rw (same_Some e) (omega (arith, times_here h t.inactive))

  pub inactive_holds : (t : Tree T) (f : Forest T) (h : Handle) → Is t f → Among h t.inactive → Holds t h
  inactive_holds t f h is among = Holds-from_Is t f h is (top_live t f h is (omega (arith, sum_by-append (λ k. cond {A = ℕ} (same k h) 1 0) (option_to_list t.root) t.inactive)))

  pub parent_facts : (t : Tree T) (f : Forest T) (h p : Handle) → Is t f → parent_at t h ≡ Some p
      → Holds t p × (size (subtree_at t h) < size (subtree_at t p)) × Among h (children_at t p)
  parent_facts t f h p is has =
      let lists = parent_lists t f h p is has in
      let child = child_of t f p h is lists.1 in
      (Holds-from_Is t f p is lists.0, child.smaller, lists.1)
