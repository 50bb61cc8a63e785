-- Trees that are put after the last child of a node, one after another.
use Rattle.std.proofs.Common.{◌≡◌, ℕ, List, [], length, insert, Option, Some, None, Result, IfOk, refl, sym, ap, ◌∙◌, inl, inr, arith}
use Rattle.std.proofs.lemmas.Bool.{cases_Bool}
use Rattle.fx_handles.specs.declared.Handle.{Handle}
use Rattle.fx_handles.specs.Handle.{same}
use Rattle.fx_handles.specs.Arena.{Arena, get, Inserts, with_value}
use Rattle.fx_handles.specs.HandleLaws.{same-true, same_self}
use Rattle.fx_handles.specs.ArenaLaws.{some_of}
use Rattle.node_tree.specs.Forest.{TreeNode, Forest, tops, count, append, place, place_under, paste, Stands}
use Rattle.node_tree.specs.Forest.Forest.{none, tree}
use Rattle.node_tree.specs.Edits.{Adds, HasPlace, root_with}
use Rattle.node_tree.specs.Mounting.{put_under, put_last, children_below, CanMount}
use Rattle.node_tree.specs.Tree.{Tree, node_at, children_of, Is}
use Rattle.node_tree.proofs.TreeEdits.{inserted_is}
use Rattle.node_tree.proofs.EditLemmas.{adds_below}
use Rattle.node_tree.proofs.Children.{append-none, append-append}
use Rattle.node_tree.proofs.ForestLemmas.{hit-true, same_Some}

module _ {T : Type 0} where
  -- ---- after the last child is at the end of the list of children

  place_end : (s f : Forest T) → place (length (tops f)) s f ≡ append f s
  place_end s none = append-none s
  place_end s (tree h v below rest) = ap (tree h v below) (place_end s rest)

  pub placed_last : (at : Handle → Option (TreeNode T)) (q : Option Handle) (p : Handle) (n : TreeNode T) (s f : Forest T) → Stands at q f → at p ≡ Some n
      → place_under p (length n.children) s f ≡ put_under p s f
  placed_last at q p n s none stands found = refl
  placed_last at q p n s (tree h v below rest) stands found =
      elim (cases_Bool (same h p)) [
        | inl e ↦
            let one : n ≡ record { parent = q; children = tops below; value = v } = same_Some (sym found ∙ ap at (sym (same-true h p e)) ∙ stands.0) in
            rw e (ap (λ (m : TreeNode T). tree h v (place (length m.children) s below) rest) one ∙ ap (λ g. tree h v g rest) (place_end s below))
        | inr e ↦ rw (e, placed_last at (Some h) p n s below stands.1 found, placed_last at q p n s rest stands.2 found) refl
      ]

  by_node : (t : Tree T) (f : Forest T) (p : Handle) (s : Forest T) (o : Option (TreeNode T)) → Is t f → node_at t p ≡ o → (n : TreeNode T) × (o ≡ Some n)
      → place_under p (length (children_of o)) s f ≡ put_under p s f
  by_node t f p s None is at live = absurd (cc)
  by_node t f p s (Some n) is at live = placed_last (node_at t) None p n s f is.stands at

  -- ---- one after another

  pub put_none : (p : Handle) (f : Forest T) → put_under p none f ≡ f
  put_none p none = refl
  put_none p (tree h v below rest) =
      elim (cases_Bool (same h p)) [
        | inl e ↦ rw e (ap (λ g. tree h v g rest) (append-none below))
        | inr e ↦ rw (e, put_none p below, put_none p rest) refl
      ]

  pub put_more : (p : Handle) (r s f : Forest T) → put_under p s (put_under p r f) ≡ put_under p (append r s) f
  put_more p r s none = refl
  put_more p r s (tree h v below rest) =
      elim (cases_Bool (same h p)) [
        | inl e ↦ rw (e, e) (ap (λ g. tree h v g rest) (append-append below r s))
        | inr e ↦ rw (e, e, put_more p r s below, put_more p r s rest) refl
      ]

  -- ---- below a node that was put there

  pub put_absent : (p : Handle) (s f : Forest T) → count p f ≡ 0 → put_under p s f ≡ f
  put_absent p s none absent = refl
  put_absent p s (tree h v below rest) absent =
      elim (cases_Bool (same h p)) [
        | inl e ↦ absurd (let here = hit-true p h e in omega arith)
        | inr e ↦ rw (e, put_absent p s below (omega arith), put_absent p s rest (omega arith)) refl
      ]

  put_after : (p : Handle) (s f g : Forest T) → count p f ≡ 0 → put_under p s (append f g) ≡ append f (put_under p s g)
  put_after p s none g absent = refl
  put_after p s (tree h v below rest) g absent =
      elim (cases_Bool (same h p)) [
        | inl e ↦ absurd (let here = hit-true p h e in omega arith)
        | inr e ↦ rw (e, put_absent p s below (omega arith), put_after p s rest g (omega arith)) refl
      ]

  put_here : (h : Handle) (v : T) (below rest s : Forest T) → put_under h s (tree h v below rest) ≡ tree h v (append below s) rest
  put_here h v below rest s = rw (same_self h) refl

  put_in : (p h : Handle) (v : T) (below s f : Forest T) → count h f ≡ 0 → put_under h s (put_under p (tree h v below none) f) ≡ put_under p (tree h v (append below s) none) f
  put_in p h v below s none absent = refl
  put_in p h v below s (tree k w kids rest) absent =
      elim (cases_Bool (same k h)) [
        | inl e ↦ absurd (let here = hit-true h k e in omega arith)
        | inr e ↦ elim (cases_Bool (same k p)) [
          | inl at ↦ rw (at, e, put_after h s kids (tree h v below none) (omega arith), put_here h v below none s, put_absent h s rest (omega arith)) refl
          | inr at ↦ rw (at, e, put_in p h v below s kids (omega arith), put_in p h v below s rest (omega arith)) refl
        ]
      ]

  pub put_in_last : (q : Option Handle) (h : Handle) (v : T) (below s f : Forest T) → count h f ≡ 0
      → put_under h s (put_last q (tree h v below none) f) ≡ put_last q (tree h v (append below s) none) f
  put_in_last None h v below s f absent = put_here h v below f s
  put_in_last (Some p) h v below s f absent = put_in p h v below s f absent

-- ---- a node is mounted

module _ {T : Type 0} where
  abbrev pub end_of : Tree T → Option Handle → ℕ
  end_of t q = length (children_below t q)

  pub mount_place : (t : Tree T) (q : Option Handle) → CanMount t q → HasPlace t q (end_of t q)
  mount_place t None can = can
  mount_place t (Some p) can = (can, omega arith)

  pub mounted_last : (t : Tree T) (f : Forest T) (q : Option Handle) (s : Forest T) → Is t f → CanMount t q → paste q (end_of t q) s f ≡ put_last q s f
  mounted_last t f None s is can = refl
  mounted_last t f (Some p) s is can = by_node t f p s (node_at t p) is refl (some_of (node_at t p) can)

  -- a node is mounted: what the nodes, the root and the inactive tops tell
  pub mounted_is : (old new : Tree T) (q : Option Handle) (h : Handle) (v : T) → CanMount old q → Adds old.nodes new.nodes q (end_of old q) h v → new.root ≡ root_with q h old.root → new.inactive ≡ old.inactive
      → (f : Forest T) → Is old f → Is new (put_last q (tree h v none none) f)
  mounted_is old new q h v can adds root inactive f is =
      rw (← mounted_last old f q (tree h v none none) is can) (inserted_is old new q (end_of old q) h v (mount_place old q can) adds root inactive f is)

  -- what is told of each parent, and of none
  pub adds_last : {E : Type 0} (t : Tree T) (new : Arena (TreeNode T)) (q : Option Handle) (v : T) (result : Result Handle E)
      → ((p : Handle) → q ≡ Some p → IfOk result (λ h. Adds t.nodes new (Some p) (length (children_of (get t.nodes p))) h v))
      → (q ≡ None → IfOk result (λ h. Adds t.nodes new None 0 h v))
      → IfOk result (λ h. Adds t.nodes new q (end_of t q) h v)
  adds_last t new None v result below top = top refl
  adds_last t new (Some p) v result below top = below p refl

  -- a node is put at the end of the list of p, which is taken out and put back
  pub last_below : (a b c d : Arena (TreeNode T)) (p h : Handle) (n m : TreeNode T) (value : T) (start list longer : List Handle)
      → get a p ≡ Some n
      → b ≡ with_value a p (record n { children = start })
      → list ≡ n.children
      → Inserts b c h (record { parent = Some p; children = []; value = value })
      → longer ≡ insert list (length list) h
      → get c p ≡ Some m
      → d ≡ with_value c p (record m { children = longer })
      → Adds a d (Some p) (length (children_of (get a p))) h value
  last_below a b c d p h n m value start list longer live out is_list inserted is_longer here back =
      let at_end : length list ≡ length (children_of (get a p)) = ap length is_list ∙ sym (ap (λ o. length (children_of o)) live) in
      adds_below a b c d p h n m _ value start list longer live out is_list inserted (is_longer ∙ ap (λ i. insert list i h) at_end) here back
