-- Lemmas on forests of which nodes are taken out, and on forests of several trees.
use Rattle.std.proofs.Common.{◌≡◌, ℕ, ◌+◌, ◌≤◌, Bool, false, cond, not, List, [], ◌∷◌, ◌++◌, filter, Option, Some, None, refl, sym, ap, ◌∙◌, inl, inr, arith}
use Rattle.std.proofs.lemmas.Bool.{cases_Bool}
use Rattle.fx_handles.specs.declared.Handle.{Handle}
use Rattle.fx_handles.specs.Handle.{same, times, Among, AreDistinct}
use Rattle.fx_handles.specs.HandleLaws.{same-eq, same-ne, cases_same, times-cons, times_here}
use Rattle.node_tree.specs.Forest.{TreeNode, Forest, tops, count, In, IsDistinct, trees_of, pruned, Stands}
use Rattle.node_tree.specs.Forest.Forest.{none, tree}
use Rattle.node_tree.specs.Tree.{children_of}
use Rattle.node_tree.proofs.ForestLemmas.{same_Some, hit, hit-true, hit-false, is_zero, tops-append, times-le-count, Stands-append, parent_of_top, find, weigh-kids}

module _ {T : Type 0} where
  -- a node with a parent stands at most as often as it is at the top, and as its parent stands
  count-below : (at : Handle → Option (TreeNode T)) (p : Option Handle) (f : Forest T) (x q : Handle) (n : TreeNode T) → Stands at p f → at x ≡ Some n → n.parent ≡ Some q → times x (children_of (at q)) ≤ 1
      → count x f ≤ times x (tops f) + count q f
  count-below at p none x q n stands is parent once = omega arith
  count-below at p (tree h v kids rest) x q n stands is parent once =
      omega (arith, times-cons x h (tops rest), count-below at (Some h) kids x q n stands.1 is parent once, count-below at p rest x q n stands.2 is parent once, own)
    where
      own : times x (tops kids) ≤ hit q h
      own = elim (cases_same h q) [
        | inl e ↦
            let list : children_of (at q) ≡ tops kids = ap (λ y. children_of (at y)) (sym e) ∙ ap children_of stands.0 in
            let few : times x (tops kids) ≤ 1 = rw list at once in
            omega (arith, hit-true q h (same-eq h q e))
        | inr ne ↦ elim (is_zero (times x (tops kids))) [
          | inl absent ↦ omega arith
          | inr there ↦
              let top = parent_of_top at (Some h) kids x stands.1 there in
              absurd (ne (same_Some (sym top.2 ∙ ap (λ (m : TreeNode T). m.parent) (same_Some (sym top.1 ∙ is)) ∙ parent)))
        ]
      ]

  -- a node without a parent stands at the top alone
  count-top : (at : Handle → Option (TreeNode T)) (p : Option Handle) (f : Forest T) (x : Handle) (n : TreeNode T) → Stands at p f → at x ≡ Some n → n.parent ≡ None → count x f ≤ times x (tops f)
  count-top at p none x n stands is parent = omega arith
  count-top at p (tree h v kids rest) x n stands is parent =
      omega (arith, times-cons x h (tops rest), count-top at (Some h) kids x n stands.1 is parent, count-top at p rest x n stands.2 is parent, own)
    where
      own : times x (tops kids) ≡ 0
      own = elim (is_zero (times x (tops kids))) [
        | inl absent ↦ absent
        | inr there ↦
            let top = parent_of_top at (Some h) kids x stands.1 there in
            absurd (let both = sym top.2 ∙ ap (λ (m : TreeNode T). m.parent) (same_Some (sym top.1 ∙ is)) ∙ parent in cc)
      ]

  -- where no list of children has a handle twice, and neither have the tops, no handle stands twice
  pub distinct_from : (at : Handle → Option (TreeNode T)) (f : Forest T) → Stands at None f → AreDistinct (tops f) → ((k : Handle) (n : TreeNode T) → at k ≡ Some n → AreDistinct n.children) → IsDistinct f
  distinct_from at f stands top_once once x = elim (is_zero (count x f)) [
    | inl absent ↦ omega arith
    | inr there ↦ go None f stands (λ q e. absurd (cc)) x there
  ]
    where
      list_once : (q x : Handle) → times x (children_of (at q)) ≤ 1
      list_once q x = by_node (at q) refl
        where
          by_node : (o : Option (TreeNode T)) → at q ≡ o → times x (children_of o) ≤ 1
          by_node None e = omega arith
          by_node (Some n) e = once q n e x

      no_top : (x q : Handle) (n : TreeNode T) → at x ≡ Some n → n.parent ≡ Some q → times x (tops f) ≡ 0
      no_top x q n is parent = elim (is_zero (times x (tops f))) [
        | inl absent ↦ absent
        | inr there ↦
            let top = parent_of_top at None f x stands there in
            absurd (let both = sym top.2 ∙ ap (λ (m : TreeNode T). m.parent) (same_Some (sym top.1 ∙ is)) ∙ parent in cc)
      ]

      here : (p : Option Handle) (h : Handle) (n : TreeNode T) → at h ≡ Some n → n.parent ≡ p → ((q : Handle) → p ≡ Some q → count q f ≤ 1) → count h f ≤ 1
      here None h n is parent above = omega (arith, count-top at None f h n stands is parent, top_once h)
      here (Some q) h n is parent above = omega (arith, count-below at None f h q n stands is parent (list_once q h), no_top h q n is parent, above q refl)

      go : (p : Option Handle) (g : Forest T) → Stands at p g → ((q : Handle) → p ≡ Some q → count q f ≤ 1) → (x : Handle) → In x g → count x f ≤ 1
      go p none part above x inside = absurd (omega arith)
      go p (tree h v kids rest) part above x inside =
          let mine : count h f ≤ 1 = here p h (record { parent = p; children = tops kids; value = v }) part.0 refl above in
          elim (cases_same h x) [
            | inl e ↦ rw e at mine
            | inr ne ↦ elim (is_zero (count x kids)) [
              | inl absent ↦ go p rest part.2 above x (omega (arith, hit-false x h (same-ne h x ne)))
              | inr down ↦ go (Some h) kids part.1 (λ q e. rw (same_Some e) at mine) x down
            ]
          ]

  -- a node's list of children has no handle twice
  pub list_distinct : (at : Handle → Option (TreeNode T)) (p : Option Handle) (f : Forest T) (k : Handle) (n : TreeNode T) → Stands at p f → IsDistinct f → In k f → at k ≡ Some n → AreDistinct n.children
  list_distinct at p f k n stands distinct inside is x =
      let found = find at p f k stands inside (distinct k) in
      let list : n.children ≡ tops found.kids = ap (λ (m : TreeNode T). m.children) (same_Some (sym is ∙ found.is)) in
      rw list (omega (arith, times-le-count x found.kids, weigh-kids (λ y. cond {A = ℕ} (same y x) 1 0) at p f k found (distinct k), distinct x))

  -- a child of a node of the forest is in the forest
  pub child_in_forest : (at : Handle → Option (TreeNode T)) (p : Option Handle) (f : Forest T) (k x : Handle) (n : TreeNode T) → Stands at p f → In k f → at k ≡ Some n → Among x n.children → In x f
  child_in_forest at p none k x n stands inside is among = absurd (omega arith)
  child_in_forest at p (tree h v kids rest) k x n stands inside is among =
      elim (cases_same h k) [
        | inl e ↦
            let list : n.children ≡ tops kids = ap (λ (m : TreeNode T). m.children) (same_Some (sym is ∙ ap at (sym e) ∙ stands.0)) in
            let top : Among x (tops kids) = rw list at among in
            omega (arith, times-le-count x kids)
        | inr ne ↦ elim (is_zero (count k kids)) [
          | inl absent ↦ omega (arith, child_in_forest at p rest k x n stands.2 (omega (arith, hit-false k h (same-ne h k ne))) is among)
          | inr down ↦ omega (arith, child_in_forest at (Some h) kids k x n stands.1 down is among)
        ]
      ]

  -- the tops of what is left of a forest
  pub tops-pruned : (drops : Handle → Bool) (f : Forest T) → tops (pruned drops f) ≡ filter (λ h. not (drops h)) (tops f)
  tops-pruned drops none = refl
  tops-pruned drops (tree h v kids rest) =
      elim (cases_Bool (drops h)) [
        | inl e ↦ rw e (tops-pruned drops rest)
        | inr e ↦ rw e (ap (λ hs. h ∷ hs) (tops-pruned drops rest))
      ]

  pub pruned-tree : (drops : Handle → Bool) (h : Handle) (v : T) (kids : Forest T) → drops h ≡ false → pruned drops (tree h v kids none) ≡ tree h v (pruned drops kids) none
  pruned-tree drops h v kids e = rw e refl

  -- what is left below a node that stays stands, where each node that stays keeps its parent, where that stays, and loses the children
  -- that don't stay
  pub Stands-pruned : (old new : Handle → Option (TreeNode T)) (drops : Handle → Bool) (q : Handle) (f : Forest T)
      → ((k p : Handle) (n : TreeNode T) → drops k ≡ false → drops p ≡ false → old k ≡ Some n → n.parent ≡ Some p → new k ≡ Some (record n { children = filter (λ h. not (drops h)) n.children }))
      → drops q ≡ false → Stands old (Some q) f → Stands new (Some q) (pruned drops f)
  Stands-pruned old new drops q none stays q_stays stands = tt
  Stands-pruned old new drops q (tree h v kids rest) stays q_stays stands =
      let later = Stands-pruned old new drops q rest stays q_stays stands.2 in
      elim (cases_Bool (drops h)) [
        | inl e ↦ rw e later
        | inr e ↦
            let node = stays h q (record { parent = Some q; children = tops kids; value = v }) e q_stays stands.0 refl in
            rw e (rw (tops-pruned drops kids) node, Stands-pruned old new drops h kids stays e stands.1, later)
      ]

  -- several trees, each found by its handle
  pub tops-trees_of : (find : Handle → Forest T) (hs : List Handle) → ((h : Handle) → Among h hs → tops (find h) ≡ h ∷ []) → tops (trees_of find hs) ≡ hs
  tops-trees_of find [] one = refl
  tops-trees_of find (h ∷ hs) one =
      tops-append (find h) (trees_of find hs) ∙ ap (λ xs. xs ++ tops (trees_of find hs)) (one h (omega (arith, times_here h hs)))
      ∙ ap (λ xs. h ∷ xs) (tops-trees_of find hs (λ k among. one k (omega (arith, times-cons k h hs))))

  pub Stands-trees_of : (at : Handle → Option (TreeNode T)) (p : Option Handle) (find : Handle → Forest T) (hs : List Handle) → ((h : Handle) → Among h hs → Stands at p (find h)) → Stands at p (trees_of find hs)
  Stands-trees_of at p find [] each = tt
  Stands-trees_of at p find (h ∷ hs) each =
      Stands-append at p (find h) (trees_of find hs) (each h (omega (arith, times_here h hs))) (Stands-trees_of at p find hs (λ k among. each k (omega (arith, times-cons k h hs))))
