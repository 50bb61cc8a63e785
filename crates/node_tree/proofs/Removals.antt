-- What a loop that takes nodes away keeps.
use Rattle.std.proofs.Common.{◌≡◌, ◌≢◌, ◌⊎◌, ℕ, ◌+◌, ◌-◌, ◌≤◌, false, cond, List, [], ◌∷◌, ◌++◌, length, Option, Some, None, IsSome, option_map, refl, sym, ap, ◌∙◌, subst, inl, inr, arith}
use Rattle.std.specs.Option.{option_to_list}
use Rattle.fx_handles.specs.declared.Handle.{Handle}
use Rattle.fx_handles.specs.Handle.{same, times, Among}
use Rattle.fx_handles.specs.Arena.{get, IsSpent, used_count, retired_count, inserted_count}
use Rattle.fx_handles.specs.HandleLaws.{same-eq, same-ne, cases_same, times_there}
use Rattle.fx_handles.specs.ArenaLaws.{some_of}
use Rattle.node_tree.specs.Forest.{without_child, TreeNode, Forest, others_than, tops, weigh, size, count, In, IsDistinct, without, tree_of, first_trees, Stands}
use Rattle.node_tree.specs.Forest.Forest.{none, tree}
use Rattle.node_tree.specs.Tree.{Tree, node_at, IsNode, parent_of, children_of, parent_at, Is, IsTree, subtree_at}
use Rattle.node_tree.specs.Edits.{retires, Takes, IsLeaf, RemovesBelow, DropsInactive, root_without}
use Rattle.node_tree.proofs.ForestLemmas.{hit-true, hit-false, is_zero, weigh-without, without_absent, without-without, tree_of-without, without-there, find, Stands-without, times-le-count}
use Rattle.node_tree.proofs.TreeLemmas.{is_node, mapped_node, subtree_is-tree_of, Holds-from_Is, one_parent, no_top}
use Rattle.node_tree.proofs.EditLemmas.{others_absent, root_without_other, unhooks_nothing}
use Rattle.node_tree.proofs.TreeEdits.{inactive_top, not_root, times-append}

module _ {T : Type 0} where
  -- two stores in which one forest stands agree at its handles
  pub Stands-agree : (a b : Handle → Option (TreeNode T)) (p : Option Handle) (f : Forest T) (k : Handle) → Stands a p f → Stands b p f → In k f → a k ≡ b k
  Stands-agree a b p none k first second among = absurd (omega arith)
  Stands-agree a b p (tree h v below rest) k first second among =
      elim (cases_same h k) [
        | inl e ↦ ap a (sym e) ∙ first.0 ∙ sym second.0 ∙ ap b e
        | inr ne ↦
            let here = hit-false k h (same-ne h k ne) in
            elim (is_zero (count k below)) [
              | inl absent ↦ Stands-agree a b p rest k first.2 second.2 (omega arith)
              | inr there ↦ Stands-agree a b (Some h) below k first.1 second.1 there
            ]
      ]

  no_kids : (g : Forest T) → tops g ≡ [] → g ≡ none
  no_kids none e = refl
  no_kids (tree k v below rest) e = absurd (cc)

  -- a leaf in a forest is a tree of its own
  leaf_tree : (t : Tree T) (p : Option Handle) (s : Forest T) (leaf : Handle) → Stands (node_at t) p s → IsDistinct s → In leaf s → IsLeaf t leaf → (v : T) × (tree_of leaf s ≡ tree leaf v none none)
  leaf_tree t p s leaf stands distinct among is_leaf =
      let found = find (node_at t) p s leaf stands among (distinct leaf) in
      let list : tops found.kids ≡ [] = sym (ap children_of found.is) ∙ is_leaf.childless in
      (found.value, found.tree_is ∙ ap (λ g. tree leaf found.value g none) (no_kids found.kids list))

  -- a node below another one has a parent
  below_has_parent : (t : Tree T) (f : Forest T) (h k : Handle) → Is t f → IsNode t h → In k (subtree_at t h) → k ≢ h → (p : Handle) × (parent_at t k ≡ Some p)
  below_has_parent t f h k is live inside ne =
      let holds = Holds-from_Is t f h is live in
      let found = find (node_at t) (parent_at t h) (subtree_at t h) k holds.stands inside (holds.distinct k) in
      let parent : parent_at t k ≡ found.parent = ap parent_of found.is in
      elim found.above [
        | inl top ↦ absurd (let only : times k (tops (subtree_at t h)) ≡ times k (h ∷ []) = ap (times k) holds.top in omega (arith, times_there k h [] (λ e. ne (sym e)), top.1))
        | inr q ↦ (q.0, parent ∙ q.2)
      ]

  -- some nodes below h have been taken away, h itself not yet
  pub record Removing (t0 t : Tree T) (h : Handle) : Type 0 where
    pub is_tree : IsTree t
    pub was_tree : IsTree t0
    pub was_live : IsNode t0 h
    pub live : IsNode t h
    pub plain : (f : Forest T) → Is t0 f → (g : Forest T) × Is t g × (without h g ≡ without h f)
    pub counted : used_count t.nodes + size (subtree_at t0 h) ≡ used_count t0.nodes + size (subtree_at t h)
    pub retired : retired_count t.nodes + weigh retires (subtree_at t h) ≡ retired_count t0.nodes + weigh retires (subtree_at t0 h)
    pub fewer : used_count t.nodes ≤ used_count t0.nodes
    pub inserted : inserted_count t.nodes ≡ inserted_count t0.nodes
    pub root : t.root ≡ t0.root
    pub inactive : t.inactive ≡ t0.inactive
    pub spent : (k : Handle) → IsSpent t0.nodes k → IsSpent t.nodes k
    pub gone : (k : Handle) → In k (subtree_at t0 h) → In k (subtree_at t h) ⊎ IsSpent t.nodes k

  pub removing-start : (t : Tree T) (h : Handle) → IsTree t → IsNode t h → Removing t t h
  removing-start t h is live =
      record {
        is_tree = is;
        was_tree = is;
        was_live = live;
        live = live;
        plain = λ f was. (f, was, refl);
        counted = refl;
        retired = refl;
        fewer = omega arith;
        inserted = refl;
        root = refl;
        inactive = refl;
        spent = λ k s. s;
        gone = λ k among. inl among;
      }

  -- a leaf below h is taken away
  pub removing-more : (t0 t u : Tree T) (h leaf : Handle) (v : T) → Removing t0 t h → IsLeaf t leaf → In leaf (subtree_at t h) → leaf ≢ h
      → Takes t.nodes u.nodes leaf v → u.root ≡ root_without leaf t.root → u.inactive ≡ others_than leaf t.inactive → ((f : Forest T) → Is t f → Is u (without leaf f))
      → Removing t0 u h
  removing-more t0 t u h leaf v so_far is_leaf inside ne takes root inactive plain =
      let g = so_far.is_tree.0 in
      let is = so_far.is_tree.1 in
      let above = below_has_parent t g h leaf is so_far.live inside ne in
      let no_top_there = no_top t g leaf above.0 is above.1 in
      let parts = times-append leaf (option_to_list t.root) t.inactive in
      let live : IsNode u h = live_still so_far.live in
      let holds = Holds-from_Is t g h is so_far.live in
      let part : subtree_at t h ≡ tree_of h g = subtree_is-tree_of t g h is (is.whole h so_far.live) in
      let now = plain g is in
      let part_now : subtree_at u h ≡ tree_of h (without leaf g) = subtree_is-tree_of u (without leaf g) h now (now.whole h live) in
      let less : subtree_at u h ≡ without leaf (subtree_at t h) = part_now ∙ tree_of-without h leaf g (is.distinct h) (is.distinct leaf) ne (rw part at inside) ∙ ap (without leaf) (sym part) in
      let own = leaf_tree t (parent_at t h) (subtree_at t h) leaf holds.stands holds.distinct inside is_leaf in
      let sizes = weigh-without (λ _. 1) leaf (subtree_at t h) (holds.distinct leaf) in
      let one = ap size own.1 in
      let smaller = ap size less in
      record {
        is_tree = (without leaf g, now);
        was_tree = so_far.was_tree;
        was_live = so_far.was_live;
        live = live;
        plain = λ f was.
            let there = so_far.plain f was in
            let part_there : subtree_at t h ≡ tree_of h there.0 = subtree_is-tree_of t there.0 h there.1 (there.1.whole h so_far.live) in
            let inside_there : In leaf (tree_of h there.0) = rw part_there at inside in
            let absent : count leaf (without h there.0) ≡ 0 = omega (arith, weigh-without (λ y. cond {A = ℕ} (same y leaf) 1 0) h there.0 (there.1.distinct h), there.1.distinct leaf) in
            (without leaf there.0, plain there.0 there.1, without-without h leaf there.0 ∙ without_absent leaf (without h there.0) absent ∙ there.2);
        counted = omega (arith, so_far.counted, takes.used);
        retired =
            let left = ap (weigh retires) less in
            let gone = ap (weigh retires) own.1 in
            omega (arith, so_far.retired, takes.retired, weigh-without retires leaf (subtree_at t h) (holds.distinct leaf));
        fewer = omega (arith, so_far.fewer, takes.used);
        inserted = takes.inserted ∙ so_far.inserted;
        root = root ∙ root_without_other leaf t.root (not_root leaf t.root t.inactive (omega arith)) ∙ so_far.root;
        inactive = inactive ∙ others_absent leaf t.inactive (omega arith) ∙ so_far.inactive;
        spent = λ k s. takes.spent k (so_far.spent k s);
        gone = λ k among. elim (so_far.gone k among) [
          | inl there ↦ elim (cases_same leaf k) [
            | inl e ↦ inr (let P : Handle → Type 0 = λ x. IsSpent u.nodes x in subst P e takes.now_spent)
            | inr other ↦ inl (rw less (
                let alone = ap (weigh (λ y. cond {A = ℕ} (same y k) 1 0)) own.1 in
                omega (arith, weigh-without (λ y. cond {A = ℕ} (same y k) 1 0) leaf (subtree_at t h) (holds.distinct leaf), hit-false k leaf (same-ne leaf k other))))
          ]
          | inr dead ↦ inr (takes.spent k dead)
        ];
      }
    where
      live_still : IsNode t h → IsNode u h
      live_still live = let node = some_of (node_at t h) live in is_node (node_at u h) (without_child leaf node.0) (takes.others h (λ e. ne (sym e)) ∙ ap (option_map (without_child leaf)) node.1)

  -- h itself is taken away, when it is a leaf
  pub removing-done : (t0 t u : Tree T) (h : Handle) (v : T) (n : ℕ) → Removing t0 t h → IsLeaf t h
      → Takes t.nodes u.nodes h v → u.root ≡ root_without h t.root → u.inactive ≡ others_than h t.inactive → ((f : Forest T) → Is t f → Is u (without h f))
      → n ≡ used_count t0.nodes - used_count u.nodes
      → RemovesBelow t0 u h n
  removing-done t0 t u h v n so_far is_leaf takes root inactive plain is_n =
      let g = so_far.is_tree.0 in
      let is = so_far.is_tree.1 in
      let f0 = so_far.was_tree.0 in
      let was = so_far.was_tree.1 in
      let holds = Holds-from_Is t g h is so_far.live in
      let part : subtree_at t h ≡ tree_of h g = subtree_is-tree_of t g h is (is.whole h so_far.live) in
      let own = leaf_tree t None g h is.stands is.distinct (is.whole h so_far.live) is_leaf in
      let one = ap size (part ∙ own.1) in
      let to_here = so_far.plain f0 was in
      let now : Is u (without h f0) = rw to_here.2 at (plain to_here.0 to_here.1) in
      let live_then : IsNode t0 h = so_far.was_live in
      let part0 : subtree_at t0 h ≡ tree_of h f0 = subtree_is-tree_of t0 f0 h was (was.whole h live_then) in
      record {
        counted = omega (arith, so_far.counted, takes.used);
        gone = λ k among. nothing (node_at u k) (λ live. absurd (
            let there = now.whole k live in
            let inside : In k (tree_of h f0) = rw part0 at among in
            omega (arith, weigh-without (λ y. cond {A = ℕ} (same y k) 1 0) h f0 (was.distinct h), was.distinct k)));
        others = λ k outside. by_life f0 was now k (λ inside. outside (rw part0 inside)) (is_zero (count k (without h f0)));
        now_spent = λ k among. elim (so_far.gone k among) [
          | inl there ↦ elim (cases_same h k) [
            | inl e ↦ (let P : Handle → Type 0 = λ x. IsSpent u.nodes x in subst P e takes.now_spent)
            | inr other ↦ absurd (
                let alone = ap (weigh (λ y. cond {A = ℕ} (same y k) 1 0)) (part ∙ own.1) in
                omega (arith, hit-false k h (same-ne h k other)))
          ]
          | inr dead ↦ takes.spent k dead
        ];
        spent = λ k s. takes.spent k (so_far.spent k s);
        used = omega (arith, so_far.counted, takes.used);
        retired = let last = ap (weigh retires) (part ∙ own.1) in omega (arith, so_far.retired, takes.retired);
        generation_sum = omega (arith, so_far.counted, takes.used, so_far.inserted, takes.inserted);
        inserted = takes.inserted ∙ so_far.inserted;
        root = root ∙ ap (root_without h) so_far.root;
        inactive = inactive ∙ ap (others_than h) so_far.inactive;
        plain = λ f is_f. let there = so_far.plain f is_f in rw there.2 at (plain there.0 there.1);
      }
    where
      nothing : {X : Type 0} (o : Option X) → (IsSome o → ⊥) → o ≡ None
      nothing None dead = refl
      nothing (Some x) dead = absurd (dead refl)

      by_life : (f0 : Forest T) → Is t0 f0 → Is u (without h f0) → (k : Handle) → (In k (tree_of h f0) → ⊥) → (count k (without h f0) ≡ 0) ⊎ (1 ≤ count k (without h f0)) → node_at u k ≡ option_map (without_child h) (node_at t0 k)
      by_life f0 was now k outside (inl absent) =
          nothing (node_at u k) (λ live. absurd (omega (arith, now.whole k live)))
          ∙ sym (ap (option_map (without_child h)) (nothing (node_at t0 k) (λ live. absurd (elim (is_zero (count k (tree_of h f0))) [
            | inl none_there ↦ omega (arith, weigh-without (λ y. cond {A = ℕ} (same y k) 1 0) h f0 (was.distinct h), was.whole k live)
            | inr inside ↦ outside inside
          ]))))
      by_life f0 was now k outside (inr there) =
          Stands-agree (node_at u) (λ x. option_map (without_child h) (node_at t0 x)) None (without h f0) k now.stands (Stands-without (node_at t0) (λ x. option_map (without_child h) (node_at t0 x)) h None f0 was.stands (λ x among ne. refl)) there

  -- the leaf that is taken away is h itself
  pub removing-end : (t0 t u : Tree T) (h leaf : Handle) (v : T) (n : ℕ) → leaf ≡ h → Removing t0 t h → IsLeaf t leaf
      → Takes t.nodes u.nodes leaf v → u.root ≡ root_without leaf t.root → u.inactive ≡ others_than leaf t.inactive → ((f : Forest T) → Is t f → Is u (without leaf f))
      → n ≡ used_count t0.nodes - used_count u.nodes
      → RemovesBelow t0 u h n
  removing-end t0 t u h leaf v n e =
      let P : Handle → Type 0 = λ x. Removing t0 t x → IsLeaf t leaf
      → Takes t.nodes u.nodes leaf v → u.root ≡ root_without leaf t.root → u.inactive ≡ others_than leaf t.inactive → ((f : Forest T) → Is t f → Is u (without leaf f))
      → n ≡ used_count t0.nodes - used_count u.nodes
      → RemovesBelow t0 u x n in
      subst P e (removing-done t0 t u leaf v n)

  -- the first trees of a forest from which a later tree was taken
  first_trees_without : (root : Option Handle) (h : Handle) (f : Forest T) (more : List Handle) → IsDistinct f → tops f ≡ option_to_list root ++ more → Among h more → first_trees (length (option_to_list root)) (without h f) ≡ first_trees (length (option_to_list root)) f
  first_trees_without None h f more distinct is among = refl
  first_trees_without (Some r) h none more distinct is among = absurd (cc)
  first_trees_without (Some r) h (tree k v below rest) more distinct is among =
      let later : tops rest ≡ more = same_tail is in
      let there : 1 ≤ count h rest = omega (arith, rw (sym later) at among, times-le-count h rest) in
      let here = distinct h in
      let head : same k h ≡ false = elim (cases_same k h) [ inl e ↦ absurd (omega (arith, hit-true h k (same-eq k h e))) | inr ne ↦ same-ne k h ne ] in
      ap (first_trees 1) (without-there h k v below rest head) ∙ ap (λ g. tree k v g none) (without_absent h below (omega arith))
    where
      same_tail : {x y : Handle} {xs ys : List Handle} → x ∷ xs ≡ y ∷ ys → xs ≡ ys
      same_tail e = cc

  first_trees_all : (root : Option Handle) (f : Forest T) → tops f ≡ option_to_list root ++ [] → first_trees (length (option_to_list root)) f ≡ f
  first_trees_all None none is = refl
  first_trees_all None (tree k v below rest) is = absurd (cc)
  first_trees_all (Some r) none is = absurd (cc)
  first_trees_all (Some r) (tree k v below none) is = refl
  first_trees_all (Some r) (tree k v below (tree x w b l)) is = absurd (cc)

  -- some inactive subtrees have been taken away
  pub record Dropping (t0 t : Tree T) : Type 0 where
    pub is_tree : IsTree t
    pub root : t.root ≡ t0.root
    pub plain : (f : Forest T) → Is t0 f → (g : Forest T) × Is t g × (first_trees (length (option_to_list t0.root)) g ≡ first_trees (length (option_to_list t0.root)) f) × (retired_count t.nodes + weigh retires g ≡ retired_count t0.nodes + weigh retires f)
    pub others : (k : Handle) → IsNode t k → get t.nodes k ≡ get t0.nodes k
    pub now_spent : (k : Handle) → IsNode t0 k → (IsNode t k → ⊥) → IsSpent t.nodes k
    pub spent : (k : Handle) → IsSpent t0.nodes k → IsSpent t.nodes k
    pub fewer : used_count t.nodes ≤ used_count t0.nodes
    pub inserted : inserted_count t.nodes ≡ inserted_count t0.nodes

  pub dropping-start : (t : Tree T) → IsTree t → Dropping t t
  dropping-start t is =
      record {
        is_tree = is;
        root = refl;
        plain = λ f was. (f, was, refl, refl);
        others = λ k live. refl;
        now_spent = λ k live dead. absurd (dead live);
        spent = λ k s. s;
        fewer = omega arith;
        inserted = refl;
      }

  pub dropping-more : (t0 t u : Tree T) (h : Handle) (n : ℕ) → Dropping t0 t → Among h t.inactive → RemovesBelow t u h n → Dropping t0 u
  dropping-more t0 t u h n so_far among removes =
      let g = so_far.is_tree.0 in
      let is = so_far.is_tree.1 in
      let top = inactive_top t g h is among in
      let one = one_parent t g h is top.0 in
      record {
        is_tree = (without h g, removes.plain g is);
        root = removes.root ∙ root_without_other h t.root top.2 ∙ so_far.root;
        plain = λ f was.
            let there = so_far.plain f was in (
              without h there.0,
              removes.plain there.0 there.1,
              first_trees_without t0.root h there.0 t.inactive there.1.distinct (sym there.1.tops ∙ ap (λ r. option_to_list r ++ t.inactive) so_far.root) among ∙ there.2,
              let part = ap (weigh retires) (subtree_is-tree_of t there.0 h there.1 (there.1.whole h top.0)) in
                  omega (arith, there.3, removes.retired, weigh-without retires h there.0 (there.1.distinct h)),
            );
        others = λ k live.
            let outside : In k (subtree_at t h) → ⊥ = λ inside. absurd (let dead = removes.gone k inside in let found = some_of (node_at u k) live in cc) in
            let was = removes.others k outside in
            let same_node_there = sym (unhooks_nothing t.nodes h one top.1 k) in
            was ∙ same_node_there ∙ so_far.others k (mapped_node (without_child h) (node_at t k) (rw was at live));
        now_spent = λ k live dead.
            elim (is_zero (count k (subtree_at t h))) [
              | inl absent ↦
                  let was = removes.others k (λ inside. absurd (omega (arith, absent, inside))) in
                  let same_node_there = sym (unhooks_nothing t.nodes h one top.1 k) in
                  removes.spent k (so_far.now_spent k live (λ still. dead (rw (sym (was ∙ same_node_there)) at still)))
              | inr there ↦ removes.now_spent k there
            ];
        spent = λ k s. removes.spent k (so_far.spent k s);
        fewer = omega (arith, so_far.fewer, removes.used);
        inserted = removes.inserted ∙ so_far.inserted;
      }

  pub dropping-done : (t0 t : Tree T) (n : ℕ) → Dropping t0 t → t.inactive ≡ [] → n ≡ used_count t0.nodes - used_count t.nodes → DropsInactive t0 t n
  dropping-done t0 t n so_far none_left is_n =
      record {
        root = so_far.root;
        inactive = none_left;
        others = so_far.others;
        now_spent = so_far.now_spent;
        spent = so_far.spent;
        used = omega (arith, so_far.fewer);
        retired = λ f was.
            let there = so_far.plain f was in
            let all : first_trees (length (option_to_list t0.root)) there.0 ≡ there.0 = first_trees_all t0.root there.0 (sym there.1.tops ∙ ap (λ r. option_to_list r ++ t.inactive) so_far.root ∙ ap (λ xs. option_to_list t0.root ++ xs) none_left) in
            let is_left = ap (weigh retires) (sym there.2 ∙ all) in
            omega (arith, there.3);
        generation_sum = omega (arith, so_far.fewer, so_far.inserted);
        inserted = so_far.inserted;
        plain = λ f was.
            let there = so_far.plain f was in
            let all : first_trees (length (option_to_list t0.root)) there.0 ≡ there.0 = first_trees_all t0.root there.0 (sym there.1.tops ∙ ap (λ r. option_to_list r ++ t.inactive) so_far.root ∙ ap (λ xs. option_to_list t0.root ++ xs) none_left) in
            rw (sym there.2 ∙ all) there.1;
      }

  -- a subtree has a node
  pub size_top : (s : Forest T) (h : Handle) → tops s ≡ h ∷ [] → 1 ≤ size s
  size_top none h e = absurd (cc)
  size_top (tree k v below rest) h e = omega arith
