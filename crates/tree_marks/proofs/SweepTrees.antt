-- One way through a tree, part after part.
use Rattle.std.proofs.Common.{◌≡◌, ℕ, zero, suc, Bool, true, false, cond, not, ◌&&◌, ◌||◌, List, [], ◌∷◌, ◌++◌, Option, Some, None, IsSome, option_map, refl, sym, ap, ◌∙◌, subst, arith}
use Rattle.std.specs.List.{list_any}
use Rattle.std.specs.Option.{option_to_list}
use Rattle.std.proofs.lemmas.List.Folds.{list_any-append}
use Rattle.fx_handles.specs.declared.Handle.{Handle}
use Rattle.fx_handles.specs.Handle.{same}
use Rattle.fx_handles.specs.HandleLaws.{same-true}
use Rattle.fx_handles.specs.ArenaLaws.{same_Some}
use Rattle.fx_handles.specs.Arena.{used_count}
use Rattle.node_tree.specs.Forest.{TreeNode, Forest, tops, size, below, map_values, Stands, IsDistinct, plain, plain_node}
use Rattle.node_tree.specs.Forest.Forest.{none, tree}
use Rattle.node_tree.specs.Tree.{Tree, IsNode, IsTree, node_at, value_at, children_of, children_at, tops_at, parent_of, Is, subtree_at, StandsAt, Holds}
use Rattle.node_tree.specs.Children.{MapsValues}
use Rattle.node_tree.specs.Edits.{KeepsHandles, WritesValue}
use Rattle.node_tree.proofs.TreeLemmas.{subtree_is, Holds-from_Is}
use Rattle.node_tree.proofs.Children.{opened, below-stands, weigh-map, mapped_is, all-live}
use Rattle.tree_marks.specs.declared.sweep.MetBelow.{MetBelow}
use Rattle.tree_marks.specs.Marking.{Above, Marking, IsMarking, within, is_boundary, at_top}
use Rattle.tree_marks.specs.Marks.{listed, sweep}
use Rattle.tree_marks.specs.Ways.{OnlyMarks}
use Rattle.tree_marks.specs.Sweep.{has_named, named_climbs, swept, each_swept, SweepsTrees}
use Rattle.tree_marks.proofs.MarkSteps.{keeps_handles-self, keeps_handles-twice, over, over-none}
use Rattle.tree_marks.proofs.SweepForests.{has-mapped, each_swept-append, IsMarks, each_swept-marks, climbs-mapped, takes-marks, swept-mapped, swept-forest}

module _ {V : Type 0} where
  -- ---- trees whose values alone change

  over-both : (g h : V → V) (o : Option (TreeNode V)) → option_map (over h) (option_map (over g) o) ≡ option_map (over (λ v. h (g v))) o
  over-both g h None = refl
  over-both g h (Some n) = refl

  pub plain-mapped : (at after : Handle → Option (TreeNode V)) (g : Handle → V → V) → ((k : Handle) → after k ≡ option_map (over (g k)) (at k))
      → (n : ℕ) (hs : List Handle) → plain n after hs ≡ map_values g (plain n at hs)
  unfolding plain
  plain-mapped at after g maps zero hs = refl
  plain-mapped at after g maps (suc n) [] = refl
  plain-mapped at after g maps (suc n) (h ∷ hs) =
      ap (λ o. plain_node h o (plain n after) hs) (maps h) ∙ by_node (at h) (λ ks. plain-mapped at after g maps n ks)
    where
      by_node : (o : Option (TreeNode V)) → ((ks : List Handle) → plain n after ks ≡ map_values g (plain n at ks))
          → plain_node h (option_map (over (g h)) o) (plain n after) hs ≡ map_values g (plain_node h o (plain n at) hs)
      by_node None down = refl
      by_node (Some x) down = let kids = down x.children in let later = down hs in cc

  pub subtree-mapped : (g : Handle → V → V) (old new : Tree V) (h : Handle) → MapsValues g old new → KeepsHandles old.nodes new.nodes → subtree_at new h ≡ map_values g (subtree_at old h)
  subtree-mapped g old new h maps handles =
      ap (λ n. plain n (node_at new) (h ∷ [])) handles.used ∙ plain-mapped (node_at old) (node_at new) g maps (used_count old.nodes) (h ∷ [])

  pub size-mapped : (g : Handle → V → V) (old new : Tree V) (h : Handle) → MapsValues g old new → KeepsHandles old.nodes new.nodes → size (subtree_at new h) ≡ size (subtree_at old h)
  size-mapped g old new h maps handles = ap size (subtree-mapped g old new h maps handles) ∙ weigh-map g (λ _. 1) (subtree_at old h)

  children_kept : (g : V → V) (o m : Option (TreeNode V)) → m ≡ option_map (over g) o → children_of m ≡ children_of o
  children_kept g None m e = ap children_of e
  children_kept g (Some n) m e = ap children_of e

  pub children-mapped : (g : Handle → V → V) (old new : Tree V) (h : Handle) → MapsValues g old new → children_at new h ≡ children_at old h
  children-mapped g old new h maps = children_kept (g h) (node_at old h) (node_at new h) (maps h)

  live_kept : (g : V → V) (o m : Option (TreeNode V)) → m ≡ option_map (over g) o → IsSome o → IsSome m
  live_kept g None m e some = absurd (cc)
  live_kept g (Some n) m e some = subst IsSome (sym e) refl

  pub live-mapped : (g : Handle → V → V) (old new : Tree V) (h : Handle) → MapsValues g old new → IsNode old h → IsNode new h
  live-mapped g old new h maps = live_kept (g h) (node_at old h) (node_at new h) (maps h)

  pub live_from_stands : (t : Tree V) (h : Handle) (s : Forest V) → StandsAt t h s → IsNode t h
  live_from_stands t h none at = absurd (let e = at.top in cc)
  live_from_stands t h (tree k e kids rest) at =
      let is_h : k ≡ h = (let e = at.top in cc) in
      subst (λ (x : Handle). IsNode t x) is_h (subst IsSome (sym at.stands.0) refl)

  -- a tree of a forest that stands is its node's
  tree_here : (t : Tree V) (p : Option Handle) (c : Handle) (v : V) (b rest : Forest V) → Stands (node_at t) p (tree c v b rest) → IsDistinct (tree c v b rest) → subtree_at t c ≡ tree c v b none
  tree_here t p c v b rest stands distinct =
      subtree_is t c (tree c v b none)
      (record {
        top = refl;
        stands = subst (λ (q : Option Handle). Stands (node_at t) q (tree c v b none)) (sym (ap parent_of stands.0)) (stands.0, stands.1, tt);
        distinct = λ x. let d = distinct x in omega (arith, d);
      })

or-none : (b : Bool) → (b || false) ≡ b
or-none true = refl
or-none false = refl

module _ {V : Type 0} (m : Marking V) where
  -- ---- the trees of a forest, by their tops

  pub climbs-tops : (t : Tree V) (r : Option Handle) (q : Handle → Bool) (p : Above) (f : Forest V) → Stands (node_at t) r f → IsDistinct f
      → list_any (λ h. named_climbs m q p (subtree_at t h)) (tops f) ≡ named_climbs m q p f
  climbs-tops t r q p none stands distinct = refl
  climbs-tops t r q p (tree c v b rest) stands distinct =
      ap (λ s. named_climbs m q p s || list_any (λ h. named_climbs m q p (subtree_at t h)) (tops rest)) (tree_here t r c v b rest stands distinct)
      ∙ ap (λ x. x || list_any (λ h. named_climbs m q p (subtree_at t h)) (tops rest)) (or-none ((q c || named_climbs m q (within m p v) b) && not (is_boundary m p v)))
      ∙ ap (λ x. ((q c || named_climbs m q (within m p v) b) && not (is_boundary m p v)) || x) (climbs-tops t r q p rest stands.2 (λ x. let d = distinct x in omega (arith, d)))

  pub swept-tops : (t : Tree V) (r : Option Handle) (also : Bool) (q : Handle → Bool) (p : Above) (f : Forest V) → Stands (node_at t) r f → IsDistinct f
      → (k : Handle) (v : V) → each_swept m also q p (subtree_at t) (tops f) k v ≡ swept m also q p f k v
  swept-tops t r also q p none stands distinct k v = refl
  swept-tops t r also q p (tree c w b rest) stands distinct k v =
      ap (λ s. each_swept m also q p (subtree_at t) (tops rest) k (swept m also q p s k v)) (tree_here t r c w b rest stands distinct)
      ∙ swept-tops t r also q p rest stands.2 (λ x. let d = distinct x in omega (arith, d)) k (swept m also q p (tree c w b none) k v)

  module _ (ok : IsMarking m) where
    pub sweeps-none : (also : Bool) (q : Handle → Bool) (p : Above) (t : Tree V) (found : MetBelow) → found.climbs ≡ false → found.listed ≡ false → SweepsTrees m also q p [] t t found
    sweeps-none also q p t found climbs listed = record {
      values = λ k. sym (over-none (node_at t k));
      climbs = climbs;
      listed = listed;
      root = refl;
      inactive = refl;
      handles = keeps_handles-self t;
    }

    each-mapped : (g : Handle → V → V) → IsMarks m ok g → (also : Bool) (q : Handle → Bool) (p : Above) (old new : Tree V) → MapsValues g old new → KeepsHandles old.nodes new.nodes → (hs : List Handle) (k : Handle) (v : V)
        → each_swept m also q p (subtree_at new) hs k v ≡ each_swept m also q p (subtree_at old) hs k v
    each-mapped g marks also q p old new maps handles [] k v = refl
    each-mapped g marks also q p old new maps handles (h ∷ hs) k v =
        ap (λ s. each_swept m also q p (subtree_at new) hs k (swept m also q p s k v)) (subtree-mapped g old new h maps handles)
        ∙ ap (each_swept m also q p (subtree_at new) hs k) (swept-mapped m ok g marks also q p (subtree_at old h) k v)
        ∙ each-mapped g marks also q p old new maps handles hs k (swept m also q p (subtree_at old h) k v)

    any-climbs : (g : Handle → V → V) → IsMarks m ok g → (q : Handle → Bool) (p : Above) (old new : Tree V) → MapsValues g old new → KeepsHandles old.nodes new.nodes → (hs : List Handle)
        → list_any (λ h. named_climbs m q p (subtree_at new h)) hs ≡ list_any (λ h. named_climbs m q p (subtree_at old h)) hs
    any-climbs g marks q p old new maps handles [] = refl
    any-climbs g marks q p old new maps handles (h ∷ hs) =
        ap (λ s. named_climbs m q p s || list_any (λ c. named_climbs m q p (subtree_at new c)) hs) (subtree-mapped g old new h maps handles)
        ∙ ap (λ b. b || list_any (λ c. named_climbs m q p (subtree_at new c)) hs) (climbs-mapped m ok g marks q p (subtree_at old h))
        ∙ ap (λ b. named_climbs m q p (subtree_at old h) || b) (any-climbs g marks q p old new maps handles hs)

    any-has : (g : Handle → V → V) (q : Handle → Bool) (old new : Tree V) → MapsValues g old new → KeepsHandles old.nodes new.nodes → (hs : List Handle)
        → list_any (λ h. has_named q (subtree_at new h)) hs ≡ list_any (λ h. has_named q (subtree_at old h)) hs
    any-has g q old new maps handles [] = refl
    any-has g q old new maps handles (h ∷ hs) =
        ap (λ s. has_named q s || list_any (λ c. has_named q (subtree_at new c)) hs) (subtree-mapped g old new h maps handles)
        ∙ ap (λ b. b || list_any (λ c. has_named q (subtree_at new c)) hs) (has-mapped g q (subtree_at old h))
        ∙ ap (λ b. has_named q (subtree_at old h) || b) (any-has g q old new maps handles hs)

    -- some trees, and then others
    pub sweeps-then : (also : Bool) (q : Handle → Bool) (p : Above) (xs ys : List Handle) (t0 t u : Tree V) (a b r : MetBelow) → SweepsTrees m also q p xs t0 t a → SweepsTrees m also q p ys t u b
        → r.climbs ≡ (a.climbs || b.climbs) → r.listed ≡ (a.listed || b.listed) → SweepsTrees m also q p (xs ++ ys) t0 u r
    sweeps-then also q p xs ys t0 t u a b r first second climbs listed =
        let g : Handle → V → V = each_swept m also q p (subtree_at t0) xs in
        let marks : IsMarks m ok g = each_swept-marks m ok also q p (subtree_at t0) xs in
        record {
          values = λ k.
              second.values k
              ∙ ap (option_map (over (each_swept m also q p (subtree_at t) ys k))) (first.values k)
              ∙ over-both (g k) (each_swept m also q p (subtree_at t) ys k) (node_at t0 k)
              ∙ ap (λ h. option_map (over h) (node_at t0 k))
              (λ i v. (each-mapped g marks also q p t0 t first.values first.handles ys k (g k v) ∙ sym (each_swept-append m also q p (subtree_at t0) xs ys k v)) i);
          climbs = climbs
              ∙ ap (λ x. x || b.climbs) first.climbs
              ∙ ap (λ x. list_any (λ h. named_climbs m q p (subtree_at t0 h)) xs || x) (second.climbs ∙ any-climbs g marks q p t0 t first.values first.handles ys)
              ∙ sym (list_any-append (λ h. named_climbs m q p (subtree_at t0 h)) xs ys);
          listed = listed
              ∙ ap (λ x. x || b.listed) first.listed
              ∙ ap (λ x. list_any (λ h. has_named q (subtree_at t0 h)) xs || x) (second.listed ∙ any-has g q t0 t first.values first.handles ys)
              ∙ sym (list_any-append (λ h. has_named q (subtree_at t0 h)) xs ys);
          root = second.root ∙ first.root;
          inactive = second.inactive ∙ first.inactive;
          handles = keeps_handles-twice t0 t u first.handles second.handles;
        }

    has-tops : (t : Tree V) (r : Option Handle) (q : Handle → Bool) (f : Forest V) → Stands (node_at t) r f → IsDistinct f → list_any (λ h. has_named q (subtree_at t h)) (tops f) ≡ has_named q f
    has-tops t r q none stands distinct = refl
    has-tops t r q (tree c v b rest) stands distinct =
        ap (λ s. has_named q s || list_any (λ h. has_named q (subtree_at t h)) (tops rest)) (tree_here t r c v b rest stands distinct)
        ∙ ap (λ x. (q c || x) || list_any (λ h. has_named q (subtree_at t h)) (tops rest)) (or-none (has_named q b))
        ∙ or-or (q c) (has_named q b) (list_any (λ h. has_named q (subtree_at t h)) (tops rest))
        ∙ ap (λ x. q c || (has_named q b || x)) (has-tops t r q rest stands.2 (λ x. let d = distinct x in omega (arith, d)))
      where
        or-or : (x y z : Bool) → ((x || y) || z) ≡ (x || (y || z))
        or-or true y z = refl
        or-or false y z = refl

    value-mapped : (g : V → V) (v : V) (o n : Option (TreeNode V)) → n ≡ option_map (over g) o → option_map (λ (x : TreeNode V). x.value) o ≡ Some v → option_map (λ (x : TreeNode V). x.value) n ≡ Some (g v)
    value-mapped g v None n e is = absurd (cc)
    value-mapped g v (Some x) n e is = ap (option_map (λ (y : TreeNode V). y.value)) e ∙ ap (λ y. Some (g y)) (same_Some is)

    -- below a node, and then the node itself
    pub sweeps-node : (also : Bool) (q : Handle → Bool) (p : Above) (t0 mid new : Tree V) (h : Handle) (v : V) (a r : MetBelow) (reached told : Bool) → IsTree t0 → IsNode t0 h → value_at t0 h ≡ Some v
        → SweepsTrees m also q (within m p v) (children_at t0 h) t0 mid a
        → ((w : V) → value_at mid h ≡ Some w → WritesValue mid.nodes new.nodes h (m.marked (reached && m.takes p.top w) told w))
        → new.root ≡ mid.root → new.inactive ≡ mid.inactive → reached ≡ (q h || a.climbs) → told ≡ (a.listed || (also && q h))
        → r.climbs ≡ (reached && not (is_boundary m p v)) → r.listed ≡ (q h || a.listed) → SweepsTrees m also q p (h ∷ []) t0 new r
    sweeps-node also q p t0 mid new h v a r reached told is_tree live value first writes root inactive is_reached is_told climbs listed =
        record {
          values = λ k.
              write.nodes k
              ∙ ap (option_map (λ (y : TreeNode V). cond (same k h) (record y { value = W }) y)) (first.values k)
              ∙ by_node k (same k h) (node_at t0 k) (λ e. (same-true k h e, ap (value_at t0) (same-true k h e) ∙ value))
              ∙ ap (λ g. option_map (over g) (node_at t0 k)) (λ i x. (ap (λ y. cond (same k h) (m.marked flag below_it y) y) (E-is k x) ∙ ap (λ s. swept m also q p s k x) (sym tree_is)) i);
          climbs = climbs
              ∙ ap (λ x. x && not (is_boundary m p v)) (is_reached ∙ ap (λ x. q h || x) a_climbs)
              ∙ sym (or-none ((q h || named_climbs m q A b) && not (is_boundary m p v)))
              ∙ sym (or-none (((q h || named_climbs m q A b) && not (is_boundary m p v)) || false))
              ∙ ap (λ s. named_climbs m q p s || false) (sym tree_is);
          listed = listed
              ∙ ap (λ x. q h || x) (a_listed ∙ sym (or-none (has_named q b)))
              ∙ sym (or-none (q h || (has_named q b || false)))
              ∙ ap (λ s. has_named q s || false) (sym tree_is);
          root = root ∙ first.root;
          inactive = inactive ∙ first.inactive;
          handles = keeps_handles-twice t0 mid new first.handles write.handles;
        }
      where
        b : Forest V
        b = below (subtree_at t0 h)

        A : Above
        A = within m p v

        E : Handle → V → V
        E = each_swept m also q A (subtree_at t0) (children_at t0 h)

        marks : IsMarks m ok E
        marks = each_swept-marks m ok also q A (subtree_at t0) (children_at t0 h)

        holds : Holds t0 h
        holds = Holds-from_Is t0 is_tree.0 h is_tree.1 live

        tree_is : subtree_at t0 h ≡ tree h v b none
        tree_is = opened t0 h v holds value

        parts : Stands (node_at t0) (Some h) b × (tops b ≡ children_at t0 h) × IsDistinct b
        parts = below-stands t0 h holds

        E-is : (k : Handle) (x : V) → E k x ≡ swept m also q A b k x
        E-is k x = ap (λ hs. each_swept m also q A (subtree_at t0) hs k x) (sym parts.1) ∙ swept-tops t0 (Some h) also q A b parts.0 parts.2 k x

        a_climbs : a.climbs ≡ named_climbs m q A b
        a_climbs = first.climbs ∙ ap (list_any (λ c. named_climbs m q A (subtree_at t0 c))) (sym parts.1) ∙ climbs-tops t0 (Some h) q A b parts.0 parts.2

        a_listed : a.listed ≡ has_named q b
        a_listed = first.listed ∙ ap (list_any (λ c. has_named q (subtree_at t0 c))) (sym parts.1) ∙ has-tops t0 (Some h) q b parts.0 parts.2

        flag : Bool
        flag = (q h || named_climbs m q A b) && m.takes p.top v

        below_it : Bool
        below_it = has_named q b || (also && q h)

        W : V
        W = m.marked (reached && m.takes p.top (E h v)) told (E h v)

        W-is : W ≡ m.marked flag below_it (E h v)
        W-is =
            ap (λ x. m.marked (x && m.takes p.top (E h v)) told (E h v)) (is_reached ∙ ap (λ x. q h || x) a_climbs)
            ∙ ap (λ x. m.marked ((q h || named_climbs m q A b) && x) told (E h v)) (takes-marks m ok E marks p.top h v)
            ∙ ap (λ x. m.marked flag x (E h v)) (is_told ∙ ap (λ x. x || (also && q h)) a_listed)

        write : WritesValue mid.nodes new.nodes h W
        write = writes (E h v) (value-mapped (E h) v (node_at t0 h) (node_at mid h) (first.values h) value)

        by_node : (k : Handle) (c : Bool) (o : Option (TreeNode V)) → (c ≡ true → (k ≡ h) × (option_map (λ (x : TreeNode V). x.value) o ≡ Some v))
            → option_map (λ (y : TreeNode V). cond c (record y { value = W }) y) (option_map (over (E k)) o) ≡ option_map (over (λ x. cond c (m.marked flag below_it (E k x)) (E k x))) o
        by_node k c None is = refl
        by_node k true (Some n) is =
            ap (λ x. Some (record n { value = x }))
            (W-is ∙ ap (λ x. m.marked flag below_it (E h x)) (sym (same_Some (is refl).1)) ∙ ap (λ x. m.marked flag below_it (E x n.value)) (sym (is refl).0))
        by_node k false (Some n) is = refl

    -- all trees
    pub sweeps-plain : (also : Bool) (q : Handle → Bool) (cs : List Handle) (t0 t : Tree V) (found : MetBelow) → SweepsTrees m also q at_top (tops_at t0) t0 t found
        → ((k : Handle) → IsNode t0 k → q k ≡ listed k cs) → (f : Forest V) → Is t0 f → Is t (sweep m also cs at_top f)
    sweeps-plain also q cs t0 t found sweeps agree f is =
        subst (Is t)
        (swept-forest m also q cs at_top f is.distinct (λ k inside. agree k (all-live t0 None f k is.stands inside)))
        (mapped_is (swept m also q at_top f) t0 t f is
        (λ k.
        sweeps.values k
        ∙ ap (λ g. option_map (over g) (node_at t0 k)) (λ i x. (ap (λ hs. each_swept m also q at_top (subtree_at t0) hs k x) is.tops ∙ swept-tops t0 None also q at_top f is.stands is.distinct k x) i))
        (λ i. option_to_list (sweeps.root i) ++ sweeps.inactive i))

    pub sweeps-only : (also : Bool) (q : Handle → Bool) (p : Above) (hs : List Handle) (t0 t : Tree V) (found : MetBelow) → SweepsTrees m also q p hs t0 t found → OnlyMarks m t0 t
    sweeps-only also q p hs t0 t found sweeps k n is =
        let x = each_swept-marks m ok also q p (subtree_at t0) hs k n.value in
        (x.0, x.1, sweeps.values k ∙ (ap (option_map (over (each_swept m also q p (subtree_at t0) hs k))) is ∙ ap (λ v. Some (record n { value = v })) x.2))

    pub sweeps-absent : (also : Bool) (q : Handle → Bool) (p : Above) (hs : List Handle) (t0 t : Tree V) (found : MetBelow) → SweepsTrees m also q p hs t0 t found → (k : Handle) → node_at t0 k ≡ None → node_at t k ≡ None
    sweeps-absent also q p hs t0 t found sweeps k e = sweeps.values k ∙ ap (option_map (over (each_swept m also q p (subtree_at t0) hs k))) e
