-- Lemmas on children that are put into another order.
use Rattle.std.proofs.Common.{◌≡◌, ◌≢◌, ℕ, zero, suc, ◌+◌, ◌<◌, ◌≤◌, Bool, true, false, cond, List, [], ◌∷◌, length, map, get_or, Option, Some, None, IfSome, option_map, refl, sym, ap, ◌∙◌, inl, inr, arith}
use Rattle.std.specs.List.{All, sum_by}
use Rattle.std.proofs.lemmas.Bool.{cases_Bool}
use Rattle.std.proofs.lemmas.List.Sums.{sum_by-cons}
use Rattle.fx_handles.specs.declared.Handle.{Handle}
use Rattle.fx_handles.specs.Handle.{same, times, Among, AreDistinct}
use Rattle.fx_handles.specs.HandleLaws.{same-true, same-ne, same-eq, same-false, cases_same, times-cons, times_here, times_there}
use Rattle.fx_handles.specs.Arena.{Arena, get, with_value}
use Rattle.node_tree.specs.Forest.{TreeNode, Forest, tops, weigh, count, In, IsDistinct, append, skip, first_trees, map_values, trees_of, top_tree, in_order, in_order_if, trees_at, reorder_under, reordered, with_order, with_order_if, Stands}
use Rattle.node_tree.specs.Forest.Forest.{none, tree}
use Rattle.node_tree.specs.Tree.{Tree, node_at, parent_of, children_of, parent_at, tops_at, Is, StandsAt}
use Rattle.node_tree.specs.Edits.{CanReorder, Reorders, CanReorderAll, ReordersAll, and_order}
use Rattle.node_tree.proofs.ForestLemmas.{hit-true, count_here, weigh-append, times-le-count, Stands-same}
use Rattle.node_tree.proofs.TreeLemmas.{mapped_node}
use Rattle.node_tree.proofs.EditLemmas.{get-with_value_same, get-with_value_other, keeps-with_value, keeps_self, keeps_then}
use Rattle.node_tree.proofs.PartForests.{tops-trees_of, Stands-trees_of}
use Rattle.node_tree.proofs.Children.{among_at}

-- ---- sums over lists that have each handle as often

-- a list without the first h
abbrev less_one : Handle → List Handle → List Handle
less_one h [] = []
less_one h (k ∷ ks) = cond (same k h) ks (k ∷ less_one h ks)

sum-less_one : (g : Handle → ℕ) (h : Handle) (ks : List Handle) → Among h ks → sum_by g ks ≡ g h + sum_by g (less_one h ks)
sum-less_one g h [] among = absurd (omega arith)
sum-less_one g h (k ∷ ks) among =
    elim (cases_Bool (same k h)) [
      | inl e ↦ rw e (let here : g k ≡ g h = ap g (same-true k h e) in omega (arith, sum_by-cons g k ks))
      | inr e ↦ rw e (omega (arith, sum_by-cons g k ks, sum_by-cons g k (less_one h ks), sum-less_one g h ks (omega (arith, times_there h k ks (same-false k h e)))))
    ]

pub sum_alike : (g : Handle → ℕ) (hs ks : List Handle) → ((k : Handle) → times k hs ≡ times k ks) → sum_by g hs ≡ sum_by g ks
sum_alike g [] [] alike = refl
sum_alike g [] (k ∷ ks) alike = absurd (omega (arith, alike k, times_here k ks))
sum_alike g (h ∷ hs) ks alike =
    let among : Among h ks = omega (arith, alike h, times_here h hs) in
    let less : (k : Handle) → times k hs ≡ times k (less_one h ks) = λ k. omega (arith, alike k, times-cons k h hs, sum-less_one (λ x. cond {A = ℕ} (same x k) 1 0) h ks among) in
    omega (arith, sum_by-cons g h hs, sum-less_one g h ks among, sum_alike g hs (less_one h ks) less)

sum_equal : (f g : Handle → ℕ) (hs : List Handle) → ((h : Handle) → Among h hs → f h ≡ g h) → sum_by f hs ≡ sum_by g hs
sum_equal f g [] each = refl
sum_equal f g (h ∷ hs) each =
    omega (arith, sum_by-cons f h hs, sum_by-cons g h hs, each h (omega (arith, times_here h hs)), sum_equal f g hs (λ k among. each k (omega (arith, times-cons k h hs))))

length-less_one : (h : Handle) (ks : List Handle) → Among h ks → length ks ≡ suc (length (less_one h ks))
length-less_one h [] among = absurd (omega arith)
length-less_one h (k ∷ ks) among =
    elim (cases_Bool (same k h)) [
      | inl e ↦ rw e refl
      | inr e ↦ rw e (omega (arith, length-less_one h ks (omega (arith, times_there h k ks (same-false k h e)))))
    ]

-- handles of a list that differ, as many as it has, are all of it
pub times_alike : (hs ks : List Handle) (x : Handle) → AreDistinct hs → ((k : Handle) → Among k hs → Among k ks) → length hs ≡ length ks → times x hs ≡ times x ks
times_alike [] [] x distinct inside long = refl
times_alike [] (k ∷ ks) x distinct inside long = absurd (omega arith)
times_alike (h ∷ hs) ks x distinct inside long =
    let among : Among h ks = inside h (omega (arith, times_here h hs)) in
    let left : (k : Handle) → times k ks ≡ cond {A = ℕ} (same h k) 1 0 + times k (less_one h ks) = λ k. sum-less_one (λ y. cond {A = ℕ} (same y k) 1 0) h ks among in
    let later = times_alike hs (less_one h ks) x (λ k. omega (arith, distinct k, times-cons k h hs))
    (λ k there. elim (cases_same h k) [
      | inl e ↦ absurd (
          let twice : times k (h ∷ hs) ≡ times k (k ∷ hs) = ap (λ y. times k (y ∷ hs)) e in
          omega (arith, distinct k, times_here k hs))
      | inr ne ↦
          let none : cond {A = ℕ} (same h k) 1 0 ≡ 0 = ap (λ b. cond {A = ℕ} b 1 0) (same-ne h k ne) in
          omega (arith, left k, inside k (omega (arith, times-cons k h hs)))
    ])
    (omega (arith, length-less_one h ks among)) in
    omega (arith, times-cons x h hs, left x)

module _ {T : Type 0} where
  -- ---- the trees of a forest by their tops

  pub tops-top_tree : (h : Handle) (f : Forest T) → Among h (tops f) → tops (top_tree h f) ≡ h ∷ []
  tops-top_tree h none among = absurd (omega arith)
  tops-top_tree h (tree k v below rest) among =
      elim (cases_Bool (same k h)) [
        | inl e ↦ rw e (ap (λ x. x ∷ []) (same-true k h e))
        | inr e ↦ rw e (tops-top_tree h rest (omega (arith, times_there h k (tops rest) (same-false k h e))))
      ]

  Stands-top_tree : (at : Handle → Option (TreeNode T)) (p : Option Handle) (h : Handle) (f : Forest T) → Stands at p f → Stands at p (top_tree h f)
  Stands-top_tree at p h none stands = tt
  Stands-top_tree at p h (tree k v below rest) stands =
      elim (cases_Bool (same k h)) [
        | inl e ↦ rw e (stands.0, stands.1, tt)
        | inr e ↦ rw e (Stands-top_tree at p h rest stands.2)
      ]

  weigh-trees_of : (w : Handle → ℕ) (find : Handle → Forest T) (hs : List Handle) → weigh w (trees_of find hs) ≡ sum_by (λ h. weigh w (find h)) hs
  weigh-trees_of w find [] = refl
  weigh-trees_of w find (h ∷ hs) =
      omega (arith, weigh-append w (find h) (trees_of find hs), sum_by-cons (λ k. weigh w (find k)) h hs, weigh-trees_of w find hs)

  weigh_here : (w : Handle → ℕ) (k : Handle) (v : T) (below rest : Forest T) → weigh w (top_tree k (tree k v below rest)) ≡ w k + weigh w below
  weigh_here w k v below rest = rw (same-eq k k refl) (omega arith)

  weigh_there : (w : Handle → ℕ) (h k : Handle) (v : T) (below rest : Forest T) → k ≢ h → weigh w (top_tree h (tree k v below rest)) ≡ weigh w (top_tree h rest)
  weigh_there w h k v below rest ne = rw (same-ne k h ne) refl

  -- all of them together are the forest
  weigh-top_trees : (w : Handle → ℕ) (f : Forest T) → AreDistinct (tops f) → sum_by (λ h. weigh w (top_tree h f)) (tops f) ≡ weigh w f
  weigh-top_trees w none distinct = refl
  weigh-top_trees w (tree k v below rest) distinct =
      let whole : Forest T = tree k v below rest in
      let later : sum_by (λ h. weigh w (top_tree h whole)) (tops rest) ≡ sum_by (λ h. weigh w (top_tree h rest)) (tops rest) =
      sum_equal (λ h. weigh w (top_tree h whole)) (λ h. weigh w (top_tree h rest)) (tops rest)
      (λ h among. weigh_there w h k v below rest (λ e. absurd (
      let twice : times h (k ∷ tops rest) ≡ times h (h ∷ tops rest) = ap (λ x. times h (x ∷ tops rest)) e in
      omega (arith, distinct h, times_here h (tops rest))))) in
      omega (
        arith,
        sum_by-cons (λ h. weigh w (top_tree h whole)) k (tops rest),
        weigh_here w k v below rest,
        later,
        weigh-top_trees w rest (λ h. omega (arith, distinct h, times-cons h k (tops rest))),
      )

  pub weigh-in_order : (w : Handle → ℕ) (hs : List Handle) (f : Forest T) → AreDistinct (tops f) → ((k : Handle) → times k hs ≡ times k (tops f)) → weigh w (in_order hs f) ≡ weigh w f
  weigh-in_order w hs f distinct alike =
      weigh-trees_of w (λ h. top_tree h f) hs ∙ sum_alike (λ h. weigh w (top_tree h f)) hs (tops f) alike ∙ weigh-top_trees w f distinct

  pub tops-in_order : (hs : List Handle) (f : Forest T) → ((k : Handle) → times k hs ≡ times k (tops f)) → tops (in_order hs f) ≡ hs
  tops-in_order hs f alike = tops-trees_of (λ h. top_tree h f) hs (λ h among. tops-top_tree h f (omega (arith, alike h)))

  -- ---- the children of a node in another order

  pub tops-reorder_under : (p : Handle) (hs : List Handle) (f : Forest T) → tops (reorder_under p hs f) ≡ tops f
  tops-reorder_under p hs none = refl
  tops-reorder_under p hs (tree k v below rest) =
      elim (cases_Bool (same k p)) [
        | inl e ↦ rw e refl
        | inr e ↦ rw e (ap (λ xs. k ∷ xs) (tops-reorder_under p hs rest))
      ]

  -- each handle of the list is a child of p as often
  abbrev pub ListsAlike : (Handle → Option (TreeNode T)) → Handle → List Handle → Type 0
  ListsAlike at p hs = (k : Handle) → times k hs ≡ times k (children_of (at p))

  at_node : (at : Handle → Option (TreeNode T)) (p k : Handle) (hs cs : List Handle) (n : TreeNode T) → ListsAlike at p hs → k ≡ p → at k ≡ Some n → n.children ≡ cs → (x : Handle) → times x hs ≡ times x cs
  at_node at p k hs cs n alike e found list = λ x. alike x ∙ ap (times x) (ap children_of (ap at (sym e) ∙ found) ∙ list)

  pub weigh-reorder_under : (w : Handle → ℕ) (at : Handle → Option (TreeNode T)) (p : Handle) (hs : List Handle) (q : Option Handle) (f : Forest T) → Stands at q f → IsDistinct f → ListsAlike at p hs
      → weigh w (reorder_under p hs f) ≡ weigh w f
  weigh-reorder_under w at p hs q none stands distinct alike = refl
  weigh-reorder_under w at p hs q (tree k v below rest) stands distinct alike =
      elim (cases_Bool (same k p)) [
        | inl e ↦ rw e (
            let lists = at_node at p k hs (tops below) _ alike (same-true k p e) stands.0 refl in
            omega (arith, weigh-in_order w hs below (λ x. omega (arith, distinct x, times-le-count x below)) lists))
        | inr e ↦ rw e (omega (arith, weigh-reorder_under w at p hs (Some k) below stands.1 (λ x. omega (arith, distinct x)) alike, weigh-reorder_under w at p hs q rest stands.2 (λ x. omega (arith, distinct x)) alike))
      ]

  abbrev node_of : Option Handle → List Handle → T → TreeNode T
  node_of q cs v = record { parent = q; children = cs; value = v }

  order_here : (p : Handle) (hs : List Handle) (k : Handle) (q : Option Handle) (cs : List Handle) (v : T) → same k p ≡ true → with_order p hs k (node_of q cs v) ≡ node_of q hs v
  order_here p hs k q cs v e = ap (λ b. cond b (node_of q hs v) (node_of q cs v)) e

  order_there : (p : Handle) (hs : List Handle) (k : Handle) (n : Option (TreeNode T)) → same k p ≡ false → option_map (with_order p hs k) n ≡ n
  order_there p hs k None e = refl
  order_there p hs k (Some n) e = ap Some (ap (λ b. cond b (record n { children = hs }) n) e)

  not_here : (x p : Handle) (g : Forest T) → In x g → count p g ≡ 0 → same x p ≡ false
  not_here x p g among absent = same-ne x p (λ e. absurd (let as_p : count x g ≡ count p g = ap (λ y. count y g) e in omega arith))

  pub Stands-reorder_under : (old new : Handle → Option (TreeNode T)) (p : Handle) (hs : List Handle) (q : Option Handle) (f : Forest T) → Stands old q f → IsDistinct f → ListsAlike old p hs
      → ((k : Handle) → In k f → new k ≡ option_map (with_order p hs k) (old k)) → Stands new q (reorder_under p hs f)
  Stands-reorder_under old new p hs q none stands distinct alike written = tt
  Stands-reorder_under old new p hs q (tree k v below rest) stands distinct alike written =
      elim (cases_Bool (same k p)) [
        | inl e ↦
            let is_p = same-true k p e in
            let once : count p (tree k v below rest) ≤ 1 = distinct p in
            let one = hit-true p k e in
            let lists = at_node old p k hs (tops below) _ alike is_p stands.0 refl in
            let node : new k ≡ Some (node_of q hs v) = written k (count_here k v below rest) ∙ ap (option_map (with_order p hs k)) stands.0 ∙ ap Some (order_here p hs k q (tops below) v e) in
            let kids : Stands new (Some k) below = Stands-same old new (Some k) below stands.1 (λ x among. written x (omega arith) ∙ order_there p hs x (old x) (not_here x p below among (omega arith))) in
            rw e (
              rw (tops-in_order hs below lists) node,
              Stands-trees_of new (Some k) (λ h. top_tree h below) hs (λ h among. Stands-top_tree new (Some k) h below kids),
              Stands-same old new q rest stands.2 (λ x among. written x (omega arith) ∙ order_there p hs x (old x) (not_here x p rest among (omega arith))),
            )
        | inr e ↦
            let node : new k ≡ Some (node_of q (tops below) v) = written k (count_here k v below rest) ∙ ap (option_map (with_order p hs k)) stands.0 ∙ order_there p hs k (Some (node_of q (tops below) v)) e in
            rw e (
              rw (tops-reorder_under p hs below) node,
              Stands-reorder_under old new p hs (Some k) below stands.1 (λ x. omega (arith, distinct x)) alike (λ x among. written x (omega arith)),
              Stands-reorder_under old new p hs q rest stands.2 (λ x. omega (arith, distinct x)) alike (λ x among. written x (omega arith)),
            )
      ]

  pub reordered_is : (old new : Tree T) (p : Handle) (hs : List Handle) → CanReorder old p hs → Reorders old.nodes new.nodes p hs → tops_at new ≡ tops_at old
      → (f : Forest T) → Is old f → Is new (reorder_under p hs f)
  reordered_is old new p hs can reorders tops_new f is =
      record {
        tops = tops_new ∙ is.tops ∙ sym (tops-reorder_under p hs f);
        stands = Stands-reorder_under (node_at old) (node_at new) p hs None f is.stands is.distinct can.kept (λ k among. reorders.nodes k);
        distinct = λ x. omega (arith, weigh-reorder_under (λ y. cond {A = ℕ} (same y x) 1 0) (node_at old) p hs None f is.stands is.distinct can.kept, is.distinct x);
        whole = λ k live. omega (arith, weigh-reorder_under (λ y. cond {A = ℕ} (same y k) 1 0) (node_at old) p hs None f is.stands is.distinct can.kept, is.whole k (mapped_node (with_order p hs k) (node_at old k) (rw (reorders.nodes k) at live)));
      }

  pub StandsAt-reorder_under : (old new : Tree T) (p k : Handle) (hs : List Handle) (s : Forest T) → StandsAt old k s → CanReorder old p hs → Reorders old.nodes new.nodes p hs → StandsAt new k (reorder_under p hs s)
  StandsAt-reorder_under old new p k hs s stands can reorders =
      record {
        top = tops-reorder_under p hs s ∙ stands.top;
        stands = rw (parent_stays (same k p) (node_at old k) (reorders.nodes k)) (Stands-reorder_under (node_at old) (node_at new) p hs (parent_at old k) s stands.stands stands.distinct can.kept (λ x among. reorders.nodes x));
        distinct = λ x. omega (arith, weigh-reorder_under (λ y. cond {A = ℕ} (same y x) 1 0) (node_at old) p hs (parent_at old k) s stands.stands stands.distinct can.kept, stands.distinct x);
      }
    where
      parent_in : (b : Bool) (o : Option (TreeNode T)) → parent_of (option_map (λ n. cond b (record n { children = hs }) n) o) ≡ parent_of o
      parent_in b None = refl
      parent_in true (Some n) = refl
      parent_in false (Some n) = refl

      parent_stays : (b : Bool) (o : Option (TreeNode T)) → node_at new k ≡ option_map (with_order p hs k) (node_at old k) → parent_at new k ≡ parent_at old k
      parent_stays b o e = ap parent_of e ∙ parent_in (same k p) (node_at old k)

  -- ---- several nodes

  tops-reordered : (orders : Handle → Option (List Handle)) (f : Forest T) → tops (reordered orders f) ≡ tops f
  tops-reordered orders none = refl
  tops-reordered orders (tree k v below rest) = ap (λ xs. k ∷ xs) (tops-reordered orders rest)

  abbrev AllListsAlike : (Handle → Option (TreeNode T)) → (Handle → Option (List Handle)) → Type 0
  AllListsAlike at orders = (k : Handle) → IfSome (orders k) (ListsAlike at k)

  -- the lists of the node k, whose children are these
  as_listed : (at : Handle → Option (TreeNode T)) (orders : Handle → Option (List Handle)) (k : Handle) (hs : List Handle) (below : Forest T) (n : TreeNode T) → AllListsAlike at orders → orders k ≡ Some hs → at k ≡ Some n
      → n.children ≡ tops below → (x : Handle) → times x hs ≡ times x (tops (reordered orders below))
  as_listed at orders k hs below n alike given found list =
      let listed : ListsAlike at k hs = rw given at (alike k) in
      λ x. at_node at k k hs (tops below) n listed refl found list x ∙ sym (ap (times x) (tops-reordered orders below))

  weigh-reordered : (w : Handle → ℕ) (at : Handle → Option (TreeNode T)) (orders : Handle → Option (List Handle)) (q : Option Handle) (f : Forest T) → Stands at q f → IsDistinct f → AllListsAlike at orders
      → weigh w (reordered orders f) ≡ weigh w f
  weigh-reordered w at orders q none stands distinct alike = refl
  weigh-reordered w at orders q (tree k v below rest) stands distinct alike =
      omega (arith, here (orders k) refl, weigh-reordered w at orders (Some k) below stands.1 (λ x. omega (arith, distinct x)) alike, weigh-reordered w at orders q rest stands.2 (λ x. omega (arith, distinct x)) alike)
    where
      here : (o : Option (List Handle)) → orders k ≡ o → weigh w (in_order_if o (reordered orders below)) ≡ weigh w (reordered orders below)
      here None e = refl
      here (Some hs) e =
          let once : AreDistinct (tops (reordered orders below)) = λ x. rw (tops-reordered orders below) (omega (arith, distinct x, times-le-count x below)) in
          weigh-in_order w hs (reordered orders below) once (as_listed at orders k hs below _ alike e stands.0 refl)

  Stands-reordered : (old new : Handle → Option (TreeNode T)) (orders : Handle → Option (List Handle)) (q : Option Handle) (f : Forest T) → Stands old q f → AllListsAlike old orders
      → ((k : Handle) → new k ≡ option_map (with_order_if (orders k)) (old k)) → Stands new q (reordered orders f)
  Stands-reordered old new orders q none stands alike written = tt
  Stands-reordered old new orders q (tree k v below rest) stands alike written =
      let here = by_order (Stands-reordered old new orders (Some k) below stands.1 alike written) (orders k) refl in
      (here.0, here.1, Stands-reordered old new orders q rest stands.2 alike written)
    where
      by_order : Stands new (Some k) (reordered orders below) → (o : Option (List Handle)) → orders k ≡ o
          → (new k ≡ Some (record { parent = q; children = tops (in_order_if o (reordered orders below)); value = v })) × Stands new (Some k) (in_order_if o (reordered orders below))
      by_order kids None e = (
        rw (tops-reordered orders below) (written k ∙ ap (λ o. option_map (with_order_if o) (old k)) e ∙ ap (option_map (with_order_if None)) stands.0),
        kids,
      )
      by_order kids (Some hs) e =
          let listed = as_listed old orders k hs below _ alike e stands.0 refl in (
            rw (tops-in_order hs (reordered orders below) listed) (written k ∙ ap (λ o. option_map (with_order_if o) (old k)) e ∙ ap (option_map (with_order_if (Some hs))) stands.0),
            Stands-trees_of new (Some k) (λ h. top_tree h (reordered orders below)) hs (λ h among. Stands-top_tree new (Some k) h (reordered orders below) kids),
          )

  lists_of : (t : Tree T) (orders : Handle → Option (List Handle)) → CanReorderAll t orders → AllListsAlike (node_at t) orders
  lists_of t orders can = λ k. of_one k (orders k) (can k)
    where
      of_one : (k : Handle) (o : Option (List Handle)) → IfSome o (CanReorder t k) → IfSome o (ListsAlike (node_at t) k)
      of_one k None one = tt
      of_one k (Some hs) one = one.kept

  pub all_reordered_is : (old new : Tree T) (orders : Handle → Option (List Handle)) (f : Forest T) → Is old f → CanReorderAll old orders → ReordersAll old.nodes new.nodes orders → tops_at new ≡ tops_at old → Is new (reordered orders f)
  all_reordered_is old new orders f is can reorders tops_new =
      let alike = lists_of old orders can in
      record {
        tops = tops_new ∙ is.tops ∙ sym (tops-reordered orders f);
        stands = Stands-reordered (node_at old) (node_at new) orders None f is.stands alike reorders.nodes;
        distinct = λ x. omega (arith, weigh-reordered (λ y. cond {A = ℕ} (same y x) 1 0) (node_at old) orders None f is.stands is.distinct alike, is.distinct x);
        whole = λ k live. omega (arith, weigh-reordered (λ y. cond {A = ℕ} (same y k) 1 0) (node_at old) orders None f is.stands is.distinct alike, is.whole k (mapped_node (with_order_if (orders k)) (node_at old k) (rw (reorders.nodes k) at live)));
      }

  same_order : (o : Option (TreeNode T)) → o ≡ option_map (with_order_if None) o
  same_order None = refl
  same_order (Some n) = refl

  pub reorders_none : (t : Tree T) → ReordersAll t.nodes t.nodes (λ k. None)
  reorders_none t = record { nodes = λ k. same_order (get t.nodes k); handles = keeps_self t.nodes }

  order_again : (p : Handle) (hs : List Handle) (k : Handle) (o : Option (List Handle)) (b : Bool) (n : Option (TreeNode T))
      → option_map (λ m. cond b (record m { children = hs }) m) (option_map (with_order_if o) n) ≡ option_map (with_order_if (cond b (Some hs) o)) n
  order_again p hs k o b None = refl
  order_again p hs k None true (Some n) = refl
  order_again p hs k (Some gs) true (Some n) = refl
  order_again p hs k o false (Some n) = refl

  pub reorders_more : (a b c : Tree T) (orders : Handle → Option (List Handle)) (p : Handle) (hs : List Handle) → ReordersAll a.nodes b.nodes orders → Reorders b.nodes c.nodes p hs → ReordersAll a.nodes c.nodes (and_order p hs orders)
  reorders_more a b c orders p hs all one =
      record {
        nodes = λ k. one.nodes k ∙ ap (option_map (with_order p hs k)) (all.nodes k) ∙ order_again p hs k (orders k) (same k p) (get a.nodes k);
        handles = keeps_then a.nodes b.nodes c.nodes all.handles one.handles;
      }

  -- ---- by value, and by place

  pub append-values : (g : Handle → T → T) (f h : Forest T) → map_values g (append f h) ≡ append (map_values g f) (map_values g h)
  append-values g none h = refl
  append-values g (tree k v below rest) h = ap (λ x. tree k (g k v) (map_values g below) x) (append-values g rest h)

  top_tree-values : (g : Handle → T → T) (h : Handle) (f : Forest T) → map_values g (top_tree h f) ≡ top_tree h (map_values g f)
  top_tree-values g h none = refl
  top_tree-values g h (tree k v below rest) =
      elim (cases_Bool (same k h)) [
        | inl e ↦ rw e refl
        | inr e ↦ rw e (top_tree-values g h rest)
      ]

  in_order-values : (g : Handle → T → T) (hs : List Handle) (f : Forest T) → map_values g (in_order hs f) ≡ in_order hs (map_values g f)
  in_order-values g [] f = refl
  in_order-values g (h ∷ hs) f =
      append-values g (top_tree h f) (in_order hs f) ∙ ap (λ x. append x (map_values g (in_order hs f))) (top_tree-values g h f) ∙ ap (λ x. append (top_tree h (map_values g f)) x) (in_order-values g hs f)

  pub reorder_under-values : (g : Handle → T → T) (p : Handle) (hs : List Handle) (f : Forest T) → map_values g (reorder_under p hs f) ≡ reorder_under p hs (map_values g f)
  reorder_under-values g p hs none = refl
  reorder_under-values g p hs (tree k v below rest) =
      elim (cases_Bool (same k p)) [
        | inl e ↦ rw e (ap (λ x. tree k (g k v) x (map_values g rest)) (in_order-values g hs below))
        | inr e ↦ rw e (ap (λ x. tree k (g k v) x (map_values g (reorder_under p hs rest))) (reorder_under-values g p hs below) ∙ ap (λ x. tree k (g k v) (reorder_under p hs (map_values g below)) x) (reorder_under-values g p hs rest))
      ]

  top_tree-at : (f : Forest T) (i : ℕ) (z : Handle) → AreDistinct (tops f) → i < length (tops f) → top_tree (get_or (tops f) i z) f ≡ first_trees 1 (skip i f)
  top_tree-at none i z distinct within = absurd (omega arith)
  top_tree-at (tree k v below rest) zero z distinct within = rw (same-eq k k refl) refl
  top_tree-at (tree k v below rest) (suc i) z distinct within =
      let there : Among (get_or (tops rest) i z) (tops rest) = among_at (tops rest) i z (omega arith) in
      let other : k ≢ get_or (tops rest) i z = λ e. absurd (
      let twice : times (get_or (tops rest) i z) (k ∷ tops rest) ≡ times (get_or (tops rest) i z) (get_or (tops rest) i z ∷ tops rest) = ap (λ x. times (get_or (tops rest) i z) (x ∷ tops rest)) e in
      omega (arith, distinct (get_or (tops rest) i z), times_here (get_or (tops rest) i z) (tops rest))) in
      rw (same-ne k (get_or (tops rest) i z) other) (top_tree-at rest i z (λ h. omega (arith, distinct h, times-cons h k (tops rest))) (omega arith))

  pub in_order-at : (f : Forest T) (is : List ℕ) (z : Handle) → AreDistinct (tops f) → All (λ i. i < length (tops f)) is → in_order (map (λ i. get_or (tops f) i z) is) f ≡ trees_at is f
  in_order-at f [] z distinct all = refl
  in_order-at f (i ∷ is) z distinct all =
      ap (λ x. append x (in_order (map (λ j. get_or (tops f) j z) is) f)) (top_tree-at f i z distinct (all zero 0 (omega arith))) ∙ ap (λ x. append (first_trees 1 (skip i f)) x) (in_order-at f is z distinct (λ k d within. all (suc k) d (omega arith)))

  -- ---- in the arena

  pub puts_children : (a : Arena (TreeNode T)) (p : Handle) (n : TreeNode T) (hs : List Handle) → get a p ≡ Some n → Reorders a (with_value a p (record n { children = hs })) p hs
  puts_children a p n hs live =
      let m : TreeNode T = record n { children = hs } in
      record {
        nodes = λ k. elim (cases_same k p) [
          | inl e ↦ ap (get (with_value a p m)) e ∙ get-with_value_same a p n m live ∙ sym (ap (option_map (with_order p hs k)) (ap (get a) e ∙ live) ∙ ap Some (ap (λ b. cond b m n) (same-eq k p e)))
          | inr ne ↦ get-with_value_other a p n m k live ne ∙ sym (order_there p hs k (get a k) (same-ne k p ne))
        ];
        handles = keeps-with_value a p n m live;
      }
