-- What each edit makes of the plain forest.
use Rattle.std.proofs.Common.{◌≡◌, ◌≢◌, ℕ, ◌+◌, ◌≤◌, not, cond, List, [], ◌∷◌, ◌++◌, Option, Some, None, Result, Ok, Err, IfOk, OnOk, OnErr, refl, sym, ap, ◌∙◌, subst, inl, inr, arith, append_assoc}
use Rattle.std.specs.Option.{option_to_list}
use Rattle.std.proofs.lemmas.List.Sums.{sum_by-append}
use Rattle.std.proofs.lemmas.List.Elements.{filter-append}
use Rattle.fx_handles.specs.declared.Handle.{Handle}
use Rattle.fx_handles.specs.Handle.{same, times, Among}
use Rattle.fx_handles.specs.Arena.{Arena}
use Rattle.fx_handles.specs.HandleLaws.{same-eq, same-ne, cases_same, times_here, times_there}
use Rattle.fx_handles.specs.ArenaLaws.{some_of}
use Rattle.node_tree.specs.Forest.{TreeNode, Forest, others_than, tops, In, append, paste, without, tree_of}
use Rattle.node_tree.specs.Forest.Forest.{none, tree}
use Rattle.node_tree.specs.Tree.{Tree, node_at, IsNode, children_of, parent_at, children_at, tops_at, Is, IsTree, subtree_at}
use Rattle.node_tree.specs.Edits.{Adds, Takes, Hooks, Lifts, HasPlace, CanMove, CanDetach, CanHang, IsLeaf, root_without, root_with, root_lifted}
use Rattle.node_tree.proofs.ForestLemmas.{same_Some, same_node, Under, tops_with, count_here, find, times-le-count, weigh-kids}
use Rattle.node_tree.proofs.TreeLemmas.{added, added_loose, removed, hooked, detached, subtree_is-tree_of, Holds-from_Is, live_from_parent, top_live, no_top, tops_once, is_top, child_of}
use Rattle.node_tree.proofs.EditLemmas.{others_absent, root_without_here, root_without_other}

-- a list without a handle, in two parts
pub others-root : (h : Handle) (root : Option Handle) → others_than h (option_to_list root) ≡ option_to_list (root_without h root)
others-root h None = refl
others-root h (Some k) = elim (cases_same k h) [
  | inl e ↦ rw (same-eq k h e) refl
  | inr ne ↦ rw (same-ne k h ne) refl
]

pub others-tops : (h : Handle) (root : Option Handle) (hs : List Handle) → others_than h (option_to_list root ++ hs) ≡ option_to_list (root_without h root) ++ others_than h hs
others-tops h root hs = filter-append (λ k. not (same k h)) (option_to_list root) hs ∙ ap (λ xs. xs ++ others_than h hs) (others-root h root)

pub times-append : (h : Handle) (xs ys : List Handle) → times h (xs ++ ys) ≡ times h xs + times h ys
times-append h xs ys = sum_by-append (λ k. cond {A = ℕ} (same k h) 1 0) xs ys

-- a handle that isn't among the tops isn't the root
pub not_root : (h : Handle) (root : Option Handle) (hs : List Handle) → times h (option_to_list root ++ hs) ≡ times h hs → root ≢ Some h
not_root h root hs e = λ is_root. absurd (
    let here : times h (option_to_list root ++ hs) ≡ times h (h ∷ hs) = ap (λ r. times h (option_to_list r ++ hs)) is_root in
    omega (arith, times_here h hs))

module _ {T : Type 0} where
  -- the parent of a place that there is stands in the forest
  place_under : (t : Tree T) (f : Forest T) (q : Option Handle) (i : ℕ) → Is t f → HasPlace t q i → Under q f
  place_under t f None i is place = tt
  place_under t f (Some p) i is place = is.whole p place.0

  tops_inserted : (old new : Tree T) (q : Option Handle) (i : ℕ) (h : Handle) → HasPlace old q i → new.root ≡ root_with q h old.root → new.inactive ≡ old.inactive → tops_at new ≡ tops_with q h (tops_at old)
  tops_inserted old new None i h place root inactive = rw (root, inactive) (sym (ap (λ r. h ∷ (option_to_list r ++ old.inactive)) place))
  tops_inserted old new (Some p) i h place root inactive = rw (root, inactive) refl

  pub inserted_is : (old new : Tree T) (q : Option Handle) (i : ℕ) (h : Handle) (v : T) → HasPlace old q i → Adds old.nodes new.nodes q i h v → new.root ≡ root_with q h old.root → new.inactive ≡ old.inactive
      → (f : Forest T) → Is old f → Is new (paste q i (tree h v none none) f)
  inserted_is old new q i h v place adds root inactive f is =
      added old new q i h v f is adds.was_absent adds.found adds.others (place_under old f q i is place) (tops_inserted old new q i h place root inactive)

  pub loosened_is : (old new : Tree T) (h : Handle) (v : T) → Adds old.nodes new.nodes None 0 h v → new.root ≡ old.root → new.inactive ≡ old.inactive ++ h ∷ []
      → (f : Forest T) → Is old f → Is new (append f (tree h v none none))
  loosened_is old new h v adds root inactive f is =
      added_loose old new h v f is adds.was_absent adds.found (λ k ne. adds.others k ne ∙ same_node (node_at old k))
      (rw (root, inactive) (sym (append_assoc (option_to_list old.root) old.inactive (h ∷ []))))

  -- a node isn't itself below it, and what is not below it is another node
  pub other_node : (t : Tree T) (f : Forest T) (h p : Handle) → Is t f → IsNode t h → (In p (subtree_at t h) → ⊥) → h ≢ p
  other_node t f h p is live apart = λ e. apart (
      let found = find (node_at t) None f h is.stands (is.whole h live) (is.distinct h) in
      let part : subtree_at t h ≡ tree h found.value found.kids none = subtree_is-tree_of t f h is (is.whole h live) ∙ found.tree_is in
      let P : Handle → Type 0 = λ x. In x (subtree_at t h) in
      let here : In h (subtree_at t h) = rw part (count_here h found.value found.kids none) in
      subst P e here)

  apart_in : (t : Tree T) (f : Forest T) (h p : Handle) → Is t f → IsNode t h → (In p (subtree_at t h) → ⊥) → In p (tree_of h f) → ⊥
  apart_in t f h p is live apart = λ among. apart (rw (subtree_is-tree_of t f h is (is.whole h live)) among)

  pub moved_is : (old new : Tree T) (h p : Handle) (i : ℕ) → CanMove old h p i → Hooks old.nodes new.nodes h (Some p) i → new.root ≡ old.root → new.inactive ≡ old.inactive
      → (f : Forest T) → Is old f → Is new (paste (Some p) i (tree_of h f) (without h f))
  moved_is old new h p i can hooks root inactive f is =
      let node = some_of (node_at old h) can.live in
      let above = some_of (parent_at old h) can.has_parent in
      let absent = no_top old f h above.0 is above.1 in
      hooked old new (Some p) i h node.0 f is node.1 (hooks.node node.0 node.1) hooks.others
      (λ q e among. apart_in old f h p is can.live can.apart (rw (sym (same_Some e)) at among))
      (is.whole p can.parent)
      (rw (root, inactive) (sym (others_absent h (tops_at old) absent)))

  -- an inactive top has no parent, and isn't the root
  pub inactive_top : (t : Tree T) (f : Forest T) (h : Handle) → Is t f → Among h t.inactive → IsNode t h × (parent_at t h ≡ None) × (t.root ≢ Some h)
  inactive_top t f h is among =
      let once = tops_once t f h is in
      let parts = times-append h (option_to_list t.root) t.inactive in
      let live = top_live t f h is (omega arith) in (
        live,
        no_parent (parent_at t h) refl,
        not_root h t.root t.inactive (omega arith),
      )
    where
      no_parent : (q : Option Handle) → parent_at t h ≡ q → q ≡ None
      no_parent None e = refl
      no_parent (Some p) e = absurd (let none_there = no_top t f h p is e in omega (arith, times-append h (option_to_list t.root) t.inactive))

  pub attached_is : (old new : Tree T) (h : Handle) (q : Option Handle) (i : ℕ) → Among h old.inactive → CanHang old h q i → Hooks old.nodes new.nodes h q i → new.root ≡ root_with q h old.root → new.inactive ≡ others_than h old.inactive
      → (f : Forest T) → Is old f → Is new (paste q i (tree_of h f) (without h f))
  attached_is old new h q i among can hooks root inactive f is =
      let top = inactive_top old f h is among in
      let node = some_of (node_at old h) top.0 in
      hooked old new q i h node.0 f is node.1 (hooks.node node.0 node.1) hooks.others (apart q can) (under q can)
      (rw (root, inactive) (tops_hung q can top.2))
    where
      apart : (q : Option Handle) → CanHang old h q i → (p : Handle) → q ≡ Some p → In p (tree_of h f) → ⊥
      apart None can p e inside = absurd (cc)
      apart (Some x) can p e inside = apart_in old f h x is (inactive_top old f h is among).0 can.1 (rw (sym (same_Some e)) at inside)

      under : (q : Option Handle) → CanHang old h q i → Under q f
      under None can = tt
      under (Some p) can = is.whole p can.0

      tops_hung : (q : Option Handle) → CanHang old h q i → old.root ≢ Some h → option_to_list (root_with q h old.root) ++ others_than h old.inactive ≡ tops_with q h (others_than h (option_to_list old.root ++ old.inactive))
      tops_hung None can ne = rw can refl
      tops_hung (Some p) can ne = sym (others-tops h old.root old.inactive ∙ ap (λ r. option_to_list r ++ others_than h old.inactive) (root_without_other h old.root ne))

  -- a node that isn't an inactive top and has no parent is the root
  root_or_child : (t : Tree T) (f : Forest T) (h : Handle) → Is t f → CanDetach t h → parent_at t h ≡ None → t.root ≡ Some h
  root_or_child t f h is can e =
      let top = is_top t f h is can.live e in
      by_root t.root (omega (arith, times-append h (option_to_list t.root) t.inactive, can.active))
    where
      by_root : (root : Option Handle) → 1 ≤ times h (option_to_list root) → root ≡ Some h
      by_root None here = absurd (omega arith)
      by_root (Some k) here = elim (cases_same k h) [
        | inl e ↦ ap Some e
        | inr ne ↦ absurd (omega (arith, times_there h k [] ne))
      ]

  pub detached_is : (old new : Tree T) (h : Handle) → CanDetach old h → Lifts old.nodes new.nodes h None → new.root ≡ root_lifted (parent_at old h) old.root → new.inactive ≡ old.inactive ++ h ∷ []
      → (f : Forest T) → Is old f → Is new (append (without h f) (tree_of h f))
  detached_is old new h can lifts root inactive f is =
      let node = some_of (node_at old h) can.live in
      detached old new h node.0 f is node.1 (lifts.node node.0 node.1) lifts.others
      (rw (root, inactive) (tops_lifted (parent_at old h) refl))
    where
      tops_lifted : (q : Option Handle) → parent_at old h ≡ q → option_to_list (root_lifted q old.root) ++ (old.inactive ++ h ∷ []) ≡ others_than h (tops_at old) ++ h ∷ []
      tops_lifted None e =
          let is_root = root_or_child old f h is can e in
          ap (λ xs. xs ++ h ∷ []) (sym (others-tops h old.root old.inactive ∙ ap (λ r. option_to_list r ++ others_than h old.inactive) (root_without_here h old.root is_root) ∙ others_absent h old.inactive can.active))
      tops_lifted (Some p) e =
          sym (append_assoc (option_to_list old.root) old.inactive (h ∷ [])) ∙ ap (λ xs. xs ++ h ∷ []) (sym (others_absent h (tops_at old) (no_top old f h p is e)))

  -- a leaf is taken away
  pub taken_root : (old : Tree T) (f : Forest T) (h : Handle) (root : Option Handle) → Is old f
      → (parent_at old h ≡ None → root ≡ root_without h old.root)
      → ((p : Handle) → parent_at old h ≡ Some p → root ≡ old.root)
      → root ≡ root_without h old.root
  taken_root old f h root is top child = by_parent (parent_at old h) refl
    where
      by_parent : (q : Option Handle) → parent_at old h ≡ q → root ≡ root_without h old.root
      by_parent None e = top e
      by_parent (Some p) e =
          let absent = no_top old f h p is e in
          child p e ∙ sym (root_without_other h old.root (not_root h old.root old.inactive (omega (arith, times-append h (option_to_list old.root) old.inactive))))

  pub taken_inactive : (old : Tree T) (f : Forest T) (h : Handle) (inactive : List Handle) → Is old f
      → (parent_at old h ≡ None → inactive ≡ others_than h old.inactive)
      → ((p : Handle) → parent_at old h ≡ Some p → inactive ≡ old.inactive)
      → inactive ≡ others_than h old.inactive
  taken_inactive old f h inactive is top child = by_parent (parent_at old h) refl
    where
      by_parent : (q : Option Handle) → parent_at old h ≡ q → inactive ≡ others_than h old.inactive
      by_parent None e = top e
      by_parent (Some p) e =
          let absent = no_top old f h p is e in
          child p e ∙ sym (others_absent h old.inactive (omega (arith, times-append h (option_to_list old.root) old.inactive)))

  pub root_once : (t : Tree T) (f : Forest T) (h : Handle) → Is t f → t.root ≡ Some h → times h t.inactive ≡ 0
  root_once t f h is e =
      let once = tops_once t f h is in
      let here : times h (option_to_list t.root ++ t.inactive) ≡ times h (h ∷ t.inactive) = ap (λ r. times h (option_to_list r ++ t.inactive)) e in
      omega (arith, times_here h t.inactive)

  pub inactive_once : (t : Tree T) (f : Forest T) (h : Handle) → Is t f → times h t.inactive ≤ 1
  inactive_once t f h is = omega (arith, tops_once t f h is, times-append h (option_to_list t.root) t.inactive)

  pub took_is : (old new : Tree T) (h : Handle) (v : T) → IsLeaf old h → Takes old.nodes new.nodes h v → new.root ≡ root_without h old.root → new.inactive ≡ others_than h old.inactive
      → (f : Forest T) → Is old f → Is new (without h f)
  took_is old new h v leaf takes root inactive f is =
      let node = some_of (node_at old h) leaf.live in
      removed old new h node.0 f is node.1 (sym (ap children_of node.1) ∙ leaf.childless) takes.absent takes.others
      (rw (root, inactive) (sym (others-tops h old.root old.inactive)))

  -- a tree that is put together from the same parts is the same
  pub same_tree : (a b : Arena (TreeNode T)) (r s : Option Handle) (xs ys : List Handle) → a ≡ b → r ≡ s → xs ≡ ys
      → (let one : Tree T = record { nodes = a; root = r; inactive = xs } in let two : Tree T = record { nodes = b; root = s; inactive = ys } in one ≡ two)
  same_tree a b r s xs ys e d c =
      let made : Arena (TreeNode T) → Option Handle → List Handle → Tree T = λ x y z. record { nodes = x; root = y; inactive = z } in
      ap (λ x. made x r xs) e ∙ ap (λ y. made b y xs) d ∙ ap (λ z. made b s z) c

  -- the tree is a tree after the call, whatever it answered
  pub tree_of_if : {A E : Type 0} (r : Result A E) (old new : Tree T) (F : A → Forest T → Forest T) → IfOk r (λ x. (f : Forest T) → Is old f → Is new (F x f)) → OnErr r (new ≡ old) → IsTree old → IsTree new
  tree_of_if (Ok x) old new F ok err is = (F x is.0, ok is.0 is.1)
  tree_of_if (Err e) old new F ok err is = rw err is

  pub tree_of_on : {A E : Type 0} (r : Result A E) (old new : Tree T) (F : Forest T → Forest T) → OnOk r ((f : Forest T) → Is old f → Is new (F f)) → OnErr r (new ≡ old) → IsTree old → IsTree new
  tree_of_on (Ok x) old new F ok err is = (F is.0, ok is.0 is.1)
  tree_of_on (Err e) old new F ok err is = rw err is

  -- the subtree of a node reaches down to the children of each node in it
  pub child_in : (t : Tree T) (f : Forest T) (h k c : Handle) → Is t f → IsNode t h → In k (subtree_at t h) → Among c (children_at t k) → In c (subtree_at t h)
  child_in t f h k c is live inside child =
      let holds = Holds-from_Is t f h is live in
      let found = find (node_at t) (parent_at t h) (subtree_at t h) k holds.stands inside (holds.distinct k) in
      let list : children_at t k ≡ tops found.kids = ap children_of found.is in
      let top : Among c (tops found.kids) = rw list at child in
      omega (arith, weigh-kids (λ y. cond {A = ℕ} (same y c) 1 0) (node_at t) (parent_at t h) (subtree_at t h) k found (holds.distinct k), times-le-count c found.kids)

  pub node_inside : (t : Tree T) (f : Forest T) (h : Handle) → Is t f → IsNode t h → In h (subtree_at t h)
  node_inside t f h is live =
      let found = find (node_at t) None f h is.stands (is.whole h live) (is.distinct h) in
      rw (subtree_is-tree_of t f h is (is.whole h live) ∙ found.tree_is) (count_here h found.value found.kids none)

  pub child_live : (t : Tree T) (f : Forest T) (h c : Handle) → Is t f → Among c (children_at t h) → IsNode t c
  child_live t f h c is among =
      let child = child_of t f h c is among in
      live_from_parent (node_at t c) h child.parent

  -- a node below which h may hang is another node
  pub hang_apart : (t : Tree T) (f : Forest T) (h : Handle) (q : Option Handle) (i : ℕ) → Is t f → Among h t.inactive → CanHang t h q i → (p : Handle) → q ≡ Some p → h ≢ p
  hang_apart t f h None i is among can p e = absurd (cc)
  hang_apart t f h (Some x) i is among can p e = rw (sym (same_Some e)) (other_node t f h x is (inactive_top t f h is among).0 can.1)

  -- what `detach` and `attach` make of the forest, on success
  pub detached_on : {E : Type 0} (r : Result (Unit {0}) E) (old new : Tree T) (h : Handle) → CanDetach old h → OnOk r (Lifts old.nodes new.nodes h None) → OnOk r (new.root ≡ root_lifted (parent_at old h) old.root) → OnOk r (new.inactive ≡ old.inactive ++ h ∷ [])
      → OnOk r ((f : Forest T) → Is old f → Is new (append (without h f) (tree_of h f)))
  detached_on (Ok x) old new h can lifts root inactive = detached_is old new h can lifts root inactive
  detached_on (Err e) old new h can lifts root inactive = tt

  pub attached_on : {E : Type 0} (r : Result (Unit {0}) E) (old new : Tree T) (h : Handle) (q : Option Handle) (i : ℕ) → Among h old.inactive → CanHang old h q i → OnOk r (Hooks old.nodes new.nodes h q i) → OnOk r (new.root ≡ root_with q h old.root) → OnOk r (new.inactive ≡ others_than h old.inactive)
      → OnOk r ((f : Forest T) → Is old f → Is new (paste q i (tree_of h f) (without h f)))
  attached_on (Ok x) old new h q i among can hooks root inactive = attached_is old new h q i among can hooks root inactive
  attached_on (Err e) old new h q i among can hooks root inactive = tt
