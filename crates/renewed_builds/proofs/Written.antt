-- Forests in which elements are written anew, and children come into another order, by handles.
use Rattle.std.proofs.Common.{◌≡◌, ℕ, zero, suc, ◌+◌, ◌<◌, ◌≤◌, ◌==◌, Bool, true, false, ◌&&◌, cond, Option, Some, None, IfSome, option_map, List, [], ◌∷◌, ◌++◌, length, map, refl, sym, ap, ◌∙◌, subst, arith, slice_index_or}
use Rattle.std.specs.List.{All}
use Rattle.std.proofs.lemmas.Bool.{and_parts, eqb-true}
use Rattle.fx_handles.specs.declared.Handle.{Handle}
use Rattle.fx_handles.specs.Handle.{same, times, AreDistinct}
use Rattle.fx_handles.specs.HandleLaws.{same_self}
use Rattle.node_tree.specs.Forest.{TreeNode, Forest, tops, count, In, IsDistinct, append, skip, first_trees, trees_at, in_order_if, in_order, reordered, map_values, Stands}
use Rattle.node_tree.specs.Forest.Forest.{none, tree}
use Rattle.node_tree.specs.Tree.{Tree, node_at, children_at}
use Rattle.node_tree.proofs.Children.{append-none, tops-map, append-append}
use Rattle.node_tree.proofs.ForestLemmas.{hit, hit-true, tops-append, times-le-count}
use Rattle.element_tree.specs.Element.{Element}
use Rattle.renewed_builds.specs.Renewing.{joined, are_in_order, order_of}
use Rattle.renewed_builds.specs.Taking.{handles_at, no_handle}

-- ---- forests one after another

pub joined-append : (xs ys : List (Forest Element)) → joined (xs ++ ys) ≡ append (joined xs) (joined ys)
joined-append [] ys = refl
joined-append (x ∷ xs) ys = ap (append x) (joined-append xs ys) ∙ sym (append-append x (joined xs) (joined ys))

-- ---- written anew

-- the trees at these places, if an order is given
abbrev pub placed_if : Option (List ℕ) → Forest Element → Forest Element
placed_if None f = f
placed_if (Some places) f = trees_at places f

abbrev pub Orders : Type 0
Orders = Handle → Option (List ℕ)

abbrev pub written : Orders → (Handle → Element → Element) → Forest Element → Forest Element
written o g none = none
written o g (tree h e kids rest) = tree h (g h e) (placed_if (o h) (written o g kids)) (written o g rest)

-- two say the same of the handles of a forest
abbrev pub AgreeOn : Orders → Orders → (Handle → Element → Element) → (Handle → Element → Element) → Forest Element → Type 0
AgreeOn o p g f s = (k : Handle) → In k s → (o k ≡ p k) × ((e : Element) → g k e ≡ f k e)

here_in : (h : Handle) (e : Element) (kids rest : Forest Element) → In h (tree h e kids rest)
here_in h e kids rest = let one = hit-true h h (same_self h) in omega (arith, one)

pub written-on : (o p : Orders) (g f : Handle → Element → Element) (s : Forest Element) → AgreeOn o p g f s → written o g s ≡ written p f s
written-on o p g f none agree = refl
written-on o p g f (tree h e kids rest) agree =
    let top = agree h (here_in h e kids rest) in
    let low = written-on o p g f kids (λ k inside. agree k (omega (arith, inside))) in
    let more = written-on o p g f rest (λ k inside. agree k (omega (arith, inside))) in
    λ i. tree h (top.1 e i) (placed_if (top.0 i) (low i)) (more i)

pub written-none : (s : Forest Element) → written (λ k. None) (λ k e. e) s ≡ s
written-none none = refl
written-none (tree h e kids rest) = λ i. tree h e (written-none kids i) (written-none rest i)

-- nothing is said of its handles
abbrev pub Untouched : Orders → (Handle → Element → Element) → Forest Element → Type 0
Untouched o g s = AgreeOn o (λ k. None) g (λ k e. e) s

pub untouched : (o : Orders) (g : Handle → Element → Element) (s : Forest Element) → Untouched o g s → written o g s ≡ s
untouched o g s free = written-on o (λ k. None) g (λ k e. e) s free ∙ written-none s

pub first-written : (o : Orders) (g : Handle → Element → Element) (j : ℕ) (s : Forest Element) → first_trees 1 (skip j (written o g s)) ≡ written o g (first_trees 1 (skip j s))
first-written o g zero none = refl
first-written o g zero (tree h e kids rest) = refl
first-written o g (suc j) none = refl
first-written o g (suc j) (tree h e kids rest) = first-written o g j rest

pub tops-written : (o : Orders) (g : Handle → Element → Element) (s : Forest Element) → tops (written o g s) ≡ tops s
tops-written o g none = refl
tops-written o g (tree h e kids rest) = ap (λ hs. h ∷ hs) (tops-written o g rest)

-- ---- all trees, each at its place

same_place : (a b : ℕ) → (a == b) ≡ true → a ≡ b
same_place a b e = eqb-true a b e

skip-tree : (i : ℕ) (f : Forest Element) → i < length (tops f) → append (first_trees 1 (skip i f)) (skip (suc i) f) ≡ skip i f
skip-tree zero none low = absurd (omega (arith, low))
skip-tree zero (tree h e kids rest) low = refl
skip-tree (suc i) none low = absurd (omega (arith, low))
skip-tree (suc i) (tree h e kids rest) low = skip-tree i rest (omega (arith, low))

skip-past : (i : ℕ) (f : Forest Element) → length (tops f) ≤ i → skip i f ≡ none
skip-past zero none low = refl
skip-past zero (tree h e kids rest) low = absurd (omega (arith, low))
skip-past (suc i) none low = refl
skip-past (suc i) (tree h e kids rest) low = skip-past i rest (omega (arith, low))

pub in_turn : (i : ℕ) (places : List ℕ) (f : Forest Element) → i + length places ≡ length (tops f) → are_in_order i places ≡ true → trees_at places f ≡ skip i f
in_turn i [] f many order = sym (skip-past i f (omega (arith, many)))
in_turn i (j ∷ js) f many order =
    let parts = and_parts (j == i) (are_in_order (suc i) js) order in
    let here = same_place j i parts.0 in
    ap (λ n. append (first_trees 1 (skip n f)) (trees_at js f)) here
    ∙ ap (append (first_trees 1 (skip i f))) (in_turn (suc i) js f (omega (arith, many)) parts.1)
    ∙ skip-tree i f (omega (arith, many))

pub placed_order : (places : List ℕ) (f : Forest Element) → length places ≡ length (tops f) → placed_if (order_of places) f ≡ trees_at places f
placed_order places f many = by_order (are_in_order 0 places) refl
  where
    by_order : (b : Bool) → are_in_order 0 places ≡ b → placed_if (cond b None (Some places)) f ≡ trees_at places f
    by_order true order = sym (in_turn 0 places f (omega (arith, many)) order)
    by_order false order = refl

-- ---- by handles

module _ (o : Orders) (at : Handle → Option (TreeNode Element)) (hands : Handle → List Handle) (told : (h : Handle) (n : TreeNode Element) → at h ≡ Some n → hands h ≡ n.children)
    (low : (h : Handle) → IfSome (o h) (λ places. All (λ i. i < length (hands h)) places))
    (places_law : (f : Forest Element) (is : List ℕ) (z : Handle) → AreDistinct (tops f) → All (λ i. i < length (tops f)) is → in_order (map (λ i. slice_index_or (tops f) i z) is) f ≡ trees_at is f) where
  abbrev by_hand : Handle → Option (List Handle)
  by_hand h = option_map (handles_at (hands h)) (o h)

  tops-reordered : (f : Forest Element) → tops (reordered by_hand f) ≡ tops f
  tops-reordered none = refl
  tops-reordered (tree h e kids rest) = ap (λ hs. h ∷ hs) (tops-reordered rest)

  one_placed : (hs : List Handle) (f : Forest Element) → hs ≡ tops f → AreDistinct (tops f) → (order : Option (List ℕ)) → IfSome order (λ places. All (λ i. i < length hs) places)
      → in_order_if (option_map (handles_at hs) order) f ≡ placed_if order f
  one_placed hs f is apart None within = refl
  one_placed hs f is apart (Some places) within =
      ap (λ ks. in_order (map (λ i. slice_index_or ks i no_handle) places) f) is
      ∙ places_law f places no_handle apart (subst (λ ks. All (λ i. i < length ks) places) is within)

  -- handles at places are the trees at these
  pub reordered_is : (g : Handle → Element → Element) (p : Option Handle) (f : Forest Element) → Stands at p f → IsDistinct f → reordered by_hand (map_values g f) ≡ written o g f
  reordered_is g p none stands distinct = refl
  reordered_is g p (tree h e kids rest) stands distinct =
      let below_then = reordered by_hand (map_values g kids) in
      let same_tops : tops below_then ≡ tops kids = tops-reordered (map_values g kids) ∙ tops-map g kids in
      let here : hands h ≡ tops below_then = told h (record { parent = p; children = tops kids; value = e }) stands.0 ∙ sym same_tops in
      let apart : AreDistinct (tops below_then) = λ k. subst (λ hs. times k hs ≤ 1) (sym same_tops) (let few = distinct k in let fewer = times-le-count k kids in omega (arith, few, fewer)) in
      let kids_are = reordered_is g (Some h) kids stands.1 (λ k. let few = distinct k in omega (arith, few)) in
      let rest_are = reordered_is g p rest stands.2 (λ k. let few = distinct k in omega (arith, few)) in
      ap (λ b. tree h (g h e) b (reordered by_hand (map_values g rest))) (one_placed (hands h) below_then here apart (o h) (low h))
      ∙ (λ i. tree h (g h e) (placed_if (o h) (kids_are i)) (rest_are i))
