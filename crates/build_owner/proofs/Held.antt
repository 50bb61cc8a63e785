-- The node of the last frame's tree that has a global key is that of the element which the registry names.
use Rattle.std.proofs.Common.{◌≡◌, ℕ, zero, suc, ◌+◌, Bool, true, false, cond, Option, Some, None, IsSome, option_map, List, [], ◌∷◌, ◌++◌, refl, sym, ap, ◌∙◌, subst, arith}
use Rattle.std.specs.List.{find}
use Rattle.std.specs.Option.{option_to_list}
use Rattle.std.proofs.lemmas.List.{append-nil}
use Rattle.fx_expr.specs.declared.values.Value.{Value}
use Rattle.fx_handles.specs.declared.Handle.{Handle}
use Rattle.fx_handles.specs.Handle.{same}
use Rattle.fx_handles.specs.HandleLaws.{same-true, same_self}
use Rattle.node_tree.specs.Forest.{TreeNode, Forest, count, In, IsDistinct, Stands}
use Rattle.node_tree.specs.Forest.Forest.{none, tree}
use Rattle.node_tree.specs.Tree.{Tree, node_at, Is, subtree_at, StandsAt}
use Rattle.widget_keys.specs.declared.keys.Key.{Key}
use Rattle.widget_keys.specs.declared.keys.Key.TheVariants as key
use Rattle.widget_model.specs.Plain.{key_of}
use Rattle.widget_model.specs.UpdateLaws.{key_eq-Decides}
use Rattle.plain_tree.specs.PlainNode.{PlainNode, nodes_of as listed}
use Rattle.plain_tree.specs.States.{preorder_of, preorder_in}
use Rattle.build_form.specs.Partner.{has_global, holder_in}
use Rattle.element_tree.specs.Element.{Element, element_at}
use Rattle.element_tree.specs.Nodes.{nodes_of}
use Rattle.global_keys.specs.Holders.{Registry, holder_of}
use Rattle.global_keys.specs.Named.{global_in, global_of, global_at, NamesExactly}
use Rattle.build_walk.specs.Kept.{node_over, first_node, plain_at, plain_at_any}
use Rattle.build_walk.proofs.Kept.{one_stands}

-- the first of two that is there
abbrev either_one : Option PlainNode → Option PlainNode → Option PlainNode
either_one (Some n) o = Some n
either_one None o = o

find_append : (test : PlainNode → Bool) (xs ys : List PlainNode) → find test (xs ++ ys) ≡ either_one (find test xs) (find test ys)
find_append test [] ys = refl
find_append test (x ∷ xs) ys = by_test (test x) (find_append test xs ys)
  where
    by_test : (b : Bool) → find test (xs ++ ys) ≡ either_one (find test xs) (find test ys) → cond b (Some x) (find test (xs ++ ys)) ≡ either_one (cond b (Some x) (find test xs)) (find test ys)
    by_test true e = refl
    by_test false e = e

global_back : (κ : Key Value) (k : Value) → global_in κ ≡ Some k → key.Global k ≡ κ
global_back key.None k e = cc
global_back (key.Local v) k e = cc
global_back (key.Global v) k e = ap key.Global (sym (first e))
  where
    first : Some v ≡ Some k → v ≡ k
    first x = cc

live_global : (o : Option (TreeNode Element)) (k : Value) → global_of (option_map (λ (n : TreeNode Element). n.value) o) ≡ Some k → IsSome o
live_global None k e = cc
live_global (Some n) k e = refl

module _ (scrolled : ℕ → ℕ) (t : Tree Element) (k : Value) (shown : (h : Handle) (s : Forest Element) → StandsAt t h s → subtree_at t h ≡ s) where
  data Found (f : Forest Element) (o : Option PlainNode) : Type 0 where
    at : (h : Handle) (n : PlainNode) → In h f → global_at t h ≡ Some k → plain_at scrolled t h ≡ Some n → o ≡ Some n → Found f o
    nowhere : o ≡ None → ((h : Handle) → In h f → global_at t h ≡ Some k → ⊥) → Found f o

  module _ (p : Option Handle) (h : Handle) (e : Element) (kids rest : Forest Element) (stands : Stands (node_at t) p (tree h e kids rest)) (distinct : IsDistinct (tree h e kids rest)) where
    abbrev whole : Forest Element
    whole = tree h e kids rest

    there : element_at t h ≡ Some e
    there = ap (option_map (λ (n : TreeNode Element). n.value)) stands.0

    here : In h whole
    here = omega (arith, ap (λ b. cond {A = ℕ} b 1 0) (same_self h))

    in_kids : (x : Handle) → In x kids → In x whole
    in_kids x i = omega (arith, i)

    in_rest : (x : Handle) → In x rest → In x whole
    in_rest x i = omega (arith, i)

    not_here : has_global k (node_over scrolled e kids) ≡ false → global_at t h ≡ Some k → ⊥
    not_here test global =
        let back : key.Global k ≡ key_of e.widget = global_back (key_of e.widget) k (ap global_of (sym there) ∙ global) in
        let holds = (key_eq-Decides (key.Global k) (key_of e.widget)).1 back in
        cc

    one_of : (x : Handle) → In x whole → (same h x ≡ true → ⊥) → (In x kids → ⊥) → (In x rest → ⊥) → ⊥
    one_of x i self below after = by_same (same h x) refl
      where
        by_kids : (n : ℕ) → count x kids ≡ n → same h x ≡ false → ⊥
        by_kids zero e s = after (omega (arith, i, e, ap (λ b. cond {A = ℕ} b 1 0) s))
        by_kids (suc n) e s = below (omega (arith, e))

        by_same : (b : Bool) → same h x ≡ b → ⊥
        by_same true s = self s
        by_same false s = by_kids (count x kids) refl s

    by_rest : (o q : Option PlainNode) → o ≡ None → has_global k (node_over scrolled e kids) ≡ false → ((x : Handle) → In x kids → global_at t x ≡ Some k → ⊥) → Found rest q → Found whole (either_one o q)
    by_rest o q is test none_below (at x n i g plain found) = at x n (in_rest x i) g plain (ap (λ z. either_one z q) is ∙ found)
    by_rest o q is test none_below (nowhere absent none_after) =
        nowhere (ap (λ z. either_one z q) is ∙ absent)
        (λ x i g. one_of x i (λ s. not_here test (subst (λ y. global_at t y ≡ Some k) (sym (same-true h x s)) g)) (λ j. none_below x j g) (λ j. none_after x j g))

    by_kids : (o q : Option PlainNode) → has_global k (node_over scrolled e kids) ≡ false → Found kids o → Found rest q → Found whole (either_one o q)
    by_kids o q test (at x n i g plain found) after = at x n (in_kids x i) g plain (ap (λ z. either_one z q) found)
    by_kids o q test (nowhere absent none_below) after = by_rest o q absent test none_below after

    by_test : (b : Bool) (o q : Option PlainNode) → has_global k (node_over scrolled e kids) ≡ b → Found kids o → Found rest q → Found whole (cond b (Some (node_over scrolled e kids)) (either_one o q))
    by_test true o q test below after =
        at h (node_over scrolled e kids) here
        (ap global_of there ∙ ap global_in (sym ((key_eq-Decides (key.Global k) (key_of e.widget)).0 test)))
        (ap (λ (s : Forest Element). first_node (nodes_of scrolled s)) (shown h (tree h e kids none) (one_stands t p h e kids rest stands distinct))) refl
    by_test false o q test below after = by_kids o q test below after

  search_forest : (p : Option Handle) (f : Forest Element) → Stands (node_at t) p f → IsDistinct f → Found f (find (has_global k) (preorder_in (listed (nodes_of scrolled f))))
  search_forest p none stands distinct = nowhere refl (λ h i g. absurd (omega (arith, i)))
  search_forest p (tree h e kids rest) stands distinct =
      let A = preorder_in (listed (nodes_of scrolled kids)) in
      let B = preorder_in (listed (nodes_of scrolled rest)) in
      let n = node_over scrolled e kids in
      subst (Found (tree h e kids rest)) (ap (λ o. cond (has_global k n) (Some n) o) (sym (find_append (has_global k) A B)))
      (by_test p h e kids rest stands distinct (has_global k n) (find (has_global k) A) (find (has_global k) B) refl
      (search_forest (Some h) kids stands.1 (λ x. omega (arith, distinct x)))
      (search_forest p rest stands.2 (λ x. omega (arith, distinct x))))

  module _ (g : Registry) (names : NamesExactly g t) (f : Forest Element) (is : Is t f) where
    held : (o : Option Handle) (q : Option PlainNode) → holder_of g k ≡ o → Found f q → q ≡ plain_at_any scrolled t o
    held None q holder (at h n i global plain found) = absurd (no_holder (sym holder ∙ names.to_holder k h global))
      where
        no_holder : {x : Handle} → None ≡ Some x → ⊥
        no_holder e = cc
    held None q holder (nowhere absent none_there) = absent
    held (Some x) q holder (at h n i global plain found) =
        found ∙ sym plain ∙ ap (plain_at scrolled t) (one (sym (names.to_holder k h global) ∙ holder))
      where
        one : Some h ≡ Some x → h ≡ x
        one e = cc
    held (Some x) q holder (nowhere absent none_there) =
        let global = names.to_element k x holder in
        absurd (none_there x (is.whole x (live_global (node_at t x) k global)) global)

    in_list : find (has_global k) (preorder_in (listed (nodes_of scrolled f))) ≡ plain_at_any scrolled t (holder_of g k)
    in_list = held (holder_of g k) _ refl (search_forest None f is.stands is.distinct)

    pub holder_found : (old : Option PlainNode) → option_to_list old ≡ nodes_of scrolled f → holder_in old k ≡ plain_at_any scrolled t (holder_of g k)
    holder_found None e = ap (λ l. find (has_global k) (preorder_in (listed l))) e ∙ in_list
    holder_found (Some n) e =
        ap (find (has_global k)) (sym (append-nil (preorder_of n))) ∙ ap (λ l. find (has_global k) (preorder_in (listed l))) e ∙ in_list
