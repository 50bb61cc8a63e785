-- The values of inherited names at an element are those at the spot of its node.
use Rattle.std.proofs.Common.{◌≡◌, ℕ, zero, suc, ◌+◌, Bool, true, false, cond, eqb, Option, Some, None, option_map, List, [], ◌∷◌, refl, sym, ap, ◌∙◌, subst, arith}
use Rattle.std.specs.Option.{option_to_list}
use Rattle.std.proofs.lemmas.Bool.{eqb-true}
use Rattle.fx_expr.specs.declared.values.Value.{Value}
use Rattle.fx_handles.specs.declared.Handle.{Handle}
use Rattle.node_tree.specs.Forest.{TreeNode, Forest, below, IsDistinct, Stands}
use Rattle.node_tree.specs.Forest.Forest.{none, tree}
use Rattle.node_tree.specs.Tree.{Tree, node_at, subtree_at, StandsAt}
use Rattle.plain_tree.specs.At.{is_there}
use Rattle.plain_tree.specs.PlainNode.{PlainNode, count_of, counts_of, nodes_of as listed}
use Rattle.build_form.specs.Entering.{values_below}
use Rattle.element_tree.specs.Element.{Element, element_at, number_at}
use Rattle.element_tree.specs.Nodes.{nodes_of}
use Rattle.build_walk.specs.Kept.{node_over}
use Rattle.build_walk.specs.Past.{Pasts}
use Rattle.build_walk.specs.Telling.{element_past, TellPasts}
use Rattle.build_walk.proofs.Kept.{one_stands}
use Rattle.settled_builds.specs.Places.{NodePlace, spot_at, spot_in}
use Rattle.build_owner.proofs.Children.{some_is}

-- the node of the element at a handle stands at a place; and what is known of its number is what the element tells there
pub record IsSpotOf (t : Tree Element) (scrolled : ℕ → ℕ) (pasts : Pasts) (h : Handle) (e : Element) (p : NodePlace) : Type 0 where
  pub node : p.node ≡ node_over scrolled e (below (subtree_at t h))
  pub told : pasts e.number ≡ Some (element_past p.values e)

no_spot : {P : Type 0} {p : NodePlace} → None ≡ Some p → P
no_spot e = cc

either : {P : Type 0} (b : Bool) (x y : Option NodePlace) (p : NodePlace) → cond b x y ≡ Some p → (x ≡ Some p → P) → (y ≡ Some p → P) → P
either true x y p e one other = one e
either false x y p e one other = other e

first_is : {n m : PlainNode} {ns ms : List PlainNode} → n ∷ ns ≡ m ∷ ms → n ≡ m
first_is e = cc

none_is : {P : Type 0} {n : PlainNode} {ns : List PlainNode} → n ∷ ns ≡ [] → P
none_is e = cc

-- no other element has the number of one
pub alone : (t : Tree Element) (h : Handle) (e : Element) → element_at t h ≡ Some e → ((n : ℕ) (a b : Handle) → number_at t a ≡ Some n → number_at t b ≡ Some n → a ≡ b)
    → (k : Handle) (v : Element) → element_at t k ≡ Some v → v.number ≡ e.number → (k ≡ h) × (v ≡ e)
alone t h e here once k v there number =
    let numbers : Option Element → Option ℕ = option_map (λ (x : Element). x.number) in
    let same : k ≡ h = once e.number k h (ap numbers there ∙ ap Some number) (ap numbers here) in (same, some_is (sym there ∙ ap (element_at t) same ∙ here))

module _ (t : Tree Element) (scrolled : ℕ → ℕ) (pasts : Pasts) (h : Handle) (e : Element) (found : (k : Handle) (s : Forest Element) → StandsAt t k s → subtree_at t k ≡ s)
    (once : (k : Handle) (v : Element) → element_at t k ≡ Some v → v.number ≡ e.number → (k ≡ h) × (v ≡ e)) where
  abbrev Is_spot : NodePlace → Type 0
  Is_spot p = IsSpotOf t scrolled pasts h e p

  own : (b : Bool) (k : Handle) (v : Element) (kids : Forest Element) (values : List Value) (left before after : ℕ) (later : Option NodePlace) (p : NodePlace) → eqb v.number e.number ≡ b
      → StandsAt t k (tree k v kids none) → element_at t k ≡ Some v → pasts v.number ≡ Some (element_past values v)
      → cond b (Some (record { node = node_over scrolled v kids; left = left; values = values; before = before; after = after })) later ≡ Some p → (later ≡ Some p → Is_spot p) → Is_spot p
  own true k v kids values left before after later p is stands value tells at inside =
      let number : v.number ≡ e.number = eqb-true v.number e.number is in
      let one = once k v value number in
      let kids_are : kids ≡ below (subtree_at t h) = sym (ap (λ s. below s) (found k (tree k v kids none) stands)) ∙ ap (λ x. below (subtree_at t x)) one.0 in
      subst Is_spot (some_is at) (record {
        node = λ i. node_over scrolled (one.1 i) (kids_are i);
        told = sym (ap pasts number) ∙ tells ∙ ap (λ (x : Element). Some (element_past values x)) one.1;
      })
  own false k v kids values left before after later p is stands value tells at inside = inside at

  spot_one : (q : Option Handle) (k : Handle) (v : Element) (kids rest : Forest Element) (values : List Value) (left before after : ℕ) (p : NodePlace)
      → Stands (node_at t) q (tree k v kids rest) → IsDistinct (tree k v kids rest) → TellPasts pasts values (tree k v kids rest)
      → ((l : ℕ) → spot_in e.number l (values_below v.widget values) (suc before) after (listed (nodes_of scrolled kids)) ≡ Some p → Is_spot p)
      → spot_at e.number left values before after (node_over scrolled v kids) ≡ Some p → Is_spot p
  spot_one q k v kids rest values zero before after p stands distinct tells inside at = no_spot at
  spot_one q k v kids rest values (suc left) before after p stands distinct tells inside at =
      own (eqb v.number e.number) k v kids values (suc left) before after (spot_in e.number left (values_below v.widget values) (suc before) after (listed (nodes_of scrolled kids))) p refl
      (one_stands t q k v kids rest stands distinct) (ap (option_map (λ (n : TreeNode Element). n.value)) stands.0) tells.0 at (inside left)

  spot_all : (q : Option Handle) (f : Forest Element) (values : List Value) (left before after : ℕ) (p : NodePlace) → Stands (node_at t) q f → IsDistinct f → TellPasts pasts values f
      → spot_in e.number left values before after (listed (nodes_of scrolled f)) ≡ Some p → Is_spot p
  spot_all q none values left before after p stands distinct tells at = no_spot at
  spot_all q (tree k v kids rest) values left before after p stands distinct tells at =
      let n : PlainNode = node_over scrolled v kids in
      let ns = listed (nodes_of scrolled rest) in
      either (is_there e.number n) (spot_at e.number left values before (after + counts_of ns) n) (spot_in e.number left values (before + count_of n) after ns) p at
      (spot_one q k v kids rest values left before (after + counts_of ns) p stands distinct tells
      (λ l. spot_all (Some k) kids (values_below v.widget values) l (suc before) (after + counts_of ns) p stands.1 (λ x. omega (arith, distinct x)) tells.1))
      (spot_all q rest values left (before + count_of n) after p stands.2 (λ x. omega (arith, distinct x)) tells.2)

  -- in the tree for which a forest stands
  pub spot_of : (whole : PlainNode) (f : Forest Element) (values : List Value) (left before after : ℕ) (p : NodePlace) → option_to_list (Some whole) ≡ nodes_of scrolled f
      → Stands (node_at t) None f → IsDistinct f → TellPasts pasts values f → spot_at e.number left values before after whole ≡ Some p → Is_spot p
  spot_of whole none values left before after p nodes stands distinct tells at = none_is nodes
  spot_of whole (tree k v kids rest) values left before after p nodes stands distinct tells at =
      spot_one None k v kids rest values left before after p stands distinct tells
      (λ l. spot_all (Some k) kids (values_below v.widget values) l (suc before) after p stands.1 (λ x. omega (arith, distinct x)) tells.1)
      (ap (λ n. spot_at e.number left values before after n) (sym (first_is nodes)) ∙ at)
