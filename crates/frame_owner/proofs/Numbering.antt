-- The numbers of elements, one after another.
use Rattle.std.proofs.Common.{◌≡◌, ℕ, ◌+◌, ◌<◌, ◌≤◌, Option, Some, None, option_map, List, [], ◌∷◌, ◌++◌, length, get_or, refl, sym, ap, subst, ◌∙◌, arith}
use Rattle.std.specs.Option.{option_to_list}
use Rattle.std.proofs.lemmas.List.{append_assoc, append-nil}
use Rattle.fx_handles.specs.declared.Handle.{Handle}
use Rattle.node_tree.specs.Children.{Nth}
use Rattle.fx_handles.specs.ArenaLaws.{same_Some}
use Rattle.node_tree.specs.Forest.{TreeNode, Forest, tops, below, skip, Stands}
use Rattle.node_tree.specs.Forest.Forest.{none, tree}
use Rattle.node_tree.specs.Tree.{Tree, Is, Holds, node_at, parent_of, parent_at, subtree_at, children_at}
use Rattle.node_tree.proofs.TreeLemmas.{subtree_is}
use Rattle.plain_tree.specs.At.{numbers_in}
use Rattle.plain_tree.specs.PlainNode.{PlainNode, nodes_of as listed}
use Rattle.element_tree.specs.Element.{Element, element_at, number_at}
use Rattle.element_tree.specs.Nodes.{nodes_of}
use Rattle.frame_owner.specs.Nodes.{element_numbers, numbers_there}

-- ---- one tree after another

split : (h : Handle) (e : Element) (kids rest : Forest Element) → element_numbers (tree h e kids rest) ≡ element_numbers (tree h e kids none) ++ element_numbers rest
split h e kids rest =
    ap (λ ns. e.number ∷ (ns ++ element_numbers rest)) (sym (append-nil (element_numbers kids)))

abbrev pub zero_handle : Handle
zero_handle = record { index = 0; generation = 0 }

-- child number i of a list that is the node's children
pub nth_of : (t : Tree Element) (h : Handle) (cs : List Handle) (i : ℕ)
    → ((j : ℕ) (z : Handle) → j < length (children_at t h) → Nth t (below (subtree_at t h)) j (get_or (children_at t h) j z)) → cs ≡ children_at t h → i < length cs
    → Nth t (below (subtree_at t h)) i (get_or cs i zero_handle)
nth_of t h cs i trees value within = rw value (trees i zero_handle (omega (arith, within, ap length value)))

-- the numbers of one child more
pub one_more : (t : Tree Element) (f : Forest Element) (i : ℕ) (c : Handle) → Nth t f i c → (acc new whole : List ℕ) → new ≡ acc ++ element_numbers (subtree_at t c)
    → acc ++ element_numbers (skip i f) ≡ whole → new ++ element_numbers (skip (i + 1) f) ≡ whole
one_more t f i c n acc new whole step so_far =
    ap (λ xs. xs ++ element_numbers (skip (i + 1) f)) (step ∙ ap (λ s. acc ++ element_numbers s) n.subtree)
    ∙ append_assoc acc (element_numbers (tree c n.value n.kids none)) (element_numbers (skip (i + 1) f))
    ∙ ap (λ xs. acc ++ xs) (sym (split c n.value n.kids (skip (i + 1) f)) ∙ sym (ap element_numbers n.skips))
    ∙ so_far

pub none_left : (t : Tree Element) (h : Handle) (cs : List Handle) (i : ℕ) → ((j : ℕ) (f : Forest Element) → length (tops f) ≤ j → skip j f ≡ none) → tops (below (subtree_at t h)) ≡ children_at t h
    → cs ≡ children_at t h → length cs ≤ i → skip i (below (subtree_at t h)) ≡ none
none_left t h cs i all listed value past = all i (below (subtree_at t h)) (omega (arith, past, ap length listed, ap length value))

pub all_there : (acc whole : List ℕ) (g : Forest Element) → g ≡ none → acc ++ element_numbers g ≡ whole → acc ≡ whole
all_there acc whole g e so_far = sym (append-nil acc) ∙ (sym (ap (λ s. acc ++ element_numbers s) e) ∙ so_far)

-- the number of a node, and then those below it
pub own_first : (s : Forest Element) (h : Handle) (e : Element) → s ≡ tree h e (below s) none → (old new : List ℕ) → new ≡ old ++ e.number ∷ [] → new ++ element_numbers (below s) ≡ old ++ element_numbers s
own_first s h e opened old new is =
    ap (λ xs. xs ++ element_numbers (below s)) is
    ∙ (append_assoc old (e.number ∷ []) (element_numbers (below s))
    ∙ ap (λ xs. old ++ xs) (ap (λ ns. e.number ∷ ns) (sym (append-nil (element_numbers (below s)))) ∙ sym (ap element_numbers opened)))

-- ---- of the tree for which they stand

forest_numbers : (scrolled : ℕ → ℕ) (f : Forest Element) → numbers_in (listed (nodes_of scrolled f)) ≡ element_numbers f
forest_numbers scrolled none = refl
forest_numbers scrolled (tree h e kids rest) = λ i. e.number ∷ (forest_numbers scrolled kids i ++ forest_numbers scrolled rest i)

tree_numbers : (old : Option PlainNode) → numbers_there old ≡ numbers_in (listed (option_to_list old))
tree_numbers None = refl
tree_numbers (Some n) = sym (append-nil (numbers_there (Some n)))

pub numbers_are : (old : Option PlainNode) (scrolled : ℕ → ℕ) (f : Forest Element) → option_to_list old ≡ nodes_of scrolled f → element_numbers f ≡ numbers_there old
numbers_are old scrolled f nodes = sym (forest_numbers scrolled f) ∙ (sym (ap (λ ns. numbers_in (listed ns)) nodes) ∙ sym (tree_numbers old))

-- ---- the root's tree is all of them

no_handle : (h : Handle) (hs : List Handle) → h ∷ hs ≡ [] → ⊥
no_handle h hs e = cc

first_same : (r h : Handle) (hs : List Handle) → r ∷ [] ≡ h ∷ hs → r ≡ h
first_same r h hs e = cc

no_more : (r h k : Handle) (hs : List Handle) → r ∷ [] ≡ h ∷ k ∷ hs → ⊥
no_more r h k hs e = cc

pub none_there : (f : Forest Element) → [] ≡ tops f → element_numbers f ≡ []
none_there none e = refl
none_there (tree h e kids rest) is = absurd (no_handle h (tops rest) (sym is))

pub root_subtree : (t : Tree Element) (f : Forest Element) (root : Handle) → Is t f → root ∷ [] ≡ tops f → subtree_at t root ≡ f
root_subtree t none root is one = absurd (no_handle root [] one)
root_subtree t (tree h e kids (tree k v below rest)) root is one = absurd (no_more root h k (tops rest) one)
root_subtree t (tree h e kids none) root is one =
    ap (subtree_at t) (first_same root h [] one)
    ∙ subtree_is t h (tree h e kids none) (record {
      top = refl;
      stands = subst (λ (p : Option Handle). Stands (node_at t) p (tree h e kids none)) (sym (ap parent_of is.stands.0)) is.stands;
      distinct = is.distinct;
    })

-- ---- by handles

-- a subtree that stands has an element at its top
pub held : (t : Tree Element) (h : Handle) → Holds t h → (e : Element) × (element_at t h ≡ Some e)
held t h holds = by_tree (subtree_at t h) holds.top holds.stands
  where
    same_top : (k : Handle) (hs : List Handle) → k ∷ hs ≡ h ∷ [] → k ≡ h
    same_top k hs e = cc

    by_tree : (s : Forest Element) → tops s ≡ h ∷ [] → Stands (node_at t) (parent_at t h) s → (e : Element) × (element_at t h ≡ Some e)
    by_tree none top stands = absurd (no_handle h [] (sym top))
    by_tree (tree k v kids rest) top stands =
        (v, ap (element_at t) (sym (same_top k (tops rest) top)) ∙ ap (option_map (λ (n : TreeNode Element). n.value)) stands.0)

number_is : (x : Option Element) (e : Element) (number : ℕ) → x ≡ Some e → Some number ≡ option_map (λ (v : Element). v.number) x → number ≡ e.number
number_is x e number is said = same_Some (said ∙ ap (option_map (λ (v : Element). v.number)) is)

-- its number comes first
pub first_number : (t : Tree Element) (h : Handle) (number : ℕ) → Holds t h → ((e : Element) → element_at t h ≡ Some e → subtree_at t h ≡ tree h e (below (subtree_at t h)) none)
    → Some number ≡ number_at t h → (old new : List ℕ) → new ≡ old ++ number ∷ [] → new ++ element_numbers (below (subtree_at t h)) ≡ old ++ element_numbers (subtree_at t h)
first_number t h number holds opened said old new is =
    let e = held t h holds in
    own_first (subtree_at t h) h e.0 (opened e.0 e.1) old new (is ∙ ap (λ n. old ++ n ∷ []) (number_is (element_at t h) e.0 number e.1 said))

pub has_number : (t : Tree Element) (h : Handle) → Holds t h → None ≡ number_at t h → ⊥
has_number t h holds said =
    let e = held t h holds in
    none_some e.0.number (said ∙ ap (option_map (λ (v : Element). v.number)) e.1)
  where
    none_some : (n : ℕ) → None ≡ Some n → ⊥
    none_some n e = cc
