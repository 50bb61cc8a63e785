-- Trees without global keys: as the registry tells it, and where nodes of the tree are changed.
use Rattle.std.proofs.Common.{◌≡◌, ◌↔◌, IsTrue, ℕ, ◌==◌, Bool, true, false, not, ◌||◌, cond, Option, Some, None, is_some, option_map, List, [], ◌∷◌, refl, sym, ap, subst, ◌∙◌, true≢false, arith}
use Rattle.std.specs.Option.{option_to_list}
use Rattle.fx_expr.specs.declared.values.Value.{Value}
use Rattle.fx_handles.specs.declared.Handle.{Handle}
use Rattle.node_tree.specs.Forest.{TreeNode, Forest, tops, In, Stands}
use Rattle.node_tree.specs.Forest.Forest.{none, tree}
use Rattle.node_tree.specs.Tree.{Tree, Is, IsNode, node_at, subtree_at}
use Rattle.node_tree.proofs.TreeLemmas.{is_node}
use Rattle.widget_keys.specs.declared.keys.Key.{Key}
use Rattle.widget_keys.specs.declared.keys.Key.TheVariants as key
use Rattle.widget_model.specs.Plain.{key_of}
use Rattle.program_check.specs.Checked.{PlainChecked}
use Rattle.plain_tree.specs.At.{is_there, changed_at, changed_in, having_fields, having_scroll}
use Rattle.plain_tree.specs.Offsets.{scrolled_by, all_scrolled_by}
use Rattle.plain_tree.specs.PlainNode.{PlainNode, node, PlainNodes, no_nodes, more_nodes, nodes_of as listed}
use Rattle.element_tree.specs.Element.{Element, element_at}
use Rattle.element_tree.specs.Nodes.{nodes_of}
use Rattle.global_keys.specs.declared.registry.Holder.{Holder}
use Rattle.global_keys.specs.Holders.{Registry, recorded}
use Rattle.global_keys.specs.Named.{global_in, global_of, global_at, NamesExactly}
use Rattle.render_tree.specs.Object.{RenderObject}
use Rattle.build_walk.specs.Standing.{ElementsStandFor}
use Rattle.settled_builds.specs.Places.{IsNoGlobal, HasNoGlobals, HaveNoGlobals}
use Rattle.build_owner.specs.Standing.{StandsFor}
use Rattle.frame_owner.specs.Nodes.{globals_among, globals_below}
use Rattle.frame_owner.proofs.Numbering.{root_subtree}
use Rattle.frame_owner.proofs.Windows.{in_parts}

abbrev is_keyed : Element → Bool
is_keyed e = is_some (global_in (key_of e.widget))

stored_element : (t : Tree Element) (h : Handle) (p : Option Handle) (e : Element) (kids : Forest Element) → node_at t h ≡ Some (record { parent = p; children = tops kids; value = e }) → element_at t h ≡ Some e
stored_element t h p e kids at = ap (option_map (λ (n : TreeNode Element). n.value)) at

-- ---- of the tree for which they stand

left_off : (a b : Bool) → (a || b) ≡ false → a ≡ false
left_off true b off = absurd (true≢false off)
left_off false b off = refl

right_off : (a b : Bool) → (a || b) ≡ false → b ≡ false
right_off true b off = absurd (true≢false off)
right_off false b off = off

-- where no key is recorded no widget has one
global_none : (g : Registry) (t : Tree Element) → NamesExactly g t → ((k : Value) → recorded g k ≡ None) → (h : Handle) → global_at t h ≡ None
global_none g t names empty h = by_key (global_at t h) refl
  where
    none_some : (k : Handle) → None ≡ Some k → ⊥
    none_some k e = cc

    by_key : (o : Option Value) → global_at t h ≡ o → global_at t h ≡ None
    by_key None e = e
    by_key (Some k) e = absurd (none_some h (sym (ap (option_map (λ (x : Holder). x.node)) (empty k)) ∙ names.to_holder k h e))

none_keyed_there : (t : Tree Element) (p : Option Handle) (f : Forest Element) → Stands (node_at t) p f → ((h : Handle) → global_at t h ≡ None) → globals_among f ≡ false
none_keyed_there t p none stands off = refl
none_keyed_there t p (tree h e kids rest) stands off =
    let own : is_keyed e ≡ false = sym (ap is_some (ap global_of (stored_element t h p e kids stands.0))) ∙ ap is_some (off h) in
    ap (λ (b : Bool). b || (globals_among kids || globals_among rest)) own
    ∙ (ap (λ (b : Bool). b || globals_among rest) (none_keyed_there t (Some h) kids stands.1 off) ∙ none_keyed_there t p rest stands.2 off)

-- and where no widget has one none is recorded
unkeyed : (o : Option Value) → is_some o ≡ false → o ≡ None
unkeyed None e = refl
unkeyed (Some k) e = absurd (true≢false e)

unkeyed_in : (t : Tree Element) (p : Option Handle) (f : Forest Element) → Stands (node_at t) p f → globals_among f ≡ false → (h : Handle) → In h f → global_at t h ≡ None
unkeyed_in t p none stands off h i = absurd (omega (arith, i))
unkeyed_in t p (tree k e kids rest) stands off h i =
    let later = right_off (is_keyed e) (globals_among kids || globals_among rest) off in
    in_parts h k e kids rest (global_at t h ≡ None) i
    (λ same. ap (global_at t) (sym same) ∙ (ap global_of (stored_element t k p e kids stands.0) ∙ unkeyed (global_in (key_of e.widget)) (left_off (is_keyed e) (globals_among kids || globals_among rest) off)))
    (λ below. unkeyed_in t (Some k) kids stands.1 (left_off (globals_among kids) (globals_among rest) later) h below)
    (λ after. unkeyed_in t p rest stands.2 (right_off (globals_among kids) (globals_among rest) later) h after)

none_named : (g : Registry) (t : Tree Element) (f : Forest Element) → NamesExactly g t → Is t f → globals_among f ≡ false → (k : Value) → recorded g k ≡ None
none_named g t f names is off k = by_holder (recorded g k) refl
  where
    none_some : None ≡ Some k → ⊥
    none_some e = cc

    live : (h : Handle) (o : Option (TreeNode Element)) → node_at t h ≡ o → global_at t h ≡ Some k → IsNode t h
    live h None e keyed = absurd (none_some (sym (ap (λ (x : Option (TreeNode Element)). global_of (option_map (λ (n : TreeNode Element). n.value) x)) e) ∙ keyed))
    live h (Some n) e keyed = is_node (node_at t h) n e

    by_holder : (o : Option Holder) → recorded g k ≡ o → recorded g k ≡ None
    by_holder None e = e
    by_holder (Some x) e =
        let keyed = names.to_element k x.node (ap (option_map (λ (y : Holder). y.node)) e) in
        absurd (none_some (sym (unkeyed_in t None f is.stands off x.node (is.whole x.node (live x.node (node_at t x.node) refl keyed))) ∙ keyed))

opposite : (a b : Bool) → (IsTrue a → b ≡ false) → (b ≡ false → IsTrue a) → a ≡ not b
opposite true true off on = absurd (true≢false (off refl))
opposite true false off on = refl
opposite false true off on = refl
opposite false false off on = on refl

pub keyless_where_none : (c : PlainChecked) (marks : List ℕ) (made : Option PlainNode) (scrolled : ℕ → ℕ) (t : Tree Element) (r : Tree RenderObject) (g : Registry) (answer : Bool)
    → StandsFor c marks made scrolled t r g → (IsTrue answer ↔ ((k : Value) → recorded g k ≡ None)) → answer ≡ not (globals_below t t.root)
keyless_where_none c marks made scrolled t r g answer h empty =
    opposite answer (globals_among s.forest) (λ on. none_keyed_there t None s.forest s.is.stands (global_none g t h.names (empty.0 on))) (λ off. empty.1 (none_named g t s.forest h.names s.is off))
    ∙ sym (ap not (by_root t.root refl))
  where
    s : ElementsStandFor c marks made scrolled t
    s = h.elements

    no_handle : (k : Handle) (hs : List Handle) → [] ≡ k ∷ hs → ⊥
    no_handle k hs e = cc

    none_there : (f : Forest Element) → [] ≡ tops f → false ≡ globals_among f
    none_there none e = refl
    none_there (tree k v kids rest) e = absurd (no_handle k (tops rest) e)

    by_root : (o : Option Handle) → t.root ≡ o → globals_below t t.root ≡ globals_among s.forest
    by_root None e = ap (globals_below t) e ∙ none_there s.forest (ap option_to_list (sym e) ∙ s.root)
    by_root (Some top) e = ap (globals_below t) e ∙ ap globals_among (root_subtree t s.forest top s.is (ap option_to_list (sym e) ∙ s.root))

no_global : (k : Key Value) → is_some (global_in k) ≡ false → IsNoGlobal k
no_global key.None off = tt
no_global (key.Local v) off = tt
no_global (key.Global v) off = absurd (true≢false off)

none_keyed : (scrolled : ℕ → ℕ) (f : Forest Element) → globals_among f ≡ false → HaveNoGlobals (listed (nodes_of scrolled f))
none_keyed scrolled none off = tt
none_keyed scrolled (tree h e kids rest) off =
    let later = right_off (is_keyed e) (globals_among kids || globals_among rest) off in (
      (no_global (key_of e.widget) (left_off (is_keyed e) (globals_among kids || globals_among rest) off), none_keyed scrolled kids (left_off (globals_among kids) (globals_among rest) later)),
      none_keyed scrolled rest (right_off (globals_among kids) (globals_among rest) later),
    )

not_on : (b : Bool) → not b ≡ true → b ≡ false
not_on true e = cc
not_on false e = refl

pub keyless_tree : (c : PlainChecked) (marks : List ℕ) (n : PlainNode) (scrolled : ℕ → ℕ) (t : Tree Element) (r : Tree RenderObject) (g : Registry) (answer : Bool) → StandsFor c marks (Some n) scrolled t r g
    → answer ≡ not (globals_below t t.root) → answer ≡ true → HasNoGlobals n
keyless_tree c marks n scrolled t r g answer h is on = by_root t.root refl
  where
    s : ElementsStandFor c marks (Some n) scrolled t
    s = h.elements

    no_node : n ∷ [] ≡ [] → ⊥
    no_node e = cc

    no_handle : (k : Handle) (hs : List Handle) → [] ≡ k ∷ hs → ⊥
    no_handle k hs e = cc

    none_there : (f : Forest Element) → n ∷ [] ≡ nodes_of scrolled f → [] ≡ tops f → ⊥
    none_there none nodes roots = no_node nodes
    none_there (tree k e kids rest) nodes roots = no_handle k (tops rest) roots

    by_root : (o : Option Handle) → t.root ≡ o → HasNoGlobals n
    by_root None e = absurd (none_there s.forest s.nodes (ap option_to_list (sym e) ∙ s.root))
    by_root (Some top) e =
        let whole : subtree_at t top ≡ s.forest = root_subtree t s.forest top s.is (ap option_to_list (sym e) ∙ s.root) in
        let off : globals_among s.forest ≡ false = sym (ap (globals_below t) e ∙ ap globals_among whole) ∙ not_on (globals_below t t.root) (sym is ∙ on) in
        (subst (λ (ns : List PlainNode). HaveNoGlobals (listed ns)) (sym s.nodes) (none_keyed scrolled s.forest off)).0

-- ---- where nodes are changed

module _ (change : PlainNode → PlainNode) (wanted : ℕ) (keeps : (n : PlainNode) → HasNoGlobals n → HasNoGlobals (change n)) where
  by_number : (b : Bool) (x y : PlainNode) → HasNoGlobals x → HasNoGlobals y → HasNoGlobals (cond {A = PlainNode} b x y)
  by_number true x y a b = a
  by_number false x y a b = b

  by_place : (b : Bool) (x y : PlainNodes) → HaveNoGlobals x → HaveNoGlobals y → HaveNoGlobals (cond {A = PlainNodes} b x y)
  by_place true x y a b = a
  by_place false x y a b = b

  mutual
    pub changed_keyless : (n : PlainNode) → HasNoGlobals n → HasNoGlobals (changed_at change wanted n)
    changed_keyless (node number widget fields scroll index children) h =
        by_number (number == wanted) (change (node number widget fields scroll index children)) (node number widget fields scroll index (changed_in change wanted children))
        (keeps (node number widget fields scroll index children) h) (h.0, all_changed_keyless children h.1)

    all_changed_keyless : (ns : PlainNodes) → HaveNoGlobals ns → HaveNoGlobals (changed_in change wanted ns)
    all_changed_keyless no_nodes h = tt
    all_changed_keyless (more_nodes n ns) h =
        by_place (is_there wanted n) (more_nodes (changed_at change wanted n) ns) (more_nodes n (changed_in change wanted ns)) (changed_keyless n h.0, h.1) (h.0, all_changed_keyless ns h.1)

pub fields_keyless : (fields : List Value) (n : PlainNode) → HasNoGlobals n → HasNoGlobals (having_fields fields n)
fields_keyless fields (node number widget was scroll index children) h = h

pub scroll_keyless : (scroll : ℕ) (n : PlainNode) → HasNoGlobals n → HasNoGlobals (having_scroll scroll n)
scroll_keyless scroll (node number widget fields was index children) h = h

module _ (offset : ℕ → Option ℕ) where
  mutual
    pub offsets_keyless : (n : PlainNode) → HasNoGlobals n → HasNoGlobals (scrolled_by offset n)
    offsets_keyless (node number widget fields scroll index children) h = (h.0, all_offsets_keyless children h.1)

    all_offsets_keyless : (ns : PlainNodes) → HaveNoGlobals ns → HaveNoGlobals (all_scrolled_by offset ns)
    all_offsets_keyless no_nodes h = tt
    all_offsets_keyless (more_nodes n ns) h = (offsets_keyless n h.0, all_offsets_keyless ns h.1)
