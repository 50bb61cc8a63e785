-- The lazy lists in the window, found one after another.
use Rattle.std.specs.Prelude.{option_and_then}
use Rattle.std.proofs.Common.{◌≡◌, ◌+◌, ◌<◌, ℕ, Bool, true, false, cond, if◌then◌else◌, Option, Some, None, option_map, List, [], ◌∷◌, ◌++◌, length, get_or, refl, ap, sym, subst, ◌∙◌, arith}
use Rattle.std.proofs.lemmas.List.{append_assoc, append-nil}
use Rattle.fx_handles.specs.declared.Handle.{Handle}
use Rattle.node_tree.specs.Forest.{TreeNode, Forest, Stands, below, skip}
use Rattle.node_tree.specs.Forest.Forest.{none, tree}
use Rattle.node_tree.specs.Tree.{Tree, Holds, node_at, parent_at, value_at, children_at, subtree_at}
use Rattle.node_tree.specs.Children.{Nth}
use Rattle.node_tree.proofs.ForestLemmas.{same_Some}
use Rattle.sliver_layout.specs.declared.protocol.SliverBounds.{SliverBounds}
use Rattle.widget_model.specs.Look.{Look, sliver_lazy}
use Rattle.widget_model.specs.Plain.{PlainWidget, look_of, children_of}
use Rattle.plain_tree.specs.Render.{lazy_count}
use Rattle.plain_tree.specs.RenderRole.{render_role_of}
use Rattle.render_tree.specs.Object.{RenderObject, sliver_in}
use Rattle.render_tree.specs.Plain.{lazy_children}
use Rattle.render_tree.specs.Tree.{object_at, frame_at}
use Rattle.layout_walk.specs.Rules.{lazy_extent}
use Rattle.render_tree.specs.Readings.{shown_of}
use Rattle.layout_owner.specs.Ranges.{range_in, range_of, lists_items, lists_in_window}
use Rattle.layout_owner.proofs.Rooting.{one_tree}

lists_split : (h : Handle) (o : RenderObject) (kids rest : Forest RenderObject) → lists_in_window (tree h o kids rest) ≡ lists_in_window (tree h o kids none) ++ lists_in_window rest
lists_split h o kids rest =
    let own : List Handle = if o.shown then (if lists_items o then h ∷ [] else lists_in_window kids) else [] in
    ap (λ xs. xs ++ lists_in_window rest) (sym (append-nil own))

-- one child more
pub list_more : (t : Tree RenderObject) (f : Forest RenderObject) (i : ℕ) (c : Handle) → Nth t f i c → (acc new whole : List Handle)
    → new ≡ acc ++ lists_in_window (subtree_at t c) → acc ++ lists_in_window (skip i f) ≡ whole → new ++ lists_in_window (skip (i + 1) f) ≡ whole
list_more t f i c n acc new whole step so_far =
    ap (λ xs. xs ++ lists_in_window (skip (i + 1) f)) (step ∙ ap (λ s. acc ++ lists_in_window s) n.subtree)
    ∙ append_assoc acc (lists_in_window (tree c n.value n.kids none)) (lists_in_window (skip (i + 1) f))
    ∙ ap (λ xs. acc ++ xs) (sym (lists_split c n.value n.kids (skip (i + 1) f)) ∙ sym (ap lists_in_window n.skips))
    ∙ so_far

-- at a node
pub lists_here : (t : Tree RenderObject) (h : Handle) (o : RenderObject) → subtree_at t h ≡ tree h o (below (subtree_at t h)) none → (shown list : Bool)
    → o.shown ≡ shown → lists_items o ≡ list
    → lists_in_window (subtree_at t h) ≡ (if shown then (if list then h ∷ [] else lists_in_window (below (subtree_at t h))) else [])
lists_here t h o opened shown list is_shown is_list =
    let kids = below (subtree_at t h) in
    ap lists_in_window opened
    ∙ append-nil (if o.shown then (if lists_items o then h ∷ [] else lists_in_window kids) else [])
    ∙ ap (λ (b : Bool). cond {A = List Handle} b (if lists_items o then h ∷ [] else lists_in_window kids) []) is_shown
    ∙ ap (λ (b : Bool). cond {A = List Handle} shown (cond {A = List Handle} b (h ∷ []) (lists_in_window kids)) []) is_list

-- ---- a node that holds

pub record NodeValue (t : Tree RenderObject) (h : Handle) : Type 0 where
  pub value : RenderObject
  pub is : value_at t h ≡ Some value

pub node_value : (t : Tree RenderObject) (h : Handle) → Holds t h → NodeValue t h
node_value t h holds =
    let one = one_tree (subtree_at t h) h holds.top in
    let stands = subst (λ (f : Forest RenderObject). Stands (node_at t) (parent_at t h) f) one.is holds.stands in
    record { value = one.value; is = ap (λ (n : Option (TreeNode RenderObject)). option_map (λ (m : TreeNode RenderObject). m.value) n) stands.0 }

abbrev pub Opens : Tree RenderObject → Handle → Type 0
Opens t h = (o : RenderObject) → Holds t h → value_at t h ≡ Some o → subtree_at t h ≡ tree h o (below (subtree_at t h)) none

abbrev pub ListIs : Tree RenderObject → Handle → Bool → Type 0
ListIs t h b = (o : RenderObject) → value_at t h ≡ Some o → b ≡ lists_items o

pub listed : (t : Tree RenderObject) (h : Handle) → Holds t h → Opens t h → (shown list : Bool) → shown_of (value_at t h) ≡ shown → (shown ≡ true → ListIs t h list)
    → lists_in_window (subtree_at t h) ≡ (if shown then (if list then h ∷ [] else lists_in_window (below (subtree_at t h))) else [])
listed t h holds opens true list is_shown is_list =
    let n = node_value t h holds in
    lists_here t h n.value (opens n.value holds n.is) true list (sym (ap shown_of n.is) ∙ is_shown) (sym (is_list refl n.value n.is))
listed t h holds opens false list is_shown is_list =
    let n = node_value t h holds in
    lists_here t h n.value (opens n.value holds n.is) false (lists_items n.value) (sym (ap shown_of n.is) ∙ is_shown) refl

-- ---- the children

abbrev pub zero_handle : Handle
zero_handle = record { index = 0; generation = 0 }

pub nth_of : (t : Tree RenderObject) (h : Handle) (cs : List Handle) (i : ℕ)
    → ((i : ℕ) (z : Handle) → i < length (children_at t h) → Nth t (below (subtree_at t h)) i (get_or (children_at t h) i z)) → cs ≡ children_at t h → i < length cs
    → Nth t (below (subtree_at t h)) i (get_or cs i zero_handle)
nth_of t h cs i trees value within =
    rw value (trees i zero_handle (omega (arith, within, ap (λ (xs : List Handle). length xs) value)))

pub list_end : (f : Forest RenderObject) (i : ℕ) (acc whole : List Handle) → skip i f ≡ none → acc ++ lists_in_window (skip i f) ≡ whole → acc ≡ whole
list_end f i acc whole over so_far = sym (append-nil acc) ∙ ap (λ (g : Forest RenderObject). acc ++ lists_in_window g) (sym over) ∙ so_far

-- ---- what is read of a list

none_some : {X : Type 0} (x : X) → None ≡ Some x → ⊥
none_some x e = cc

pub widget_is : (a : Option PlainWidget) (n : Option RenderObject) (w : PlainWidget) (o : RenderObject) → a ≡ option_map (λ (x : RenderObject). x.widget) n → a ≡ Some w → n ≡ Some o
    → w ≡ o.widget
widget_is a n w o read is there = same_Some (sym is ∙ read ∙ ap (λ (x : Option RenderObject). option_map (λ (y : RenderObject). y.widget) x) there)

pub no_widget : (a : Option PlainWidget) (n : Option RenderObject) (o : RenderObject) → a ≡ option_map (λ (x : RenderObject). x.widget) n → a ≡ None → n ≡ Some o → ⊥
no_widget a n o read is there = none_some o.widget (sym is ∙ read ∙ ap (λ (x : Option RenderObject). option_map (λ (y : RenderObject). y.widget) x) there)

count_is : (look : Look) (ws : List PlainWidget) (extent : ℕ) → lazy_extent look ≡ Some extent → lazy_count (render_role_of look) ws ≡ length ws
count_is (sliver_lazy n) ws extent e = refl
count_is _ ws extent e = absurd (none_some extent e)

pub range_is : (t : Tree RenderObject) (h : Handle) (o : RenderObject) (w : PlainWidget) (extent n widen : ℕ) (view : Option SliverBounds) → object_at t h ≡ Some o → w ≡ o.widget
    → lazy_extent (look_of w) ≡ Some extent → n ≡ length (children_of w) → view ≡ sliver_in (frame_at t h) → Some (range_in view extent n widen) ≡ range_of widen o
range_is t h o w extent n widen view there same is few seen =
    let look : lazy_extent (look_of o.widget) ≡ Some extent = ap (λ (x : PlainWidget). lazy_extent (look_of x)) (sym same) ∙ is in
    let count : n ≡ lazy_children o = few ∙ ap (λ (x : PlainWidget). length (children_of x)) same ∙ sym (count_is (look_of o.widget) (children_of o.widget) extent look) in
    let frame : view ≡ sliver_in o.frame = seen ∙ ap (λ (x : Option RenderObject). sliver_in (option_and_then (λ (y : RenderObject). y.frame) x)) there in
    ap (λ (x : Option SliverBounds). Some (range_in x extent n widen)) frame
    ∙ ap (λ (k : ℕ). Some (range_in (sliver_in o.frame) extent k widen)) count
    ∙ ap (λ (x : Option ℕ). option_map (λ (k : ℕ). range_in (sliver_in o.frame) k (lazy_children o) widen) x) (sym look)
