-- Places in a tree of render nodes.
use Rattle.std.proofs.Common.{◌≡◌, ap, refl, sym, subst, ◌∙◌, ℕ, zero, suc, ◌+◌, ◌<◌, true, false, Option, Some, None, IsSome, option_map, List, [], ◌∷◌, length, arith}
use Rattle.std.specs.Prelude.{slice_index_or}
use Rattle.fx_handles.specs.declared.Handle.{Handle}
use Rattle.node_tree.specs.Children.{Nth}
use Rattle.node_tree.specs.Forest.{TreeNode, Forest, tops, below, skip}
use Rattle.node_tree.specs.Forest.Forest.{none, tree}
use Rattle.node_tree.specs.Tree.{Tree, IsNode, Holds, node_at, children_at, subtree_at, value_at}
use Rattle.widget_model.specs.Plain.{PlainWidget, look_of as widget_look, children_of as widget_children, list_of as widget_list, widgets_of}
use Rattle.plain_tree.specs.Render.{Render, list_of, lazy_count}
use Rattle.plain_tree.specs.RenderRole.{render_role_of}
use Rattle.kind_rules.specs.Cursor.{count_in, children_of}
use Rattle.render_tree.specs.Object.{RenderObject}
use Rattle.render_tree.specs.Plain.{lazy_children, renders_of}
use Rattle.layout_rules.specs.Places.{first_render, render_at}

-- the render nodes below a node
pub below_render : (f : Forest RenderObject) (h : Handle) (o : RenderObject) → f ≡ tree h o (below f) none → children_of (first_render f) ≡ list_of (renders_of (below f))
below_render f h o is = ap (λ (g : Forest RenderObject). children_of (first_render g)) is

length-renders : (f : Forest RenderObject) → length (list_of (renders_of f)) ≡ length (tops f)
length-renders none = refl
length-renders (tree h o kids rest) = ap suc (length-renders rest)

-- render node i of a list is the first of what is left of the forest
nth_render : (f : Forest RenderObject) (i : ℕ) (c : Handle) (o : RenderObject) (kids rest : Forest RenderObject) (z : Render) → skip i f ≡ tree c o kids rest
    → slice_index_or (list_of (renders_of f)) i z ≡ first_render (tree c o kids none)
nth_render none zero c o kids rest z is = absurd (none_tree c o kids rest is)
  where
    none_tree : (c : Handle) (o : RenderObject) (kids rest : Forest RenderObject) → none ≡ tree c o kids rest → ⊥
    none_tree c o kids rest e = cc
nth_render none (suc i) c o kids rest z is = absurd (none_tree c o kids rest is)
  where
    none_tree : (c : Handle) (o : RenderObject) (kids rest : Forest RenderObject) → none ≡ tree c o kids rest → ⊥
    none_tree c o kids rest e = cc
nth_render (tree h v below more) zero c o kids rest z is = ap (λ (g : Forest RenderObject). first_render g) is
nth_render (tree h v below more) (suc i) c o kids rest z is = nth_render more i c o kids rest z is

-- ---- a live node of a tree

none_same : {T : Type 0} (v : T) → None ≡ Some v → ⊥
none_same v e = cc

value_of : {T : Type 0} (n : Option (TreeNode T)) → IsSome n → (o : T) × (option_map (λ (x : TreeNode T). x.value) n ≡ Some o)
value_of (Some x) is = (x.value, refl)
value_of None is = absurd (unlike is)
  where
    unlike : false ≡ true → ⊥
    unlike e = cc

-- what walks over its children stand on
pub record IsPlace (t : Tree RenderObject) (h : Handle) : Type 0 where
  pub live : IsNode t h
  pub holds : Holds t h
  pub opened : (v : RenderObject) → value_at t h ≡ Some v → subtree_at t h ≡ tree h v (below (subtree_at t h)) none
  pub listed : tops (below (subtree_at t h)) ≡ children_at t h
  pub nth : (i : ℕ) (z : Handle) → i < length (children_at t h) → Nth t (below (subtree_at t h)) i (slice_index_or (children_at t h) i z)

place_children : (t : Tree RenderObject) (h : Handle) → IsPlace t h → children_of (render_at t h) ≡ list_of (renders_of (below (subtree_at t h)))
place_children t h p =
    let o = value_of (node_at t h) p.live in below_render (subtree_at t h) h o.0 (p.opened o.0 o.1)

pub place_len : (t : Tree RenderObject) (h : Handle) (hs : List Handle) → IsPlace t h → hs ≡ children_at t h → length hs ≡ length (children_of (render_at t h))
place_len t h hs p is =
    ap (λ (l : List Handle). length l) (is ∙ sym p.listed) ∙ sym (length-renders (below (subtree_at t h))) ∙ ap (λ (rs : List Render). length rs) (sym (place_children t h p))

pub place_less : (t : Tree RenderObject) (h : Handle) (hs : List Handle) (i : ℕ) → IsPlace t h → hs ≡ children_at t h → i < length (children_of (render_at t h)) → i < length hs
place_less t h hs i p is less = let same = place_len t h hs p is in omega arith

pub place_child : (t : Tree RenderObject) (h : Handle) (hs : List Handle) (i : ℕ) (z : Handle) (r : Render) → IsPlace t h → hs ≡ children_at t h → i < length hs
    → render_at t (slice_index_or hs i z) ≡ slice_index_or (children_of (render_at t h)) i r
place_child t h hs i z r p is less =
    let within : i < length (children_at t h) = subst (λ (l : List Handle). i < length l) is less in
    let nth = p.nth i z within in
    ap (λ (l : List Handle). render_at t (slice_index_or l i z)) is
    ∙ ap (λ (f : Forest RenderObject). first_render f) nth.subtree
    ∙ sym (nth_render (below (subtree_at t h)) i (slice_index_or (children_at t h) i z) nth.value nth.kids (skip (i + 1) (below (subtree_at t h))) r nth.skips)
    ∙ ap (λ (rs : List Render). slice_index_or rs i r) (sym (place_children t h p))

pub place_live : (t : Tree RenderObject) (h : Handle) (hs : List Handle) (i : ℕ) (z : Handle) → IsPlace t h → hs ≡ children_at t h → i < length hs → IsNode t (slice_index_or hs i z)
place_live t h hs i z p is less =
    let within : i < length (children_at t h) = subst (λ (l : List Handle). i < length l) is less in
    let nth = p.nth i z within in
    subst (λ (l : List Handle). IsNode t (slice_index_or l i z)) (sym is) (live_of (node_at t (slice_index_or (children_at t h) i z)) nth.value nth.value_is)
  where
    live_of : {T : Type 0} (n : Option (TreeNode T)) (v : T) → option_map (λ (x : TreeNode T). x.value) n ≡ Some v → IsSome n
    live_of (Some x) v e = refl
    live_of None v e = absurd (none_same v e)

-- the number of child widgets
pub place_count : (t : Tree RenderObject) (h : Handle) (o : RenderObject) (n : ℕ) → IsPlace t h → value_at t h ≡ Some o → n ≡ lazy_children o → n ≡ count_in (render_at t h)
place_count t h o n p is same = same ∙ sym (ap (λ (f : Forest RenderObject). count_in (first_render f)) (p.opened o is))

widget_count : (t : Tree RenderObject) (h : Handle) (w : PlainWidget) (n : ℕ) (v : Option RenderObject) → IsPlace t h → value_at t h ≡ v → Some w ≡ option_map (λ (o : RenderObject). o.widget) v
    → n ≡ lazy_count (render_role_of (widget_look w)) (widget_children w) → n ≡ count_in (render_at t h)
widget_count t h w n (Some o) p value is same =
    place_count t h o n p value (same ∙ ap (λ (x : PlainWidget). lazy_count (render_role_of (widget_look x)) (widget_children x)) (same_one w o.widget is))
  where
    same_one : (x y : PlainWidget) → Some x ≡ Some y → x ≡ y
    same_one x y e = cc
widget_count t h w n None p value is same = absurd (none_same w (sym is))

pub place_widgets : (t : Tree RenderObject) (h : Handle) (w : PlainWidget) (n : ℕ) → IsPlace t h → Some w ≡ option_map (λ (o : RenderObject). o.widget) (value_at t h)
    → n ≡ lazy_count (render_role_of (widget_look w)) (widget_children w) → n ≡ count_in (render_at t h)
place_widgets t h w n p is same = widget_count t h w n (value_at t h) p refl is same

-- the children of a widget as a list
pub widgets_listed : (ws : List PlainWidget) → widget_list (widgets_of ws) ≡ ws
widgets_listed [] = refl
widgets_listed (w ∷ ws) = ap (λ (l : List PlainWidget). w ∷ l) (widgets_listed ws)
