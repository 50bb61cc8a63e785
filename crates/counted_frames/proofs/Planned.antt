-- What the plan of a first phase makes of render nodes: below each lazy list stays what it had, without what the plan names.
use Rattle.std.proofs.Common.{◌≡◌, Bool, true, false, cond, if◌then◌else◌, Option, Some, None, option_map, List, [], ◌∷◌, ◌++◌, map, refl, sym, ap, ◌∙◌}
use Rattle.std.proofs.lemmas.List.{append-nil}
use Rattle.fx_handles.specs.declared.Handle.{Handle}
use Rattle.node_tree.specs.Forest.{Forest, below, pruned, map_values}
use Rattle.node_tree.specs.Forest.Forest.{none, tree}
use Rattle.node_tree.specs.Part.{is_named}
use Rattle.node_tree.specs.Plan.{entries, IsUpdated}
use Rattle.node_tree.specs.Tree.{Tree, subtree_at}
use Rattle.widget_model.specs.Look.{Look, sliver_lazy}
use Rattle.layout_walk.specs.Rules.{is_list}
use Rattle.build_form.specs.BuildRole.{build_role_of, is_lazy}
use Rattle.render_tree.specs.Object.{RenderObject, object_look}
use Rattle.render_tree.specs.Redraw.{Redraw, redrawn}
use Rattle.render_tree.specs.Tree.{object_at}
use Rattle.build_walk.specs.Merging.{lists_items, lists_redraw, Grown, grown, grown_below, grow, list_handles}
use Rattle.build_owner.specs.Staying.{redraw_now, left_items, with_items}
use Rattle.counted_phases.specs.Outer.{ListOr}

pub no_some : {A B : Type 0} (x : A) → None ≡ Some x → B
no_some x e = absurd (cc)

pub some_is : {A : Type 0} (x y : A) → Some x ≡ Some y → x ≡ y
some_is x y e = cc

-- ---- each list has its items

abbrev pub with_below : (Handle → Forest Redraw) → Forest Redraw → Forest Redraw
with_below items none = none
with_below items (tree h u kids rest) = tree h u (cond (lists_redraw u) (items h) (with_below items kids)) (with_below items rest)

module _ (items : Handle → Forest Redraw) where
  append_map : (xs ys : List Handle) (more : List (Forest Redraw)) → map items (xs ++ ys) ++ more ≡ map items xs ++ (map items ys ++ more)
  append_map [] ys more = refl
  append_map (x ∷ xs) ys more = ap (λ l. items x ∷ l) (append_map xs ys more)

  below_each : (t : Bool) (h : Handle) (kids : Forest Redraw) (more : List (Forest Redraw)) → ((gs : List (Forest Redraw)) → grow lists_redraw kids (map items (list_handles lists_redraw kids) ++ gs) ≡ grown (with_below items kids) gs)
      → grown_below t (map items (cond t (h ∷ []) (list_handles lists_redraw kids)) ++ more) (grow lists_redraw kids (map items (cond t (h ∷ []) (list_handles lists_redraw kids)) ++ more))
      ≡ grown (cond t (items h) (with_below items kids)) more
  below_each true h kids more go = refl
  below_each false h kids more go = go more

  grown_each : (d : Forest Redraw) (more : List (Forest Redraw)) → grow lists_redraw d (map items (list_handles lists_redraw d) ++ more) ≡ grown (with_below items d) more
  grown_each none more = refl
  grown_each (tree h u kids rest) more =
      let own = cond (lists_redraw u) (h ∷ []) (list_handles lists_redraw kids) in
      let later = map items (list_handles lists_redraw rest) ++ more in
      ap (grow lists_redraw (tree h u kids rest)) (append_map own (list_handles lists_redraw rest) more)
      ∙ ap (λ (b : Grown Redraw). grown (tree h u b.forest (grow lists_redraw rest b.rest).forest) (grow lists_redraw rest b.rest).rest) (below_each (lists_redraw u) h kids later (grown_each kids))
      ∙ ap (λ (b : Grown Redraw). grown (tree h u (cond (lists_redraw u) (items h) (with_below items kids)) b.forest) b.rest) (grown_each rest more)

pub items_each : (t : Tree RenderObject) (d : Forest Redraw) → with_items t d ≡ with_below (left_items t (is_named (entries None d))) d
items_each t d =
    let g = left_items t (is_named (entries None d)) in
    ap (λ gs. (grow lists_redraw d gs).forest) (sym (append-nil (map g (list_handles lists_redraw d)))) ∙ ap (λ (x : Grown Redraw). x.forest) (grown_each g d [])

-- ---- what a plan leaves as it is

list_kind : (look : Look) → is_list look ≡ is_lazy (build_role_of look)
list_kind (sliver_lazy extent) = refl
list_kind look = refl

module _ (at : Handle → Option RenderObject) where
  -- a node that gets what it has
  pub one_stays : (h : Handle) (o w : RenderObject) → at h ≡ Some o → option_map (redrawn (redraw_now o)) (at h) ≡ Some w → w ≡ o
  one_stays h o w stored is = sym (some_is o w (sym (ap (option_map (redrawn (redraw_now o))) stored) ∙ is))

  -- the widget of a node is the plan's
  pub widget_is : (u : Redraw) (w : RenderObject) (x : Option RenderObject) → option_map (redrawn u) x ≡ Some w → w.widget ≡ u.widget
  widget_is u w None is = no_some w is
  widget_is u w (Some o) is = ap (λ (v : RenderObject). v.widget) (sym (some_is (redrawn u o) w is))

  pub list_is : (u : Redraw) (w : RenderObject) (x : Option RenderObject) → option_map (redrawn u) x ≡ Some w → lists_redraw u ≡ is_list (object_look w)
  list_is u w x is = ap lists_items (sym (widget_is u w x is)) ∙ sym (list_kind (object_look w))

-- each of these nodes is stored at its handle, with what is below it
abbrev pub AllStored : (Handle → Option RenderObject) → Forest RenderObject → Type 0
AllStored at none = Unit {0}
AllStored at (tree h o kids rest) = (at h ≡ Some o) × AllStored at kids × AllStored at rest

pub all_stay : (at : Handle → Option RenderObject) (f g : Forest RenderObject) → AllStored at f → IsUpdated redrawn at (map_values (λ k o. redraw_now o) f) g → g ≡ f
all_stay at none none stored u = refl
all_stay at none (tree k w under rest) stored u = absurd u
all_stay at (tree h o kids more) none stored u = absurd u
all_stay at (tree h o kids more) (tree k w under rest) stored u =
    λ i. tree (sym u.0 i) (one_stays at h o w stored.0 u.1 i) (all_stay at kids under stored.1 u.2 i) (all_stay at more rest stored.2 u.3 i)

pub pruned_stored : (at : Handle → Option RenderObject) (drops : Handle → Bool) (f : Forest RenderObject) → AllStored at f → AllStored at (pruned drops f)
pruned_stored at drops none stored = tt
pruned_stored at drops (tree h o kids rest) stored = by (drops h) (pruned_stored at drops kids stored.1) (pruned_stored at drops rest stored.2)
  where
    by : (b : Bool) → AllStored at (pruned drops kids) → AllStored at (pruned drops rest) → AllStored at (if b then pruned drops rest else tree h o (pruned drops kids) (pruned drops rest))
    by true inner later = later
    by false inner later = (stored.0, inner, later)

module _ (made : Tree RenderObject) (named : Handle → Bool) where
  -- below each lazy list are the nodes that were there, without those that are named
  abbrev pub HoldLeft : Forest RenderObject → Type 0
  HoldLeft none = Unit {0}
  HoldLeft (tree k w under rest) = ListOr (is_list (object_look w)) (under ≡ pruned named (below (subtree_at made k))) (HoldLeft under) × HoldLeft rest

  module _ (items_stored : (h : Handle) (o : RenderObject) → object_at made h ≡ Some o → AllStored (object_at made) (below (subtree_at made h))) where
    pub hold_left : (D : Forest Redraw) (g : Forest RenderObject) → IsUpdated redrawn (object_at made) (with_below (left_items made named) D) g → HoldLeft g
    hold_left none none u = tt
    hold_left none (tree k w under rest) u = absurd u
    hold_left (tree h x kids more) none u = absurd u
    hold_left (tree h x kids more) (tree k w under rest) u = (
      by (lists_redraw x) (is_list (object_look w)) (list_is (object_at made) x w (object_at made h) u.1) u.2 (λ below_u. hold_left kids under below_u),
      hold_left more rest u.3,
    )
      where
        items : (j : Handle) → h ≡ j → (y : Option RenderObject) → object_at made h ≡ y → IsUpdated redrawn (object_at made) (left_items made named h) under → under ≡ pruned named (below (subtree_at made j))
        items j e None at v = no_some w (sym (ap (option_map (redrawn x)) at) ∙ u.1)
        items j e (Some o) at v =
            all_stay (object_at made) (pruned named (below (subtree_at made h))) under (pruned_stored (object_at made) named (below (subtree_at made h)) (items_stored h o at)) v
            ∙ ap (λ y. pruned named (below (subtree_at made y))) e

        by : (t b : Bool) → t ≡ b → IsUpdated redrawn (object_at made) (cond t (left_items made named h) (with_below (left_items made named) kids)) under
            → (IsUpdated redrawn (object_at made) (with_below (left_items made named) kids) under → HoldLeft under) → ListOr b (under ≡ pruned named (below (subtree_at made k))) (HoldLeft under)
        by true true e v go = items k u.0 (object_at made h) refl v
        by true false e v go = cc
        by false true e v go = cc
        by false false e v go = go v
