-- GroupParts of a group, with the kept layers in their places, against what a full painting gives.
use Rattle.std.proofs.Common.{◌≡◌, Bool, true, false, not, ◌&&◌, if◌then◌else◌, Some, List, [], ◌∷◌, ◌++◌, map, refl, ap, sym, ◌∙◌, true≢false}
use Rattle.std.proofs.lemmas.List.{map-append}
use Rattle.fx_handles.specs.declared.Handle.{Handle}
use Rattle.fx_geom.specs.declared.shapes.Offset.{Offset}
use Rattle.fx_geom.specs.declared.shapes.Size.{Size}
use Rattle.fx_geom.specs.Offset.{origin, offset_sum}
use Rattle.draw_records.specs.declared.record.Record.{Record}
use Rattle.delegates.specs.Table.{Plug}
use Rattle.layer_tree.specs.LayerItem.{LayerItem, drawn, nested, items_of, more_items}
use Rattle.node_tree.specs.Forest.{Forest}
use Rattle.node_tree.specs.Forest.Forest.{none, tree}
use Rattle.screen_form.specs.declared.paint_role.PaintRole.{PaintRole}
use Rattle.screen_form.specs.declared.paint_role.PaintRole.TheVariants.{Hides, Passes, Layers}
use Rattle.layer_tree.specs.declared.kind.LayerKind.TheVariants as kind
use Rattle.plain_tree.specs.Laid.{Laid, laid, Laids, more_laids}
use Rattle.screen_form.specs.Hidden.{hides_below}
use Rattle.screen_form.specs.OwnRecords.{own_records}
use Rattle.screen_form.specs.PaintRole.{paint_role, shown_role}
use Rattle.screen_form.specs.Painted.{painted, painted_all, passed_on, point_in, has_child}
use Rattle.render_tree.specs.Object.{RenderObject, object_look}
use Rattle.render_tree.specs.Plain.{laids_of, frame_or, offset_or, facts_of}
use Rattle.kept_layers.proofs.BoundaryKind.{boundary_look}
use Rattle.kept_layers.specs.GroupPart.{GroupPart, record_part, place_part, parts_of, fill, fill_all}
use Rattle.kept_layers.specs.Group.{group_parts, parts_below, own_parts, group_role, role_of, is_boundary, opens}
use Rattle.kept_layers.specs.Top.{root_parts}
use Rattle.kept_layers.specs.KeptLayers.{KeptLayers, IsRight, filled, or_nil}

pub fill_parts : (w : Handle → List LayerItem) (ps : List GroupPart) → fill_all w (parts_of ps) ≡ items_of (map (fill w) ps)
fill_parts w [] = refl
fill_parts w (p ∷ ps) = ap (more_items (fill w p)) (fill_parts w ps)

pub fill_records : (w : Handle → List LayerItem) (rs : List Record) → map (fill w) (map record_part rs) ≡ map drawn rs
fill_records w [] = refl
fill_records w (r ∷ rs) = ap (λ xs. drawn r ∷ xs) (fill_records w rs)

pub fill_below : (w : Handle → List LayerItem) (role : PaintRole) (p : Offset) (parts : Offset → List GroupPart) (items : Offset → List LayerItem)
    → ((q : Offset) → map (fill w) (parts q) ≡ items q) → map (fill w) (parts_below role p parts) ≡ passed_on role p items
fill_below w Hides p parts items same = refl
fill_below w Passes p parts items same = same p
fill_below w (Layers k) p parts items same = ap (λ es. nested k es ∷ []) (fill_parts w (parts (point_in k p)) ∙ ap items_of (same (point_in k p)))

-- the part of the group that a node adds
here : (w : Handle → List LayerItem) (apart : Bool) (h : Handle) (rs : List Record) (role : PaintRole) (p : Offset) (parts : Offset → List GroupPart) (items : Offset → List LayerItem)
    → (apart ≡ true → (rs ≡ []) × ((role ≡ Layers (kind.Offset p)) × (w h ≡ items origin)))
    → (apart ≡ false → map (fill w) (parts_below role p parts) ≡ passed_on role p items)
    → map (fill w) ((if apart then place_part h p ∷ [] else map record_part rs) ++ parts_below (if apart then Hides else role) p parts) ≡ map drawn rs ++ passed_on role p items
here w true h rs role p parts items boundary other =
    let facts = boundary refl in
    ap (λ es. nested (kind.Offset p) (items_of es) ∷ []) facts.1.1
    ∙ sym (ap (λ r. map drawn rs ++ passed_on r p items) facts.1.0 ∙ ap (λ xs. map drawn xs ++ nested (kind.Offset p) (items_of (items origin)) ∷ []) facts.0)
here w false h rs role p parts items boundary other =
    map-append (fill w) (map record_part rs) (parts_below role p parts)
    ∙ (λ i. fill_records w rs i ++ other refl i)

by_shown : (cell : Size) (delegates : List Plug) (w : Handle → List LayerItem) (shown : Bool) (at q : Offset) (xs ys : List GroupPart) (l : Laid) (ls : Laids)
    → (shown ≡ true → map (fill w) xs ≡ painted cell delegates l (offset_sum q at))
    → map (fill w) ys ≡ painted_all cell delegates ls q
    → map (fill w) ((if shown then xs else []) ++ ys) ≡ painted_all cell delegates (if shown then more_laids at l ls else ls) q
unfolding painted_all
by_shown cell delegates w true at q xs ys l ls here rest = map-append (fill w) xs ys ∙ (λ i. here refl i ++ rest i)
by_shown cell delegates w false at q xs ys l ls here rest = rest

-- what is known of a RepaintBoundary
pub boundary_opens : (o : RenderObject) → is_boundary o ≡ true → opens o ≡ true
boundary_opens o is = ap (λ look. not (hides_below look (frame_or o.frame))) (boundary_look (object_look o) is)

pub boundary_draws : (cell : Size) (delegates : List Plug) (o : RenderObject) (p : Offset) → is_boundary o ≡ true → own_records cell delegates (object_look o) (frame_or o.frame) p ≡ []
boundary_draws cell delegates o p is = ap (λ look. own_records cell delegates look (frame_or o.frame) p) (boundary_look (object_look o) is)

pub boundary_layers : (o : RenderObject) (has : Bool) (p : Offset) → is_boundary o ≡ true → role_of o has p ≡ Layers (kind.Offset p)
boundary_layers o has p is = ap (λ look. paint_role look (frame_or o.frame) has p) (boundary_look (object_look o) is)

-- a node that hides what is below it
hidden_role : (hides : Bool) (role : PaintRole) → not hides ≡ false → (if hides then Hides else role) ≡ Hides
hidden_role true role e = refl
hidden_role false role e = absurd (true≢false e)

pub role_hides : (o : RenderObject) (has : Bool) (p : Offset) → opens o ≡ false → role_of o has p ≡ Hides
role_hides o has p e = hidden_role (hides_below (object_look o) (frame_or o.frame)) (shown_role (object_look o) (frame_or o.frame) has p) e

-- it goes on below a node, or nothing is seen there
goes_on : (w : Handle → List LayerItem) (o : RenderObject) (has : Bool) (p : Offset) (parts : Offset → List GroupPart) (items : Offset → List LayerItem) (seen : Bool)
    → opens o ≡ seen → (seen ≡ true → (q : Offset) → map (fill w) (parts q) ≡ items q)
    → map (fill w) (parts_below (role_of o has p) p parts) ≡ passed_on (role_of o has p) p items
goes_on w o has p parts items true e same = fill_below w (role_of o has p) p parts items (same refl)
goes_on w o has p parts items false e same =
    let hides = role_hides o has p e in
    ap (λ r. map (fill w) (parts_below r p parts)) hides ∙ sym (ap (λ r. passed_on r p items) hides)

-- a node in the window, at a point
node_filled : (cell : Size) (delegates : List Plug) (s : KeptLayers) (h : Handle) (o : RenderObject) (below : Forest RenderObject) (p : Offset)
    → (opens o ≡ true → is_boundary o ≡ true → s.wholes h ≡ Some (painted_all cell delegates (laids_of below) origin))
    → (opens o ≡ true → (r : Offset) → filled s.wholes (group_parts cell delegates below r) ≡ painted_all cell delegates (laids_of below) r)
    → filled s.wholes (own_parts cell delegates h o p ++ parts_below (group_role o (has_child (laids_of below)) p) p (λ r. group_parts cell delegates below r))
    ≡ painted cell delegates (laid o.number (object_look o) (facts_of o) (laids_of below)) p
unfolding painted painted_all
node_filled cell delegates s h o below p whole inside =
    let w : Handle → List LayerItem = λ k. or_nil (s.wholes k) in
    here w (is_boundary o) h (own_records cell delegates (object_look o) (frame_or o.frame) p) (role_of o (has_child (laids_of below)) p) p
    (λ r. group_parts cell delegates below r) (λ r. painted_all cell delegates (laids_of below) r)
    (λ is. (boundary_draws cell delegates o p is, (boundary_layers o (has_child (laids_of below)) p is, ap or_nil (whole (boundary_opens o is) is))))
    (λ isnt. goes_on w o (has_child (laids_of below)) p _ _ (opens o) refl inside)

pub filled-is : (cell : Size) (delegates : List Plug) (s : KeptLayers) (f : Forest RenderObject) (q : Offset) → IsRight cell delegates s f
    → filled s.wholes (group_parts cell delegates f q) ≡ painted_all cell delegates (laids_of f) q
unfolding painted_all
filled-is cell delegates s none q right = refl
filled-is cell delegates s (tree h o below rest) q right =
    let p : Offset = offset_sum q (offset_or o.offset) in
    by_shown cell delegates (λ k. or_nil (s.wholes k)) o.shown (offset_or o.offset) q
    (own_parts cell delegates h o p ++ parts_below (group_role o (has_child (laids_of below)) p) p (λ r. group_parts cell delegates below r))
    (group_parts cell delegates rest q)
    (laid o.number (object_look o) (facts_of o) (laids_of below)) (laids_of rest)
    (λ shown.
    let inside : opens o ≡ true → _ = λ seen. right.0 (λ i. shown i && seen i) in
    node_filled cell delegates s h o below p (λ seen is. ((inside seen).0 is).1) (λ seen r. filled-is cell delegates s below r (inside seen).1))
    (filled-is cell delegates s rest q right.1)

-- the root, which is in the window
pub root_filled : (cell : Size) (delegates : List Plug) (s : KeptLayers) (h : Handle) (o : RenderObject) (below : Forest RenderObject) → IsRight cell delegates s (tree h o below none) → o.shown ≡ true
    → filled s.wholes (root_parts cell delegates (tree h o below none)) ≡ painted cell delegates (laid o.number (object_look o) (facts_of o) (laids_of below)) origin
root_filled cell delegates s h o below right shown =
    let inside : opens o ≡ true → _ = λ seen. right.0 (λ i. shown i && seen i) in
    node_filled cell delegates s h o below origin (λ seen is. ((inside seen).0 is).1) (λ seen r. filled-is cell delegates s below r (inside seen).1)
