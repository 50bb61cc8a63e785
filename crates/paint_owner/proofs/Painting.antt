-- One child more of a node whose group is painted.
use Rattle.std.proofs.Common.{◌≡◌, ◌≢◌, ℕ, suc, ◌+◌, Bool, true, false, not, ◌&&◌, if◌then◌else◌, List, [], ◌∷◌, ◌++◌, refl, sym, ap, ◌∙◌, subst, arith, true≢false}
use Rattle.std.proofs.lemmas.List.{append_assoc, append-nil}
use Rattle.fx_handles.specs.declared.Handle.{Handle}
use Rattle.fx_geom.specs.declared.shapes.Offset.{Offset}
use Rattle.fx_geom.specs.declared.shapes.Size.{Size}
use Rattle.fx_geom.specs.Offset.{origin, offset_sum}
use Rattle.delegates.specs.Table.{Plug}
use Rattle.node_tree.specs.Forest.{Forest, below, skip}
use Rattle.node_tree.specs.Forest.Forest.{none, tree}
use Rattle.node_tree.specs.Tree.{Tree, subtree_at}
use Rattle.node_tree.specs.Children.{Nth}
use Rattle.screen_form.specs.declared.paint_role.PaintRole.{PaintRole}
use Rattle.screen_form.specs.declared.paint_role.PaintRole.TheVariants.{Hides, Passes, Layers}
use Rattle.screen_form.specs.Painted.{has_child, point_in}
use Rattle.render_tree.specs.Object.{RenderObject}
use Rattle.render_tree.specs.Plain.{offset_or, laids_of}
use Rattle.kept_layers.specs.GroupPart.{GroupPart, layer_part, parts_of}
use Rattle.kept_layers.specs.Group.{is_boundary, opens, role_of, own_parts, group_role, parts_below, group_parts, group_count}
use Rattle.kept_layers.specs.Top.{root_parts}
use Rattle.kept_layers.proofs.Filling.{role_hides}
use Rattle.kept_layers.proofs.Hiding.{seen_role}
use Rattle.kind_paint.specs.PointBelow.{point_below}
use Rattle.paint_owner.specs.Settled.{IsRootShown}
use Rattle.paint_owner.specs.Grouping.{entered, added, own_count, set_aside, begun, ended}

-- what comes of a layer that was begun and ended
comes : (b : PaintRole) (p : Offset) (paint : Offset → List GroupPart) (mid aside first inside last : List GroupPart)
    → aside ≡ set_aside b mid → first ≡ begun b mid → inside ≡ first ++ paint (point_below b p) → last ≡ ended b aside inside
    → b ≢ Hides → last ≡ mid ++ parts_below b p paint
comes Hides p paint mid aside first inside last a f i l seen = absurd (seen refl)
comes Passes p paint mid aside first inside last a f i l seen = l ∙ i ∙ ap (λ x. x ++ paint p) f
comes (Layers kind) p paint mid aside first inside last a f i l seen =
    l ∙ ap (λ x. x ++ layer_part kind (parts_of inside) ∷ []) a
    ∙ ap (λ x. mid ++ layer_part kind (parts_of x) ∷ []) (i ∙ ap (λ x. x ++ paint (point_in kind p)) f)

-- what a node adds in all, with what is below it
abbrev in_all : Size → List Plug → Handle → RenderObject → Offset → (Offset → List GroupPart) → Bool → List GroupPart
in_all cell ds h o p inside has = added cell ds h o p ++ parts_below (entered o has p) p inside

split : (cell : Size) (ds : List Plug) (h : Handle) (o : RenderObject) (kids rest : Forest RenderObject) (q : Offset)
    → group_parts cell ds (tree h o kids rest) q
    ≡ in_all cell ds h o (offset_sum q (offset_or o.offset)) (λ r. group_parts cell ds kids r) (has_child (laids_of kids)) ++ group_parts cell ds rest q
split cell ds h o kids rest q = by_shown o.shown _ _ _
  where
    by_shown : (b : Bool) (xs : List GroupPart) (role : PaintRole) (ys : List GroupPart)
        → ((if b then xs ++ parts_below role (offset_sum q (offset_or o.offset)) (λ r. group_parts cell ds kids r) else []) ++ ys)
        ≡ ((if b then xs else []) ++ parts_below (if b then role else Hides) (offset_sum q (offset_or o.offset)) (λ r. group_parts cell ds kids r)) ++ ys
    by_shown true xs role ys = refl
    by_shown false xs role ys = refl

-- and what it counts
by_shown : (shown boundary seen : Bool) (role : PaintRole) (inner later : ℕ) → (role ≡ Hides → seen ≡ false) → (seen ≡ false → role ≡ Hides)
    → ((if shown then (if boundary then Hides else role) else Hides) ≡ Hides
    → (if shown && not boundary then suc (if seen then inner else 0) else 0) + later ≡ (if shown && not boundary then 1 else 0) + later)
    × ((if shown then (if boundary then Hides else role) else Hides) ≢ Hides
    → (if shown && not boundary then suc (if seen then inner else 0) else 0) + later ≡ (if shown && not boundary then 1 else 0) + (inner + later))
by_shown false boundary seen role inner later closed shut = ((λ e. refl), (λ n. absurd (n refl)))
by_shown true true seen role inner later closed shut = ((λ e. refl), (λ n. absurd (n refl)))
by_shown true false true role inner later closed shut = ((λ e. absurd (true≢false (closed e))), (λ n. omega arith))
by_shown true false false role inner later closed shut = ((λ e. omega arith), (λ n. absurd (n (shut refl))))

counts : (h : Handle) (o : RenderObject) (kids rest : Forest RenderObject) (has : Bool) (p : Offset)
    → (entered o has p ≡ Hides → group_count (tree h o kids rest) ≡ own_count o + group_count rest)
    × (entered o has p ≢ Hides → group_count (tree h o kids rest) ≡ own_count o + (group_count kids + group_count rest))
counts h o kids rest has p = by_shown o.shown (is_boundary o) (opens o) (role_of o has p) (group_count kids) (group_count rest) (seen_role o has p) (role_hides o has p)

-- a child out of the window
module _ (cell : Size) (ds : List Plug) (t : Tree RenderObject) (f : Forest RenderObject) (i : ℕ) (c : Handle) (n : Nth t f i c) (q : Offset)
    (before whole : List GroupPart) (so_far : before ++ group_parts cell ds (skip i f) q ≡ whole) (count all : ℕ) (counted : count + group_count (skip i f) ≡ all) where
  abbrev parts_by : Bool → List GroupPart
  parts_by b =
      (if b
      then own_parts cell ds c n.value (offset_sum q (offset_or n.value.offset))
      ++ parts_below (group_role n.value (has_child (laids_of n.kids)) (offset_sum q (offset_or n.value.offset))) (offset_sum q (offset_or n.value.offset)) (λ r. group_parts cell ds n.kids r)
      else [])
      ++ group_parts cell ds (skip (i + 1) f) q

  abbrev count_by : Bool → ℕ
  count_by b = (if b && not (is_boundary n.value) then suc (if opens n.value then group_count n.kids else 0) else 0) + group_count (skip (i + 1) f)

  pub left_out : n.value.shown ≡ false → (before ++ group_parts cell ds (skip (i + 1) f) q ≡ whole) × (count + group_count (skip (i + 1) f) ≡ all)
  left_out out = (
    sym (ap (λ b. before ++ parts_by b) out) ∙ sym (ap (λ g. before ++ group_parts cell ds g q) n.skips) ∙ so_far,
    (let here : group_count (skip i f) ≡ 0 + group_count (skip (i + 1) f) = ap group_count n.skips ∙ ap count_by out in omega (arith, counted, here)),
  )

module _ (cell : Size) (ds : List Plug) (t : Tree RenderObject) (f : Forest RenderObject) (i : ℕ) (c : Handle) (n : Nth t f i c) (q p : Offset)
    (is_p : p ≡ offset_sum q (offset_or n.value.offset)) (role : PaintRole) (is_role : role ≡ entered n.value (has_child (laids_of (below (subtree_at t c)))) p)
    (before mid whole : List GroupPart) (is_mid : mid ≡ before ++ added cell ds c n.value p) (so_far : before ++ group_parts cell ds (skip i f) q ≡ whole)
    (count middle all : ℕ) (is_middle : middle ≡ count + own_count n.value) (counted : count + group_count (skip i f) ≡ all) where
  kids_are : below (subtree_at t c) ≡ n.kids
  kids_are = ap below n.subtree

  all_parts : before ++ (in_all cell ds c n.value p (λ r. group_parts cell ds (below (subtree_at t c)) r) (has_child (laids_of (below (subtree_at t c)))) ++ group_parts cell ds (skip (i + 1) f) q) ≡ whole
  all_parts =
      ap (λ x. before ++ x)
      ((λ j. in_all cell ds c n.value (is_p j) (λ r. group_parts cell ds (kids_are j) r) (has_child (laids_of (kids_are j))) ++ group_parts cell ds (skip (i + 1) f) q)
      ∙ sym (split cell ds c n.value n.kids (skip (i + 1) f) q) ∙ sym (ap (λ g. group_parts cell ds g q) n.skips))
      ∙ so_far

  -- a node below which the group doesn't go on
  pub itself : role ≡ Hides → (mid ++ group_parts cell ds (skip (i + 1) f) q ≡ whole) × (middle + group_count (skip (i + 1) f) ≡ all)
  itself hidden = (
    (λ j. is_mid j ++ group_parts cell ds (skip (i + 1) f) q)
        ∙ append_assoc before (added cell ds c n.value p) (group_parts cell ds (skip (i + 1) f) q)
        ∙ ap (λ x. before ++ (x ++ group_parts cell ds (skip (i + 1) f) q))
        (sym (append-nil (added cell ds c n.value p))
        ∙ ap (λ r. added cell ds c n.value p ++ parts_below r p (λ r. group_parts cell ds (below (subtree_at t c)) r)) (sym (sym is_role ∙ hidden)))
        ∙ all_parts,
    (let parts = (counts c n.value n.kids (skip (i + 1) f) (has_child (laids_of (below (subtree_at t c)))) p).0 (sym is_role ∙ hidden) in
        let here = ap group_count n.skips in
        omega (arith, is_middle, counted, here, parts)),
  )

  -- and one below which it does
  pub with_below : role ≢ Hides → (from : Offset) → from ≡ point_below role p → (aside first inside last : List GroupPart)
      → aside ≡ set_aside role mid → first ≡ begun role mid → inside ≡ first ++ group_parts cell ds (below (subtree_at t c)) from → last ≡ ended role aside inside
      → (end_count : ℕ) → end_count ≡ middle + group_count (below (subtree_at t c))
      → (last ++ group_parts cell ds (skip (i + 1) f) q ≡ whole) × (end_count + group_count (skip (i + 1) f) ≡ all)
  with_below seen from is_from aside first inside last a e ins l end_count is_end = (
    (λ j. (comes role p (λ r. group_parts cell ds (below (subtree_at t c)) r) mid aside first inside last a e (ins ∙ ap (λ r. first ++ group_parts cell ds (below (subtree_at t c)) r) is_from) l seen
        ∙ ap (λ x. x ++ parts_below role p (λ r. group_parts cell ds (below (subtree_at t c)) r)) is_mid
        ∙ append_assoc before (added cell ds c n.value p) (parts_below role p (λ r. group_parts cell ds (below (subtree_at t c)) r))
        ∙ ap (λ b. before ++ (added cell ds c n.value p ++ parts_below b p (λ r. group_parts cell ds (below (subtree_at t c)) r))) is_role) j
        ++ group_parts cell ds (skip (i + 1) f) q)
        ∙ append_assoc before (in_all cell ds c n.value p (λ r. group_parts cell ds (below (subtree_at t c)) r) (has_child (laids_of (below (subtree_at t c))))) (group_parts cell ds (skip (i + 1) f) q)
        ∙ all_parts,
    (let parts = (counts c n.value n.kids (skip (i + 1) f) (has_child (laids_of (below (subtree_at t c)))) p).1 (λ x. seen (is_role ∙ x)) in
        let here = ap group_count n.skips in
        let kids = ap group_count kids_are in
        omega (arith, is_middle, counted, here, parts, kids, is_end)),
  )

-- the root's own parts, where the group goes on below it
module _ (cell : Size) (ds : List Plug) (t : Tree RenderObject) (h : Handle) (o : RenderObject) (opened : subtree_at t h ≡ tree h o (below (subtree_at t h)) none) (is_shown : IsRootShown (subtree_at t h))
    (role : PaintRole) (is_role : role ≡ entered o (has_child (laids_of (below (subtree_at t h)))) origin) (seen : role ≢ Hides) where
  abbrev below_it : Forest RenderObject
  below_it = below (subtree_at t h)

  shown_root : o.shown ≡ true
  shown_root = subst IsRootShown opened is_shown

  pub root_painted : (mid : List GroupPart) → mid ≡ added cell ds h o origin → (from : Offset) → from ≡ point_below role origin → (aside first inside last : List GroupPart)
      → aside ≡ set_aside role mid → first ≡ begun role mid → inside ≡ first ++ group_parts cell ds below_it from → last ≡ ended role aside inside
      → last ≡ root_parts cell ds (subtree_at t h)
  root_painted mid is_mid from is_from aside first inside last a f i l =
      comes role origin (λ r. group_parts cell ds below_it r) mid aside first inside last a f (i ∙ ap (λ r. first ++ group_parts cell ds below_it r) is_from) l seen
      ∙ (λ j. is_mid j ++ parts_below (is_role j) origin (λ r. group_parts cell ds below_it r))
      ∙ ap (λ b. (if b then own_parts cell ds h o origin else []) ++ parts_below (if b then group_role o (has_child (laids_of below_it)) origin else Hides) origin (λ r. group_parts cell ds below_it r)) shown_root
      ∙ sym (ap (root_parts cell ds) opened)

  pub root_counted : group_count (subtree_at t h) ≡ own_count o + group_count below_it
  root_counted =
      let parts = (counts h o below_it none (has_child (laids_of below_it)) origin).1 (λ e. seen (is_role ∙ e)) in
      let here = ap group_count opened in
      omega (arith, here, parts)
