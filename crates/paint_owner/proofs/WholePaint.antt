-- A node that is painted with all that is below it.
use Rattle.std.proofs.Common.{◌≡◌, ◌≢◌, ℕ, suc, ◌+◌, Bool, true, false, if◌then◌else◌, List, [], ◌∷◌, ◌++◌, map, refl, sym, ap, ◌∙◌, arith}
use Rattle.std.proofs.lemmas.List.{append_assoc, append-nil}
use Rattle.fx_handles.specs.declared.Handle.{Handle}
use Rattle.fx_geom.specs.declared.shapes.Offset.{Offset}
use Rattle.fx_geom.specs.declared.shapes.Size.{Size}
use Rattle.fx_geom.specs.Offset.{offset_sum}
use Rattle.delegates.specs.Table.{Plug}
use Rattle.layer_tree.specs.LayerItem.{LayerItem, drawn, nested, items_of}
use Rattle.node_tree.specs.Forest.{Forest, below, skip}
use Rattle.node_tree.specs.Forest.Forest.{none, tree}
use Rattle.node_tree.specs.Tree.{Tree, subtree_at}
use Rattle.node_tree.specs.Children.{Nth}
use Rattle.plain_tree.specs.Laid.{Laids, laid, more_laids}
use Rattle.screen_form.specs.declared.paint_role.PaintRole.{PaintRole}
use Rattle.screen_form.specs.declared.paint_role.PaintRole.TheVariants.{Hides, Passes, Layers}
use Rattle.screen_form.specs.OwnRecords.{own_records}
use Rattle.screen_form.specs.Painted.{has_child, painted, painted_all, passed_on, point_in}
use Rattle.render_tree.specs.Object.{RenderObject, object_look}
use Rattle.render_tree.specs.Plain.{frame_or, offset_or, facts_of, laid_of, laids_of}
use Rattle.kept_layers.specs.Group.{opens, role_of}
use Rattle.kept_layers.proofs.Filling.{role_hides}
use Rattle.kept_layers.proofs.Hiding.{seen_role}
use Rattle.kind_paint.specs.PointBelow.{point_below}
use Rattle.paint_owner.specs.Grouping.{items_aside, items_begun, items_ended}
use Rattle.paint_owner.specs.Whole.{painted_at, shown_count, whole_count}

-- ---- one child more

module _ (cell : Size) (ds : List Plug) (t : Tree RenderObject) (f : Forest RenderObject) (i : ℕ) (c : Handle) (n : Nth t f i c) (q : Offset)
    (before whole : List LayerItem) (so_far : before ++ painted_all cell ds (laids_of (skip i f)) q ≡ whole)
    (count all : ℕ) (counted : count + shown_count (skip i f) ≡ all) where
  abbrev laids_by : Bool → Laids
  laids_by b = if b then more_laids (offset_or n.value.offset) (laid n.value.number (object_look n.value) (facts_of n.value) (laids_of n.kids)) (laids_of (skip (i + 1) f)) else laids_of (skip (i + 1) f)

  abbrev count_by : Bool → ℕ
  count_by b = (if b then suc (if opens n.value then shown_count n.kids else 0) else 0) + shown_count (skip (i + 1) f)

  pub item_more : n.value.shown ≡ true → (at : Offset) → at ≡ offset_sum q (offset_or n.value.offset) → (new : List LayerItem) (now : ℕ)
      → new ≡ before ++ painted_at cell ds (laid_of (subtree_at t c)) at → now ≡ count + whole_count (subtree_at t c)
      → (new ++ painted_all cell ds (laids_of (skip (i + 1) f)) q ≡ whole) × (now + shown_count (skip (i + 1) f) ≡ all)
  unfolding painted_all
  item_more shown at is_at new now is is_now = (
    (λ j. (is ∙ ap (λ s. before ++ painted_at cell ds (laid_of s) at) n.subtree ∙ ap (λ p. before ++ painted_at cell ds (laid_of (tree c n.value n.kids none)) p) is_at) j
        ++ painted_all cell ds (laids_of (skip (i + 1) f)) q)
        ∙ append_assoc before (painted cell ds (laid n.value.number (object_look n.value) (facts_of n.value) (laids_of n.kids)) (offset_sum q (offset_or n.value.offset))) (painted_all cell ds (laids_of (skip (i + 1) f)) q)
        ∙ sym (ap (λ b. before ++ painted_all cell ds (laids_by b) q) shown)
        ∙ sym (ap (λ g. before ++ painted_all cell ds (laids_of g) q) n.skips) ∙ so_far,
    (let here : shown_count (skip i f) ≡ suc (if opens n.value then shown_count n.kids else 0) + shown_count (skip (i + 1) f) = ap shown_count n.skips ∙ ap count_by shown in
        let own = ap whole_count n.subtree in
        omega (arith, counted, here, own, is_now)),
  )

  -- a child out of the window
  pub item_out : n.value.shown ≡ false → (before ++ painted_all cell ds (laids_of (skip (i + 1) f)) q ≡ whole) × (count + shown_count (skip (i + 1) f) ≡ all)
  item_out out = (
    sym (ap (λ b. before ++ painted_all cell ds (laids_by b) q) out) ∙ sym (ap (λ g. before ++ painted_all cell ds (laids_of g) q) n.skips) ∙ so_far,
    (let here : shown_count (skip i f) ≡ 0 + shown_count (skip (i + 1) f) = ap shown_count n.skips ∙ ap count_by out in omega (arith, counted, here)),
  )

-- the end of the children
pub items_end : (cell : Size) (ds : List Plug) (g : Forest RenderObject) → g ≡ none → (q : Offset) (acc whole : List LayerItem) → acc ++ painted_all cell ds (laids_of g) q ≡ whole → acc ≡ whole
unfolding painted_all
items_end cell ds g e q acc whole so_far = sym (append-nil acc) ∙ sym (ap (λ x. acc ++ painted_all cell ds (laids_of x) q) e) ∙ so_far

-- ---- a node itself

comes : (b : PaintRole) (p : Offset) (paint : Offset → List LayerItem) (mid aside first inside last : List LayerItem)
    → aside ≡ items_aside b mid → first ≡ items_begun b mid → inside ≡ first ++ paint (point_below b p) → last ≡ items_ended b aside inside
    → b ≢ Hides → last ≡ mid ++ passed_on b p paint
comes Hides p paint mid aside first inside last a f i l seen = absurd (seen refl)
comes Passes p paint mid aside first inside last a f i l seen = l ∙ i ∙ ap (λ x. x ++ paint p) f
comes (Layers kind) p paint mid aside first inside last a f i l seen =
    l ∙ ap (λ x. x ++ nested kind (items_of inside) ∷ []) a
    ∙ ap (λ x. mid ++ nested kind (items_of x) ∷ []) (i ∙ ap (λ x. x ++ paint (point_in kind p)) f)

opened : (o : RenderObject) (role : PaintRole) (n : ℕ) → (role ≡ Hides → opens o ≡ false) → (opens o ≡ false → role ≡ Hides)
    → (role ≡ Hides → suc (if opens o then n else 0) ≡ 1) × (role ≢ Hides → suc (if opens o then n else 0) ≡ 1 + n)
opened o role n closed shut = ((λ e. ap (λ b. suc (if b then n else 0)) (closed e)), (λ seen. by_opens (opens o) refl seen))
  where
    by_opens : (b : Bool) → opens o ≡ b → role ≢ Hides → suc (if b then n else 0) ≡ 1 + n
    by_opens true e seen = omega arith
    by_opens false e seen = absurd (seen (shut e))

module _ (cell : Size) (ds : List Plug) (t : Tree RenderObject) (h : Handle) (o : RenderObject) (opened_is : subtree_at t h ≡ tree h o (below (subtree_at t h)) none)
    (p : Offset) (role : PaintRole) (is_role : role ≡ role_of o (has_child (laids_of (below (subtree_at t h)))) p)
    (old mid : List LayerItem) (is_mid : mid ≡ old ++ map drawn (own_records cell ds (object_look o) (frame_or o.frame) p)) where
  abbrev kids : Forest RenderObject
  kids = below (subtree_at t h)

  counts : (role_of o (has_child (laids_of kids)) p ≡ Hides → suc (if opens o then shown_count kids else 0) ≡ 1)
      × (role_of o (has_child (laids_of kids)) p ≢ Hides → suc (if opens o then shown_count kids else 0) ≡ 1 + shown_count kids)
  counts = opened o (role_of o (has_child (laids_of kids)) p) (shown_count kids) (seen_role o (has_child (laids_of kids)) p) (role_hides o (has_child (laids_of kids)) p)

  abbrev own : List LayerItem
  own = map drawn (own_records cell ds (object_look o) (frame_or o.frame) p)

  pub node_painted : role ≢ Hides → (from : Offset) → from ≡ point_below role p → (aside first inside last : List LayerItem)
      → aside ≡ items_aside role mid → first ≡ items_begun role mid → inside ≡ first ++ painted_all cell ds (laids_of kids) from → last ≡ items_ended role aside inside
      → last ≡ old ++ painted_at cell ds (laid_of (subtree_at t h)) p
  unfolding painted
  node_painted seen from is_from aside first inside last a f i l =
      comes role p (λ q. painted_all cell ds (laids_of kids) q) mid aside first inside last a f (i ∙ ap (λ q. first ++ painted_all cell ds (laids_of kids) q) is_from) l seen
      ∙ (λ j. is_mid j ++ passed_on (is_role j) p (λ q. painted_all cell ds (laids_of kids) q))
      ∙ append_assoc old own (passed_on (role_of o (has_child (laids_of kids)) p) p (λ q. painted_all cell ds (laids_of kids) q))
      ∙ sym (ap (λ s. old ++ painted_at cell ds (laid_of s) p) opened_is)

  pub node_hidden : role ≡ Hides → mid ≡ old ++ painted_at cell ds (laid_of (subtree_at t h)) p
  unfolding painted
  node_hidden hidden =
      is_mid ∙ ap (λ x. old ++ x) (sym (append-nil own))
      ∙ ap (λ r. old ++ (own ++ passed_on r p (λ q. painted_all cell ds (laids_of kids) q))) (sym (sym is_role ∙ hidden))
      ∙ sym (ap (λ s. old ++ painted_at cell ds (laid_of s) p) opened_is)

  pub count_painted : role ≢ Hides → whole_count (subtree_at t h) ≡ 1 + shown_count kids
  count_painted seen = ap whole_count opened_is ∙ counts.1 (λ e. seen (is_role ∙ e))

  pub count_hidden : role ≡ Hides → whole_count (subtree_at t h) ≡ 1
  count_hidden hidden = ap whole_count opened_is ∙ counts.0 (sym is_role ∙ hidden)

-- ---- a child, all in all

module _ (cell : Size) (ds : List Plug) (t : Tree RenderObject) (f : Forest RenderObject) (i : ℕ) (c : Handle) (n : Nth t f i c) (q : Offset)
    (before whole : List LayerItem) (so_far : before ++ painted_all cell ds (laids_of (skip i f)) q ≡ whole)
    (count all : ℕ) (counted : count + shown_count (skip i f) ≡ all) (shown : n.value.shown ≡ true)
    (opened_is : subtree_at t c ≡ tree c n.value (below (subtree_at t c)) none) (p : Offset) (is_p : p ≡ offset_sum q (offset_or n.value.offset))
    (role : PaintRole) (is_role : role ≡ role_of n.value (has_child (laids_of (below (subtree_at t c)))) p)
    (mid : List LayerItem) (is_mid : mid ≡ before ++ map drawn (own_records cell ds (object_look n.value) (frame_or n.value.frame) p))
    (ticked : ℕ) (is_ticked : ticked ≡ count + 1) where
  pub item_hidden : role ≡ Hides → (mid ++ painted_all cell ds (laids_of (skip (i + 1) f)) q ≡ whole) × (ticked + shown_count (skip (i + 1) f) ≡ all)
  item_hidden hidden =
      item_more cell ds t f i c n q before whole so_far count all counted shown p is_p mid ticked
      (node_hidden cell ds t c n.value opened_is p role is_role before mid is_mid hidden)
      (let one = count_hidden cell ds t c n.value opened_is p role is_role before mid is_mid hidden in omega (arith, is_ticked, one))

  pub item_painted : role ≢ Hides → (from : Offset) → from ≡ point_below role p → (aside first inside last : List LayerItem)
      → aside ≡ items_aside role mid → first ≡ items_begun role mid → inside ≡ first ++ painted_all cell ds (laids_of (below (subtree_at t c))) from → last ≡ items_ended role aside inside
      → (end_count : ℕ) → end_count ≡ ticked + shown_count (below (subtree_at t c))
      → (last ++ painted_all cell ds (laids_of (skip (i + 1) f)) q ≡ whole) × (end_count + shown_count (skip (i + 1) f) ≡ all)
  item_painted seen from is_from aside first inside last a b ins l end_count is_end =
      item_more cell ds t f i c n q before whole so_far count all counted shown p is_p last end_count
      (node_painted cell ds t c n.value opened_is p role is_role before mid is_mid seen from is_from aside first inside last a b ins l)
      (let one = count_painted cell ds t c n.value opened_is p role is_role before mid is_mid seen in omega (arith, is_ticked, is_end, one))
