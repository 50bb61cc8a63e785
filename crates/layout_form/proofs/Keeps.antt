-- A layout keeps the numbers, the kinds and the order of nodes, and corrects no offset to a farther one.
use Rattle.std.proofs.Common.{◌≡◌, refl, ℕ, suc, ◌≤◌, Bool, true, false, List, [], ◌∷◌, map, arith, if◌then◌else◌, inl, inr}
use Rattle.std.specs.Prelude.{ℤ}
use Rattle.fx_geom.specs.declared.boxes.Bounds.{Bounds}
use Rattle.fx_geom.specs.declared.lengths.Len.TheVariants.{Unbounded}
use Rattle.fx_geom.specs.declared.shapes.Axis.{Axis}
use Rattle.fx_geom.specs.declared.shapes.Axis.TheVariants.{Horizontal, Vertical}
use Rattle.fx_geom.specs.declared.shapes.Insets.{Insets}
use Rattle.fx_geom.specs.declared.shapes.Offset.{Offset}
use Rattle.fx_geom.specs.declared.words.CrossAlign.{CrossAlign}
use Rattle.fx_geom.specs.declared.words.MainAlign.{MainAlign}
use Rattle.fx_geom.specs.declared.words.StackFit.{StackFit}
use Rattle.fx_geom.specs.Bounds.{loose}
use Rattle.sliver_layout.specs.declared.protocol.SliverBounds.{SliverBounds}
use Rattle.sliver_layout.specs.declared.protocol.Walk.{Walk}
use Rattle.sliver_layout.specs.declared.protocol.Window.{Window}
use Rattle.sliver_layout.specs.Lists.{window_of}
use Rattle.sliver_layout.specs.Slivers.{view_of, walk_past}
use Rattle.delegates.specs.Table.{meaning_of}
use Rattle.widget_model.specs.declared.words.MainSize.{MainSize}
use Rattle.widget_model.specs.Look.{Look, sized_box, constrained_box, padding, align, colored_box, text, row, column, wrap, table, stack, flexible, positioned, opacity, clip_rect, repaint_boundary, merge_semantics, intrinsic_width, intrinsic_height, offstage, ignore_pointer, absorb_pointer, detector, semantics, exclude_semantics, custom_paint, custom_layout, viewport, sliver_to_box, sliver_padding, sliver_fixed, sliver_lazy, keep, inherit, component}
use Rattle.plain_tree.specs.Render.{Render, render, Renders, no_renders, more_renders}
use Rattle.plain_tree.specs.Laid.{Laid, no_laids, laids_of, Stood}
use Rattle.layout_form.specs.Object.{Setting, Object, Done, geometry_in, placed_at, each_in, only_of}
use Rattle.layout_form.specs.Single.{Around, single, proxy, within_own, sized_bounds, constrained_bounds, padded_box, aligned_box, insets_of, passing, as_wide, as_high, offstage_box, painted_box, delegated_box}
use Rattle.layout_form.specs.Intrinsic.{child_extent}
use Rattle.layout_form.specs.FlexRule.{flex_rule, flex_laid}
use Rattle.layout_form.specs.StackRule.{stack_rule}
use Rattle.layout_form.specs.WrapTable.{wrap_rule, table_rule, columns_of, cells_from, cell_bounds, column_at}
use Rattle.layout_form.specs.SliverRule.{viewport_rule, walked, to_box_rule, box_bounds, padding_rule, is_among, item_in, items_in, counted}
use Rattle.layout_form.specs.Layout.{box_rule, sliver_rule, object, objects}
use Rattle.layout_form.specs.Laws.{Lays, LaysSome}

-- an object lays out that node
pub record Stands (r : Render) (c : Object) : Type 0 where
  pub boxes : (b : Bounds) → Lays r (c.in_bounds b)
  pub views : (b : SliverBounds) → Lays r (c.in_view b)

abbrev AllStand : Renders → List Object → Type 0
AllStand no_renders [] = Unit {0}
AllStand no_renders (c ∷ cs) = ⊥
AllStand (more_renders r rs) [] = ⊥
AllStand (more_renders r rs) (c ∷ cs) = Stands r c × AllStand rs cs

-- what a rule gives keeps the children, and is scrolled no farther
pub record Keeps (o : ℕ) (rs : Renders) (done : Done) : Type 0 where
  pub scrolled : done.scrolled ≤ o
  pub children : LaysSome rs (laids_of done.children)

none_laid : (rs : Renders) → LaysSome rs no_laids
none_laid no_renders = tt
none_laid (more_renders r rs) = tt

single_keeps : (o : ℕ) (a : Around) (rs : Renders) (cs : List Object) → AllStand rs cs → Keeps o rs (single a (only_of cs))
single_keeps o a rs [] all = record { scrolled = omega arith; children = none_laid rs }
single_keeps o a no_renders (c ∷ cs) all = absurd all
single_keeps o a (more_renders r rs) (c ∷ cs) all =
    record { scrolled = omega arith; children = inl (all.0.boxes a.inner, none_laid rs) }

-- laid children, the first of them those of the first nodes
abbrev Firsts : Renders → List Laid → Type 0
Firsts rs [] = Unit {0}
Firsts no_renders (l ∷ ls) = ⊥
Firsts (more_renders r rs) (l ∷ ls) = Lays r l × Firsts rs ls

placed_keep : (rs : Renders) (ats : List Offset) (ls : List Laid) → Firsts rs ls → LaysSome rs (laids_of (placed_at ats ls))
placed_keep rs [] ls all = none_laid rs
placed_keep rs (at ∷ ats) [] all = none_laid rs
placed_keep no_renders (at ∷ ats) (l ∷ ls) all = absurd all
placed_keep (more_renders r rs) (at ∷ ats) (l ∷ ls) all = inl (all.0, placed_keep rs ats ls all.1)

each_first : (rs : Renders) (bs : List Bounds) (cs : List Object) → AllStand rs cs → Firsts rs (each_in bs cs)
each_first no_renders [] cs all = tt
each_first (more_renders r rs) [] cs all = tt
each_first no_renders (b ∷ bs) [] all = tt
each_first (more_renders r rs) (b ∷ bs) [] all = tt
each_first no_renders (b ∷ bs) (c ∷ cs) all = absurd all
each_first (more_renders r rs) (b ∷ bs) (c ∷ cs) all = (all.0.boxes b, each_first rs bs cs all.1)

map_first : (rs : Renders) (b : Bounds) (cs : List Object) → AllStand rs cs → Firsts rs (map (λ (c : Object). c.in_bounds b) cs)
map_first no_renders b [] all = tt
map_first (more_renders r rs) b [] all = tt
map_first no_renders b (c ∷ cs) all = absurd all
map_first (more_renders r rs) b (c ∷ cs) all = (all.0.boxes b, map_first rs b cs all.1)

cells_first : (rs : Renders) (columns : List ℕ) (i : ℕ) (cs : List Object) → AllStand rs cs → Firsts rs (cells_from columns i cs)
cells_first no_renders columns i [] all = tt
cells_first (more_renders r rs) columns i [] all = tt
cells_first no_renders columns i (c ∷ cs) all = absurd all
cells_first (more_renders r rs) columns i (c ∷ cs) all = (all.0.boxes (cell_bounds (column_at columns i)), cells_first rs columns (suc i) cs all.1)

walked_keep : (axis : Axis) (main cross : ℕ) (walk : Walk) (rs : Renders) (cs : List Object) → AllStand rs cs
    → LaysSome rs (laids_of (walked axis main cross walk cs))
walked_keep axis main cross walk rs [] all = none_laid rs
walked_keep axis main cross walk no_renders (c ∷ cs) all = absurd all
walked_keep axis main cross walk (more_renders r rs) (c ∷ cs) all = inl (
  all.0.views (view_of axis main cross walk),
  walked_keep axis main cross (walk_past walk (geometry_in (c.in_view (view_of axis main cross walk)))) rs cs all.1,
)

-- a node more, which may be left out
item_more : (t : Bool) (r : Render) (rs : Renders) (x : Stood) (xs : List Stood) → Lays r x.child → LaysSome rs (laids_of xs)
    → LaysSome (more_renders r rs) (laids_of (if t then x ∷ xs else xs))
item_more true r rs x xs here rest = inl (here, rest)
item_more false r rs x [] here rest = tt
item_more false r rs x (y ∷ ys) here rest = inr rest

items_keep : (b : SliverBounds) (extent : ℕ) (w : Window) (is : List ℕ) (rs : Renders) (cs : List Object) → AllStand rs cs
    → LaysSome rs (laids_of (items_in b extent w is cs))
items_keep b extent w [] rs cs all = none_laid rs
items_keep b extent w (i ∷ is) rs [] all = none_laid rs
items_keep b extent w (i ∷ is) no_renders (c ∷ cs) all = absurd all
items_keep b extent w (i ∷ is) (more_renders r rs) (c ∷ cs) all =
    item_more (is_among w i) r rs (item_in b extent i c) (items_in b extent w is cs) (all.0.boxes _) (items_keep b extent w is rs cs all.1)

to_box_keeps : (b : SliverBounds) (rs : Renders) (cs : List Object) → AllStand rs cs → LaysSome rs (laids_of (to_box_rule b (only_of cs)).children)
to_box_keeps b rs [] all = none_laid rs
to_box_keeps b no_renders (c ∷ cs) all = absurd all
to_box_keeps b (more_renders r rs) (c ∷ cs) all = inl (all.0.boxes (box_bounds b), none_laid rs)

padding_keeps : (i : Insets) (b : SliverBounds) (rs : Renders) (cs : List Object) → AllStand rs cs → LaysSome rs (laids_of (padding_rule i b (only_of cs)).children)
padding_keeps i b rs [] all = none_laid rs
padding_keeps i b no_renders (c ∷ cs) all = absurd all
padding_keeps i b (more_renders r rs) (c ∷ cs) all = inl (all.0.views _, none_laid rs)

flex_keeps : (o : ℕ) (axis : Axis) (main : MainAlign) (cross : CrossAlign) (size : MainSize) (b : Bounds) (rs : Renders) (cs : List Object) → AllStand rs cs
    → Keeps o rs (flex_rule axis main cross size b cs)
flex_keeps o axis main cross size b rs cs all =
    record { scrolled = omega arith; children = placed_keep rs _ (flex_laid axis cross b cs) (each_first rs _ cs all) }

stack_keeps : (o : ℕ) (ax ay : ℤ) (fit : StackFit) (b : Bounds) (rs : Renders) (cs : List Object) → AllStand rs cs → Keeps o rs (stack_rule ax ay fit b cs)
stack_keeps o ax ay fit b rs cs all = record { scrolled = omega arith; children = placed_keep rs _ (each_in _ cs) (each_first rs _ cs all) }

wrap_keeps : (o gap run_gap : ℕ) (b : Bounds) (rs : Renders) (cs : List Object) → AllStand rs cs → Keeps o rs (wrap_rule gap run_gap b cs)
wrap_keeps o gap run_gap b rs cs all = record {
  scrolled = omega arith;
  children = placed_keep rs _ (map (λ (c : Object). c.in_bounds (loose b.max_w Unbounded)) cs) (map_first rs (loose b.max_w Unbounded) cs all);
}

table_keeps : (o : ℕ) (widths : List ℤ) (b : Bounds) (rs : Renders) (cs : List Object) → AllStand rs cs → Keeps o rs (table_rule widths b cs)
table_keeps o widths b rs cs all =
    record { scrolled = omega arith; children = placed_keep rs _ (cells_from (columns_of widths) 0 cs) (cells_first rs (columns_of widths) 0 cs all) }

viewport_keeps : (o : ℕ) (axis : Axis) (b : Bounds) (rs : Renders) (cs : List Object) → AllStand rs cs → Keeps o rs (viewport_rule axis o b cs)
viewport_keeps o axis b rs cs all = record { scrolled = omega arith; children = walked_keep axis _ _ _ rs cs all }

nothing_keeps : (o : ℕ) (rs : Renders) (done : Done) → done.scrolled ≡ 0 → done.children ≡ [] → Keeps o rs done
nothing_keeps o rs done p q = record { scrolled = omega arith; children = rw q (none_laid rs) }

rule_keeps : (s : Setting) (l : Look) (o : ℕ) (b : Bounds) (rs : Renders) (cs : List Object) → AllStand rs cs → Keeps o rs (box_rule s l o b cs)
rule_keeps s (sized_box m0 m1) o b rs cs all = single_keeps o (within_own (sized_bounds m0 m1) b) rs cs all
rule_keeps s (constrained_box m0 m1 m2 m3) o b rs cs all = single_keeps o (within_own (constrained_bounds m0 m1 m2 m3) b) rs cs all
rule_keeps s (padding m0 m1 m2 m3) o b rs cs all = single_keeps o (padded_box (insets_of m0 m1 m2 m3) b) rs cs all
rule_keeps s (align m0 m1) o b rs cs all = single_keeps o (aligned_box m0 m1 b) rs cs all
rule_keeps s (colored_box m0) o b rs cs all = single_keeps o (proxy b) rs cs all
rule_keeps s (text m0 m1) o b rs cs all = nothing_keeps o rs (box_rule s (text m0 m1) o b cs) refl refl
rule_keeps s (row m0 m1 m2) o b rs cs all = flex_keeps o Horizontal m0 m1 m2 b rs cs all
rule_keeps s (column m0 m1 m2) o b rs cs all = flex_keeps o Vertical m0 m1 m2 b rs cs all
rule_keeps s (wrap m0 m1) o b rs cs all = wrap_keeps o m0 m1 b rs cs all
rule_keeps s (table m0) o b rs cs all = table_keeps o m0 b rs cs all
rule_keeps s (stack m0 m1 m2) o b rs cs all = stack_keeps o m0 m1 m2 b rs cs all
rule_keeps s (flexible m0 m1) o b rs cs all = nothing_keeps o rs (box_rule s (flexible m0 m1) o b cs) refl refl
rule_keeps s (positioned m0 m1 m2 m3 m4 m5) o b rs cs all = nothing_keeps o rs (box_rule s (positioned m0 m1 m2 m3 m4 m5) o b cs) refl refl
rule_keeps s (opacity m0) o b rs cs all = single_keeps o (proxy b) rs cs all
rule_keeps s clip_rect o b rs cs all = single_keeps o (proxy b) rs cs all
rule_keeps s repaint_boundary o b rs cs all = single_keeps o (proxy b) rs cs all
rule_keeps s merge_semantics o b rs cs all = single_keeps o (proxy b) rs cs all
rule_keeps s intrinsic_width o b rs cs all = single_keeps o (passing (as_wide b (child_extent Horizontal b.max_h (only_of cs))) b) rs cs all
rule_keeps s intrinsic_height o b rs cs all = single_keeps o (passing (as_high b (child_extent Vertical b.max_w (only_of cs))) b) rs cs all
rule_keeps s (offstage m0) o b rs cs all = single_keeps o (offstage_box m0 b) rs cs all
rule_keeps s (ignore_pointer m0) o b rs cs all = single_keeps o (proxy b) rs cs all
rule_keeps s (absorb_pointer m0) o b rs cs all = single_keeps o (proxy b) rs cs all
rule_keeps s (detector m0 m1 m2 m3 m4 m5) o b rs cs all = single_keeps o (proxy b) rs cs all
rule_keeps s (semantics m0 m1 m2) o b rs cs all = single_keeps o (proxy b) rs cs all
rule_keeps s (exclude_semantics m0) o b rs cs all = single_keeps o (proxy b) rs cs all
rule_keeps s (custom_paint m0) o b rs cs all = single_keeps o (painted_box (meaning_of s.delegates m0) b) rs cs all
rule_keeps s (custom_layout m0) o b rs cs all = single_keeps o (delegated_box (meaning_of s.delegates m0) b) rs cs all
rule_keeps s (viewport m0) o b rs cs all = viewport_keeps o m0 b rs cs all
rule_keeps s sliver_to_box o b rs cs all = nothing_keeps o rs (box_rule s sliver_to_box o b cs) refl refl
rule_keeps s (sliver_padding m0 m1 m2 m3) o b rs cs all = nothing_keeps o rs (box_rule s (sliver_padding m0 m1 m2 m3) o b cs) refl refl
rule_keeps s (sliver_fixed m0) o b rs cs all = nothing_keeps o rs (box_rule s (sliver_fixed m0) o b cs) refl refl
rule_keeps s (sliver_lazy m0) o b rs cs all = nothing_keeps o rs (box_rule s (sliver_lazy m0) o b cs) refl refl
rule_keeps s (keep m0) o b rs cs all = nothing_keeps o rs (box_rule s (keep m0) o b cs) refl refl
rule_keeps s (inherit m0 m1) o b rs cs all = nothing_keeps o rs (box_rule s (inherit m0 m1) o b cs) refl refl
rule_keeps s (component m0 m1 m2) o b rs cs all = nothing_keeps o rs (box_rule s (component m0 m1 m2) o b cs) refl refl

sliver_keeps : (l : Look) (n : ℕ) (b : SliverBounds) (rs : Renders) (cs : List Object) → AllStand rs cs → LaysSome rs (laids_of (sliver_rule l n b cs).children)
sliver_keeps (sized_box m0 m1) n b rs cs all = none_laid rs
sliver_keeps (constrained_box m0 m1 m2 m3) n b rs cs all = none_laid rs
sliver_keeps (padding m0 m1 m2 m3) n b rs cs all = none_laid rs
sliver_keeps (align m0 m1) n b rs cs all = none_laid rs
sliver_keeps (colored_box m0) n b rs cs all = none_laid rs
sliver_keeps (text m0 m1) n b rs cs all = none_laid rs
sliver_keeps (row m0 m1 m2) n b rs cs all = none_laid rs
sliver_keeps (column m0 m1 m2) n b rs cs all = none_laid rs
sliver_keeps (wrap m0 m1) n b rs cs all = none_laid rs
sliver_keeps (table m0) n b rs cs all = none_laid rs
sliver_keeps (stack m0 m1 m2) n b rs cs all = none_laid rs
sliver_keeps (flexible m0 m1) n b rs cs all = none_laid rs
sliver_keeps (positioned m0 m1 m2 m3 m4 m5) n b rs cs all = none_laid rs
sliver_keeps (opacity m0) n b rs cs all = none_laid rs
sliver_keeps clip_rect n b rs cs all = none_laid rs
sliver_keeps repaint_boundary n b rs cs all = none_laid rs
sliver_keeps merge_semantics n b rs cs all = none_laid rs
sliver_keeps intrinsic_width n b rs cs all = none_laid rs
sliver_keeps intrinsic_height n b rs cs all = none_laid rs
sliver_keeps (offstage m0) n b rs cs all = none_laid rs
sliver_keeps (ignore_pointer m0) n b rs cs all = none_laid rs
sliver_keeps (absorb_pointer m0) n b rs cs all = none_laid rs
sliver_keeps (detector m0 m1 m2 m3 m4 m5) n b rs cs all = none_laid rs
sliver_keeps (semantics m0 m1 m2) n b rs cs all = none_laid rs
sliver_keeps (exclude_semantics m0) n b rs cs all = none_laid rs
sliver_keeps (custom_paint m0) n b rs cs all = none_laid rs
sliver_keeps (custom_layout m0) n b rs cs all = none_laid rs
sliver_keeps (viewport m0) n b rs cs all = none_laid rs
sliver_keeps sliver_to_box n b rs cs all = to_box_keeps b rs cs all
sliver_keeps (sliver_padding m0 m1 m2 m3) n b rs cs all = padding_keeps (insets_of m0 m1 m2 m3) b rs cs all
sliver_keeps (sliver_fixed m0) n b rs cs all = items_keep b m0 _ (counted 0 cs) rs cs all
sliver_keeps (sliver_lazy m0) n b rs cs all = items_keep b m0 (window_of b m0 n) (map (λ (c : Object). c.parent_data.index) cs) rs cs all
sliver_keeps (keep m0) n b rs cs all = none_laid rs
sliver_keeps (inherit m0 m1) n b rs cs all = none_laid rs
sliver_keeps (component m0 m1 m2) n b rs cs all = none_laid rs

mutual
  unfolding object objects

  pub object_stands : (s : Setting) (r : Render) → Stands r (object s r)
  object_stands s (render n l d o c rs) = record {
    boxes = λ b. let keeps = rule_keeps s l o b rs (objects s rs) (objects_stand s rs) in (refl, refl, keeps.scrolled, keeps.children);
    views = λ b. (refl, refl, omega arith, sliver_keeps l c b rs (objects s rs) (objects_stand s rs));
  }

  pub objects_stand : (s : Setting) (rs : Renders) → AllStand rs (objects s rs)
  objects_stand s no_renders = tt
  objects_stand s (more_renders r rs) = (object_stands s r, objects_stand s rs)
