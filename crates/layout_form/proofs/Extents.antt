-- The extents that boxes would like, and what slivers give, are lengths.
use Rattle.std.proofs.Common.{ℕ, ◌≤◌, ◌^◌, Bool, true, false, List, [], ◌∷◌, arith, if◌then◌else◌}
use Rattle.fx_geom.specs.declared.boxes.Bounds.{Bounds}
use Rattle.fx_geom.specs.declared.lengths.Len.{Len}
use Rattle.fx_geom.specs.declared.lengths.Len.TheVariants.{Unbounded}
use Rattle.fx_geom.specs.declared.shapes.Axis.{Axis}
use Rattle.fx_geom.specs.declared.shapes.Axis.TheVariants.{Horizontal, Vertical}
use Rattle.fx_geom.specs.declared.shapes.Insets.{Insets}
use Rattle.fx_geom.specs.declared.shapes.Size.{Size}
use Rattle.fx_geom.specs.Insets.{extent_of}
use Rattle.fx_geom.specs.Size.{HasLengths}
use Rattle.sliver_layout.specs.declared.protocol.SliverBounds.{SliverBounds}
use Rattle.sliver_layout.specs.declared.protocol.Geometry.{Geometry}
use Rattle.wrap_table.specs.Stretches.{greatest_of}
use Rattle.widget_model.specs.Look.{Look, sized_box, constrained_box, padding, align, colored_box, text, row, column, wrap, table, stack, flexible, positioned, opacity, clip_rect, repaint_boundary, merge_semantics, intrinsic_width, intrinsic_height, offstage, ignore_pointer, absorb_pointer, detector, semantics, exclude_semantics, custom_paint, custom_layout, viewport, sliver_to_box, sliver_padding, sliver_fixed, sliver_lazy, keep, inherit, component}
use Rattle.plain_tree.specs.declared.render.ParentData.{ParentData}
use Rattle.plain_tree.specs.Render.{Render, render, Renders, no_renders, more_renders}
use Rattle.layout_form.specs.Object.{Setting, Object, size_in, geometry_in, datas, only_of}
use Rattle.layout_form.specs.Single.{sized_bounds, constrained_bounds, insets_of}
use Rattle.layout_form.specs.TextRule.{text_extent}
use Rattle.layout_form.specs.StackRule.{is_free}
use Rattle.layout_form.specs.SliverRule.{box_bounds, to_box_rule, padding_rule}
use Rattle.layout_form.specs.Intrinsic.{child_extent, child_extents, own_extent, hidden_extent, extents_where, stack_extent, flex_extent, wrap_extent, table_extent}
use Rattle.layout_form.specs.WrapTable.{columns_of}
use Rattle.layout_form.specs.Layout.{intrinsic_rule, sliver_rule, object, objects}
use Rattle.layout_form.proofs.Meets.{AllMeet, objects_meet, within_lengths}

-- an object would like lengths
pub record Likes (c : Object) : Type 0 where
  pub small : (axis : Axis) (across : Len) → c.greatest axis across ≤ 2 ^ 40

abbrev pub AllLike : List Object → Type 0
AllLike [] = Unit {0}
AllLike (c ∷ cs) = Likes c × AllLike cs

abbrev AllSmall : List ℕ → Type 0
AllSmall [] = Unit {0}
AllSmall (n ∷ ns) = (n ≤ 2 ^ 40) × AllSmall ns

child_small : (axis : Axis) (across : Len) (cs : List Object) → AllLike cs → child_extent axis across (only_of cs) ≤ 2 ^ 40
child_small axis across [] all = omega arith
child_small axis across (c ∷ cs) all = all.0.small axis across

own_small : (own : Bounds) (axis : Axis) (across : Len) (cs : List Object) → own_extent own axis across (only_of cs) ≤ 2 ^ 40
own_small own Horizontal across cs =
    let order = own.width_in_order in
    let range = own.width_in_range in
    omega arith
own_small own Vertical across cs =
    let order = own.height_in_order in
    let range = own.height_in_range in
    omega arith

hidden_small : (t : Bool) (axis : Axis) (across : Len) (cs : List Object) → AllLike cs → hidden_extent t axis across (only_of cs) ≤ 2 ^ 40
hidden_small true axis across cs all = omega arith
hidden_small false axis across cs all = child_small axis across cs all

text_small : (cell : Size) (words : List ℕ) (axis : Axis) (across : Len) → text_extent cell words axis across ≤ 2 ^ 40
text_small cell words Horizontal across = omega arith
text_small cell words Vertical across = omega arith

greatest_small : (ns : List ℕ) → AllSmall ns → greatest_of ns ≤ 2 ^ 40
greatest_small [] all = omega arith
greatest_small (n ∷ ns) all =
    let here : n ≤ 2 ^ 40 = all.0 in
    let rest : greatest_of ns ≤ 2 ^ 40 = greatest_small ns all.1 in
    omega arith

extents_small : (axis : Axis) (across : Len) (cs : List Object) → AllLike cs → AllSmall (child_extents axis across cs)
extents_small axis across [] all = tt
extents_small axis across (c ∷ cs) all = (all.0.small axis across, extents_small axis across cs all.1)

small_if : (t : Bool) (n : ℕ) (ns : List ℕ) → n ≤ 2 ^ 40 → AllSmall ns → AllSmall (if t then n ∷ ns else ns)
small_if true n ns here all = (here, all)
small_if false n ns here all = all

where_small : (test : ParentData → Bool) (ds : List ParentData) (ns : List ℕ) → AllSmall ns → AllSmall (extents_where test ds ns)
where_small test [] ns all = tt
where_small test (d ∷ ds) [] all = tt
where_small test (d ∷ ds) (n ∷ ns) all = small_if (test d) n (extents_where test ds ns) all.0 (where_small test ds ns all.1)

stack_small : (axis : Axis) (across : Len) (cs : List Object) → AllLike cs → stack_extent axis across cs ≤ 2 ^ 40
stack_small axis across cs all =
    greatest_small (extents_where is_free (datas cs) (child_extents axis across cs))
    (where_small is_free (datas cs) (child_extents axis across cs) (extents_small axis across cs all))

flex_small : (main axis : Axis) (across : Len) (cs : List Object) → AllLike cs → flex_extent main axis across cs ≤ 2 ^ 40
flex_small Horizontal Horizontal across cs all = omega arith
flex_small Horizontal Vertical across cs all = greatest_small (child_extents Vertical Unbounded cs) (extents_small Vertical Unbounded cs all)
flex_small Vertical Horizontal across cs all = greatest_small (child_extents Horizontal Unbounded cs) (extents_small Horizontal Unbounded cs all)
flex_small Vertical Vertical across cs all = omega arith

wrap_small : (gap run_gap : ℕ) (axis : Axis) (across : Len) (cs : List Object) → wrap_extent gap run_gap axis across cs ≤ 2 ^ 40
wrap_small gap run_gap Horizontal across cs = omega arith
wrap_small gap run_gap Vertical across cs = omega arith

table_small : (columns : List ℕ) (axis : Axis) (cs : List Object) → table_extent columns axis cs ≤ 2 ^ 40
table_small columns Horizontal cs = omega arith
table_small columns Vertical cs = omega arith

rule_small : (s : Setting) (l : Look) (axis : Axis) (across : Len) (cs : List Object) → AllLike cs → intrinsic_rule s l axis across cs ≤ 2 ^ 40
rule_small s (sized_box m0 m1) axis across cs all = own_small (sized_bounds m0 m1) axis across cs
rule_small s (constrained_box m0 m1 m2 m3) axis across cs all = own_small (constrained_bounds m0 m1 m2 m3) axis across cs
rule_small s (padding m0 m1 m2 m3) axis across cs all = omega arith
rule_small s (align m0 m1) axis across cs all = child_small axis across cs all
rule_small s (colored_box m0) axis across cs all = child_small axis across cs all
rule_small s (text m0 m1) axis across cs all = text_small s.cell m0 axis across
rule_small s (row m0 m1 m2) axis across cs all = flex_small Horizontal axis across cs all
rule_small s (column m0 m1 m2) axis across cs all = flex_small Vertical axis across cs all
rule_small s (wrap m0 m1) axis across cs all = wrap_small m0 m1 axis across cs
rule_small s (table m0) axis across cs all = table_small (columns_of m0) axis cs
rule_small s (stack m0 m1 m2) axis across cs all = stack_small axis across cs all
rule_small s (flexible m0 m1) axis across cs all = child_small axis across cs all
rule_small s (positioned m0 m1 m2 m3 m4 m5) axis across cs all = child_small axis across cs all
rule_small s (opacity m0) axis across cs all = child_small axis across cs all
rule_small s clip_rect axis across cs all = child_small axis across cs all
rule_small s repaint_boundary axis across cs all = child_small axis across cs all
rule_small s merge_semantics axis across cs all = child_small axis across cs all
rule_small s intrinsic_width axis across cs all = child_small axis across cs all
rule_small s intrinsic_height axis across cs all = child_small axis across cs all
rule_small s (offstage m0) axis across cs all = hidden_small m0 axis across cs all
rule_small s (ignore_pointer m0) axis across cs all = child_small axis across cs all
rule_small s (absorb_pointer m0) axis across cs all = child_small axis across cs all
rule_small s (detector m0 m1 m2 m3 m4 m5) axis across cs all = child_small axis across cs all
rule_small s (semantics m0 m1 m2) axis across cs all = child_small axis across cs all
rule_small s (exclude_semantics m0) axis across cs all = child_small axis across cs all
rule_small s (custom_paint m0) axis across cs all = child_small axis across cs all
rule_small s (custom_layout m0) axis across cs all = child_small axis across cs all
rule_small s (viewport m0) axis across cs all = omega arith
rule_small s sliver_to_box axis across cs all = child_small axis across cs all
rule_small s (sliver_padding m0 m1 m2 m3) axis across cs all = child_small axis across cs all
rule_small s (sliver_fixed m0) axis across cs all = child_small axis across cs all
rule_small s (sliver_lazy m0) axis across cs all = child_small axis across cs all
rule_small s (keep m0) axis across cs all = child_small axis across cs all
rule_small s (inherit m0 m1) axis across cs all = child_small axis across cs all
rule_small s (component m0 m1 m2) axis across cs all = child_small axis across cs all

mutual
  unfolding object objects

  pub object_likes : (s : Setting) (r : Render) → Likes (object s r)
  object_likes s (render n l d o c rs) = record { small = λ axis across. rule_small s l axis across (objects s rs) (objects_like s rs) }

  pub objects_like : (s : Setting) (rs : Renders) → AllLike (objects s rs)
  objects_like s no_renders = tt
  objects_like s (more_renders r rs) = (object_likes s r, objects_like s rs)

-- ---- slivers

-- a sliver can be scrolled through a length, and no more of it is painted than there is room for
pub record GivesWithin (b : SliverBounds) (g : Geometry) : Type 0 where
  pub scroll : g.scroll ≤ 2 ^ 40
  pub paint : g.paint ≤ b.remaining

pub extent_small : (s : Size) (axis : Axis) → HasLengths s → extent_of s axis ≤ 2 ^ 40
extent_small s Horizontal lengths = lengths.w
extent_small s Vertical lengths = lengths.h

to_box_within : (b : SliverBounds) (cs : List Object) → AllMeet cs → GivesWithin b (to_box_rule b (only_of cs)).geometry
to_box_within b [] all = record { scroll = omega arith; paint = omega arith }
to_box_within b (c ∷ cs) all =
    let l = c.in_bounds (box_bounds b) in
    record { scroll = extent_small (size_in l) b.axis (within_lengths (box_bounds b) (size_in l) (all.0.within (box_bounds b))); paint = omega arith }

padding_within : (i : Insets) (b : SliverBounds) (cs : List Object) → GivesWithin b (padding_rule i b (only_of cs)).geometry
padding_within i b [] = record { scroll = omega arith; paint = omega arith }
padding_within i b (c ∷ cs) = record { scroll = omega arith; paint = omega arith }

pub nothing_within : (b : SliverBounds) → GivesWithin b (record { scroll = 0; paint = 0 })
nothing_within b = record { scroll = omega arith; paint = omega arith }

sliver_within : (l : Look) (n : ℕ) (b : SliverBounds) (cs : List Object) → AllMeet cs → GivesWithin b (sliver_rule l n b cs).geometry
sliver_within (sized_box m0 m1) n b cs all = nothing_within b
sliver_within (constrained_box m0 m1 m2 m3) n b cs all = nothing_within b
sliver_within (padding m0 m1 m2 m3) n b cs all = nothing_within b
sliver_within (align m0 m1) n b cs all = nothing_within b
sliver_within (colored_box m0) n b cs all = nothing_within b
sliver_within (text m0 m1) n b cs all = nothing_within b
sliver_within (row m0 m1 m2) n b cs all = nothing_within b
sliver_within (column m0 m1 m2) n b cs all = nothing_within b
sliver_within (wrap m0 m1) n b cs all = nothing_within b
sliver_within (table m0) n b cs all = nothing_within b
sliver_within (stack m0 m1 m2) n b cs all = nothing_within b
sliver_within (flexible m0 m1) n b cs all = nothing_within b
sliver_within (positioned m0 m1 m2 m3 m4 m5) n b cs all = nothing_within b
sliver_within (opacity m0) n b cs all = nothing_within b
sliver_within clip_rect n b cs all = nothing_within b
sliver_within repaint_boundary n b cs all = nothing_within b
sliver_within merge_semantics n b cs all = nothing_within b
sliver_within intrinsic_width n b cs all = nothing_within b
sliver_within intrinsic_height n b cs all = nothing_within b
sliver_within (offstage m0) n b cs all = nothing_within b
sliver_within (ignore_pointer m0) n b cs all = nothing_within b
sliver_within (absorb_pointer m0) n b cs all = nothing_within b
sliver_within (detector m0 m1 m2 m3 m4 m5) n b cs all = nothing_within b
sliver_within (semantics m0 m1 m2) n b cs all = nothing_within b
sliver_within (exclude_semantics m0) n b cs all = nothing_within b
sliver_within (custom_paint m0) n b cs all = nothing_within b
sliver_within (custom_layout m0) n b cs all = nothing_within b
sliver_within (viewport m0) n b cs all = nothing_within b
sliver_within sliver_to_box n b cs all = to_box_within b cs all
sliver_within (sliver_padding m0 m1 m2 m3) n b cs all = padding_within (insets_of m0 m1 m2 m3) b cs
sliver_within (sliver_fixed m0) n b cs all = record { scroll = omega arith; paint = omega arith }
sliver_within (sliver_lazy m0) n b cs all = record { scroll = omega arith; paint = omega arith }
sliver_within (keep m0) n b cs all = nothing_within b
sliver_within (inherit m0 m1) n b cs all = nothing_within b
sliver_within (component m0 m1 m2) n b cs all = nothing_within b

pub object_gives : (s : Setting) (r : Render) (b : SliverBounds) → GivesWithin b (geometry_in ((object s r).in_view b))
unfolding object objects
object_gives s (render n l d o c rs) b = sliver_within l c b (objects s rs) (objects_meet s rs)
