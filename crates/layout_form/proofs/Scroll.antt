-- In a view that ends at a length, what a sliver gives follows from how far it can be scrolled through.
use Rattle.std.proofs.Common.{◌≡◌, ap, refl, sym, ◌∙◌, ℕ, ◌+◌, ◌-◌, ◌^◌, ◌≤◌, min, Some, List, [], ◌∷◌, arith}
use Rattle.fx_geom.specs.declared.shapes.Insets.{Insets}
use Rattle.fx_geom.specs.Insets.{before, after}
use Rattle.fx_geom.specs.Len.{stopped}
use Rattle.sliver_layout.specs.declared.protocol.Geometry.{Geometry}
use Rattle.sliver_layout.specs.declared.protocol.SliverBounds.{SliverBounds}
use Rattle.sliver_layout.specs.Slivers.{seen, paint_offset_of, geometry_of, padded_of, padding_of}
use Rattle.widget_model.specs.Look.{Look, sized_box, constrained_box, padding, align, colored_box, text, row, column, wrap, table, stack, flexible, positioned, opacity, clip_rect, repaint_boundary, merge_semantics, intrinsic_width, intrinsic_height, offstage, ignore_pointer, absorb_pointer, detector, semantics, exclude_semantics, custom_paint, custom_layout, viewport, sliver_to_box, sliver_padding, sliver_fixed, sliver_lazy, keep, inherit, component}
use Rattle.plain_tree.specs.Render.{Render, render, Renders, no_renders, more_renders}
use Rattle.layout_form.specs.Object.{Setting, Object, geometry_in, only_of}
use Rattle.layout_form.specs.Single.{insets_of}
use Rattle.layout_form.specs.SliverRule.{unseen, to_box_rule, padding_rule}
use Rattle.layout_form.specs.Layout.{sliver_rule, object, objects}
use Rattle.layout_form.specs.Framed.{EndsInRange}
use Rattle.layout_form.proofs.Blind.{objects_blind, rule_blind}

-- how far the place of a view that is nearest to x lies from its begin
far : ℕ → ℕ → ℕ → ℕ
far a r x = min (x - a) r

seen_far : (b : SliverBounds) (x : ℕ) → seen b x ≡ b.offset + far b.offset b.remaining x
unfolding far
seen_far b x = omega arith

far_most : (a r x : ℕ) → far a r x ≤ r
unfolding far
far_most a r x = omega arith

far_zero : (a r : ℕ) → far a r 0 ≡ 0
unfolding far
far_zero a r = omega arith

far_more : (a r x y : ℕ) → x ≤ y → far a r x ≤ far a r y
unfolding far
far_more a r x y le = omega arith

far_stopped : (a r x : ℕ) → a + r ≤ 2 ^ 40 → far a r (stopped x) ≡ far a r x
unfolding far
far_stopped a r x range = omega arith

after_inset : (a r p s : ℕ) → far (a - p) (r - far a r p) s + far a r p ≡ far a r (p + s)
unfolding far
after_inset a r p s = omega arith

painted_far : (x y a f g r : ℕ) → x ≡ a + f → y ≡ a + g → g ≤ r → min (y - x) r ≡ g - f
painted_far x y a f g r e h most = omega arith

paint_far : (b : SliverBounds) (x y : ℕ) → paint_offset_of b x y ≡ far b.offset b.remaining y - far b.offset b.remaining x
paint_far b x y =
    painted_far (seen b x) (seen b y) b.offset (far b.offset b.remaining x) (far b.offset b.remaining y) b.remaining
    (seen_far b x) (seen_far b y) (far_most b.offset b.remaining y)

less_zero : (m n z : ℕ) → m ≡ n - z → z ≡ 0 → m ≡ n
less_zero m n z e f = omega arith

from_start : (b : SliverBounds) (x : ℕ) → paint_offset_of b 0 x ≡ far b.offset b.remaining x
from_start b x = less_zero (paint_offset_of b 0 x) (far b.offset b.remaining x) (far b.offset b.remaining 0) (paint_far b 0 x) (far_zero b.offset b.remaining)

stretches : (x1 x2 x3 whole r f g h : ℕ) → x1 ≡ f → x2 + f ≡ g → x3 ≡ h - g → g ≤ h → h ≤ r → whole ≡ h → min (x1 + x2 + x3) r ≡ whole
stretches x1 x2 x3 whole r f g h e1 e2 e3 le most ew = omega arith

after_equation : (x2 f g y : ℕ) → x2 ≡ y → y + f ≡ g → x2 + f ≡ g
after_equation x2 f g y e h = omega arith

swapped : (p q s : ℕ) → p + s ≤ p + q + s
swapped p q s = omega arith

padding_paint : (b : SliverBounds) (i : Insets) (s : ℕ) → EndsInRange b
    → (padding_of b i (Some (geometry_of (padded_of b i) s))).paint ≡ paint_offset_of b 0 (stopped (before i b.axis + after i b.axis + s))
padding_paint b i s range =
    let a = b.offset in
    let r = b.remaining in
    let p = before i b.axis in
    let q = after i b.axis in
    let inner : paint_offset_of (padded_of b i) 0 s ≡ far (a - p) (r - far a r p) s =
    from_start (padded_of b i) s ∙ ap (λ (n : ℕ). far (a - p) (r - n) s) (from_start b p) in
    stretches (paint_offset_of b 0 p) (paint_offset_of (padded_of b i) 0 s) (paint_offset_of b (stopped (p + s)) (stopped (p + q + s)))
    (paint_offset_of b 0 (stopped (p + q + s))) r (far a r p) (far a r (p + s)) (far a r (p + q + s))
    (from_start b p)
    (after_equation (paint_offset_of (padded_of b i) 0 s) (far a r p) (far a r (p + s)) (far (a - p) (r - far a r p) s) inner (after_inset a r p s))
    (paint_far b (stopped (p + s)) (stopped (p + q + s))
    ∙ ap (λ (n : ℕ). n - far a r (stopped (p + s))) (far_stopped a r (p + q + s) range)
    ∙ ap (λ (n : ℕ). far a r (p + q + s) - n) (far_stopped a r (p + s) range))
    (far_more a r (p + s) (p + q + s) (swapped p q s))
    (far_most a r (p + q + s))
    (from_start b (stopped (p + q + s)) ∙ far_stopped a r (p + q + s) range)

pub padding_by_scroll : (b : SliverBounds) (i : Insets) (s : ℕ) → EndsInRange b
    → padding_of b i (Some (geometry_of (padded_of b i) s)) ≡ geometry_of b (stopped (before i b.axis + after i b.axis + s))
padding_by_scroll b i s range =
    ap (λ (n : ℕ). record { scroll = stopped (before i b.axis + after i b.axis + s); paint = n }) (padding_paint b i s range)

less_range : (a r p x : ℕ) → a + r ≤ 2 ^ 40 → (a - p) + (r - x) ≤ 2 ^ 40
less_range a r p x range = omega arith

padded_range : (b : SliverBounds) (i : Insets) → EndsInRange b → EndsInRange (padded_of b i)
padded_range b i range = less_range b.offset b.remaining (before i b.axis) (paint_offset_of b 0 (before i b.axis)) range

padding_follows : (b : SliverBounds) (i : Insets) (g : Geometry) (s : ℕ) → EndsInRange b → g ≡ geometry_of (padded_of b i) s
    → padding_of b i (Some g) ≡ geometry_of b (stopped (before i b.axis + after i b.axis + g.scroll))
padding_follows b i g s range e =
    ap (λ (x : Geometry). padding_of b i (Some x)) e ∙ padding_by_scroll b i s range
    ∙ ap (λ (n : ℕ). geometry_of b (stopped (before i b.axis + after i b.axis + n))) (sym (ap (λ (x : Geometry). x.scroll) e))

-- ---- all kinds

-- what an object gives follows from how far it can be scrolled through
pub record FollowsScroll (c : Object) : Type 0 where
  pub same : (b : SliverBounds) → EndsInRange b → geometry_in (c.in_view b) ≡ geometry_of b (geometry_in (c.in_view (unseen b.axis b.cross))).scroll

abbrev pub AllFollow : List Object → Type 0
AllFollow [] = Unit {0}
AllFollow (c ∷ cs) = FollowsScroll c × AllFollow cs

nothing_follows : (b : SliverBounds) → record { scroll = 0; paint = 0 } ≡ geometry_of b 0
nothing_follows b = ap (λ (n : ℕ). record { scroll = 0; paint = n }) (sym (from_start b 0 ∙ far_zero b.offset b.remaining))

to_box_follows : (b : SliverBounds) (cs : List Object) → (to_box_rule b (only_of cs)).geometry ≡ geometry_of b (to_box_rule b (only_of cs)).geometry.scroll
to_box_follows b [] = nothing_follows b
to_box_follows b (c ∷ cs) = refl

padded_follows : (i : Insets) (b : SliverBounds) (cs : List Object) → EndsInRange b → AllFollow cs
    → (padding_rule i b (only_of cs)).geometry ≡ geometry_of b (padding_rule i b (only_of cs)).geometry.scroll
padded_follows i b [] range all = refl
padded_follows i b (c ∷ cs) range all =
    padding_follows b i (geometry_in (c.in_view (padded_of b i)))
    (geometry_in (c.in_view (unseen (padded_of b i).axis (padded_of b i).cross))).scroll range (all.0.same (padded_of b i) (padded_range b i range))

rule_follows : (l : Look) (n : ℕ) (b : SliverBounds) (cs : List Object) → EndsInRange b → AllFollow cs
    → (sliver_rule l n b cs).geometry ≡ geometry_of b (sliver_rule l n b cs).geometry.scroll
rule_follows (sized_box m0 m1) n b cs range all = nothing_follows b
rule_follows (constrained_box m0 m1 m2 m3) n b cs range all = nothing_follows b
rule_follows (padding m0 m1 m2 m3) n b cs range all = nothing_follows b
rule_follows (align m0 m1) n b cs range all = nothing_follows b
rule_follows (colored_box m0) n b cs range all = nothing_follows b
rule_follows (text m0 m1) n b cs range all = nothing_follows b
rule_follows (row m0 m1 m2) n b cs range all = nothing_follows b
rule_follows (column m0 m1 m2) n b cs range all = nothing_follows b
rule_follows (wrap m0 m1) n b cs range all = nothing_follows b
rule_follows (table m0) n b cs range all = nothing_follows b
rule_follows (stack m0 m1 m2) n b cs range all = nothing_follows b
rule_follows (flexible m0 m1) n b cs range all = nothing_follows b
rule_follows (positioned m0 m1 m2 m3 m4 m5) n b cs range all = nothing_follows b
rule_follows (opacity m0) n b cs range all = nothing_follows b
rule_follows clip_rect n b cs range all = nothing_follows b
rule_follows repaint_boundary n b cs range all = nothing_follows b
rule_follows merge_semantics n b cs range all = nothing_follows b
rule_follows intrinsic_width n b cs range all = nothing_follows b
rule_follows intrinsic_height n b cs range all = nothing_follows b
rule_follows (offstage m0) n b cs range all = nothing_follows b
rule_follows (ignore_pointer m0) n b cs range all = nothing_follows b
rule_follows (absorb_pointer m0) n b cs range all = nothing_follows b
rule_follows (detector m0 m1 m2 m3 m4 m5) n b cs range all = nothing_follows b
rule_follows (semantics m0 m1 m2) n b cs range all = nothing_follows b
rule_follows (exclude_semantics m0) n b cs range all = nothing_follows b
rule_follows (custom_paint m0) n b cs range all = nothing_follows b
rule_follows (custom_layout m0) n b cs range all = nothing_follows b
rule_follows (viewport m0) n b cs range all = nothing_follows b
rule_follows sliver_to_box n b cs range all = to_box_follows b cs
rule_follows (sliver_padding m0 m1 m2 m3) n b cs range all = padded_follows (insets_of m0 m1 m2 m3) b cs range all
rule_follows (sliver_fixed m0) n b cs range all = refl
rule_follows (sliver_lazy m0) n b cs range all = refl
rule_follows (keep m0) n b cs range all = nothing_follows b
rule_follows (inherit m0 m1) n b cs range all = nothing_follows b
rule_follows (component m0 m1 m2) n b cs range all = nothing_follows b

mutual
  unfolding object objects

  pub object_follows : (s : Setting) (r : Render) → FollowsScroll (object s r)
  object_follows s (render n l d o c rs) = record {
    same = λ b range.
        rule_follows l c b (objects s rs) range (objects_follow s rs)
        ∙ ap (geometry_of b) (rule_blind l c b.axis b.cross b.offset b.remaining 0 0 (objects s rs) (objects_blind s rs));
  }

  pub objects_follow : (s : Setting) (rs : Renders) → AllFollow (objects s rs)
  objects_follow s no_renders = tt
  objects_follow s (more_renders r rs) = (object_follows s r, objects_follow s rs)

pub scroll_tells : (s : Setting) (r : Render) (b : SliverBounds) → EndsInRange b
    → geometry_in ((object s r).in_view b) ≡ geometry_of b (geometry_in ((object s r).in_view (unseen b.axis b.cross))).scroll
scroll_tells s r b range = (object_follows s r).same b range
