-- How far a sliver can be scrolled through, by the box at its end; and that box among the nodes below.
use Rattle.std.proofs.Common.{◌≡◌, ap, refl, sym, ◌∙◌, subst, ℕ, suc, ◌+◌, ◌-◌, ◌*◌, ◌<◌, Option, Some, None, List, length, get_or, arith}
use Rattle.std.specs.Prelude.{MatchOption}
use Rattle.fx_geom.specs.declared.boxes.Bounds.{Bounds}
use Rattle.fx_geom.specs.declared.shapes.Axis.{Axis}
use Rattle.fx_geom.specs.Insets.{other_of, before, after, along}
use Rattle.fx_geom.specs.Len.{stopped}
use Rattle.sliver_layout.specs.declared.protocol.SliverBounds.{SliverBounds}
use Rattle.sliver_layout.specs.Slivers.{padded_of}
use Rattle.widget_model.specs.Look.{Look, sized_box, constrained_box, padding, align, colored_box, text, row, column, wrap, table, stack, flexible, positioned, opacity, clip_rect, repaint_boundary, merge_semantics, intrinsic_width, intrinsic_height, offstage, ignore_pointer, absorb_pointer, detector, semantics, exclude_semantics, custom_paint, custom_layout, viewport, sliver_to_box, sliver_padding, sliver_fixed, sliver_lazy, keep, inherit, component}
use Rattle.plain_tree.specs.declared.render.ParentData.{ParentData}
use Rattle.plain_tree.specs.Render.{Render, render, Renders, no_renders, more_renders, list_of, count_of, counts_of}
use Rattle.layout_form.specs.Object.{Setting, Object, geometry_in}
use Rattle.layout_form.specs.Single.{insets_of}
use Rattle.layout_form.specs.Fits.{CanBeLaidOut}
use Rattle.layout_form.specs.SliverRule.{unseen}
use Rattle.layout_form.specs.Layout.{object, objects}
use Rattle.kind_rules.specs.Below.{BoxBelow, boxed, holding_of, box_held, box_below, laid_below, extent_below, scroll_by}
use Rattle.kind_rules.specs.Cursor.{look_of, children_of}
use Rattle.kind_rules.specs.declared.measuring.Holding.{Holding}
use Rattle.kind_rules.specs.declared.measuring.Holding.TheVariants.{Box, Sliver, Neither}

-- how far a sliver can be scrolled through where nothing is seen
abbrev pub scroll_at : Setting → Render → SliverBounds → ℕ
scroll_at s r b = (geometry_in ((object s r).in_view b)).scroll

-- it doesn't depend on what is seen
abbrev pub SeesNothing : Type 0
SeesNothing = (s : Setting) (r : Render) (b v : SliverBounds) → b.axis ≡ v.axis → b.cross ≡ v.cross → scroll_at s r b ≡ scroll_at s r v

objects_long : (s : Setting) (rs : Renders) → length (objects s rs) ≡ length (list_of rs)
unfolding objects
objects_long s no_renders = refl
objects_long s (more_renders r rs) = ap suc (objects_long s rs)

pub measured : (blind : SeesNothing) (s : Setting) (r : Render) (axis : Axis) (cross : ℕ)
    → (geometry_in ((object s r).in_view (unseen axis cross))).scroll ≡ scroll_by axis (extent_below axis (laid_below s axis cross r)) r
unfolding object objects
measured blind s (render n (sized_box m0 m1) d o c rs) axis cross = refl
measured blind s (render n (constrained_box m0 m1 m2 m3) d o c rs) axis cross = refl
measured blind s (render n (padding m0 m1 m2 m3) d o c rs) axis cross = refl
measured blind s (render n (align m0 m1) d o c rs) axis cross = refl
measured blind s (render n (colored_box m0) d o c rs) axis cross = refl
measured blind s (render n (text m0 m1) d o c rs) axis cross = refl
measured blind s (render n (row m0 m1 m2) d o c rs) axis cross = refl
measured blind s (render n (column m0 m1 m2) d o c rs) axis cross = refl
measured blind s (render n (wrap m0 m1) d o c rs) axis cross = refl
measured blind s (render n (table m0) d o c rs) axis cross = refl
measured blind s (render n (stack m0 m1 m2) d o c rs) axis cross = refl
measured blind s (render n (flexible m0 m1) d o c rs) axis cross = refl
measured blind s (render n (positioned m0 m1 m2 m3 m4 m5) d o c rs) axis cross = refl
measured blind s (render n (opacity m0) d o c rs) axis cross = refl
measured blind s (render n clip_rect d o c rs) axis cross = refl
measured blind s (render n repaint_boundary d o c rs) axis cross = refl
measured blind s (render n merge_semantics d o c rs) axis cross = refl
measured blind s (render n intrinsic_width d o c rs) axis cross = refl
measured blind s (render n intrinsic_height d o c rs) axis cross = refl
measured blind s (render n (offstage m0) d o c rs) axis cross = refl
measured blind s (render n (ignore_pointer m0) d o c rs) axis cross = refl
measured blind s (render n (absorb_pointer m0) d o c rs) axis cross = refl
measured blind s (render n (detector m0 m1 m2 m3 m4 m5) d o c rs) axis cross = refl
measured blind s (render n (semantics m0 m1 m2) d o c rs) axis cross = refl
measured blind s (render n (exclude_semantics m0) d o c rs) axis cross = refl
measured blind s (render n (custom_paint m0) d o c rs) axis cross = refl
measured blind s (render n (custom_layout m0) d o c rs) axis cross = refl
measured blind s (render n (viewport m0) d o c rs) axis cross = refl
measured blind s (render n sliver_to_box d o c no_renders) axis cross = refl
measured blind s (render n sliver_to_box d o c (more_renders r rs)) axis cross = refl
measured blind s (render n (sliver_padding m0 m1 m2 m3) d o c no_renders) axis cross = refl
measured blind s (render n (sliver_padding m0 m1 m2 m3) d o c (more_renders r rs)) axis cross =
    let i = insets_of m0 m1 m2 m3 in
    let inner = cross - along i (other_of axis) in
    ap (λ (x : ℕ). stopped (before i axis + after i axis + x))
    (blind s r (padded_of (unseen axis cross) i) (unseen axis inner) refl refl ∙ measured blind s r axis inner)
measured blind s (render n (sliver_fixed m0) d o c rs) axis cross = ap (λ (x : ℕ). stopped (x * m0)) (objects_long s rs)
measured blind s (render n (sliver_lazy m0) d o c rs) axis cross = refl
measured blind s (render n (keep m0) d o c rs) axis cross = refl
measured blind s (render n (inherit m0 m1) d o c rs) axis cross = refl
measured blind s (render n (component m0 m1 m2) d o c rs) axis cross = refl

-- ---- the box at the end of a chain

pub none_below : (axis : Axis) (cross : ℕ) (r : Render) → length (children_of r) ≡ 0 → None ≡ box_below axis cross r
none_below axis cross (render n l d o c no_renders) none = refl
none_below axis cross (render n l d o c (more_renders r rs)) none = absurd (omega (arith, none))

held_below : (axis : Axis) (cross : ℕ) (r k : Render) (h : Holding) → h ≡ holding_of (look_of r) axis cross → 0 < length (children_of r)
    → k ≡ get_or (children_of r) 0 k → box_held h (λ (c : ℕ). box_below axis c k) k ≡ box_below axis cross r
held_below axis cross (render n l d o c no_renders) k h is low at = absurd (omega (arith, low))
held_below axis cross (render n l d o c (more_renders r rs)) k h is low at =
    ap (λ (x : Holding). box_held x (λ (c : ℕ). box_below axis c k) k) is
    ∙ ap (λ (x : Render). box_held (holding_of l axis cross) (λ (c : ℕ). box_below axis c x) x) at

pub box_here : (axis : Axis) (cross : ℕ) (r k : Render) (b : Bounds) → Box b ≡ holding_of (look_of r) axis cross → 0 < length (children_of r)
    → k ≡ get_or (children_of r) 0 k → Some (boxed k b) ≡ box_below axis cross r
box_here axis cross r k b is low at = held_below axis cross r k (Box b) is low at

pub box_further : (axis : Axis) (cross inner : ℕ) (r k : Render) → Sliver inner ≡ holding_of (look_of r) axis cross → 0 < length (children_of r)
    → k ≡ get_or (children_of r) 0 k → box_below axis inner k ≡ box_below axis cross r
box_further axis cross inner r k is low at = held_below axis cross r k (Sliver inner) is low at

pub box_nowhere : (axis : Axis) (cross : ℕ) (r : Render) → Neither ≡ holding_of (look_of r) axis cross → None ≡ box_below axis cross r
box_nowhere axis cross (render n l d o c no_renders) is = refl
box_nowhere axis cross (render n l d o c (more_renders r rs)) is = ap (λ (x : Holding). box_held x (λ (c : ℕ). box_below axis c r) r) is

-- ---- it is below

pub box_fits : (axis : Axis) (cross : ℕ) (r : Render) (x : BoxBelow) → CanBeLaidOut r → Some x ≡ box_below axis cross r → CanBeLaidOut x.box
box_fits axis cross (render n l d o c no_renders) x can is = cc
box_fits axis cross (render n sliver_to_box d o c (more_renders r rs)) x can is =
    subst (λ (y : Option BoxBelow). MatchOption y (Unit {0}) (λ (z : BoxBelow). CanBeLaidOut z.box)) (sym is) can.1.0
box_fits axis cross (render n (sliver_padding m0 m1 m2 m3) d o c (more_renders r rs)) x can is =
    box_fits axis (cross - along (insets_of m0 m1 m2 m3) (other_of axis)) r x can.1.0 is
box_fits axis cross (render n l d o c (more_renders r rs)) x can is = cc

pub box_fewer : (axis : Axis) (cross : ℕ) (r : Render) (x : BoxBelow) → Some x ≡ box_below axis cross r → count_of x.box < count_of r
box_fewer axis cross (render n l d o c no_renders) x is = cc
box_fewer axis cross (render n sliver_to_box d o c (more_renders r rs)) x is =
    subst (λ (y : Option BoxBelow). MatchOption y (Unit {0}) (λ (z : BoxBelow). count_of z.box < suc (count_of r + counts_of rs))) (sym is) (omega arith)
box_fewer axis cross (render n (sliver_padding m0 m1 m2 m3) d o c (more_renders r rs)) x is =
    let below : count_of x.box < count_of r = box_fewer axis (cross - along (insets_of m0 m1 m2 m3) (other_of axis)) r x is in omega (arith, below)
box_fewer axis cross (render n l d o c (more_renders r rs)) x is = cc
