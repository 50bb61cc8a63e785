-- The test of asks says when two are the same.
use Rattle.std.proofs.Common.{◌≡◌, ap, refl, ◌∙◌, ℕ, ◌==◌, Bool, true, false, ◌&&◌, arith}
use Rattle.fx_geom.specs.contracts.boxes.Bounds as bounds_rows
use Rattle.fx_geom.specs.declared.boxes.Bounds.{Bounds}
use Rattle.fx_geom.specs.declared.lengths.Len.{Len}
use Rattle.fx_geom.specs.declared.lengths.Len.TheVariants.{Finite, Unbounded}
use Rattle.fx_geom.specs.declared.shapes.Axis.{Axis}
use Rattle.fx_geom.specs.declared.shapes.Axis.TheVariants.{Horizontal, Vertical}
use Rattle.sliver_layout.specs.declared.protocol.SliverBounds.{SliverBounds}
use Rattle.fx_geom.specs.declared.shapes.Size.{Size}
use Rattle.sliver_layout.specs.declared.protocol.Geometry.{Geometry}
use Rattle.plain_tree.specs.declared.laid.Frame.{Frame}
use Rattle.plain_tree.specs.declared.laid.Frame.TheVariants.{Boxed, Sliver}
use Rattle.layout_form.specs.declared.asks.Ask.{Ask}
use Rattle.layout_form.specs.declared.asks.Ask.TheVariants.{AsBox, AsSliver}
use Rattle.layout_walk.specs.Asking.{same_len, same_axis, same_bounds, same_view, same_ask, same_frame}
use Rattle.layout_walk.proofs.Standing.{false_true}

pub and_true : (a b : Bool) → (a && b) ≡ true → (a ≡ true) × (b ≡ true)
and_true true b e = (refl, e)
and_true false b e = absurd (false_true e)

pub true_and : (a b : Bool) → a ≡ true → b ≡ true → (a && b) ≡ true
true_and a b e f = ap (λ (x : Bool). x && b) e ∙ f

same_len_is : (a b : Len) → same_len a b ≡ true → a ≡ b
same_len_is (Finite a) (Finite b) e = ap (λ (n : ℕ). Finite n) (grind arith)
same_len_is (Finite a) Unbounded e = absurd (false_true e)
same_len_is Unbounded (Finite b) e = absurd (false_true e)
same_len_is Unbounded Unbounded e = refl

pub same_axis_is : (a b : Axis) → same_axis a b ≡ true → a ≡ b
same_axis_is Horizontal Horizontal e = refl
same_axis_is Horizontal Vertical e = absurd (false_true e)
same_axis_is Vertical Horizontal e = absurd (false_true e)
same_axis_is Vertical Vertical e = refl

pub number_is : (a b : ℕ) → (a == b) ≡ true → a ≡ b
number_is a b e = grind arith

pub number_self : (a : ℕ) → (a == a) ≡ true
number_self a = grind arith

-- that a minimum is at most its maximum has no content
bounds_are : (a b : Bounds) → a.min_w ≡ b.min_w → a.max_w ≡ b.max_w → a.min_h ≡ b.min_h → a.max_h ≡ b.max_h → a ≡ b
bounds_are a b min_w max_w min_h max_h =
    let same : (bounds_rows.the_row).coded.code a ≡ (bounds_rows.the_row).coded.code b = cc in (bounds_rows.the_row).coded.inj a b same

same_bounds_is : (a b : Bounds) → same_bounds a b ≡ true → a ≡ b
same_bounds_is a b e =
    let one = and_true (a.min_w == b.min_w) (same_len a.max_w b.max_w && (a.min_h == b.min_h && same_len a.max_h b.max_h)) e in
    let two = and_true (same_len a.max_w b.max_w) (a.min_h == b.min_h && same_len a.max_h b.max_h) one.1 in
    let three = and_true (a.min_h == b.min_h) (same_len a.max_h b.max_h) two.1 in
    bounds_are a b (number_is a.min_w b.min_w one.0) (same_len_is a.max_w b.max_w two.0) (number_is a.min_h b.min_h three.0) (same_len_is a.max_h b.max_h three.1)

same_view_is : (a b : SliverBounds) → same_view a b ≡ true → a ≡ b
same_view_is a b e =
    let one = and_true (same_axis a.axis b.axis) (a.offset == b.offset && (a.remaining == b.remaining && a.cross == b.cross)) e in
    let two = and_true (a.offset == b.offset) (a.remaining == b.remaining && a.cross == b.cross) one.1 in
    let three = and_true (a.remaining == b.remaining) (a.cross == b.cross) two.1 in
    λ at. record {
      axis = same_axis_is a.axis b.axis one.0 at;
      offset = number_is a.offset b.offset two.0 at;
      remaining = number_is a.remaining b.remaining three.0 at;
      cross = number_is a.cross b.cross three.1 at;
    }

pub same_ask_is : (a b : Ask) → same_ask a b ≡ true → a ≡ b
same_ask_is (AsBox a) (AsBox b) e = ap (λ (x : Bounds). AsBox x) (same_bounds_is a b e)
same_ask_is (AsBox a) (AsSliver b) e = absurd (false_true e)
same_ask_is (AsSliver a) (AsBox b) e = absurd (false_true e)
same_ask_is (AsSliver a) (AsSliver b) e = ap (λ (x : SliverBounds). AsSliver x) (same_view_is a b e)

len_self : (a : Len) → same_len a a ≡ true
len_self (Finite a) = number_self a
len_self Unbounded = refl

pub axis_self : (a : Axis) → same_axis a a ≡ true
axis_self Horizontal = refl
axis_self Vertical = refl

pub same_ask_self : (a : Ask) → same_ask a a ≡ true
same_ask_self (AsBox a) =
    true_and (a.min_w == a.min_w) (same_len a.max_w a.max_w && (a.min_h == a.min_h && same_len a.max_h a.max_h)) (number_self a.min_w)
    (true_and (same_len a.max_w a.max_w) (a.min_h == a.min_h && same_len a.max_h a.max_h) (len_self a.max_w)
    (true_and (a.min_h == a.min_h) (same_len a.max_h a.max_h) (number_self a.min_h) (len_self a.max_h)))
same_ask_self (AsSliver a) =
    true_and (same_axis a.axis a.axis) (a.offset == a.offset && (a.remaining == a.remaining && a.cross == a.cross)) (axis_self a.axis)
    (true_and (a.offset == a.offset) (a.remaining == a.remaining && a.cross == a.cross) (number_self a.offset)
    (true_and (a.remaining == a.remaining) (a.cross == a.cross) (number_self a.remaining) (number_self a.cross)))

view_self : (a : SliverBounds) → same_view a a ≡ true
view_self a =
    true_and (same_axis a.axis a.axis) (a.offset == a.offset && (a.remaining == a.remaining && a.cross == a.cross)) (axis_self a.axis)
    (true_and (a.offset == a.offset) (a.remaining == a.remaining && a.cross == a.cross) (number_self a.offset)
    (true_and (a.remaining == a.remaining) (a.cross == a.cross) (number_self a.remaining) (number_self a.cross)))

bounds_self : (a : Bounds) → same_bounds a a ≡ true
bounds_self a = same_ask_self (AsBox a)

pub same_frame_self : (f : Frame) → same_frame f f ≡ true
same_frame_self (Boxed b size) = true_and (same_bounds b b) (size.w == size.w && size.h == size.h) (bounds_self b) (true_and (size.w == size.w) (size.h == size.h) (number_self size.w) (number_self size.h))
same_frame_self (Sliver b geometry) =
    true_and (same_view b b) (geometry.scroll == geometry.scroll && geometry.paint == geometry.paint) (view_self b)
    (true_and (geometry.scroll == geometry.scroll) (geometry.paint == geometry.paint) (number_self geometry.scroll) (number_self geometry.paint))

pub same_frame_is : (f g : Frame) → same_frame f g ≡ true → f ≡ g
same_frame_is (Boxed a size) (Boxed b other) e =
    let one = and_true (same_bounds a b) (size.w == other.w && size.h == other.h) e in
    let two = and_true (size.w == other.w) (size.h == other.h) one.1 in
    ap (λ (x : Bounds). Boxed x size) (same_bounds_is a b one.0) ∙ ap (λ (x : Size). Boxed b x) (size_is size other (number_is size.w other.w two.0) (number_is size.h other.h two.1))
  where
    size_is : (a b : Size) → a.w ≡ b.w → a.h ≡ b.h → a ≡ b
    size_is a b w h = λ at. record { w = w at; h = h at }
same_frame_is (Boxed a size) (Sliver b geometry) e = absurd (false_true e)
same_frame_is (Sliver a geometry) (Boxed b size) e = absurd (false_true e)
same_frame_is (Sliver a geometry) (Sliver b other) e =
    let one = and_true (same_view a b) (geometry.scroll == other.scroll && geometry.paint == other.paint) e in
    let two = and_true (geometry.scroll == other.scroll) (geometry.paint == other.paint) one.1 in
    ap (λ (x : SliverBounds). Sliver x geometry) (same_view_is a b one.0)
    ∙ ap (λ (x : Geometry). Sliver b x) (geometry_is geometry other (number_is geometry.scroll other.scroll two.0) (number_is geometry.paint other.paint two.1))
  where
    geometry_is : (a b : Geometry) → a.scroll ≡ b.scroll → a.paint ≡ b.paint → a ≡ b
    geometry_is a b scroll paint = λ at. record { scroll = scroll at; paint = paint at }
