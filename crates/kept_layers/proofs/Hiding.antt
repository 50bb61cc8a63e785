-- A node hides what is below it from the eye exactly where its role hides it.
use Rattle.std.proofs.Common.{◌≡◌, ◌≢◌, ◌==◌, ℕ, Bool, true, false, not, if◌then◌else◌, refl, sym, ap, ◌∙◌, true≢false}
use Rattle.fx_geom.specs.declared.shapes.Offset.{Offset}
use Rattle.layer_tree.specs.declared.kind.LayerKind.TheVariants as layer_kind
use Rattle.plain_tree.specs.declared.laid.Frame.{Frame}
use Rattle.widget_model.specs.Look.{Look, sized_box, constrained_box, padding, align, colored_box, text, row, column, wrap, table, stack, flexible, positioned, opacity, clip_rect, repaint_boundary, merge_semantics, intrinsic_width, intrinsic_height, offstage, ignore_pointer, absorb_pointer, detector, semantics, exclude_semantics, custom_paint, custom_layout, viewport, sliver_to_box, sliver_padding, sliver_fixed, sliver_lazy, keep, inherit, component}
use Rattle.screen_form.specs.declared.paint_role.PaintRole.{PaintRole}
use Rattle.screen_form.specs.declared.paint_role.PaintRole.TheVariants.{Hides, Passes, Layers}
use Rattle.screen_form.specs.Hidden.{hides_below}
use Rattle.screen_form.specs.PaintRole.{shown_role, faded}
use Rattle.render_tree.specs.Object.{RenderObject, object_look}
use Rattle.render_tree.specs.Plain.{frame_or}
use Rattle.kept_layers.specs.Group.{opens, role_of}

-- which role it is
abbrev hides_all : PaintRole → Bool
hides_all Hides = true
hides_all Passes = false
hides_all (Layers k) = false

passes_not : (r : PaintRole) → hides_all r ≡ false → r ≢ Hides
passes_not r e is = true≢false (sym (ap hides_all is) ∙ e)

faded_shows : (alpha : ℕ) (has : Bool) (p : Offset) → hides_all (faded alpha has p) ≡ false
faded_shows alpha false p = refl
faded_shows alpha true p = by_full (alpha == 255)
  where
    by_full : (b : Bool) → hides_all (if b then Passes else Layers (layer_kind.Opacity p alpha)) ≡ false
    by_full true = refl
    by_full false = refl

clip_shows : (frame : Frame) (p : Offset) (has : Bool) → hides_all (shown_role clip_rect frame has p) ≡ false
clip_shows frame p true = refl
clip_shows frame p false = refl

role_shows : (look : Look) (frame : Frame) (has : Bool) (p : Offset) → hides_all (shown_role look frame has p) ≡ false
role_shows (sized_box width height) frame has p = refl
role_shows (constrained_box min_width max_width min_height max_height) frame has p = refl
role_shows (padding left top right bottom) frame has p = refl
role_shows (align ax ay) frame has p = refl
role_shows (colored_box color) frame has p = refl
role_shows (text words color) frame has p = refl
role_shows (row main cross size) frame has p = refl
role_shows (column main cross size) frame has p = refl
role_shows (wrap spacing run_spacing) frame has p = refl
role_shows (table widths) frame has p = refl
role_shows (stack ax ay fit) frame has p = refl
role_shows (flexible flex fit) frame has p = refl
role_shows (positioned left top right bottom width height) frame has p = refl
role_shows (opacity alpha) frame has p = faded_shows alpha has p
role_shows clip_rect frame has p = clip_shows frame p has
role_shows repaint_boundary frame has p = refl
role_shows merge_semantics frame has p = refl
role_shows intrinsic_width frame has p = refl
role_shows intrinsic_height frame has p = refl
role_shows (offstage hidden) frame has p = refl
role_shows (ignore_pointer ignoring) frame has p = refl
role_shows (absorb_pointer absorbing) frame has p = refl
role_shows (detector how tap long vertical horizontal pan) frame has p = refl
role_shows (semantics label button container) frame has p = refl
role_shows (exclude_semantics excluding) frame has p = refl
role_shows (custom_paint delegate) frame has p = refl
role_shows (custom_layout delegate) frame has p = refl
role_shows (viewport axis) frame has p = refl
role_shows sliver_to_box frame has p = refl
role_shows (sliver_padding left top right bottom) frame has p = refl
role_shows (sliver_fixed extent) frame has p = refl
role_shows (sliver_lazy extent) frame has p = refl
role_shows (keep kept) frame has p = refl
role_shows (inherit name value) frame has p = refl
role_shows (component place props declaration) frame has p = refl

pub seen_role : (o : RenderObject) (has : Bool) (p : Offset) → role_of o has p ≡ Hides → opens o ≡ false
seen_role o has p is = by_hides (hides_below (object_look o) (frame_or o.frame)) is
  where
    by_hides : (b : Bool) → (if b then Hides else shown_role (object_look o) (frame_or o.frame) has p) ≡ Hides → not b ≡ false
    by_hides true e = refl
    by_hides false e = absurd (passes_not (shown_role (object_look o) (frame_or o.frame) has p) (role_shows (object_look o) (frame_or o.frame) has p) e)
