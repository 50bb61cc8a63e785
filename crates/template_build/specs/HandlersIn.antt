-- The handlers in widgets, and whose they are.
use Rattle.std.specs.Prelude.{◌≡◌, ℕ, List, [], Some, IfSome, slice_get}
use Rattle.fx_expr.specs.declared.handlers.Handler.{Handler}
use Rattle.fx_expr.specs.declared.values.Ty.{Ty}
use Rattle.fx_expr.specs.Sets.{FitFields}
use Rattle.widget_model.specs.Look.{Look, sized_box, constrained_box, padding, align, colored_box, text, row, column, wrap, table, stack, flexible, positioned, opacity, clip_rect, repaint_boundary, merge_semantics, intrinsic_width, intrinsic_height, offstage, ignore_pointer, absorb_pointer, detector, semantics, exclude_semantics, custom_paint, custom_layout, viewport, sliver_to_box, sliver_padding, sliver_fixed, sliver_lazy, keep, inherit, component}
use Rattle.widget_model.specs.Plain.{PlainWidget, plain, Widgets, no_widgets, more}

-- each handler of a widget does; a Detector alone has any
abbrev pub InLook : (Handler → Type 0) → Look → Type 0
InLook P (sized_box width height) = Unit {0}
InLook P (constrained_box min_width max_width min_height max_height) = Unit {0}
InLook P (padding left top right bottom) = Unit {0}
InLook P (align ax ay) = Unit {0}
InLook P (colored_box color) = Unit {0}
InLook P (text words color) = Unit {0}
InLook P (row main cross size) = Unit {0}
InLook P (column main cross size) = Unit {0}
InLook P (wrap spacing run_spacing) = Unit {0}
InLook P (table widths) = Unit {0}
InLook P (stack ax ay fit) = Unit {0}
InLook P (flexible flex fit) = Unit {0}
InLook P (positioned left top right bottom width height) = Unit {0}
InLook P (opacity alpha) = Unit {0}
InLook P clip_rect = Unit {0}
InLook P repaint_boundary = Unit {0}
InLook P merge_semantics = Unit {0}
InLook P intrinsic_width = Unit {0}
InLook P intrinsic_height = Unit {0}
InLook P (offstage hidden) = Unit {0}
InLook P (ignore_pointer ignoring) = Unit {0}
InLook P (absorb_pointer absorbing) = Unit {0}
InLook P (detector behavior tap long vertical horizontal pan) = IfSome tap P × IfSome long P × IfSome vertical P × IfSome horizontal P × IfSome pan P
InLook P (semantics label button container) = Unit {0}
InLook P (exclude_semantics excluding) = Unit {0}
InLook P (custom_paint delegate) = Unit {0}
InLook P (custom_layout delegate) = Unit {0}
InLook P (viewport axis) = Unit {0}
InLook P sliver_to_box = Unit {0}
InLook P (sliver_padding left top right bottom) = Unit {0}
InLook P (sliver_fixed extent) = Unit {0}
InLook P (sliver_lazy extent) = Unit {0}
InLook P (keep kept) = Unit {0}
InLook P (inherit name value) = Unit {0}
InLook P (component place props declaration) = Unit {0}

-- each handler of the widget does, and of those in its slots and of its children
abbrev mutual
  pub HandlersMeet : (Handler → Type 0) → PlainWidget → Type 0
  HandlersMeet P (plain l k slots children) = InLook P l × AllHandlersMeet P slots × AllHandlersMeet P children

  pub AllHandlersMeet : (Handler → Type 0) → Widgets → Type 0
  AllHandlersMeet P no_widgets = Unit {0}
  AllHandlersMeet P (more w ws) = HandlersMeet P w × AllHandlersMeet P ws

-- the node of a component, with the types of its fields
abbrev pub Owner : Type 0
Owner = ℕ × List Ty

-- a handler belongs to one of these, and its sets fit that one's fields
pub record IsOwned (owners : List Owner) (h : Handler) : Type 0 where
  pub place : ℕ
  pub types : List Ty
  pub found : slice_get owners place ≡ Some (h.owner, types)
  pub fits : FitFields types h.sets

-- a handler outside components sets nothing
pub record SetsNothing (h : Handler) : Type 0 where
  pub owner : h.owner ≡ 0
  pub sets : h.sets ≡ []
