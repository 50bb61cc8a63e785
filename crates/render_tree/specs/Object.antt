-- A node of the tree that is laid out, as plain data (`RenderObject`).
use Rattle.std.specs.Prelude.{ℕ, Bool, true, false, Option, Some, None, refl}
use Rattle.std.specs.Coded.{Coded, code_by, coded×, coded_ℕ, coded_bool, coded_option}
use Rattle.fx_geom.specs.declared.boxes.Bounds.{Bounds}
use Rattle.fx_geom.specs.declared.shapes.Offset.{Offset}
use Rattle.fx_geom.specs.declared.shapes.Size.{Size}
use Rattle.sliver_layout.specs.declared.protocol.SliverBounds.{SliverBounds}
use Rattle.sliver_layout.specs.declared.protocol.Geometry.{Geometry}
use Rattle.sliver_layout.specs.declared.protocol.Window.{Window as Range}
use Rattle.sliver_layout.specs.contracts.protocol.Window as window_rows
use Rattle.widget_model.specs.Look.{Look, sliver_to_box, sliver_padding, sliver_fixed, sliver_lazy}
use Rattle.widget_model.specs.Plain.{PlainWidget, look_of}
use Rattle.widget_model.specs.PlainCode.{widget_code, widget_inj}
use Rattle.plain_tree.specs.declared.render.ParentData.{ParentData}
use Rattle.plain_tree.specs.RenderCode.{coded_parent_data}
use Rattle.plain_tree.specs.LaidCode.{coded_offset}
use Rattle.plain_tree.specs.declared.laid.Frame.{Frame}
use Rattle.plain_tree.specs.declared.laid.Frame.TheVariants.{Boxed, Sliver}
use Rattle.plain_tree.specs.declared.laid.Notes.{Notes}
use Rattle.plain_tree.specs.contracts.laid.Frame as frame_rows
use Rattle.plain_tree.specs.contracts.laid.Notes as notes_rows
use Rattle.plain_tree.specs.declared.role.RenderRole.{RenderRole}
use Rattle.plain_tree.specs.declared.role.RenderRole.TheVariants.{Composes, Shares, Places, Line, Pile, Lazy, Window, Plain}
use Rattle.plain_tree.specs.RenderRole.{render_role_of, is_window}

-- a render node: its number, its widget, what its parent takes from the widgets between them, and how far it is scrolled; what
-- its last layout gave: the frame, if there was one, what it remarked, whether a delegate was plugged, and where it left a
-- Viewport; where its parent put it, if it did, and whether it is in the window; the live range of a SliverLazy, if one is
-- stored; and its marks: it is to be laid out, something below it may be, and the same two for painting
pub record RenderObject : Type 0 where
  pub number : ℕ
  pub widget : PlainWidget
  pub parent_data : ParentData
  pub scroll : ℕ
  pub frame : Option Frame
  pub notes : Notes
  pub plugged : Bool
  pub scrolled : ℕ
  pub offset : Option Offset
  pub shown : Bool
  pub live : Option Range
  pub needs_layout : Bool
  pub layout_below : Bool
  pub needs_paint : Bool
  pub paint_below : Bool

abbrev pub coded_widget : Coded PlainWidget
coded_widget = record { code = widget_code; inj = widget_inj }

-- its marks
abbrev pub coded_marks : Coded (Bool × (Bool × (Bool × Bool)))
coded_marks = coded× coded_bool (coded× coded_bool (coded× coded_bool coded_bool))

-- what its last layout gave
abbrev pub coded_outcome : Coded (Option Frame × (Notes × (Bool × ℕ)))
coded_outcome = coded× (coded_option (frame_rows.the_row).coded) (coded× (notes_rows.the_row).coded (coded× coded_bool coded_ℕ))

-- a render node is stored as the tuple of its fields
abbrev pub object_code : Coded RenderObject
object_code =
    code_by
    (ℕ × (PlainWidget × (ParentData × (ℕ × ((Option Frame × (Notes × (Bool × ℕ))) × (Option Offset × (Bool × (Option Range × (Bool × (Bool × (Bool × Bool)))))))))))
    (coded× coded_ℕ (coded× coded_widget (coded× coded_parent_data (coded× coded_ℕ (coded× coded_outcome (coded× (coded_option coded_offset) (coded× coded_bool (coded× (coded_option (window_rows.the_row).coded) coded_marks))))))))
    (λ o. (o.number, (o.widget, (o.parent_data, (o.scroll, ((o.frame, (o.notes, (o.plugged, o.scrolled))), (o.offset, (o.shown, (o.live, (o.needs_layout, (o.layout_below, (o.needs_paint, o.paint_below))))))))))))
    (λ p. record {
      number = p.0;
      widget = p.1.0;
      parent_data = p.1.1.0;
      scroll = p.1.1.1.0;
      frame = p.1.1.1.1.0.0;
      notes = p.1.1.1.1.0.1.0;
      plugged = p.1.1.1.1.0.1.1.0;
      scrolled = p.1.1.1.1.0.1.1.1;
      offset = p.1.1.1.1.1.0;
      shown = p.1.1.1.1.1.1.0;
      live = p.1.1.1.1.1.1.1.0;
      needs_layout = p.1.1.1.1.1.1.1.1.0;
      layout_below = p.1.1.1.1.1.1.1.1.1.0;
      needs_paint = p.1.1.1.1.1.1.1.1.1.1.0;
      paint_below = p.1.1.1.1.1.1.1.1.1.1.1;
    })
    (λ _. refl)

-- the bounds and the size of a box, and those of a sliver
abbrev pub bounds_in : Option Frame → Option Bounds
bounds_in None = None
bounds_in (Some (Boxed bounds size)) = Some bounds
bounds_in (Some (Sliver bounds geometry)) = None

abbrev pub size_in : Option Frame → Option Size
size_in None = None
size_in (Some (Boxed bounds size)) = Some size
size_in (Some (Sliver bounds geometry)) = None

abbrev pub sliver_in : Option Frame → Option SliverBounds
sliver_in None = None
sliver_in (Some (Boxed bounds size)) = None
sliver_in (Some (Sliver bounds geometry)) = Some bounds

abbrev pub geometry_in : Option Frame → Option Geometry
geometry_in None = None
geometry_in (Some (Boxed bounds size)) = None
geometry_in (Some (Sliver bounds geometry)) = Some geometry

-- its kind, with its members
abbrev pub object_look : RenderObject → Look
object_look o = look_of o.widget

-- whether the node can be scrolled: it is a Viewport
abbrev pub is_viewport : RenderObject → Bool
is_viewport o = is_window (render_role_of (object_look o))

-- whether a kind of a role is a lazy list
abbrev pub lists : RenderRole → Bool
lists Composes = false
lists (Shares flex tight) = false
lists (Places placed) = false
lists Line = false
lists Pile = false
lists Lazy = true
lists Window = false
lists Plain = false

-- whether the node has a live range: it is a SliverLazy
abbrev pub is_lazy : RenderObject → Bool
is_lazy o = lists (render_role_of (object_look o))

-- whether a kind is laid out as a sliver
abbrev pub is_sliver : Look → Bool
is_sliver sliver_to_box = true
is_sliver (sliver_padding left top right bottom) = true
is_sliver (sliver_fixed extent) = true
is_sliver (sliver_lazy extent) = true
is_sliver look = false
