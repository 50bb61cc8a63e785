-- Which trees a program can lay out. Those of widgets whose members lie in their ranges are among them: that is a law.
use Rattle.std.specs.Prelude.{◌^◌, ◌≤◌, List, [], ◌∷◌, length}
use Rattle.std.specs.List.{All}
use Rattle.std.specs.Option.{ForSome}
use Rattle.fx_geom.specs.Offset.{IsPlacement}
use Rattle.widget_model.specs.Typed.{IsAlignment, IsLength}
use Rattle.widget_model.specs.Look.{Look, sized_box, constrained_box, padding, align, colored_box, text, row, column, wrap, table, stack, flexible, positioned, opacity, clip_rect, repaint_boundary, merge_semantics, intrinsic_width, intrinsic_height, offstage, ignore_pointer, absorb_pointer, detector, semantics, exclude_semantics, custom_paint, custom_layout, viewport, sliver_to_box, sliver_padding, sliver_fixed, sliver_lazy, keep, inherit, component}
use Rattle.plain_tree.specs.declared.render.ParentData.{ParentData}
use Rattle.plain_tree.specs.Render.{Render, render, Renders, no_renders, more_renders}

-- alignments go from -100 to 100, insets of a sliver are lengths, and the children of a list have an extent; any other member
-- will do
abbrev pub FitsLayout : Look → Type 0
FitsLayout (sized_box width height) = Unit {0}
FitsLayout (constrained_box min_width max_width min_height max_height) = Unit {0}
FitsLayout (padding left top right bottom) = Unit {0}
FitsLayout (align ax ay) = IsAlignment ax × IsAlignment ay
FitsLayout (colored_box color) = Unit {0}
FitsLayout (text words color) = Unit {0}
FitsLayout (row main cross size) = Unit {0}
FitsLayout (column main cross size) = Unit {0}
FitsLayout (wrap spacing run_spacing) = Unit {0}
FitsLayout (table widths) = Unit {0}
FitsLayout (stack ax ay fit) = IsAlignment ax × IsAlignment ay
FitsLayout (flexible flex fit) = Unit {0}
FitsLayout (positioned left top right bottom width height) = Unit {0}
FitsLayout (opacity alpha) = Unit {0}
FitsLayout clip_rect = Unit {0}
FitsLayout repaint_boundary = Unit {0}
FitsLayout merge_semantics = Unit {0}
FitsLayout intrinsic_width = Unit {0}
FitsLayout intrinsic_height = Unit {0}
FitsLayout (offstage hidden) = Unit {0}
FitsLayout (ignore_pointer ignoring) = Unit {0}
FitsLayout (absorb_pointer absorbing) = Unit {0}
FitsLayout (detector behavior tap long vertical horizontal pan) = Unit {0}
FitsLayout (semantics label button container) = Unit {0}
FitsLayout (exclude_semantics excluding) = Unit {0}
FitsLayout (custom_paint delegate) = Unit {0}
FitsLayout (custom_layout delegate) = Unit {0}
FitsLayout (viewport axis) = Unit {0}
FitsLayout sliver_to_box = Unit {0}
FitsLayout (sliver_padding left top right bottom) = IsLength left × IsLength top × IsLength right × IsLength bottom
FitsLayout (sliver_fixed extent) = 1 ≤ extent
FitsLayout (sliver_lazy extent) = 1 ≤ extent
FitsLayout (keep kept) = Unit {0}
FitsLayout (inherit name value) = Unit {0}
FitsLayout (component place props declaration) = Unit {0}

-- what a child was told: a factor, and edges from which it can be placed
pub record IsTold (d : ParentData) : Type 0 where
  pub flex : d.flex ≤ 1000000
  pub right : ForSome d.placed (λ p. ForSome p.right IsPlacement)
  pub bottom : ForSome d.placed (λ p. ForSome p.bottom IsPlacement)

-- a node fits with what its children were told; there are at most 2^44 of them, so that their factors can be summed
pub record Fits (look : Look) (ds : List ParentData) : Type 0 where
  pub members : FitsLayout look
  pub told : All IsTold ds
  pub few : length ds ≤ 2 ^ 44

-- what a render node was told by the widgets above it, and what those of a list were
abbrev pub data_of : Render → ParentData
data_of (render number look told scroll count children) = told

abbrev pub told_in : Renders → List ParentData
told_in no_renders = []
told_in (more_renders r rs) = data_of r ∷ told_in rs

-- a tree whose nodes all fit
abbrev mutual
  pub CanBeLaidOut : Render → Type 0
  CanBeLaidOut (render number look told scroll count children) = Fits look (told_in children) × CanAllBeLaidOut children

  pub CanAllBeLaidOut : Renders → Type 0
  CanAllBeLaidOut no_renders = Unit {0}
  CanAllBeLaidOut (more_renders r rs) = CanBeLaidOut r × CanAllBeLaidOut rs
