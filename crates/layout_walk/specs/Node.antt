-- What a layout reads and writes of a render node, and what is read of the nodes of a forest.
use Rattle.std.specs.Prelude.{ℕ, Bool, Option, Some, None, option_map, List, [], ◌∷◌}
use Rattle.fx_geom.specs.declared.shapes.Offset.{Offset}
use Rattle.fx_geom.specs.Bounds.{tight}
use Rattle.fx_geom.specs.Offset.{origin}
use Rattle.fx_geom.specs.Size.{no_size}
use Rattle.node_tree.specs.Forest.{Forest}
use Rattle.node_tree.specs.Forest.Forest.{none, tree}
use Rattle.widget_model.specs.Look.{Look}
use Rattle.plain_tree.specs.declared.laid.Facts.{Facts}
use Rattle.plain_tree.specs.declared.laid.Frame.{Frame}
use Rattle.plain_tree.specs.declared.laid.Frame.TheVariants.{Boxed, Sliver}
use Rattle.plain_tree.specs.declared.laid.Notes.{Notes}
use Rattle.plain_tree.specs.declared.render.ParentData.{ParentData}
use Rattle.plain_tree.specs.Offsets.{rescrolled}
use Rattle.plain_tree.specs.Render.{render, Renders, no_renders, more_renders}
use Rattle.plain_tree.specs.RenderRole.{render_role_of}
use Rattle.layout_form.specs.declared.asks.Ask.{Ask}
use Rattle.layout_form.specs.declared.asks.Ask.TheVariants.{AsBox, AsSliver}

-- its number, its kind, what it was told by the widgets above it, the number of its child widgets where it is a lazy list, and
-- how far it is scrolled; then what the last layout that reached it left: its frame, its notes, whether its delegate was plugged,
-- where a Viewport stood scrolled, its offset from its parent, and whether it is in the window; then the two marks: it has to
-- be laid out, and something below it may have to be
pub record LayoutNode : Type 0 where
  pub number : ℕ
  pub look : Look
  pub told : ParentData
  pub count : ℕ
  pub scroll : ℕ
  pub frame : Option Frame
  pub notes : Notes
  pub plugged : Bool
  pub scrolled : ℕ
  pub offset : Option Offset
  pub shown : Bool
  pub needs_layout : Bool
  pub layout_below : Bool

-- what of a node no layout changes; of a Viewport its offset isn't among it
pub record NodeMember : Type 0 where
  pub number : ℕ
  pub look : Look
  pub told : ParentData
  pub count : ℕ
  pub scroll : ℕ

abbrev pub unscrolled : Look → ℕ → ℕ
unscrolled look scroll = rescrolled (render_role_of look) (Some 0) scroll

abbrev pub member : LayoutNode → NodeMember
member v = record { number = v.number; look = v.look; told = v.told; count = v.count; scroll = unscrolled v.look v.scroll }

-- the render nodes of a forest, where no Viewport is scrolled
abbrev pub members : Forest LayoutNode → Renders
members none = no_renders
members (tree h v kids rest) = more_renders (render v.number v.look v.told (unscrolled v.look v.scroll) v.count (members kids)) (members rest)

-- the render nodes of a forest as they are
abbrev pub renders_in : Forest LayoutNode → Renders
renders_in none = no_renders
renders_in (tree h v kids rest) = more_renders (render v.number v.look v.told v.scroll v.count (renders_in kids)) (renders_in rest)

-- what the trees of a forest were told
abbrev pub tellings : Forest LayoutNode → List ParentData
tellings none = []
tellings (tree h v kids rest) = v.told ∷ tellings rest

-- one that was never laid out counts as a box without extent, and one that was never put anywhere stands at the start
abbrev pub frame_or : Option Frame → Frame
frame_or None = Boxed (tight no_size) no_size
frame_or (Some frame) = frame

abbrev pub offset_or : Option Offset → Offset
offset_or None = origin
offset_or (Some offset) = offset

-- what is stored of the last layout
abbrev pub facts_with : LayoutNode → Frame → Facts
facts_with v frame = record { frame = frame; notes = v.notes; plugged = v.plugged; scrolled = v.scrolled }

abbrev pub facts_in : LayoutNode → Option Facts
facts_in v = option_map (facts_with v) v.frame

-- how the trees of a forest answer, however they are asked, by what is stored of them
abbrev pub stored : Forest LayoutNode → List (Ask → Frame)
stored none = []
stored (tree h v kids rest) = (λ ask. frame_or v.frame) ∷ stored rest

-- what a node was asked that has this frame
abbrev pub ask_in : Frame → Ask
ask_in (Boxed bounds size) = AsBox bounds
ask_in (Sliver bounds geometry) = AsSliver bounds

-- what a node was asked in its last layout
abbrev pub asked : LayoutNode → Option Ask
asked v = option_map ask_in v.frame
