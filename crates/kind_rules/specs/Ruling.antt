-- What the rule of a kind gives to a node, for a box and for a sliver.
use Rattle.std.specs.Prelude.{ℕ, List}
use Rattle.fx_geom.specs.declared.boxes.Bounds.{Bounds}
use Rattle.fx_geom.specs.declared.shapes.Offset.{Offset}
use Rattle.sliver_layout.specs.declared.protocol.SliverBounds.{SliverBounds}
use Rattle.plain_tree.specs.declared.laid.Frame.{Frame}
use Rattle.plain_tree.specs.declared.laid.Frame.TheVariants.{Boxed, Sliver}
use Rattle.plain_tree.specs.declared.laid.Notes.{Notes}
use Rattle.layout_form.specs.Object.{no_notes}
use Rattle.layout_form.specs.Frames.{Makes, Passes}
use Rattle.kind_rules.specs.declared.made.Made.{Made}
use Rattle.kind_rules.specs.Few.{items_of}

-- its frame, its notes, where a Viewport stands scrolled, and the places of the children that have answered
pub record Ruling : Type 0 where
  pub frame : Frame
  pub notes : Notes
  pub scrolled : ℕ
  pub places : List Offset

abbrev pub ruling_of : Made → Ruling
ruling_of m = record { frame = m.frame; notes = m.notes; scrolled = m.scrolled; places = items_of m.places }

abbrev pub box_ruling : Bounds → Makes → Ruling
box_ruling b m = record { frame = Boxed b m.size; notes = m.notes; scrolled = m.scrolled; places = m.places }

abbrev pub sliver_ruling : SliverBounds → Passes → Ruling
sliver_ruling b m = record { frame = Sliver b m.geometry; notes = no_notes; scrolled = 0; places = m.places }
