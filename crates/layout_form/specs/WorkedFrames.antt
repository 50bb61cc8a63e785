-- What rules make of frames, worked by hand.
use Rattle.std.specs.Prelude.{◌≡◌, ℕ, pos, negsuc, true, false, Some, None, [], ◌∷◌}
use Rattle.fx_geom.specs.declared.lengths.Len.TheVariants.{Finite, Unbounded}
use Rattle.fx_geom.specs.declared.shapes.Axis.TheVariants.{Horizontal, Vertical}
use Rattle.fx_geom.specs.declared.words.CrossAlign.TheVariants as cross_align
use Rattle.fx_geom.specs.declared.words.MainAlign.TheVariants as main_align
use Rattle.fx_geom.specs.declared.words.StackFit.TheVariants as stack_fit
use Rattle.fx_geom.specs.Bounds.{loose, tight}
use Rattle.fx_geom.specs.Size.{no_size}
use Rattle.sliver_layout.specs.declared.protocol.SliverBounds.{SliverBounds}
use Rattle.widget_model.specs.declared.words.MainSize.TheVariants as main_size
use Rattle.widget_model.specs.Look.{Look, padding, align, row, stack, opacity, offstage, viewport, sliver_to_box, sliver_padding, sliver_fixed}
use Rattle.plain_tree.specs.declared.laid.Frame.{Frame}
use Rattle.plain_tree.specs.declared.laid.Frame.TheVariants.{Boxed, Sliver}
use Rattle.layout_form.specs.declared.asks.Ask.TheVariants.{AsSliver, AsBox}
use Rattle.layout_form.specs.Object.{no_notes}
use Rattle.layout_form.specs.FlexRule.{shared}
use Rattle.layout_form.specs.Protocol.{nothing_found}
use Rattle.layout_form.specs.Frames.{box_makes, sliver_makes, found_makes, rest_makes, sliver_asks}
use Rattle.layout_form.specs.Framed.{last_asks, fixed_size}
use Rattle.layout_form.specs.Worked.{standard, told, untold, view}

-- a box of this size, and a sliver that can be scrolled so far, of which nothing is seen
abbrev pub box_frame : ℕ → ℕ → Frame
box_frame w h = Boxed (loose Unbounded Unbounded) (view w h)

abbrev pub sliver_frame : ℕ → Frame
sliver_frame scroll = Sliver (record { axis = Vertical; offset = 0; remaining = 0; cross = 100 }) (record { scroll = scroll; paint = 0 })

-- a view of this offset and this room, 100 wide
abbrev pub view_from : ℕ → ℕ → SliverBounds
view_from offset remaining = record { axis = Vertical; offset = offset; remaining = remaining; cross = 100 }

abbrev pub a_row : Look
a_row = row main_align.Start cross_align.Center main_size.Max

abbrev pub a_stack : Look
a_stack = stack (pos 100) (negsuc 99) stack_fit.Loose

pub record FramesWork : Type 0 where
  -- children that exceed the main extent
  pub row : box_makes standard a_row (tight (view 100 10)) nothing_found (untold ∷ untold ∷ []) (box_frame 60 0 ∷ box_frame 60 4 ∷ [])
      ≡ record { size = view 100 10; notes = record { overflow = 20; unbounded = false }; scrolled = 0; places = record { x = pos 0; y = pos 5 } ∷ record { x = pos 60; y = pos 3 } ∷ [] }
  -- what a child without a factor leaves is shared
  pub shares : rest_makes a_row (tight (view 100 10)) nothing_found (untold ∷ told 1 true None 0 ∷ []) (Some (box_frame 30 5) ∷ None ∷ [])
      ≡ None ∷ Some (AsBox (shared Horizontal cross_align.Center (tight (view 100 10)) true 70)) ∷ []
  -- as large as the greatest of those that aren't positioned
  pub stack : found_makes a_stack 0 (loose (Finite 100) (Finite 100)) (Some (box_frame 30 5) ∷ None ∷ Some (box_frame 10 40) ∷ [])
      ≡ record { size = view 30 40; start = 0 }
  pub stacked : box_makes standard a_stack (loose (Finite 100) (Finite 100)) (record { size = view 30 40; start = 0 }) (untold ∷ untold ∷ []) (box_frame 30 5 ∷ box_frame 10 40 ∷ [])
      ≡ record { size = view 30 40; notes = no_notes; scrolled = 0; places = record { x = pos 0; y = pos 0 } ∷ record { x = pos 20; y = pos 0 } ∷ [] }
  pub padded : box_makes standard (padding 1 2 3 4) (loose (Finite 100) (Finite 100)) nothing_found (untold ∷ []) (box_frame 10 20 ∷ [])
      ≡ record { size = view 14 26; notes = no_notes; scrolled = 0; places = record { x = pos 1; y = pos 2 } ∷ [] }
  pub hidden : box_makes standard (offstage true) (loose (Finite 100) Unbounded) nothing_found (untold ∷ []) (box_frame 10 20 ∷ [])
      ≡ record { size = no_size; notes = no_notes; scrolled = 0; places = record { x = pos 0; y = pos 0 } ∷ [] }
  pub childless : box_makes standard (opacity 128) (tight (view 7 8)) nothing_found [] [] ≡ record { size = view 7 8; notes = no_notes; scrolled = 0; places = [] }
  -- no farther than the slivers reach
  pub start : found_makes (viewport Vertical) 200 (tight (view 100 100)) (Some (sliver_frame 90) ∷ Some (sliver_frame 80) ∷ [])
      ≡ record { size = no_size; start = 70 }
  -- of the first sliver 60 are seen, so that 40 are left for the second
  pub views : rest_makes (viewport Vertical) (tight (view 100 100)) (record { size = no_size; start = 30 }) [] (Some (sliver_frame 90) ∷ Some (sliver_frame 80) ∷ [])
      ≡ Some (AsSliver (view_from 30 100)) ∷ Some (AsSliver (view_from 0 40)) ∷ []
  pub viewed : box_makes standard (viewport Vertical) (tight (view 100 100)) (record { size = no_size; start = 30 }) []
      (Sliver (view_from 30 100) (record { scroll = 90; paint = 60 }) ∷ Sliver (view_from 0 40) (record { scroll = 80; paint = 40 }) ∷ [])
      ≡ record { size = view 100 100; notes = no_notes; scrolled = 30; places = record { x = pos 0; y = pos 0 } ∷ record { x = pos 0; y = pos 60 } ∷ [] }
  pub to_box : sliver_makes sliver_to_box 0 (view_from 30 100) (untold ∷ []) (Some (box_frame 100 50) ∷ [])
      ≡ record { geometry = record { scroll = 50; paint = 20 }; places = record { x = pos 0; y = negsuc 29 } ∷ [] }
  -- 10 of the inset at the start are seen
  pub sliver_padded : sliver_makes (sliver_padding 5 40 0 7) 0 (view_from 30 100) (untold ∷ []) (Some (Sliver (view_from 0 90) (record { scroll = 20; paint = 20 })) ∷ [])
      ≡ record { geometry = record { scroll = 67; paint = 37 }; places = record { x = pos 5; y = pos 10 } ∷ [] }
  -- of four children the second and the third are seen
  pub items : sliver_asks (sliver_fixed 40) 0 (view_from 50 60) (untold ∷ untold ∷ untold ∷ untold ∷ [])
      ≡ None ∷ Some (AsBox (tight (view 100 40))) ∷ Some (AsBox (tight (view 100 40))) ∷ None ∷ []
  pub listed : sliver_makes (sliver_fixed 40) 0 (view_from 50 60) (untold ∷ untold ∷ untold ∷ untold ∷ []) (None ∷ Some (box_frame 100 40) ∷ Some (box_frame 100 40) ∷ None ∷ [])
      ≡ record { geometry = record { scroll = 160; paint = 60 }; places = record { x = pos 0; y = negsuc 9 } ∷ record { x = pos 0; y = pos 30 } ∷ [] }
  -- a child that is asked twice is laid out as it was asked last
  pub last : last_asks (Some (AsSliver (view_from 0 0)) ∷ Some (AsSliver (view_from 0 0)) ∷ []) (None ∷ Some (AsSliver (view_from 5 9)) ∷ [])
      ≡ Some (AsSliver (view_from 0 0)) ∷ Some (AsSliver (view_from 5 9)) ∷ []
  pub fixed : fixed_size (align (pos 0) (pos 0)) (tight (view 5 6)) ≡ Some (view 5 6)
  pub free : fixed_size (align (pos 0) (pos 0)) (loose (Finite 5) (Finite 6)) ≡ None
  pub fixed_view : fixed_size (viewport Vertical) (loose (Finite 5) (Finite 6)) ≡ Some (view 5 6)
  pub fixed_hidden : fixed_size (offstage true) (loose (Finite 5) (Finite 6)) ≡ Some no_size
  pub shown : fixed_size (offstage false) (loose (Finite 5) (Finite 6)) ≡ None
