-- What is painted of small laid trees, worked by hand.
use Rattle.std.specs.Prelude.{◌≡◌, ℕ, ℤ, pos, negsuc, true, false, List, [], ◌∷◌, codes}
use Rattle.fx_geom.specs.declared.shapes.Axis.TheVariants.{Vertical}
use Rattle.fx_geom.specs.declared.shapes.Offset.{Offset}
use Rattle.fx_geom.specs.declared.shapes.Rect.{Rect}
use Rattle.fx_geom.specs.declared.shapes.Size.{Size}
use Rattle.fx_geom.specs.Bounds.{tight}
use Rattle.fx_geom.specs.Offset.{origin}
use Rattle.text_cells.specs.declared.line.Line.{Line}
use Rattle.draw_records.specs.declared.record.Record.TheVariants.{Fill, Run}
use Rattle.layer_tree.specs.declared.kind.LayerKind.TheVariants as kind
use Rattle.layer_tree.specs.LayerItem.{LayerItem, drawn, nested, items_of}
use Rattle.delegates.specs.Meaning.{bars}
use Rattle.delegates.specs.Table.{Plug, plugged as plug_of}
use Rattle.widget_model.specs.Look.{Look, padding, colored_box, opacity, clip_rect, repaint_boundary, offstage, custom_paint, viewport, sliver_to_box}
use Rattle.plain_tree.specs.declared.laid.Facts.{Facts}
use Rattle.plain_tree.specs.declared.laid.Frame.{Frame}
use Rattle.plain_tree.specs.declared.laid.Frame.TheVariants.{Boxed, Sliver}
use Rattle.plain_tree.specs.Laid.{Laid, laid, Stood, laids_of}
use Rattle.screen_form.specs.OwnRecords.{runs_from}
use Rattle.screen_form.specs.Painted.{painted}

-- ---- small trees

abbrev pub size : ℕ → ℕ → Size
size w h = record { w = w; h = h }

abbrev pub point : ℤ → ℤ → Offset
point x y = record { x = x; y = y }

abbrev pub rect : ℤ → ℤ → ℕ → ℕ → Rect
rect x y w h = record { at = point x y; size = size w h }

abbrev pub facts : Frame → Facts
facts frame = record { frame = frame; notes = record { overflow = 0; unbounded = false }; plugged = false; scrolled = 0 }

abbrev pub box : Look → ℕ → ℕ → List Stood → Laid
box look w h children = laid 1 look (facts (Boxed (tight (size w h)) (size w h))) (laids_of children)

abbrev pub sliver : Look → ℕ → ℕ → List Stood → Laid
sliver look paint cross children =
    laid 1 look
    (facts (Sliver (record { axis = Vertical; offset = 0; remaining = paint; cross = cross }) (record { scroll = paint; paint = paint })))
    (laids_of children)

abbrev pub at : ℤ → ℤ → Laid → Stood
at x y child = record { at = point x y; child = child }

abbrev pub line : ℕ → ℕ → Line
line start end = record { start = start; end = end; cells = 0 }

abbrev pub filled : ℤ → ℤ → ℕ → ℕ → ℕ → LayerItem
filled x y w h color = drawn (Fill (rect x y w h) color)

-- what is painted at (0,0), in the cells of 64 u a pixel
abbrev pub shows : List Plug → Laid → List LayerItem
shows delegates l = painted (size 512 1024) delegates l origin

-- ---- what they show

abbrev pub colored : ℕ → ℕ → ℕ → Laid
colored color w h = box (colored_box color) w h []

abbrev pub faded_box : ℕ → Laid
faded_box alpha = box (padding 10 0 0 0) 100 50 (at (pos 10) (pos 0) (box (opacity alpha) 90 50 (at (pos 0) (pos 0) (colored 1 90 50) ∷ [])) ∷ [])

abbrev pub barred_box : Laid
barred_box = box (padding 20 0 0 0) 28 8 (at (pos 20) (pos 0) (box repaint_boundary 8 8 (at (pos 0) (pos 0) (box (custom_paint (codes "bars")) 8 8 []) ∷ [])) ∷ [])

abbrev pub scrolled_box : ℕ → Laid
scrolled_box paint = box (padding 5 5 0 0) 105 105 (at (pos 5) (pos 5)
    (box (viewport Vertical) 100 100 (at (pos 0) (pos 0) (sliver sliver_to_box paint 100 (at (pos 0) (negsuc 9) (colored 2 100 60) ∷ [])) ∷ [])) ∷ [])

pub record Works : Type 0 where
  -- a ColoredBox in a Padding is painted at its offset; one without an extent isn't
  pub padded : shows [] (box (padding 10 5 0 0) 100 50 (at (pos 10) (pos 5) (colored 4278190335 90 45) ∷ [])) ≡ filled (pos 10) (pos 5) 90 45 4278190335 ∷ []
  pub empty : shows [] (colored 1 90 0) ≡ []
  -- a parent is painted before its children, and these in their order
  pub in_order : shows [] (box (colored_box 1) 9 9 (at (pos 1) (pos 2) (colored 2 3 4) ∷ at (pos 5) (pos 6) (colored 3 7 8) ∷ []))
      ≡ filled (pos 0) (pos 0) 9 9 1 ∷ filled (pos 1) (pos 2) 3 4 2 ∷ filled (pos 5) (pos 6) 7 8 3 ∷ []
  -- an Opacity makes a layer, in which its child begins at (0,0), but not at 0 or at 255 or without a child
  pub half_seen : shows [] (faded_box 128) ≡ nested (kind.Opacity (point (pos 10) (pos 0)) 128) (items_of (filled (pos 0) (pos 0) 90 50 1 ∷ [])) ∷ []
  pub faded_out : shows [] (faded_box 0) ≡ []
  pub wholly_seen : shows [] (faded_box 255) ≡ filled (pos 10) (pos 0) 90 50 1 ∷ []
  pub seen_alone : shows [] (box (opacity 128) 90 50 []) ≡ []
  -- a RepaintBoundary makes a layer in any case; in it a CustomPaint shows what its delegate draws, if one is plugged
  pub plugged : shows (plug_of (codes "bars") (bars (pos 4) (pos 4278190335)) ∷ []) barred_box
      ≡ nested (kind.Offset (point (pos 20) (pos 0))) (items_of (filled (pos 0) (pos 6) 2 2 4278190335 ∷ filled (pos 2) (pos 4) 2 4 4278190335
      ∷ filled (pos 4) (pos 2) 2 6 4278190335 ∷ filled (pos 6) (pos 0) 2 8 4278190335 ∷ [])) ∷ []
  pub unplugged : shows [] barred_box ≡ nested (kind.Offset (point (pos 20) (pos 0))) (items_of []) ∷ []
  pub boundary_alone : shows [] (box repaint_boundary 8 8 []) ≡ nested (kind.Offset origin) (items_of []) ∷ []
  -- a Viewport makes a clip in any case, and a ClipRect round a child; in it points go on from where it stands
  pub clipped_away : shows [] (scrolled_box 50)
      ≡ nested (kind.Clip (rect (pos 5) (pos 5) 100 100)) (items_of (filled (pos 5) (negsuc 4) 100 60 2 ∷ [])) ∷ []
  pub scrolled_past : shows [] (scrolled_box 0) ≡ nested (kind.Clip (rect (pos 5) (pos 5) 100 100)) (items_of []) ∷ []
  pub clipped_alone : shows [] (box clip_rect 8 8 []) ≡ []
  pub clipped_round : shows [] (box clip_rect 8 8 (at (pos 0) (pos 0) (colored 3 8 8) ∷ []))
      ≡ nested (kind.Clip (rect (pos 0) (pos 0) 8 8)) (items_of (filled (pos 0) (pos 0) 8 8 3 ∷ [])) ∷ []
  -- a Text is painted line by line, each a cell below the one before; spaces at the end of a line aren't seen, nor is an empty line
  pub written : runs_from (size 512 1024) (codes "ab   c") 5 (point (pos 7) (pos 9)) 0 (line 0 3 ∷ line 3 5 ∷ line 5 6 ∷ [])
      ≡ Run (point (pos 7) (pos 9)) 5 (codes "ab") ∷ Run (point (pos 7) (pos 2057)) 5 (codes "c") ∷ []
  -- what is offstage isn't painted
  pub not_shown : shows [] (box (offstage true) 0 0 (at (pos 0) (pos 0) (colored 1 9 9) ∷ [])) ≡ []
  pub shown : shows [] (box (offstage false) 9 9 (at (pos 0) (pos 0) (colored 1 9 9) ∷ [])) ≡ filled (pos 0) (pos 0) 9 9 1 ∷ []
