-- Layouts of small trees, worked by hand.
use Rattle.std.specs.Prelude.{◌≡◌, ℕ, ℤ, pos, negsuc, Bool, true, false, Option, Some, None, List, [], ◌∷◌, ◌++◌}
use Rattle.fx_geom.specs.declared.lengths.Len.TheVariants.{Finite, Unbounded}
use Rattle.fx_geom.specs.declared.shapes.Axis.TheVariants.{Horizontal, Vertical}
use Rattle.fx_geom.specs.declared.shapes.Offset.{Offset}
use Rattle.fx_geom.specs.declared.shapes.Rect.{Rect}
use Rattle.fx_geom.specs.declared.shapes.Size.{Size}
use Rattle.fx_geom.specs.declared.words.CrossAlign.{CrossAlign}
use Rattle.fx_geom.specs.declared.words.CrossAlign.TheVariants as cross_align
use Rattle.fx_geom.specs.declared.words.MainAlign.TheVariants as main_align
use Rattle.fx_geom.specs.declared.words.Placed.{Placed}
use Rattle.fx_geom.specs.declared.words.StackFit.TheVariants as stack_fit
use Rattle.fx_geom.specs.Bounds.{loose}
use Rattle.fx_geom.specs.Offset.{origin, offset_sum}
use Rattle.delegates.specs.Meaning.{corner}
use Rattle.delegates.specs.Table.{plugged as entry_of}
use Rattle.widget_model.specs.declared.words.MainSize.TheVariants as main_size
use Rattle.widget_model.specs.Look.{Look, sized_box, align, colored_box, row, column, wrap, table, stack, intrinsic_width, offstage, custom_layout, viewport, sliver_to_box, sliver_padding, sliver_fixed, sliver_lazy}
use Rattle.plain_tree.specs.declared.laid.Frame.{Frame}
use Rattle.plain_tree.specs.declared.laid.Frame.TheVariants.{Boxed, Sliver}
use Rattle.plain_tree.specs.declared.render.ParentData.{ParentData}
use Rattle.plain_tree.specs.Render.{Render, render, renders_of}
use Rattle.plain_tree.specs.Laid.{Laid, laid, Laids, no_laids, more_laids}
use Rattle.layout_form.specs.Object.{Setting, facts_of}
use Rattle.layout_form.specs.Layout.{object, lay_view}

-- ---- what of a layout is shown: its boxes in preorder, each at its place in the view

abbrev pub shown_box : Offset → Frame → List Rect
shown_box at (Boxed bounds size) = record { at = at; size = size } ∷ []
shown_box at (Sliver bounds geometry) = []

abbrev mutual
  pub boxes_from : Offset → Laid → List Rect
  boxes_from at (laid number look facts children) = shown_box at facts.frame ++ boxes_below at children

  pub boxes_below : Offset → Laids → List Rect
  boxes_below from no_laids = []
  boxes_below from (more_laids at l ls) = boxes_from (offset_sum from at) l ++ boxes_below from ls

abbrev pub boxes_in : Laid → List Rect
boxes_in l = boxes_from origin l

abbrev pub rect : ℤ → ℤ → ℕ → ℕ → Rect
rect x y w h = record { at = record { x = x; y = y }; size = record { w = w; h = h } }

-- ---- small trees

abbrev pub told : ℕ → Bool → Option Placed → ℕ → ParentData
told flex tight placed index = record { flex = flex; tight = tight; placed = placed; index = index }

abbrev pub untold : ParentData
untold = told 0 false None 0

abbrev pub of : ParentData → Look → List Render → Render
of d look children = render 1 look d 0 0 (renders_of children)

abbrev pub node : Look → List Render → Render
node look children = of untold look children

abbrev pub box_of : ℕ → ℕ → Render
box_of w h = node (sized_box (Some w) (Some h)) []

abbrev pub standard : Setting
standard = record { cell = record { w = 512; h = 1024 }; delegates = [] }

abbrev pub with_corner : ℤ → Setting
with_corner dx = record { cell = record { w = 512; h = 1024 }; delegates = entry_of (99 ∷ []) (corner dx (pos 0)) ∷ [] }

abbrev pub view : ℕ → ℕ → Size
view w h = record { w = w; h = h }

-- a child that fills its share, and one that is positioned in a stack
abbrev pub sharing : Render
sharing = of (told 1 true None 0) (colored_box 1) []

abbrev pub positioned_at : Option ℤ → Option ℤ → Option ℤ → Option ℤ → Option ℕ → Option ℕ → Render
positioned_at left top right bottom width height =
    of (told 0 false (Some (record { left = left; top = top; right = right; bottom = bottom; width = width; height = height })) 0) (colored_box 1) []

abbrev pub row_of : CrossAlign → List Render → Render
row_of cross children = node (row main_align.Start cross main_size.Max) children

abbrev pub column_of : CrossAlign → List Render → Render
column_of cross children = node (column main_align.Start cross main_size.Max) children

-- a column with a child that fills its share, and a box
abbrev pub sharing_column : Render
sharing_column = column_of cross_align.Center (of (told 1 false None 0) (sized_box None (Some 10)) [] ∷ [])

-- as wide as the widest of its children
abbrev pub shrunk : Render
shrunk = node (align (negsuc 99) (negsuc 99)) (node intrinsic_width (column_of cross_align.Stretch
    (node (sized_box None (Some 10)) (node (sized_box (Some 300) None) [] ∷ []) ∷ node (sized_box None (Some 64)) [] ∷ []) ∷ []) ∷ [])

-- a row with a box and two children with factors 2 and 1
abbrev pub factors_row : Render
factors_row = row_of cross_align.Start (box_of 10 1 ∷ of (told 2 false None 0) (sized_box (Some 30) None) [] ∷ of (told 1 false None 0) (sized_box (Some 20) None) [] ∷ [])

abbrev pub cornered : Render
cornered = node (custom_layout (99 ∷ [])) (box_of 10 10 ∷ [])

-- a view that was scrolled so far
abbrev pub scrolled : ℕ → List Render → Render
scrolled scroll slivers = render 1 (viewport Vertical) untold scroll 0 (renders_of slivers)

abbrev pub padded_list : Render
padded_list = node (sliver_padding 5 20 0 30) (node (sliver_fixed 40) (node (colored_box 1) [] ∷ node (colored_box 2) [] ∷ node (colored_box 3) [] ∷ []) ∷ [])

-- the items 1 to 3 of a lazy list of five child widgets
abbrev pub item : ℕ → Render
item index = of (told 0 false None index) (colored_box 1) []

abbrev pub lazy_list : Render
lazy_list = render 1 (sliver_lazy 16000) untold 0 5 (renders_of (item 1 ∷ item 2 ∷ item 3 ∷ []))

-- ---- the layouts

pub record Works : Type 0 where
  -- three shares of 100 in equal parts sum to it
  pub shares : boxes_in (lay_view standard (row_of cross_align.Stretch (sharing ∷ sharing ∷ sharing ∷ [])) (view 100 10))
      ≡ rect (pos 0) (pos 0) 100 10 ∷ rect (pos 0) (pos 0) 33 10 ∷ rect (pos 33) (pos 0) 33 10 ∷ rect (pos 66) (pos 0) 34 10 ∷ []
  -- children that exceed the main extent, and one that asks for a share of an axis with no end
  pub overflow : (facts_of (lay_view standard (row_of cross_align.Center (box_of 60 0 ∷ box_of 60 0 ∷ [])) (view 100 10))).notes
      ≡ record { overflow = 20; unbounded = false }
  pub endless : (facts_of ((object standard sharing_column).in_bounds (loose (Finite 100) Unbounded))).notes ≡ record { overflow = 0; unbounded = true }
  pub not_shared : boxes_in ((object standard sharing_column).in_bounds (loose (Finite 100) Unbounded))
      ≡ rect (pos 0) (pos 0) 0 10 ∷ rect (pos 0) (pos 0) 0 10 ∷ []
  -- a gap of 2 between three children, and half of it before them
  pub around : boxes_in (lay_view standard (node (row main_align.Around cross_align.End main_size.Max) (box_of 31 4 ∷ box_of 31 4 ∷ box_of 31 4 ∷ [])) (view 100 10))
      ≡ rect (pos 0) (pos 0) 100 10 ∷ rect (pos 1) (pos 6) 31 4 ∷ rect (pos 34) (pos 6) 31 4 ∷ rect (pos 67) (pos 6) 31 4 ∷ []
  -- there is nothing to stretch to
  pub unstretched : boxes_in ((object standard (row_of cross_align.Stretch (box_of 10 5 ∷ []))).in_bounds (loose (Finite 100) Unbounded))
      ≡ rect (pos 0) (pos 0) 100 5 ∷ rect (pos 0) (pos 0) 10 5 ∷ []
  pub aligned : boxes_in (lay_view standard (node (align (pos 100) (negsuc 99)) (box_of 31 7 ∷ [])) (view 100 100))
      ≡ rect (pos 0) (pos 0) 100 100 ∷ rect (pos 69) (pos 0) 31 7 ∷ []
  -- a child that is longer than its stack by 3 stands at the floor of -3 / 2
  pub floored : boxes_in (lay_view standard (node (stack (pos 0) (negsuc 99) stack_fit.Loose) (positioned_at None None None None (Some 103) (Some 1) ∷ [])) (view 100 50))
      ≡ rect (pos 0) (pos 0) 100 50 ∷ rect (negsuc 1) (pos 0) 103 1 ∷ []
  -- both edges go before a width, and a right edge before the alignment
  pub positioned : boxes_in (lay_view standard (node (stack (negsuc 99) (negsuc 99) stack_fit.Loose)
      (positioned_at (Some (pos 10)) (Some (pos 0)) (Some (pos 20)) None (Some 5) (Some 7)
      ∷ positioned_at None None (Some (pos 0)) (Some (pos 0)) (Some 8) (Some 8) ∷ [])) (view 100 50))
      ≡ rect (pos 0) (pos 0) 100 50 ∷ rect (pos 10) (pos 0) 70 7 ∷ rect (pos 92) (pos 42) 8 8 ∷ []
  pub shrinks : boxes_in (lay_view standard shrunk (view 5120 5120))
      ≡ rect (pos 0) (pos 0) 5120 5120 ∷ rect (pos 0) (pos 0) 300 5120 ∷ rect (pos 0) (pos 0) 300 5120
      ∷ rect (pos 0) (pos 0) 300 10 ∷ rect (pos 0) (pos 0) 300 10 ∷ rect (pos 0) (pos 10) 300 64 ∷ []
  -- 10 beside the greater of 30 * 3 / 2 and 20 * 3 / 1
  pub factors : (object standard factors_row).greatest Horizontal Unbounded ≡ 70
  pub hidden : boxes_in ((object standard (node (offstage true) (box_of 10 5 ∷ []))).in_bounds (loose (Finite 100) Unbounded))
      ≡ rect (pos 0) (pos 0) 0 0 ∷ rect (pos 0) (pos 0) 10 5 ∷ []
  -- a delegate that places its child 4 left of the right lower corner, and no delegate
  pub placed : boxes_in (lay_view (with_corner (pos 4)) cornered (view 100 50)) ≡ rect (pos 0) (pos 0) 100 50 ∷ rect (pos 86) (pos 40) 10 10 ∷ []
  pub unplugged : boxes_in (lay_view standard cornered (view 100 50)) ≡ rect (pos 0) (pos 0) 100 50 ∷ rect (pos 0) (pos 0) 100 50 ∷ []
  pub plugged : (facts_of (lay_view (with_corner (pos 4)) cornered (view 100 50))).plugged ≡ true
  -- two children of 40 fit beside one another, with a gap of 10
  pub wraps : boxes_in (lay_view standard (node (wrap 10 5) (box_of 40 20 ∷ box_of 40 20 ∷ box_of 40 20 ∷ [])) (view 100 100))
      ≡ rect (pos 0) (pos 0) 100 100 ∷ rect (pos 0) (pos 0) 40 20 ∷ rect (pos 50) (pos 0) 40 20 ∷ rect (pos 0) (pos 25) 40 20 ∷ []
  pub tables : boxes_in (lay_view standard (node (table (pos 30 ∷ pos 70 ∷ []))
      (node (sized_box None (Some 10)) [] ∷ node (sized_box None (Some 20)) [] ∷ node (sized_box None (Some 5)) [] ∷ [])) (view 100 100))
      ≡ rect (pos 0) (pos 0) 100 100 ∷ rect (pos 0) (pos 0) 30 10 ∷ rect (pos 30) (pos 0) 70 20 ∷ rect (pos 0) (pos 20) 30 5 ∷ []
  -- the items of a list that are seen, before and after it is scrolled, and no farther than its end
  pub padded : boxes_in (lay_view standard (scrolled 0 (padded_list ∷ [])) (view 100 100))
      ≡ rect (pos 0) (pos 0) 100 100 ∷ rect (pos 5) (pos 20) 95 40 ∷ rect (pos 5) (pos 60) 95 40 ∷ []
  pub padded_later : boxes_in (lay_view standard (scrolled 30 (padded_list ∷ [])) (view 100 100))
      ≡ rect (pos 0) (pos 0) 100 100 ∷ rect (pos 5) (negsuc 9) 95 40 ∷ rect (pos 5) (pos 30) 95 40 ∷ rect (pos 5) (pos 70) 95 40 ∷ []
  pub corrected : (facts_of (lay_view standard (scrolled 200 (padded_list ∷ [])) (view 100 100))).scrolled ≡ 70
  pub to_boxes : boxes_in (lay_view standard (scrolled 30 (node sliver_to_box (box_of 1 50 ∷ []) ∷ node sliver_to_box (box_of 1 80 ∷ []) ∷ [])) (view 100 100))
      ≡ rect (pos 0) (pos 0) 100 100 ∷ rect (pos 0) (negsuc 29) 100 50 ∷ rect (pos 0) (pos 20) 100 80 ∷ []
  pub lazily : boxes_in (lay_view standard (scrolled 40000 (lazy_list ∷ [])) (view 100 100))
      ≡ rect (pos 0) (pos 0) 100 100 ∷ rect (pos 0) (negsuc 7999) 100 16000 ∷ []
  -- a view with no end takes the least height
  pub endless_view : (facts_of ((object standard (scrolled 0 [])).in_bounds (loose (Finite 100) Unbounded))).notes ≡ record { overflow = 0; unbounded = true }
  pub least_view : boxes_in ((object standard (scrolled 0 [])).in_bounds (loose (Finite 100) Unbounded)) ≡ rect (pos 0) (pos 0) 100 0 ∷ []
