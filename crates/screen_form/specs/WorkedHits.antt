-- What points of small laid trees meet, worked by hand.
use Rattle.std.specs.Prelude.{◌≡◌, ℕ, ℤ, pos, negsuc, Bool, true, false, Option, Some, None, List, [], ◌∷◌, codes}
use Rattle.fx_expr.specs.declared.handlers.Handler.{Handler}
use Rattle.fx_geom.specs.declared.shapes.Axis.TheVariants.{Vertical}
use Rattle.fx_geom.specs.declared.shapes.Offset.{Offset}
use Rattle.fx_geom.specs.declared.shapes.Size.{Size}
use Rattle.fx_geom.specs.declared.words.StackFit.TheVariants as stack_fit
use Rattle.fx_geom.specs.Bounds.{tight}
use Rattle.gesture_arena.specs.declared.gesture.Gesture.TheVariants as gesture
use Rattle.widget_model.specs.declared.words.Behavior.{Behavior}
use Rattle.widget_model.specs.declared.words.Behavior.TheVariants as behavior
use Rattle.widget_model.specs.Look.{Look, colored_box, stack, offstage, ignore_pointer, absorb_pointer, detector, custom_paint, viewport, sliver_to_box}
use Rattle.plain_tree.specs.declared.laid.Facts.{Facts}
use Rattle.plain_tree.specs.declared.laid.Frame.{Frame}
use Rattle.plain_tree.specs.declared.laid.Frame.TheVariants.{Boxed, Sliver}
use Rattle.plain_tree.specs.Laid.{Laid, laid, Stood, laids_of}
use Rattle.screen_form.specs.Hits.{hits_of}
use Rattle.screen_form.specs.Members.{members_of}

-- ---- small trees

abbrev pub size : ℕ → ℕ → Size
size w h = record { w = w; h = h }

abbrev pub point : ℤ → ℤ → Offset
point x y = record { x = x; y = y }

abbrev pub facts : Bool → Frame → Facts
facts plugged frame = record { frame = frame; notes = record { overflow = 0; unbounded = false }; plugged = plugged; scrolled = 0 }

abbrev pub box : ℕ → Look → ℕ → ℕ → List Stood → Laid
box number look w h children = laid number look (facts false (Boxed (tight (size w h)) (size w h))) (laids_of children)

abbrev pub sliver : ℕ → ℕ → ℕ → List Stood → Laid
sliver number paint cross children =
    laid number sliver_to_box
    (facts false (Sliver (record { axis = Vertical; offset = 0; remaining = paint; cross = cross }) (record { scroll = paint; paint = paint })))
    (laids_of children)

abbrev pub at : ℤ → ℤ → Laid → Stood
at x y child = record { at = point x y; child = child }

abbrev pub pile : Look
pile = stack (negsuc 99) (negsuc 99) stack_fit.Loose

abbrev pub handler : Option Handler
handler = Some (record { owner = 0; sets = [] })

abbrev pub detecting : Behavior → Option Handler → Option Handler → Look
detecting behavior tap vertical = detector behavior tap None vertical None None

-- a box of 50 by 50, and over it a translucent Detector of 20 by 50
abbrev pub watched : Laid
watched = box 1 pile 100 50 (at (pos 0) (pos 0) (box 3 (colored_box 0) 50 50 []) ∷ at (pos 0) (pos 0) (box 5 (detecting behavior.Translucent handler None) 20 50 []) ∷ [])

-- a box, and over it a node of a kind with another box in it
abbrev pub covered : Look → Laid
covered look = box 1 pile 100 50
    (at (pos 0) (pos 0) (box 2 (colored_box 0) 100 50 []) ∷ at (pos 0) (pos 0) (box 3 look 100 50 (at (pos 0) (pos 0) (box 4 (colored_box 0) 100 50 []) ∷ [])) ∷ [])

-- a box of 60 that begins 10 above a sliver of which so much is seen
abbrev pub scrolled_box : ℕ → Laid
scrolled_box paint = box 1 (viewport Vertical) 100 100 (at (pos 0) (pos 0) (sliver 2 paint 100 (at (pos 0) (negsuc 9) (box 3 (colored_box 2) 100 60 []) ∷ [])) ∷ [])

-- a Detector in a Detector over a box
abbrev pub nested : Laid
nested = box 1 (detecting behavior.Defer handler None) 9 9
    (at (pos 0) (pos 0) (box 2 (detecting behavior.Defer handler handler) 9 9 (at (pos 0) (pos 0) (box 3 (colored_box 0) 9 9 []) ∷ [])) ∷ [])

abbrev pub painter : Bool → Laid
painter plugged = laid 1 (custom_paint (codes "bars")) (facts plugged (Boxed (tight (size 8 8)) (size 8 8))) (laids_of [])

pub record Works : Type 0 where
  -- a translucent Detector is added, and what is below it is asked too; the far edges are outside
  pub first_corner : hits_of watched (point (pos 0) (pos 0)) ≡ 5 ∷ 3 ∷ 1 ∷ []
  pub last_inside : hits_of watched (point (pos 49) (pos 49)) ≡ 3 ∷ 1 ∷ []
  pub right_edge : hits_of watched (point (pos 50) (pos 0)) ≡ []
  pub bottom_edge : hits_of watched (point (pos 0) (pos 50)) ≡ []
  pub left_of_it : hits_of watched (point (negsuc 0) (pos 0)) ≡ []
  -- what is on top is hit, and nothing below it
  pub on_top : hits_of (covered (ignore_pointer false)) (point (pos 1) (pos 1)) ≡ 4 ∷ 3 ∷ 1 ∷ []
  pub absorbed : hits_of (covered (absorb_pointer true)) (point (pos 1) (pos 1)) ≡ 1 ∷ []
  pub not_absorbed : hits_of (covered (absorb_pointer false)) (point (pos 1) (pos 1)) ≡ 4 ∷ 3 ∷ 1 ∷ []
  pub ignored : hits_of (covered (ignore_pointer true)) (point (pos 1) (pos 1)) ≡ 2 ∷ 1 ∷ []
  pub hidden : hits_of (covered (offstage true)) (point (pos 1) (pos 1)) ≡ 2 ∷ 1 ∷ []
  -- a sliver is hit as far as it is seen
  pub in_sliver : hits_of (scrolled_box 50) (point (pos 99) (pos 49)) ≡ 3 ∷ 2 ∷ 1 ∷ []
  pub past_sliver : hits_of (scrolled_box 40) (point (pos 99) (pos 40)) ≡ []
  pub unseen_sliver : hits_of (scrolled_box 0) (point (pos 0) (pos 0)) ≡ []
  -- a CustomPaint counts itself where its delegate was plugged
  pub painted : hits_of (painter true) (point (pos 7) (pos 7)) ≡ 1 ∷ []
  pub unpainted : hits_of (painter false) (point (pos 7) (pos 7)) ≡ []
  -- members come from the deepest Detector, by gesture
  pub members : members_of nested (point (pos 5) (pos 5))
      ≡ record { node = 2; gesture = gesture.Tap } ∷ record { node = 2; gesture = gesture.Vertical } ∷ record { node = 1; gesture = gesture.Tap } ∷ []
