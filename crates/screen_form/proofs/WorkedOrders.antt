-- The definitions at small trees, worked by hand.
use Rattle.std.proofs.Common.{◌≡◌, ℕ, true, false, Some, None, List, [], ◌∷◌, pos, refl}
use Rattle.fx_geom.specs.declared.lengths.Len.TheVariants as len
use Rattle.fx_geom.specs.declared.shapes.Axis.TheVariants as axis
use Rattle.fx_geom.specs.declared.words.CrossAlign.TheVariants as cross
use Rattle.fx_geom.specs.declared.words.MainAlign.TheVariants as main
use Rattle.fx_geom.specs.Bounds.{bounds_of}
use Rattle.fx_expr.specs.declared.handlers.Handler.{Handler}
use Rattle.widget_model.specs.declared.words.Behavior.TheVariants as behavior
use Rattle.widget_model.specs.declared.words.MainSize.TheVariants as main_size
use Rattle.widget_model.specs.Look.{Look, row, opacity, offstage, detector, exclude_semantics, sliver_to_box}
use Rattle.plain_tree.specs.declared.laid.Facts.{Facts}
use Rattle.plain_tree.specs.declared.laid.Frame.{Frame}
use Rattle.plain_tree.specs.declared.laid.Frame.TheVariants.{Boxed, Sliver}
use Rattle.plain_tree.specs.Laid.{Laid, laid, Stood, laids_of}
use Rattle.screen_form.specs.FocusOrder.{spots_of, focus_order_of}
use Rattle.screen_form.specs.FocusSteps.{next_of, prev_of}

abbrev boxed : Frame
boxed = Boxed (bounds_of 0 len.Unbounded 0 len.Unbounded) (record { w = 50; h = 50 })

abbrev sliver : ℕ → Frame
sliver shown = Sliver (record { axis = axis.Vertical; offset = 0; remaining = 100; cross = 50 }) (record { scroll = 40; paint = shown })

abbrev facts : Frame → Facts
facts frame = record { frame = frame; notes = record { overflow = 0; unbounded = false }; plugged = false; scrolled = 0 }

abbrev put : ℕ → ℕ → Laid → Stood
put x y l = record { at = record { x = pos x; y = pos y }; child = l }

abbrev shown : ℕ → Look → List Stood → Laid
shown number look children = laid number look (facts boxed) (laids_of children)

abbrev line : Look
line = row main.Start cross.Center main_size.Max

module _ (handler : Handler) where
  abbrev tapped : Look
  tapped = detector behavior.Opaque (Some handler) None None None None

  abbrev pressed : Look
  pressed = detector behavior.Opaque None (Some handler) None None None

  abbrev pair : List Stood
  pair = put 0 0 (shown 2 tapped []) ∷ put 50 0 (shown 4 tapped []) ∷ []

  pub record Orders : Type 0 where
    pub side_by_side : focus_order_of (shown 1 line pair) ≡ 2 ∷ 4 ∷ []
    pub above_first : focus_order_of (shown 1 line (put 0 20 (shown 2 tapped []) ∷ put 90 10 (shown 3 tapped []) ∷ [])) ≡ 3 ∷ 2 ∷ []
    pub left_first : focus_order_of (shown 1 line (put 9 20 (shown 2 tapped []) ∷ put 8 20 (shown 3 tapped []) ∷ [])) ≡ 3 ∷ 2 ∷ []
    pub number_first : focus_order_of (shown 1 line (put 9 20 (shown 7 tapped []) ∷ put 9 20 (shown 3 tapped []) ∷ [])) ≡ 3 ∷ 7 ∷ []
    pub nested : focus_order_of (shown 1 tapped (put 0 0 (shown 2 tapped []) ∷ [])) ≡ 1 ∷ 2 ∷ []
    pub in_the_view : focus_order_of (shown 1 line (put 0 30 (shown 2 line (put 0 5 (shown 3 tapped []) ∷ [])) ∷ put 0 34 (shown 4 tapped []) ∷ [])) ≡ 4 ∷ 3 ∷ []
    pub no_tap : focus_order_of (shown 1 pressed pair) ≡ 2 ∷ 4 ∷ []
    pub offstaged : focus_order_of (shown 1 (offstage true) pair) ≡ []
    pub onstage : focus_order_of (shown 1 (offstage false) pair) ≡ 2 ∷ 4 ∷ []
    pub clear : focus_order_of (shown 1 (opacity 0) pair) ≡ []
    pub faint : focus_order_of (shown 1 (opacity 1) pair) ≡ 2 ∷ 4 ∷ []
    pub excluded : focus_order_of (shown 1 (exclude_semantics true) pair) ≡ 2 ∷ 4 ∷ []
    pub scrolled_out : focus_order_of (laid 1 sliver_to_box (facts (sliver 0)) (laids_of pair)) ≡ []
    pub in_view : focus_order_of (laid 1 sliver_to_box (facts (sliver 10)) (laids_of pair)) ≡ 2 ∷ 4 ∷ []

  orders_worked : Orders
  unfolding spots_of
  orders_worked =
      record {
        side_by_side = refl;
        above_first = refl;
        left_first = refl;
        number_first = refl;
        nested = refl;
        in_the_view = refl;
        no_tap = refl;
        offstaged = refl;
        onstage = refl;
        clear = refl;
        faint = refl;
        excluded = refl;
        scrolled_out = refl;
        in_view = refl;
      }

pub record Steps : Type 0 where
  pub from_none : next_of (2 ∷ 4 ∷ []) None ≡ Some 2
  pub onward : next_of (2 ∷ 4 ∷ []) (Some 2) ≡ Some 4
  pub round : next_of (2 ∷ 4 ∷ []) (Some 4) ≡ Some 2
  pub gone : next_of (2 ∷ 4 ∷ []) (Some 3) ≡ Some 2
  pub of_none : next_of [] (Some 3) ≡ None
  pub to_last : prev_of (2 ∷ 4 ∷ []) None ≡ Some 4
  pub backward : prev_of (2 ∷ 4 ∷ []) (Some 4) ≡ Some 2
  pub round_back : prev_of (2 ∷ 4 ∷ []) (Some 2) ≡ Some 4
  pub gone_back : prev_of (2 ∷ 4 ∷ []) (Some 3) ≡ Some 4
  pub back_of_none : prev_of [] None ≡ None

steps_worked : Steps
steps_worked =
    record {
      from_none = refl;
      onward = refl;
      round = refl;
      gone = refl;
      of_none = refl;
      to_last = refl;
      backward = refl;
      round_back = refl;
      gone_back = refl;
      back_of_none = refl;
    }
