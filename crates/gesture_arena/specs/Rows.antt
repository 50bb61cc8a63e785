-- Gestures worked by hand, at 64 u per logical pixel, of pointer 1 at (0, 0).
use Rattle.std.specs.Prelude.{◌≡◌, ℕ, pos, List, [], ◌∷◌}
use Rattle.fx_geom.specs.declared.scales.Scale.{Scale}
use Rattle.fx_geom.specs.Scale.{standard_scale, fine_scale}
use Rattle.gesture_arena.specs.declared.gesture.Gesture.{Gesture}
use Rattle.gesture_arena.specs.declared.gesture.Gesture.TheVariants.{Tap, Long, Vertical}
use Rattle.gesture_arena.specs.declared.gesture.Member.{Member}
use Rattle.gesture_arena.specs.declared.gesture.ArenaEvent.{ArenaEvent}
use Rattle.gesture_arena.specs.declared.gesture.ArenaEvent.TheVariants as event
use Rattle.gesture_arena.specs.Moment.{Moment, down, move, up, due, dropped}
use Rattle.gesture_arena.specs.Effects.{effects_of}

abbrev pub of : ℕ → Gesture → Member
of node gesture = record { node = node; gesture = gesture }

abbrev pub to_y : ℕ → Moment
to_y y = move (record { x = pos 0; y = pos y })

-- the events of these members and moments after the down
abbrev pub outcome : Scale → List Member → List Moment → List ArenaEvent
outcome s members moments =
    effects_of s (record { number = 1; from = record { x = pos 0; y = pos 0 }; began = 0; members = members }) (down ∷ moments)

pub record Works : Type 0 where
  -- of two taps, one over the other, the deeper wins, and it alone fires
  pub nested_taps : outcome standard_scale (of 2 Tap ∷ of 1 Tap ∷ []) (up ∷ []) ≡ event.Won 1 2 Tap ∷ event.Tap 2 ∷ []
  -- a tap against a vertical drag, by a move as far as the slop, and one further
  pub near : outcome standard_scale (of 1 Tap ∷ of 1 Vertical ∷ []) (to_y 1152 ∷ up ∷ []) ≡ event.Won 1 1 Tap ∷ event.Tap 1 ∷ []
  pub far : outcome standard_scale (of 1 Tap ∷ of 1 Vertical ∷ []) (to_y 1153 ∷ to_y 1200 ∷ up ∷ [])
      ≡ event.Won 1 1 Vertical ∷ event.Start 1 Vertical ∷ event.Update 1 Vertical (pos 0) (pos 47) ∷ event.End 1 Vertical ∷ []
  pub near_in_fine_u : outcome fine_scale (of 1 Tap ∷ of 1 Vertical ∷ []) (to_y 4608 ∷ up ∷ []) ≡ event.Won 1 1 Tap ∷ event.Tap 1 ∷ []
  pub far_in_fine_u : outcome fine_scale (of 1 Tap ∷ of 1 Vertical ∷ []) (to_y 4609 ∷ up ∷ [])
      ≡ event.Won 1 1 Vertical ∷ event.Start 1 Vertical ∷ event.End 1 Vertical ∷ []
  -- a tap against a long press, before the deadline and after it
  pub early : outcome standard_scale (of 1 Tap ∷ of 1 Long ∷ []) (up ∷ []) ≡ event.Won 1 1 Tap ∷ event.Tap 1 ∷ []
  pub late : outcome standard_scale (of 1 Tap ∷ of 1 Long ∷ []) (due ∷ up ∷ []) ≡ event.Won 1 1 Long ∷ event.Long 1 ∷ []
  -- a member that is dropped before it wins, and a single one that wins at the down itself
  pub lost : outcome standard_scale (of 3 Tap ∷ of 3 Long ∷ []) (dropped (of 3 Tap ∷ of 3 Long ∷ []) ∷ up ∷ []) ≡ event.Nobody 1 ∷ []
  pub lone : outcome standard_scale (of 1 Tap ∷ []) (to_y 1153 ∷ up ∷ []) ≡ event.Won 1 1 Tap ∷ []
  pub without_members : outcome standard_scale [] (to_y 9 ∷ up ∷ []) ≡ []
