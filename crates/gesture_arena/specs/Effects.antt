-- What comes out of one pointer's arena at each moment.
use Rattle.std.specs.Prelude.{ℕ, ℤ, pos, ◌-ℤ◌, Bool, true, false, ◌&&◌, List, [], ◌∷◌, ◌++◌, Option, Some, None, if◌then◌else◌}
use Rattle.std.specs.Option.{option_to_list}
use Rattle.fx_geom.specs.declared.shapes.Offset.{Offset}
use Rattle.fx_geom.specs.declared.scales.Scale.{Scale}
use Rattle.gesture_arena.specs.declared.gesture.Gesture.{Gesture}
use Rattle.gesture_arena.specs.declared.gesture.Gesture.TheVariants.{Tap, Long, Vertical, Horizontal, Pan}
use Rattle.gesture_arena.specs.declared.gesture.Member.{Member}
use Rattle.gesture_arena.specs.declared.gesture.ArenaEvent.{ArenaEvent}
use Rattle.gesture_arena.specs.declared.gesture.ArenaEvent.TheVariants as event
use Rattle.gesture_arena.specs.Moment.{Moment, down, move, up, cancel, due, dropped, Touch, Turn, seen, turns, is_up, is_due, was_dropped, point_after}
use Rattle.gesture_arena.specs.Own.{own_decision, lives}
use Rattle.gesture_arena.specs.Winner.{winner_of}

-- what is told of a decision; without members there is no arena, and nothing to tell
abbrev pub told : ℕ → List Member → Option Member → Option ArenaEvent
told number [] w = None
told number (_ ∷ _) None = Some (event.Nobody number)
told number (_ ∷ _) (Some m) = Some (event.Won number m.node m.gesture)

-- the decision that comes where the winner was this before a moment, and is that after it
abbrev pub decided : Touch → Option (Option Member) → Option (Option Member) → Option ArenaEvent
decided p None (Some w) = told p.number p.members w
decided p None None = None
decided p (Some _) after = None

-- how far a drag goes on along each axis: a vertical one not to the side, a horizontal one not up or down
abbrev pub drag_x : Gesture → ℤ → ℤ
drag_x Tap by = by
drag_x Long by = by
drag_x Vertical by = pos 0
drag_x Horizontal by = by
drag_x Pan by = by

abbrev pub drag_y : Gesture → ℤ → ℤ
drag_y Tap by = by
drag_y Long by = by
drag_y Vertical by = by
drag_y Horizontal by = pos 0
drag_y Pan by = by

-- what a drag does that has started before, where its pointer was at a point: it goes on with each move, and ends where the
-- pointer goes up or is cancelled
abbrev pub goes_on : Member → Offset → Moment → Option ArenaEvent
goes_on m at down = None
goes_on m at (move to) = Some (event.Update m.node m.gesture (drag_x m.gesture (to.x -ℤ at.x)) (drag_y m.gesture (to.y -ℤ at.y)))
goes_on m at up = Some (event.End m.node m.gesture)
goes_on m at cancel = Some (event.End m.node m.gesture)
goes_on m at due = None
goes_on m at (dropped gone) = None

-- whether no winner was decided
abbrev pub is_undecided : Option (Option Member) → Bool
is_undecided None = true
is_undecided (Some _) = false

-- what a drag does that wins at this moment, or has won before: it starts, and then goes on
abbrev pub drags : Bool → Member → Offset → Moment → Option ArenaEvent
drags true m at x = Some (event.Start m.node m.gesture)
drags false m at x = goes_on m at x

-- What the winner does at a moment, by its gesture. A tap fires where the pointer goes up, and a long press at its deadline,
-- unless it has rejected by then; a drag wins anew or has won before.
abbrev pub acts : Gesture → Bool → Bool → Member → Offset → Moment → Option ArenaEvent
acts Tap is_alive is_new m at x = if is_up x && is_alive then Some (event.Tap m.node) else None
acts Long is_alive is_new m at x = if is_due x && is_alive then Some (event.Long m.node) else None
acts Vertical is_alive is_new m at x = drags is_new m at x
acts Horizontal is_alive is_new m at x = drags is_new m at x
acts Pan is_alive is_new m at x = drags is_new m at x

-- the effect of a turn, where the winner before its moment and after it are these; a dropped winner has no further effect
abbrev pub effect_of : Scale → Touch → Turn → Option (Option Member) → Option (Option Member) → Option ArenaEvent
effect_of s p t before (Some (Some m)) =
    if was_dropped m (seen t) then None
    else acts m.gesture (lives (own_decision s p.from m (seen t))) (is_undecided before) m (point_after p.from t.past) t.moment
effect_of s p t before (Some None) = None
effect_of s p t before None = None

-- the events of a turn: the arena's decision, and then the effect of the same moment
abbrev pub events_at : Scale → Touch → Turn → List ArenaEvent
events_at s p t =
    let before = winner_of s p t.past in
    let after = winner_of s p (seen t) in
    option_to_list (decided p before after) ++ option_to_list (effect_of s p t before after)

-- the events of all turns, in order
abbrev pub events_along : Scale → Touch → List Turn → List ArenaEvent
events_along s p [] = []
events_along s p (t ∷ ts) = events_at s p t ++ events_along s p ts

-- all that comes of a pointer's moments
abbrev pub effects_of : Scale → Touch → List Moment → List ArenaEvent
effects_of s p moments = events_along s p (turns moments)
