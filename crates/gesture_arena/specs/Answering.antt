-- What members with each gesture make of a moment at which none is dropped.
use Rattle.std.specs.Prelude.{Bool, true, false, ◌||◌}
use Rattle.fx_geom.specs.declared.shapes.Offset.{Offset}
use Rattle.fx_geom.specs.declared.scales.Scale.{Scale}
use Rattle.gesture_arena.specs.declared.answers.Answers.{Answers}
use Rattle.gesture_arena.specs.declared.gesture.Gesture.{Gesture}
use Rattle.gesture_arena.specs.declared.gesture.Gesture.TheVariants.{Tap, Long, Vertical, Horizontal, Pan}
use Rattle.gesture_arena.specs.declared.moment.Decision.{Decision}
use Rattle.gesture_arena.specs.declared.moment.Decision.TheVariants.{Waits, Rejects}
use Rattle.gesture_arena.specs.declared.tracked.Tracked.{Tracked}
use Rattle.gesture_arena.specs.Moment.{Moment, down, move, up, cancel, due, dropped}
use Rattle.gesture_arena.specs.Own.{gesture_says, accepts}
use Rattle.gesture_arena.specs.Settled.{decision_after}

-- whether a moment is a drop
abbrev pub is_drop : Moment → Bool
is_drop down = false
is_drop (move at) = false
is_drop up = false
is_drop cancel = false
is_drop due = false
is_drop (dropped gone) = true

-- what a member with a gesture makes of a moment, where that is no drop
abbrev pub answer : Scale → Offset → Gesture → Moment → Decision
answer s from g cancel = Rejects
answer s from g x = gesture_says s from g x

-- the answer that is known for a gesture
abbrev pub answer_in : Answers → Gesture → Decision
answer_in a Tap = a.tap
answer_in a Long = a.long
answer_in a Vertical = a.vertical
answer_in a Horizontal = a.horizontal
answer_in a Pan = a.pan

-- a stored member after it
abbrev pub answered : Answers → Tracked → Tracked
answered a t = record { node = t.node; gesture = t.gesture; decision = decision_after t.decision (answer_in a t.gesture); dropped = t.dropped }

-- no gesture has decided anything
abbrev pub waiting : Answers
waiting = record { tap = Waits; long = Waits; vertical = Waits; horizontal = Waits; pan = Waits }

-- whether a gesture has accepted
abbrev pub accepts_some : Answers → Bool
accepts_some a = accepts a.tap || accepts a.long || accepts a.vertical || accepts a.horizontal || accepts a.pan
