-- What a member decides for itself, from the moments of its pointer alone.
use Rattle.std.specs.Prelude.{ℕ, ℤ, ◌+◌, ◌*◌, ◌-ℤ◌, unsigned_abs, nat_lt, Bool, true, false, List, [], ◌∷◌, map, if◌then◌else◌}
use Rattle.fx_geom.specs.declared.shapes.Offset.{Offset}
use Rattle.fx_geom.specs.declared.scales.Scale.{Scale}
use Rattle.gesture_arena.specs.declared.gesture.Gesture.{Gesture}
use Rattle.gesture_arena.specs.declared.gesture.Gesture.TheVariants.{Tap, Long, Vertical, Horizontal, Pan}
use Rattle.gesture_arena.specs.declared.gesture.Member.{Member}
use Rattle.gesture_arena.specs.declared.moment.Decision.{Decision}
use Rattle.gesture_arena.specs.declared.moment.Decision.TheVariants.{Waits, Rejects, Accepts}
use Rattle.gesture_arena.specs.Moment.{Moment, move, up, cancel, due, dropped, is_among}

-- how far apart two numbers are
abbrev pub apart : ℤ → ℤ → ℕ
apart a b = unsigned_abs (a -ℤ b)

-- whether two points are more than so many u apart, in a straight line: the squares are compared
abbrev pub is_beyond : ℕ → Offset → Offset → Bool
is_beyond far from at = nat_lt (far * far) (apart at.x from.x * apart at.x from.x + apart at.y from.y * apart at.y from.y)

-- what a gesture makes of a moment, where the pointer went down at a point
abbrev pub gesture_says : Scale → Offset → Gesture → Moment → Decision
gesture_says s from Tap (move at) = if is_beyond s.slop from at then Rejects else Waits
gesture_says s from Long (move at) = if is_beyond s.slop from at then Rejects else Waits
gesture_says s from Long up = Rejects
gesture_says s from Long due = Accepts
gesture_says s from Vertical (move at) = if nat_lt s.slop (apart at.y from.y) then Accepts else Waits
gesture_says s from Vertical up = Rejects
gesture_says s from Horizontal (move at) = if nat_lt s.slop (apart at.x from.x) then Accepts else Waits
gesture_says s from Horizontal up = Rejects
gesture_says s from Pan (move at) = if is_beyond s.pan from at then Accepts else Waits
gesture_says s from Pan up = Rejects
gesture_says s from _ _ = Waits

-- what a member makes of a moment: each rejects where its pointer is cancelled and where it is dropped
abbrev pub says : Scale → Offset → Member → Moment → Decision
says s from m cancel = Rejects
says s from m (dropped gone) = if is_among gone m then Rejects else Waits
says s from m x = gesture_says s from m.gesture x

-- the first rejection or acceptance
abbrev pub first_decision : List Decision → Decision
first_decision [] = Waits
first_decision (Waits ∷ ds) = first_decision ds
first_decision (Rejects ∷ ds) = Rejects
first_decision (Accepts ∷ ds) = Accepts

-- A member's own decision after these moments is its first one, and final. A long press rejects where its pointer goes up: at
-- or after its deadline it has accepted before.
abbrev pub own_decision : Scale → Offset → Member → List Moment → Decision
own_decision s from m moments = first_decision (map (says s from m) moments)

-- whether a decision is no rejection, and whether it is an acceptance
abbrev pub lives : Decision → Bool
lives Waits = true
lives Rejects = false
lives Accepts = true

abbrev pub accepts : Decision → Bool
accepts Waits = false
accepts Rejects = false
accepts Accepts = true
