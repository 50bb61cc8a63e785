-- The value of a tween at a time.
use Rattle.std.specs.Prelude.{ℕ, ℤ, ◌-◌, ◌*◌, ◌^◌, ◌≤◌, ◌⊎◌, min, pos, neg_ℤ, ◌+ℤ◌, ◌-ℤ◌, ◌*ℤ◌, ◌≤ℤ◌}
use Rattle.std.specs.Int.{int_div_euclid}
use Rattle.tickers.specs.declared.tween.Curve.{Curve}
use Rattle.tickers.specs.declared.tween.Curve.TheVariants.{Linear, EaseIn, EaseOut}
use Rattle.tickers.specs.declared.tween.Tween.{Tween}

-- from -2^40 to 2^40
abbrev pub IsEnd : ℤ → Type 0
IsEnd z = (neg_ℤ (pos (2 ^ 40)) ≤ℤ z) × (z ≤ℤ pos (2 ^ 40))

-- both ends of a tween lie in their range, and it takes some time
pub record IsInRange (t : Tween) : Type 0 where
  pub from : IsEnd t.from
  pub to : IsEnd t.to
  pub some : 1 ≤ t.ms
  pub short : t.ms ≤ 1000000000

-- so much of the time is over: all of it after the end
abbrev pub elapsed : Tween → ℕ → ℕ
elapsed t now = min (now - t.start) t.ms

-- so much of a way as part is of whole, rounded down
abbrev pub part_of : ℤ → ℕ → ℕ → ℤ
part_of way part whole = int_div_euclid (way *ℤ pos part) (pos whole)

-- the value along a curve where so much of the time is over: a straight line, the square of what is over, and from the
-- end the square of what is left
abbrev pub value_along : Curve → ℤ → ℤ → ℕ → ℕ → ℤ
value_along Linear from to over ms = from +ℤ part_of (to -ℤ from) over ms
value_along EaseIn from to over ms = from +ℤ part_of (to -ℤ from) (over * over) (ms * ms)
value_along EaseOut from to over ms = to -ℤ part_of (to -ℤ from) ((ms - over) * (ms - over)) (ms * ms)

-- the value of a tween at a time
abbrev pub tween_value_of : Tween → ℕ → ℤ
tween_value_of t now = value_along t.curve t.from t.to (elapsed t now) t.ms

-- a number lies between two, whichever is the greater
abbrev pub LiesFrom : ℤ → ℤ → ℤ → Type 0
LiesFrom a b z = ((a ≤ℤ z) × (z ≤ℤ b)) ⊎ ((b ≤ℤ z) × (z ≤ℤ a))
