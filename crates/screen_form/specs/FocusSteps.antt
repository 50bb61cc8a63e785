-- Which number of an order comes next, and which came before.
use Rattle.std.specs.Prelude.{ℕ, ◌==◌, ◌-◌, Option, Some, None, List, [], ◌∷◌, length, slice_get, if◌then◌else◌}
use Rattle.std.specs.Option.{option_or}

abbrev pub first_of : List ℕ → Option ℕ
first_of order = slice_get order 0

abbrev pub last_of : List ℕ → Option ℕ
last_of order = slice_get order (length order - 1)

-- the number right after another one
abbrev pub after : List ℕ → ℕ → Option ℕ
after [] x = None
after (n ∷ ns) x = if n == x then first_of ns else after ns x

-- the number right before another one, in an order that comes after a number or after none
abbrev pub before : Option ℕ → List ℕ → ℕ → Option ℕ
before earlier [] x = None
before earlier (n ∷ ns) x = if n == x then earlier else before (Some n) ns x

-- the number after the one that has the focus; the first after the last, and where none in the order has the focus
abbrev pub next_of : List ℕ → Option ℕ → Option ℕ
next_of order None = first_of order
next_of order (Some x) = option_or (after order x) (first_of order)

-- the number before it; the last before the first, and where none in the order has the focus
abbrev pub prev_of : List ℕ → Option ℕ → Option ℕ
prev_of order None = last_of order
prev_of order (Some x) = option_or (before None order x) (last_of order)
