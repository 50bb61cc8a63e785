-- What the laws of matching say.
use Rattle.std.specs.Prelude.{◌≡◌, ℕ, ◌-◌, ◌<◌, ◌≤◌, min, IsTrue, Some, List, length, map, slice_get}
use Rattle.std.specs.List.{range_with_len}
use Rattle.widget_keys.specs.declared.keys.Key.TheVariants as key
use Rattle.widget_model.specs.Plain.{PlainWidget, key_of}
use Rattle.widget_model.specs.Update.{updates}
use Rattle.reconcile.specs.Matching.{prefix_len, suffix_len, matching}

-- the old widget at place j stands, and can update to the new one at place i, which stands too
abbrev pub CanUpdateAt : List PlainWidget → List PlainWidget → ℕ → ℕ → Type 0
CanUpdateAt old new j i =
    (a : PlainWidget) × (b : PlainWidget) × (slice_get old j ≡ Some a) × (slice_get new i ≡ Some b) × IsTrue (updates a b)

-- the new widget at place i goes on from the old one at place j
abbrev pub IsMatched : List PlainWidget → List PlainWidget → ℕ → ℕ → Type 0
IsMatched old new i j = slice_get (matching old new) i ≡ Some (Some j)

-- the first k pairs from the front can update
abbrev pub FrontCanUpdate : List PlainWidget → List PlainWidget → ℕ → Type 0
FrontCanUpdate old new k = (i : ℕ) → i < k → CanUpdateAt old new i i

-- the first k pairs from the end can update, and neither list's front is among them
abbrev pub EndCanUpdate : List PlainWidget → List PlainWidget → ℕ → Type 0
EndCanUpdate old new k =
    (k ≤ min (length old) (length new) - prefix_len old new)
    × ((i : ℕ) → i < k → CanUpdateAt old new (length old - 1 - i) (length new - 1 - i))

-- of the numbers for which this holds, n is the greatest
abbrev pub IsGreatest : (ℕ → Type 0) → ℕ → Type 0
IsGreatest P n = P n × ((k : ℕ) → P k → k ≤ n)

-- each place of a list of this length, in order
abbrev pub each_place : ℕ → List ℕ
each_place n = range_with_len 0 n

-- the new widget at place i stands between the front and the end
abbrev pub IsBetween : List PlainWidget → List PlainWidget → ℕ → Type 0
IsBetween old new i = (prefix_len old new ≤ i) × (i < length new - suffix_len old new)

-- the old one at place j does
abbrev pub WasBetween : List PlainWidget → List PlainWidget → ℕ → Type 0
WasBetween old new j = (prefix_len old new ≤ j) × (j < length old - suffix_len old new)

-- the widget at this place has no key
abbrev pub HasNoKeyAt : List PlainWidget → ℕ → Type 0
HasNoKeyAt ws i = slice_get (map key_of ws) i ≡ Some key.None
