-- Which widget of an old child list each widget of a new one goes on from.
use Rattle.std.specs.Prelude.{ℕ, ◌+◌, ◌-◌, min, nat_lt, nat_le, if◌then◌else◌, Option, Some, None, List, length, map, reverse, slice_get, slice_range}
use Rattle.std.specs.Option.{option_and_then}
use Rattle.std.specs.List.{common_prefix_len, position_from, range_with_len}
use Rattle.widget_keys.specs.Key.{is_given}
use Rattle.widget_model.specs.Plain.{PlainWidget, key_of}
use Rattle.widget_model.specs.Update.{updates}

-- how many widgets at the front of the two lists can update, pair by pair
unfoldable pub prefix_len : List PlainWidget → List PlainWidget → ℕ
prefix_len old new = common_prefix_len updates old new

-- how many at the ends of the two lists can, within what the front leaves of both
unfoldable pub suffix_len : List PlainWidget → List PlainWidget → ℕ
suffix_len old new =
    min (common_prefix_len updates (reverse old) (reverse new)) (min (length old) (length new) - prefix_len old new)

-- the old widgets between the front and the end
unfoldable pub middle_of : List PlainWidget → List PlainWidget → List PlainWidget
middle_of old new = slice_range old (prefix_len old new) (length old - suffix_len old new)

-- the place of the old widget between front and end that can update to a new one, which has to have a key
unfoldable pub keyed_match : List PlainWidget → List PlainWidget → PlainWidget → Option ℕ
keyed_match old new w =
    if is_given (key_of w) then position_from (λ o. updates o w) (prefix_len old new) (middle_of old new) else None

-- the place of the old widget that the new one at place i goes on from
unfoldable pub match_at : List PlainWidget → List PlainWidget → ℕ → Option ℕ
match_at old new i =
    if nat_lt i (prefix_len old new) then Some i
    else (if nat_le (length new - suffix_len old new) i then Some (length old + i - length new)
    else option_and_then (keyed_match old new) (slice_get new i))

-- the places of the old widgets that the new ones go on from, one by one
unfoldable pub matching : List PlainWidget → List PlainWidget → List (Option ℕ)
matching old new = map (match_at old new) (range_with_len 0 (length new))
