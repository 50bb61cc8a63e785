-- The places of the widgets of a list, by key.
use Rattle.std.specs.Prelude.{◌≡◌, ℕ, ◌<◌, ◌≤◌, IsTrue, Option, Some, MatchOption, List, map, slice_get}
use Rattle.std.specs.Borrow.{Bor}
use Rattle.std.specs.BTreeMap.{BTreeMap}
use Rattle.std.specs.Map.{lookup}
use Rattle.fx_expr.specs.declared.values.Value.{Value}
use Rattle.widget_keys.specs.declared.keys.Key.{Key}
use Rattle.widget_keys.specs.Key.{is_given}
use Rattle.widget_model.specs.Plain.{PlainWidget, key_of}
use Rattle.widget_model.specs.Update.{key_eq}

-- the widget at this place has this key
abbrev pub HasKeyAt : List PlainWidget → ℕ → Key Value → Type 0
HasKeyAt ws k key = slice_get (map key_of ws) k ≡ Some key

-- what was found is a place, from one up to another, where a widget has the key; nothing where none there has it
abbrev pub IsPlaceOf : List PlainWidget → ℕ → ℕ → Key Value → Option ℕ → Type 0
IsPlaceOf ws from to key found =
    MatchOption found
    ((k : ℕ) → from ≤ k → k < to → ¬ HasKeyAt ws k key)
    (λ k. (from ≤ k) × (k < to) × HasKeyAt ws k key)

-- what the map has at a key
abbrev pub place_in : BTreeMap (Bor (Key Value)) ℕ → Key Value → Option ℕ
place_in places key = lookup (λ (k : Bor (Key Value)). key_eq key k.now) places.entries

-- the map has a place of each key, but for absent ones
abbrev pub ArePlaces : List PlainWidget → ℕ → ℕ → BTreeMap (Bor (Key Value)) ℕ → Type 0
ArePlaces ws from to places = (key : Key Value) → IsTrue (is_given key) → IsPlaceOf ws from to key (place_in places key)
