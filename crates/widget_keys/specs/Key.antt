-- When a key of a list repeats an earlier one.
use Rattle.std.specs.Prelude.{ℕ, Bool, true, false, ◌&&◌, IsTrue, Option, Some, None, List, take, slice_get}
use Rattle.std.specs.List.{list_any}
pub use Rattle.widget_keys.specs.declared.keys.Key.{Key}
use Rattle.widget_keys.specs.declared.keys.Key.TheVariants as key

-- the key isn't absent
abbrev pub is_given : {V : Type 0} → Key V → Bool
is_given key.None = false
is_given (key.Local v) = true
is_given (key.Global v) = true

-- two keys are of one kind, and their values are the same by a test; two absent ones are equal
abbrev pub keys_equal : {V : Type 0} → (V → V → Bool) → Key V → Key V → Bool
keys_equal same key.None key.None = true
keys_equal same (key.Local v) (key.Local w) = same v w
keys_equal same (key.Global v) (key.Global w) = same v w
keys_equal same _ _ = false

-- a key is given, and equals one of the earlier ones
abbrev pub repeats : {V : Type 0} → (V → V → Bool) → List (Key V) → Key V → Bool
repeats same earlier k = is_given k && list_any (λ e. keys_equal same k e) earlier

abbrev pub repeats_at : {V : Type 0} → (V → V → Bool) → List (Key V) → Option (Key V) → Bool
repeats_at same earlier None = false
repeats_at same earlier (Some k) = repeats same earlier k

-- at this index stands a key that isn't absent and equals an earlier one
abbrev pub is_repeat : {V : Type 0} → (V → V → Bool) → List (Key V) → ℕ → Bool
is_repeat same keys i = repeats_at same (take i keys) (slice_get keys i)

abbrev pub IsRepeat : {V : Type 0} → (V → V → Bool) → List (Key V) → ℕ → Type 0
IsRepeat same keys i = IsTrue (is_repeat same keys i)
