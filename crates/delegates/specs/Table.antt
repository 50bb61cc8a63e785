-- What a table of delegates holds, and what its calls do to it.
use Rattle.std.specs.Prelude.{ℕ, Bool, List, [], ◌∷◌, ◌++◌, map, fold, Option, Some, None, option_map, String, string_bytes, if◌then◌else◌, ℤ}
use Rattle.std.specs.List.{list_any, find}
use Rattle.std.specs.Str.{bytes_eq}
use Rattle.delegates.specs.declared.delegate.Delegate.{Ghosts}
use Rattle.delegates.specs.declared.table.DelegateTable.{DelegateTable}
use Rattle.delegates.specs.declared.table.SetEnd.{SetEnd}
use Rattle.delegates.specs.declared.table.SetEnd.TheVariants.{Done, NoDelegate, NoField}
use Rattle.delegates.specs.Meaning.{Meaning, has_field, with_field}

-- An entry of a table: a name, and what its delegate means where it wasn't unplugged.
pub record Plug : Type 0 where
  pub name : List ℕ
  pub meaning : Option Meaning

-- the images of a list's values, and of the value that is there, in the order in which a clause names them
abbrev pub each_of : {A B : Type 0} → List A → (A → B) → List B
each_of xs f = map f xs

abbrev pub if_some : {A B : Type 0} → Option A → (A → B) → Option B
if_some x f = option_map f x

-- the entry of a delegate under a name
abbrev pub plugged : List ℕ → Meaning → Plug
plugged name m = record { name = name; meaning = Some m }

-- the entries of a table, where a box means what f says
abbrev pub entries_of : {Z B : Type 0} → List (String Z × Option B) → (B → Meaning) → List Plug
entries_of es f = map (λ e. record { name = string_bytes e.0; meaning = option_map f e.1 }) es

-- what delegates mean, whatever their types are
abbrev pub Means : {V : Type 0} → (V → Type 0) → Type 1
Means {V} D = (v : V) → Ghosts (D v)

-- the entries of a table whose delegates mean this
abbrev pub meant_in : {V : Type 0} {D : V → Type 0} → DelegateTable V D → Means D → List Plug
meant_in table means = entries_of table.entries.entries (λ d. (means d.vtable).meaning d.value)

-- whether an entry has this name
abbrev pub is_named : List ℕ → Plug → Bool
is_named name e = bytes_eq name e.name

-- the entries with one more at the end, where none has its name yet
abbrev pub with_new : List Plug → Plug → List Plug
with_new es e = if list_any (is_named e.name) es then es else es ++ e ∷ []

-- of equal names the first counts
abbrev pub first_of_each : List Plug → List Plug
first_of_each es = fold with_new [] es

-- what an entry's delegate means, if there is an entry and a delegate is plugged there
abbrev pub meaning_in : Option Plug → Option Meaning
meaning_in None = None
meaning_in (Some e) = e.meaning

-- what the delegate of this name means, if one is plugged
abbrev pub meaning_of : List Plug → List ℕ → Option Meaning
meaning_of es name = meaning_in (find (is_named name) es)

-- the entries with another meaning, or none, in the one of this name, and all else as it was
abbrev pub with_meaning : List Plug → List ℕ → Option Meaning → List Plug
with_meaning [] name m = []
with_meaning (e ∷ es) name m = if is_named name e then record { name = e.name; meaning = m } ∷ es else e ∷ with_meaning es name m

-- the entries with another number in a field of the delegate of this name, if it is plugged and has the field
abbrev pub with_number : List Plug → List ℕ → List ℕ → ℤ → List Plug
with_number es name field n = with_meaning es name (option_map (λ m. with_field m field n) (meaning_of es name))

-- the entries with no delegate plugged under this name
abbrev pub unplugged : List Plug → List ℕ → List Plug
unplugged es name = with_meaning es name None

-- how setting a field ends, by what the delegate means, if one is plugged
abbrev pub set_end : Option Meaning → List ℕ → SetEnd
set_end None field = NoDelegate
set_end (Some m) field = if has_field m field then Done else NoField
