-- The members of a JSON object: those that have to be there, those that may be, and each one's walk; and lists and
-- objects whose parts are all walked alike.
use Rattle.std.specs.Prelude.{◌≡◌, ℕ, List, [], ◌∷◌, Bool, false, is_some, if◌then◌else◌, Option, Some, None, Ok, ⊤}
use Rattle.std.specs.List.{list_any, list_all}
use Rattle.std.specs.Str.{bytes_eq}
use Rattle.serde_json.specs.Data.{Data, Members, no_members, member}
use Rattle.serde_json.specs.Find.{get, as_object}
use Rattle.program_read.specs.declared.fault.ShapeCode.TheVariants.{MissingMember, UnknownMember, WrongKind}
use Rattle.program_read.specs.ShapeFault.{ShapeWalk, stops, within, and_then, given, each}
use Rattle.program_read.specs.Leaves.{or_stop, entries_of, walks}
use Rattle.program_read.specs.Names.{name_or_stop}

-- the members of the object that a value is, in byte order of their names
abbrev pub object_of : Data → ShapeWalk Members
object_of d = or_stop WrongKind (as_object d)

abbrev pub names_of : Members → List (List ℕ)
names_of no_members = []
names_of (member name d ms) = name ∷ names_of ms

-- an object has the member
abbrev pub has : Data → List ℕ → Bool
has d name = is_some (get name d)

-- the name is one of these
abbrev pub is_among : List (List ℕ) → List ℕ → Bool
is_among names name = list_any (λ known. bytes_eq known name) names

-- an object has each of the required members, and then none but the known ones
abbrev pub shape_of : List (List ℕ) → List (List ℕ) → Data → Members → ShapeWalk ⊤
shape_of required known d ms =
    if list_all (has d) required
    then (if list_all (is_among known) (names_of ms) then Ok tt else stops UnknownMember)
    else stops MissingMember

abbrev pub shaped : List (List ℕ) → List (List ℕ) → Data → ShapeWalk ⊤
shaped required known d = and_then (object_of d) (λ ms. shape_of required known d ms)

-- the walk of a member that has to be there, and of one that may be left out
abbrev pub required_at : {A : Type 0} → (Data → ShapeWalk A) → List ℕ → Data → ShapeWalk A
required_at walk name d = and_then (or_stop MissingMember (get name d)) (λ found. within name (walk found))

abbrev pub walk_found : {A : Type 0} → (Data → ShapeWalk A) → List ℕ → Option Data → ShapeWalk (Option A)
walk_found walk name None = Ok None
walk_found walk name (Some found) = given Some (within name (walk found))

abbrev pub optional_at : {A : Type 0} → (Data → ShapeWalk A) → List ℕ → Data → ShapeWalk (Option A)
optional_at walk name d = walk_found walk name (get name d)

-- of the second value each member but that of the name is what it is of the first
abbrev pub OthersStay : List ℕ → Data → Data → Type 0
OthersStay name old new = (other : List ℕ) → bytes_eq other name ≡ false → get other new ≡ get other old

-- walks in order: what each gives, or the first fault
abbrev pub in_order : {A : Type 0} → List (ShapeWalk A) → ShapeWalk (List A)
in_order [] = Ok []
in_order (walk ∷ walks) = and_then walk (λ x. given (λ xs. x ∷ xs) (in_order walks))

-- a member of an object whose names are free: the name's rule, and then the value
abbrev pub named : {A : Type 0} → List ℕ → ShapeWalk A → ShapeWalk (List ℕ × A)
named name walk = and_then (name_or_stop name) (λ n. given (λ x. (n, x)) (within n walk))

abbrev pub named_walks : {A : Type 0} → (Data → ShapeWalk A) → Members → List (ShapeWalk (List ℕ × A))
named_walks walk no_members = []
named_walks walk (member name d ms) = named name (walk d) ∷ named_walks walk ms

-- the object that a value is, each of its members walked in byte order of their names
abbrev pub keyed_of : {A : Type 0} → (Data → ShapeWalk A) → Data → ShapeWalk (List (List ℕ × A))
keyed_of walk d = and_then (object_of d) (λ ms. in_order (named_walks walk ms))

-- the list that a value is, each of its entries walked in order
abbrev pub list_of : {A : Type 0} → (Data → ShapeWalk A) → Data → ShapeWalk (List A)
list_of walk d = and_then (entries_of d) (λ ds. each 0 (walks walk ds))
