-- What a contract sees of `Groups`: which handles stand under a name, and for how many more there is room.
use Rattle.std.specs.Prelude.{ℕ, Bool, ◌&&◌, List, [], ◌∷◌, map, if◌then◌else◌, String, string_bytes, refl}
use Rattle.std.specs.Coded.{Coded, code_by, coded×, coded_ℕ, coded_list}
use Rattle.std.specs.List.{list_any}
use Rattle.std.specs.Str.{bytes_eq}
use Rattle.indexmap.specs.IndexSet.{IndexSet, spare}
use Rattle.fx_handles.specs.declared.Handle.{Handle}
use Rattle.fx_handles.specs.Handle.{same}

-- the handles under one name, and how many more can stand there without new memory
pub record Group : Type 0 where
  pub name : List ℕ
  pub handles : List Handle
  pub room : ℕ

-- the groups, in the order in which their names came
pub record Groups : Type 0 where
  pub groups : List Group

abbrev pub coded_handle : Coded Handle
coded_handle = code_by (ℕ × ℕ) (coded× coded_ℕ coded_ℕ) (λ h. (h.index, h.generation)) (λ p. record { index = p.0; generation = p.1 }) (λ _. refl)

abbrev pub coded_group : Coded Group
coded_group =
    code_by
    (List ℕ × (List Handle × ℕ))
    (coded× (coded_list coded_ℕ) (coded× (coded_list coded_handle) coded_ℕ))
    (λ g. (g.name, (g.handles, g.room)))
    (λ p. record { name = p.0; handles = p.1.0; room = p.1.1 })
    (λ _. refl)

abbrev pub groups_code : Coded Groups
groups_code = code_by (List Group) (coded_list coded_group) (λ g. g.groups) (λ gs. record { groups = gs }) (λ _. refl)

-- the groups of a map's entries
abbrev pub groups_of : {Z S : Type 0} → List (String Z × IndexSet Handle S) → List Group
groups_of es = map (λ e. record { name = string_bytes e.0; handles = e.1.keys; room = spare e.1 }) es

-- a part of the group of a name, or what is given where there is none
abbrev pub of_group : {X : Type 0} → (Group → X) → X → List Group → List ℕ → X
of_group part d [] n = d
of_group part d (g ∷ gs) n = if bytes_eq n g.name then part g else of_group part d gs n

-- the handles under a name: none, where there is no group of that name
abbrev pub handles_in : List Group → List ℕ → List Handle
handles_in gs n = of_group (λ g. g.handles) [] gs n

-- for how many more handles there is room under a name
abbrev pub room_in : List Group → List ℕ → ℕ
room_in gs n = of_group (λ g. g.room) 0 gs n

-- whether the handle stands under the name
unfoldable pub stands_in : List Group → List ℕ → Handle → Bool
stands_in gs n h = list_any (same h) (handles_in gs n)

abbrev pub stands_under : Groups → List ℕ → Handle → Bool
stands_under g n h = stands_in g.groups n h

-- whether it does, once it is said of one handle and one name
abbrev pub with_standing : Bool → List ℕ → Handle → (List ℕ → Handle → Bool) → List ℕ → Handle → Bool
with_standing b m h stands n k = if bytes_eq m n && same h k then b else stands n k
