-- In a checked program no name stands twice in its list.
use Rattle.std.specs.Prelude.{◌≡◌, ◌≢◌, ℕ, List, map, slice_get, Some}
use Rattle.std.specs.List.{AllPairs}
use Rattle.fx_expr.specs.declared.values.Ty.{Ty}
use Rattle.program_check.specs.Checked.{PlainCheckedComponent, PlainChecked}

-- no name of the list is one after it
abbrev pub NamesDiffer : List (List ℕ) → Type 0
NamesDiffer names = AllPairs (λ a b. a ≢ b) names

-- the names of a list of names with their types
abbrev pub names_of : List (List ℕ × Ty) → List (List ℕ)
names_of ds = map (λ d. d.0) ds

-- what a component declares
pub record DeclaresOnce (c : PlainCheckedComponent) : Type 0 where
  pub props : NamesDiffer (names_of c.props)
  pub fields : NamesDiffer (names_of c.fields.names)
  pub slots : NamesDiffer c.slots

-- the inherited names, the components, and what each of them declares
pub record NamesOnce (c : PlainChecked) : Type 0 where
  pub inherited : NamesDiffer (names_of c.inherited.names)
  pub components : NamesDiffer (map (λ c. c.name) c.components)
  pub declared : (i : ℕ) (d : PlainCheckedComponent) → slice_get c.components i ≡ Some d → DeclaresOnce d
