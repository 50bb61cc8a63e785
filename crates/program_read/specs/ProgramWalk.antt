-- The program that a value is, or its first fault.
use Rattle.std.specs.Prelude.{ℕ, ◌≤◌, ◌&&◌, ℤ, pos, negsuc, List, [], ◌∷◌, codes, nat_le, if◌then◌else◌, unwrap_or, Option, Ok}
use Rattle.serde_json.specs.Data.{Data, Items}
use Rattle.serde_json.specs.Find.{as_array}
use Rattle.fx_geom.specs.declared.shapes.Size.{Size}
use Rattle.program_read.specs.declared.fault.ShapeCode.TheVariants.{WrongKind, OverLimit, OutOfRange}
use Rattle.program_read.specs.ShapeFault.{ShapeWalk, stops, at_entry, and_then, given, each}
use Rattle.program_read.specs.Leaves.{or_stop, integer_of, count_of, pair_of, triple_of, walks, type_of}
use Rattle.program_read.specs.Names.{name_of}
use Rattle.program_read.specs.FormWalk.{form_of}
use Rattle.program_read.specs.Objects.{shaped, required_at, optional_at, list_of}
use Rattle.program_read.specs.TemplateWalk.{template_of}
use Rattle.program_form.specs.Program.{PlainParameter, PlainVariable, PlainComponent, PlainProgram, parameter_with, variable_with, component_with, program_with}

-- the versions: 1, 2 and 3
abbrev pub as_version : ℤ → ShapeWalk ℕ
as_version (pos n) = if nat_le 1 n && nat_le n 3 then Ok n else stops OutOfRange
as_version (negsuc n) = stops OutOfRange

pub record IsVersion (n : ℕ) : Type 0 where
  pub first : 1 ≤ n
  pub last : n ≤ 3

abbrev pub version_of : Data → ShapeWalk ℕ
version_of d = and_then (integer_of d) as_version

-- a side of the view, in u
abbrev pub as_side : ℤ → ShapeWalk ℕ
as_side (pos n) = if nat_le 1 n && nat_le n 16777216 then Ok n else stops OutOfRange
as_side (negsuc n) = stops OutOfRange

pub record IsSide (n : ℕ) : Type 0 where
  pub least : 1 ≤ n
  pub greatest : n ≤ 16777216

abbrev pub side_of : Data → ShapeWalk ℕ
side_of d = and_then (integer_of d) as_side

abbrev pub size_with : ℕ → ℕ → Size
size_with width height = record { w = width; h = height }

-- `[w, h]`
abbrev pub view_from : Data × Data → ShapeWalk Size
view_from p = and_then (at_entry 0 (side_of p.0)) (λ w. given (size_with w) (at_entry 1 (side_of p.1)))

abbrev pub view_of : Data → ShapeWalk Size
view_of d = and_then (pair_of d) view_from

-- `[name, type]`
abbrev pub parameter_from : Data × Data → ShapeWalk PlainParameter
parameter_from p = and_then (at_entry 0 (name_of p.0)) (λ n. given (parameter_with n) (at_entry 1 (type_of p.1)))

abbrev pub parameter_of : Data → ShapeWalk PlainParameter
parameter_of d = and_then (pair_of d) parameter_from

-- `[name, type, expression]`
abbrev pub variable_from : Data × Data × Data → ShapeWalk PlainVariable
variable_from p =
    and_then (at_entry 0 (name_of p.0)) (λ n.
    and_then (at_entry 1 (type_of p.1)) (λ ty.
    given (variable_with n ty) (at_entry 2 (form_of p.2))))

abbrev pub variable_of : Data → ShapeWalk PlainVariable
variable_of d = and_then (triple_of d) variable_from

-- the list of a member that may be left out; it is empty then
abbrev pub or_empty : {A : Type 0} → ShapeWalk (Option (List A)) → ShapeWalk (List A)
or_empty walk = given (λ found. unwrap_or found []) walk

abbrev pub list_at : {A : Type 0} → (Data → ShapeWalk (List A)) → List ℕ → Data → ShapeWalk (List A)
list_at walk name d = or_empty (optional_at walk name d)

-- which members a component has
abbrev pub component_names : List (List ℕ)
component_names = codes "name" ∷ codes "props" ∷ codes "fields" ∷ codes "slots" ∷ codes "body" ∷ []

-- what a component is by its members, each in turn
abbrev pub component_parts : ℕ → Data → ShapeWalk PlainComponent
component_parts version d =
    and_then (required_at name_of (codes "name") d) (λ name.
    and_then (list_at (list_of parameter_of) (codes "props") d) (λ props.
    and_then (list_at (list_of variable_of) (codes "fields") d) (λ fields.
    and_then (list_at (list_of name_of) (codes "slots") d) (λ slots.
    given (component_with name props fields slots) (required_at (template_of version) (codes "body") d)))))

unfoldable pub component_of : ℕ → Data → ShapeWalk PlainComponent
component_of version d = and_then (shaped (codes "name" ∷ codes "body" ∷ []) component_names d) (λ _. component_parts version d)

-- at most 256 components
abbrev pub within_components : Items → ShapeWalk Items
within_components ds = if nat_le (count_of ds) 256 then Ok ds else stops OverLimit

abbrev pub component_entries_of : Data → ShapeWalk Items
component_entries_of d = and_then (or_stop WrongKind (as_array d)) within_components

abbrev pub components_of : ℕ → Data → ShapeWalk (List PlainComponent)
components_of version d = and_then (component_entries_of d) (λ ds. each 0 (walks (component_of version) ds))

-- which members a program has; the version, which says what kinds there are, is read first
abbrev pub program_names : List (List ℕ)
program_names = codes "version" ∷ codes "view" ∷ codes "inherited" ∷ codes "components" ∷ codes "root" ∷ []

-- what a program is by its members, each in turn
abbrev pub program_parts : Data → ShapeWalk PlainProgram
program_parts d =
    and_then (required_at version_of (codes "version") d) (λ version.
    and_then (required_at view_of (codes "view") d) (λ view.
    and_then (list_at (list_of variable_of) (codes "inherited") d) (λ inherited.
    and_then (list_at (components_of version) (codes "components") d) (λ components.
    given (program_with version view inherited components) (required_at (template_of version) (codes "root") d)))))

unfoldable pub program_of : Data → ShapeWalk PlainProgram
program_of d = and_then (shaped (codes "version" ∷ codes "view" ∷ codes "root" ∷ []) program_names d) (λ _. program_parts d)
