-- Programs and components as plain data.
use Rattle.std.specs.Prelude.{ℕ, List}
use Rattle.fx_expr.specs.declared.values.Ty.{Ty}
use Rattle.fx_geom.specs.declared.shapes.Size.{Size}
use Rattle.program_form.specs.Form.{PlainForm}
use Rattle.program_form.specs.Template.{PlainTemplate}

-- a prop that a component declares: its name and its type
pub record PlainParameter : Type 0 where
  pub name : List ℕ
  pub ty : Ty

-- a field that a component declares, or an inherited name: its name, its type, and its first or default value
pub record PlainVariable : Type 0 where
  pub name : List ℕ
  pub ty : Ty
  pub value : PlainForm

pub record PlainComponent : Type 0 where
  pub name : List ℕ
  pub props : List PlainParameter
  pub fields : List PlainVariable
  pub slots : List (List ℕ)
  pub body : PlainTemplate

-- the version is 1, 2 or 3; the view's size is in u
pub record PlainProgram : Type 0 where
  pub version : ℕ
  pub view : Size
  pub inherited : List PlainVariable
  pub components : List PlainComponent
  pub root : PlainTemplate

abbrev pub parameter_with : List ℕ → Ty → PlainParameter
parameter_with name ty = record { name = name; ty = ty }

abbrev pub variable_with : List ℕ → Ty → PlainForm → PlainVariable
variable_with name ty value = record { name = name; ty = ty; value = value }

abbrev pub component_with : List ℕ → List PlainParameter → List PlainVariable → List (List ℕ) → PlainTemplate → PlainComponent
component_with name props fields slots body = record { name = name; props = props; fields = fields; slots = slots; body = body }

abbrev pub program_with : ℕ → Size → List PlainVariable → List PlainComponent → PlainTemplate → PlainProgram
program_with version view inherited components root =
    record { version = version; view = view; inherited = inherited; components = components; root = root }
