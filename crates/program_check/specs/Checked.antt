-- A checked program as plain data.
use Rattle.std.specs.Prelude.{ℕ, List}
use Rattle.fx_geom.specs.declared.shapes.Size.{Size}
use Rattle.fx_expr.specs.Exp.{Exp}
use Rattle.program_form.specs.declared.kinds.ChildSort.{ChildSort}
use Rattle.expr_check.specs.Names.{NamedTypes}
use Rattle.program_check.specs.Body.{PlainBody}
use Rattle.program_check.specs.Place.{Signature}

-- fields or inherited names with their types, and the first or default value of each
pub record PlainVariables : Type 0 where
  pub names : NamedTypes
  pub values : List Exp

pub record PlainCheckedComponent : Type 0 where
  pub name : List ℕ
  pub props : NamedTypes
  pub fields : PlainVariables
  pub slots : List (List ℕ)
  -- of its body
  pub sort : ChildSort
  pub body : PlainBody

-- the view's size is in u
pub record PlainChecked : Type 0 where
  pub version : ℕ
  pub view : Size
  pub inherited : PlainVariables
  pub components : List PlainCheckedComponent
  pub root : PlainBody

abbrev pub variables_with : NamedTypes → List Exp → PlainVariables
variables_with names values = record { names = names; values = values }

abbrev pub checked_component_with : List ℕ → NamedTypes → PlainVariables → List (List ℕ) → ChildSort → PlainBody → PlainCheckedComponent
checked_component_with name props fields slots sort b =
    record { name = name; props = props; fields = fields; slots = slots; sort = sort; body = b }

abbrev pub checked_with : ℕ → Size → PlainVariables → List PlainCheckedComponent → PlainBody → PlainChecked
checked_with version view inherited components root =
    record { version = version; view = view; inherited = inherited; components = components; root = root }

-- what a template that uses a component has to know of it
abbrev pub signature_of : PlainCheckedComponent → Signature
signature_of c = record { name = c.name; props = c.props; slots = c.slots; sort = c.sort }
