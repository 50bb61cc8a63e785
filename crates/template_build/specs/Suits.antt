-- When a scene is one that a checked template can stand in.
use Rattle.std.specs.Prelude.{◌≡◌, ℕ, List, map, length, Some, slice_get}
use Rattle.fx_expr.specs.declared.values.Ty.{Ty}
use Rattle.fx_expr.specs.Scope.{Env, types_in}
use Rattle.expr_check.specs.Names as declares
use Rattle.widget_model.specs.Plain.{PlainWidget}
use Rattle.widget_model.specs.Typed.{box, ComponentType, AllAre, sort_of}
use Rattle.program_check.specs.Checked.{PlainCheckedComponent, PlainChecked}
use Rattle.program_check.specs.Place.{Signature}
use Rattle.program_check.specs.ProgramCheck.{seen_in_body}
use Rattle.program_check.specs.Body.{PlainBody}
use Rattle.program_check.specs.TypedBody.{Surroundings, IsBoxOrSliver, IsTypedBody}
use Rattle.template_build.specs.Scene.{Scene}
use Rattle.template_build.specs.Program.{widget_sort, declarations_of}

-- a component is declared as a template knows it that uses it
pub record IsDeclaredAs (c : ComponentType) (known : Signature) : Type 0 where
  pub props : c.props ≡ declares.types_in known.props
  pub slots : c.slots ≡ length known.slots
  pub either : IsBoxOrSliver known.sort
  pub sort : c.body ≡ widget_sort known.sort

-- a component that a template can use is declared
pub record IsDeclared (components : List ComponentType) (place : ℕ) (known : Signature) : Type 0 where
  pub component : ComponentType
  pub found : slice_get components place ≡ Some component
  pub same : IsDeclaredAs component known

-- a scene has what the surroundings of a template promise: names with values of their types, as many contents as slots,
-- and the components that can be used there
pub record Suits (S : Surroundings) (s : Scene) : Type 0 where
  pub names : types_in s.env ≡ S.sight.types
  pub filled : length s.given ≡ S.slots
  pub provided : s.declared.inherited ≡ S.provided
  pub components : (place : ℕ) (known : Signature) → slice_get S.components place ≡ Some known → IsDeclared s.declared.components place known

-- a template is typed where it stands, and the scene suits that place
pub record IsBuiltIn (s : Scene) (b : PlainBody) : Type 0 where
  pub there : Surroundings
  pub suits : Suits there s
  pub typed : IsTypedBody there b

-- the condition of a component's build: the place is that of a component of the program, its fields, its props and all
-- inherited names have values of their declared types, no loop variable is there, and each of its slots is given one box
pub record MayBuild (c : PlainChecked) (place : ℕ) (s : Env) (contents : List PlainWidget) : Type 0 where
  pub component : PlainCheckedComponent
  pub found : slice_get c.components place ≡ Some component
  pub names : types_in s ≡ declares.types_of (seen_in_body component.fields.names component.props c.inherited.names)
  pub filled : length contents ≡ length component.slots
  pub boxes : AllAre box (map (sort_of (declarations_of c)) contents)

-- the condition of its first fields: the place is that of a component, and the values are of its props' types
pub record MayBegin (c : PlainChecked) (place : ℕ) (types : List Ty) : Type 0 where
  pub component : PlainCheckedComponent
  pub found : slice_get c.components place ≡ Some component
  pub props : types ≡ declares.types_in component.props
