-- What the parts of a checked program declare, and what its components and its root give.
use Rattle.std.specs.Prelude.{ℕ, pos, List, [], map, length, Option, Some, None, slice_get}
use Rattle.fx_expr.specs.declared.values.Value.{Value}
use Rattle.fx_expr.specs.Scope.{Env}
use Rattle.fx_expr.specs.ValueOf.{value_of}
use Rattle.program_form.specs.declared.kinds.ChildSort.{ChildSort}
use Rattle.program_form.specs.declared.kinds.ChildSort.TheVariants as stands
use Rattle.expr_check.specs.Names.{types_in}
use Rattle.widget_model.specs.Plain.{PlainWidget}
use Rattle.widget_model.specs.Typed.{Sort, box, sliver, ComponentType, Declarations}
use Rattle.program_check.specs.Body.{PlainBody}
use Rattle.program_check.specs.Checked.{PlainCheckedComponent, PlainChecked}
use Rattle.program_check.specs.Decl.{decl_of}
use Rattle.template_build.specs.Scene.{Scene}
use Rattle.template_build.specs.Output.{output_of}

-- the sort of a widget whose template has this one. The templates of a checked program are boxes or slivers.
abbrev pub widget_sort : ChildSort → Sort
widget_sort stands.Box = box
widget_sort stands.Sliver = sliver
widget_sort stands.Any = box

-- what a program of so many inherited names says of a component to the widgets that use it
abbrev pub declared_component : ℕ → PlainCheckedComponent → ComponentType
declared_component count c =
    record { declaration = decl_of count c; props = types_in c.props; slots = length c.slots; body = widget_sort c.sort }

abbrev pub declarations_of : PlainChecked → Declarations
declarations_of c = record {
  components = map (declared_component (length c.inherited.names)) c.components;
  inherited = types_in c.inherited.names;
}

-- a scene of a program
abbrev pub scene_in : PlainChecked → Env → List PlainWidget → ℕ → Scene
scene_in c s contents n = record { env = s; given = contents; owner = n; declared = declarations_of c }

-- values of props, or none, and no other name
abbrev pub props_alone : List Value → Env
props_alone vs = record { fields = []; props = vs; vars = []; inherited = []; dx = pos 0; dy = pos 0 }

-- what the body of a component gives in a scene; nothing where there is no component
abbrev pub output_in_body : Option PlainCheckedComponent → Scene → List PlainWidget
output_in_body (Some c) s = output_of c.body s
output_in_body None s = []

-- what the component at a place gives: with these names and contents of its slots, at a node of this number
abbrev pub component_output : PlainChecked → ℕ → Env → List PlainWidget → ℕ → List PlainWidget
component_output c place s contents n = output_in_body (slice_get c.components place) (scene_in c s contents n)

-- what a template gives outside components: no name has a value there, there are no slots, and the number is 0
abbrev pub root_output : PlainChecked → PlainBody → List PlainWidget
root_output c b = output_of b (scene_in c (props_alone []) [] 0)

-- the first fields of the component at a place, by the values of its props
abbrev pub first_fields : Option PlainCheckedComponent → List Value → List Value
first_fields (Some c) vs = map (λ e. value_of e (props_alone vs)) c.fields.values
first_fields None vs = []

abbrev pub initial_fields_of : PlainChecked → ℕ → List Value → List Value
initial_fields_of c place vs = first_fields (slice_get c.components place) vs
