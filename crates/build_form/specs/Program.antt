-- What a build asks of a checked program.
use Rattle.std.specs.Prelude.{pos, List, [], map}
use Rattle.fx_expr.specs.declared.values.Value.{Value}
use Rattle.fx_expr.specs.Scope.{Env}
use Rattle.fx_expr.specs.ValueOf.{value_of}
use Rattle.program_check.specs.Checked.{PlainChecked}
use Rattle.program_check.specs.WellChecked.{scale_of}
use Rattle.template_build.specs.Program.{component_output, initial_fields_of, props_alone}
use Rattle.build_form.specs.Entering.{Blueprint}

-- what the expressions of a component's body can name
abbrev pub names_in : List Value → List Value → List Value → Env
names_in props fields values = record { fields = fields; props = props; vars = []; inherited = values; dx = pos 0; dy = pos 0 }

-- the value of each inherited name where no widget gives one
abbrev pub default_values : PlainChecked → List Value
default_values c = map (λ e. value_of e (props_alone [])) c.inherited.values

abbrev pub blueprint_of : PlainChecked → Blueprint
blueprint_of c = record {
  output = λ place props slots fields values number. component_output c place (names_in props fields values) slots number;
  initial = λ place props. initial_fields_of c place props;
  defaults = default_values c;
  nodes = (scale_of c.version).nodes;
}
