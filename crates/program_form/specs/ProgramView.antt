-- A program, as it is written, as plain data.
use Rattle.std.specs.Prelude.{map}
use Rattle.program_form.specs.declared.programs.Parameter.{Parameter}
use Rattle.program_form.specs.declared.programs.Variable.{Variable}
use Rattle.program_form.specs.declared.programs.Component.{Component}
use Rattle.program_form.specs.declared.programs.Program.{Program}
use Rattle.program_form.specs.FormView.{plain_form}
use Rattle.program_form.specs.TemplateView.{plain_template}
use Rattle.program_form.specs.Program.{PlainParameter, PlainVariable, PlainComponent, PlainProgram, parameter_with, variable_with, component_with, program_with}

abbrev pub plain_parameter : Parameter → PlainParameter
plain_parameter p = parameter_with p.name p.ty

abbrev pub plain_variable : Variable → PlainVariable
plain_variable v = variable_with v.name v.ty (plain_form v.value)

abbrev pub plain_component : Component → PlainComponent
plain_component c =
    component_with c.name (map plain_parameter c.props.items) (map plain_variable c.fields.items) c.slots.items (plain_template c.body)

abbrev pub plain_program : Program → PlainProgram
plain_program p =
    program_with p.version p.view (map plain_variable p.inherited.items) (map plain_component p.components.items) (plain_template p.root)
