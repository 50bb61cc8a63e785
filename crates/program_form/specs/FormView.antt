-- An expression of the program, as it is written, as plain data.
use Rattle.std.specs.Prelude.{List}
use Rattle.fx_expr.specs.declared.values.Value.TheVariants as value
use Rattle.program_form.specs.declared.forms.Form.{Form, Form-F, fold-Form}
use Rattle.program_form.specs.declared.forms.Form.TheOpen as one
use Rattle.program_form.specs.declared.forms.FormList.{FormList, FormList-F, fold-FormList}
use Rattle.program_form.specs.Form.{PlainForm, literal, field, prop, variable, inherited, event_dx, event_dy, operation, operands_in}

-- one form, whose operands are plain data already
abbrev pub form_step : Form-F PlainForm (List PlainForm) → PlainForm
form_step (one.Int z) = literal (value.Int z)
form_step (one.Bool b) = literal (value.Bool b)
form_step (one.Text t) = literal (value.Text t)
form_step (one.Field name) = field name
form_step (one.Prop name) = prop name
form_step (one.Var name) = variable name
form_step (one.Inherit name) = inherited name
form_step one.EventDx = event_dx
form_step one.EventDy = event_dy
form_step (one.Operation operator operands) = operation operator (operands_in operands)

abbrev pub forms_step : FormList-F PlainForm (List PlainForm) → List PlainForm
forms_step l = l.items.items

-- an expression as plain data
abbrev pub plain_form : Form → PlainForm
plain_form = fold-Form PlainForm (List PlainForm) form_step forms_step

-- a list of expressions as plain data
abbrev pub plain_forms : FormList → List PlainForm
plain_forms = fold-FormList PlainForm (List PlainForm) form_step forms_step
