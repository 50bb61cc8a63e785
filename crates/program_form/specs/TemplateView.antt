-- A template of the program, as it is written, as plain data.
use Rattle.std.specs.Prelude.{ℕ, List, map, Option, option_map}
use Rattle.std.specs.Global.{Box}
use Rattle.program_form.specs.declared.templates.PropForm.{PropForm}
use Rattle.program_form.specs.declared.templates.Template.{Template, Template-F, fold-Template}
use Rattle.program_form.specs.declared.templates.Part.{Part, Part-F, fold-Part}
use Rattle.program_form.specs.declared.templates.Part.TheOpen as one
use Rattle.program_form.specs.declared.templates.SlotForm.{SlotForm, SlotForm-F, fold-SlotForm}
use Rattle.program_form.specs.Form.{PlainForm}
use Rattle.program_form.specs.FormView.{plain_form}
use Rattle.program_form.specs.HandlerView.{plain_handler}
use Rattle.program_form.specs.declared.keys.KeyForm.{KeyForm}
use Rattle.program_form.specs.Key.{PlainKey}
use Rattle.program_form.specs.KeyView.{plain_key}
use Rattle.program_form.specs.Template.{PlainTemplate, PlainPart, expression, word, name, handler, child, children, props, slots, templates_in, slots_in, template_from}

abbrev pub plain_prop : PropForm → List ℕ × PlainForm
plain_prop p = (p.name, plain_form p.value)

abbrev pub plain_key_member : Option (Box KeyForm) → Option PlainKey
plain_key_member key = option_map (λ k. plain_key k.value) key

-- one level, whose templates, members and contents of slots are plain data already
abbrev pub template_step : Template-F PlainPart (List ℕ × PlainTemplate) PlainTemplate → PlainTemplate
template_step t = template_from t.w (plain_key_member t.key) (map (option_map (λ p. p.value)) t.members.items)

abbrev pub part_step : Part-F PlainPart (List ℕ × PlainTemplate) PlainTemplate → PlainPart
part_step (one.Expression e) = expression (plain_form e)
part_step (one.Word w) = word w
part_step (one.Name n) = name n
part_step (one.Handler h) = handler (plain_handler h)
part_step (one.Child t) = child t.value
part_step (one.Children ts) = children (templates_in ts.items)
part_step (one.Props ps) = props (map plain_prop ps.items)
part_step (one.Slots ss) = slots (slots_in ss.items)

abbrev pub slot_step : SlotForm-F PlainPart (List ℕ × PlainTemplate) PlainTemplate → List ℕ × PlainTemplate
slot_step s = (s.name, s.content)

-- a template, a member, and a slot's content as plain data
abbrev pub plain_template : Template → PlainTemplate
plain_template = fold-Template PlainPart (List ℕ × PlainTemplate) PlainTemplate part_step slot_step template_step

abbrev pub plain_part : Part → PlainPart
plain_part = fold-Part PlainPart (List ℕ × PlainTemplate) PlainTemplate part_step slot_step template_step

abbrev pub plain_slot : SlotForm → List ℕ × PlainTemplate
plain_slot = fold-SlotForm PlainPart (List ℕ × PlainTemplate) PlainTemplate part_step slot_step template_step

abbrev pub plain_member : Option (Box Part) → Option PlainPart
plain_member p = option_map (λ p. plain_part p.value) p
