use Rattle.std.proofs.Common.{◌≡◌, map, rules}
use Rattle.program_form.specs.declared.templates.Part.{the_lemmas}
use Rattle.program_form.specs.Template.{slots, slots_in}
use Rattle.program_form.specs.TemplateView.{plain_part, plain_slot}
use Rattle.program_check.proofs.PartLemmas.{slots_of-part}
use Rattle.program_check.proofs.members.slots_of.Goals as goal

pub returns-in-Slots-clause-answer : goal.returns-in-Slots-clause-answer
returns-in-Slots-clause-answer c =
    let e : plain_part c.args.part ≡ slots (slots_in (map plain_slot c.in-Slots.slots.items)) = search (rules, the_lemmas, c.in-Slots.is) in
    slots_of-part c.args.part c.in-Slots.slots.items e
