use Rattle.std.proofs.Common.{◌≡◌, map, rules, ap}
use Rattle.program_form.specs.declared.templates.Part.{the_lemmas}
use Rattle.program_form.specs.Template.{children, templates_in}
use Rattle.program_form.specs.TemplateView.{plain_part, plain_template}
use Rattle.program_check.specs.Steps.{children_in}
use Rattle.program_check.proofs.PartLemmas.{part_of-children}
use Rattle.program_check.proofs.members.children_of.Goals as goal

pub returns-in-Children-clause-answer : goal.returns-in-Children-clause-answer
returns-in-Children-clause-answer c =
    let ts = c.in-Children.children.items in
    let e : plain_part c.args.part ≡ children (templates_in (map plain_template ts)) = search (rules, the_lemmas, c.in-Children.is) in
    ap children_in (part_of-children c.args.part ts e)
