use Rattle.std.proofs.Common.{map, None, ap, ◌∙◌}
use Rattle.program_form.specs.TemplateView.{plain_template}
use Rattle.program_check.specs.CheckedView.{plain_component}
use Rattle.program_check.specs.ProgramCheck.{made_at, checked_root}
use Rattle.program_check.proofs.ProgramLemmas.{root_check, checked_root-plain, refused-at}
use Rattle.program_check.proofs.programs.check_root.Goals as goal

pub returns-in-Ok : goal.returns-in-Ok
returns-in-Ok c =
    checked_root-plain c.new-nothing.result c.args.inherited.now c.new-no_slots.result c.args.components.now (plain_template c.args.root)
    c.new-nothing.ensures c.new-no_slots.ensures ∙ ap (made_at None) c.in-Ok.ensures

pub returns : goal.returns
returns c =
    let nothing = c.new-nothing.result in
    let slots = c.new-no_slots.result in
    let root = plain_template c.args.root in
    refused-at None c.in-Err.stop c.at.result (root_check nothing c.args.inherited.now slots c.args.components.now root)
    (checked_root c.args.inherited.now (map plain_component c.args.components.now) root)
    (checked_root-plain nothing c.args.inherited.now slots c.args.components.now root c.new-nothing.ensures c.new-no_slots.ensures) c.in-Err.ensures c.at.ensures
