use Rattle.program_check.specs.BodyView.{plain_body}
use Rattle.program_check.specs.CheckedView.{plain_checked}
use Rattle.template_build.specs.Program.{root_output}
use Rattle.frame_session.proofs.RootLemmas.{one_is, one_sets, one_too_large}
use Rattle.std.proofs.Common.{rules}
use Rattle.widget_model.specs.View.{shared}
use Rattle.frame_session.proofs.held.kept_root.Goals as goal

pub returns-in-Ok-clause-root : goal.returns-in-Ok-clause-root
returns-in-Ok-clause-root c =
    one_is (root_output (plain_checked c.args.program.now) (plain_body c.args.body.now)) (shared c.in-Ok.widget) c.in-Ok.ensures.output

pub returns-in-Ok-clause-sets : goal.returns-in-Ok-clause-sets
returns-in-Ok-clause-sets c =
    let p = plain_checked c.args.program.now in
    let b = plain_body c.args.body.now in
    one_sets (root_output p b) (shared c.in-Ok.widget) c.in-Ok.ensures.output
    (c.handlers_fit_their_owners.ensures.roots p b c.parts.ensures.checked.typed c.requires.typed)

pub returns-in-Err-OutputTooLarge-clause-root : goal.returns-in-Err-OutputTooLarge-clause-root
returns-in-Err-OutputTooLarge-clause-root c =
    let p = plain_checked c.args.program.now in
    let b = plain_body c.args.body.now in
    let one = c.a_root_is_one_widget.ensures p b c.parts.ensures.checked.typed c.requires.typed in
    one_too_large (root_output p b) one.0 one.1 (search rules)
