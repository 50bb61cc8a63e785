use Rattle.program_check.specs.CheckedView.{plain_checked}
use Rattle.build_form.specs.Program.{blueprint_of}
use Rattle.widget_model.specs.View.{shared}
use Rattle.worked_calls.proofs.BothBuilds.{lent_built, lent_full}
use Rattle.worked_calls.proofs.build_steps.Both.build_plain.Goals as goal

pub build-requires-clause-old : goal.build-requires-clause-old
build-requires-clause-old g c = lent_built _ c.as_ref-plain.result c.args.self.now.plain c.as_ref-plain.ensures.value c.requires.stands.elements.well

pub build-requires-clause-root : goal.build-requires-clause-root
build-requires-clause-root g c = c.requires.typed

pub build-requires-clause-size : goal.build-requires-clause-size
build-requires-clause-size g c = c.requires.sized

pub returns : goal.returns
returns g c =
    let s = c.args.self.now in
    (_, lent_full (blueprint_of (plain_checked c.args.checked.now)) _ s.next (shared s.root) c.as_ref-plain.result s.plain _ c.as_ref-plain.ensures.value c.in_ok-built.ensures.ok)
