use Rattle.counted_frames.proofs.Passing.{PassLaws, frames_between, agree_between, after_between}
use Rattle.counted_frames.proofs.causes.phased_frames_leave_causes.Goals as goal

pub returns-clause-layouts : goal.returns-clause-layouts
returns-clause-layouts c = λ s view before old new top lo ln po pn after steps tree framed agree unlaid.
    let pass = c.frames_pass_between_phases.ensures in
    let laws : PassLaws = record { agree = pass.agree; after = pass.after } in
    c.screens_keep_to_their_sets.ensures.layout_causes s view (record before { frames = frames_between s view top before.frames }) steps.brought new top steps.layouts_between ln po pn after steps.shows tree
    (after_between laws s view before old new top lo ln po pn steps after.frames framed)
    (agree_between laws s view before old new top lo ln po pn steps agree unlaid)
    (pass.unlaid (frames_between s view top before.frames) steps.brought top steps.brings.after steps.brings.renders)

pub returns-clause-paints : goal.returns-clause-paints
returns-clause-paints c = λ s view before old new top lo ln po pn after steps tree framed agree unlaid.
    let pass = c.frames_pass_between_phases.ensures in
    let laws : PassLaws = record { agree = pass.agree; after = pass.after } in
    c.screens_keep_to_their_sets.ensures.paint_causes s view (record before { frames = frames_between s view top before.frames }) steps.brought new top steps.layouts_between ln po pn after steps.shows tree
    (after_between laws s view before old new top lo ln po pn steps after.frames framed)
    (agree_between laws s view before old new top lo ln po pn steps agree unlaid)
    (pass.unlaid (frames_between s view top before.frames) steps.brought top steps.brings.after steps.brings.renders)
