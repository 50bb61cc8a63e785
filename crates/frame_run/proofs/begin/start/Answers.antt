use Rattle.std.proofs.Common.{refl}
use Rattle.program_check.specs.CheckedView.{plain_checked}
use Rattle.session_form.specs.State.{first_state}
use Rattle.counted_work.specs.Known.{no_frames}
use Rattle.frame_run.specs.Words.{meant}
use Rattle.frame_run.proofs.begin.start.Goals as goal

pub returns-clause-stands : goal.returns-clause-stands
returns-clause-stands g c = (c.new-2.ensures.stands _ c.in_ok-session.ensures.state, c.requires, refl)

pub returns-clause-causes : goal.returns-clause-causes
returns-clause-causes g c = λ keeps.
    c.new-2.ensures.causes no_frames (first_state (plain_checked c.args.checked) (meant c.args.delegates.items (λ v. (g.dyn-1.0.entry v).1)))
    (c.in_ok-session.ensures.causes keeps (meant c.args.delegates.items (λ v. (g.dyn-1.0.entry v).1)))
