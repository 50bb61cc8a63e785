use Rattle.script_lines.specs.declared.command.Command.TheVariants as command
use Rattle.session_form.specs.Step.{step}
use Rattle.live_session.specs.Tweens.{with_values, tweens_kept}
use Rattle.live_session.proofs.FrameFocusLemmas.{frame_focus}
use Rattle.live_session.proofs.laws.focus_stays.Goals as goal

pub returns : goal.returns
returns c r next text number e =
    let now = r.session.time in
    frame_focus (step (with_values now r.tweens r.session) command.Frame) now (tweens_kept now r.session r.tweens) r next text number e
