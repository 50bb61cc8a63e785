use Rattle.std.proofs.Common.{ap, subst}
use Rattle.script_lines.specs.declared.command.Command.TheVariants as command
use Rattle.script_lines.specs.declared.entry.Entry.TheVariants as entry
use Rattle.live_session.specs.RunState.{RunState, first_run, state_after}
use Rattle.session_laws.specs.Numbers.{HasNumbers}
use Rattle.session_laws.specs.Runs.{run_after}
use Rattle.session_laws.proofs.FocusRuns.{entry_keeps, lines_keep, framed_focus}
use Rattle.session_laws.proofs.focus.focus_stays_with_its_node.Goals as goal

pub returns-clause-next : goal.returns-clause-next
returns-clause-next c = λ r e h. entry_keeps c.focus_stays.ensures r e h

pub returns-clause-run : goal.returns-clause-run
returns-clause-run c = λ p ds es. lines_keep c.focus_stays.ensures (first_run p ds) es tt

pub returns-clause-frames : goal.returns-clause-frames
returns-clause-frames c = λ p ds es next text n checked is.
    let r = run_after p ds es in
    let sound = c.numbers_stay_apart.ensures.sound p ds es checked in
    let later = c.numbers_stay_apart.ensures.entry r (entry.Line command.Frame) sound in
    let now : HasNumbers next.session = subst (λ (x : RunState). HasNumbers x.session) (ap (state_after r) is) later.numbers in
    framed_focus c.focus_stays.ensures c.order_has_each_once.ensures.each r next text n sound.numbers now (lines_keep c.focus_stays.ensures (first_run p ds) es tt) is
