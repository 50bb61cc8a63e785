use Rattle.std.proofs.Common.{ap}
use Rattle.script_lines.specs.declared.command.Command.TheVariants.{Frame}
use Rattle.session_form.specs.Outcome as outcome
use Rattle.live_session.specs.RunState.{state_after}
use Rattle.session_laws.proofs.LineMarks.{done_leaves}
use Rattle.session_laws.proofs.marks.lines_mark_what_they_change.Goals as goal

pub returns-clause-done : goal.returns-clause-done
returns-clause-done c = λ s next k text is. done_leaves s next k text is

pub returns-clause-frames : goal.returns-clause-frames
returns-clause-frames c = λ s next text is. done_leaves s next Frame text is

pub returns-clause-refused : goal.returns-clause-refused
returns-clause-refused c = λ s k why is. ap (outcome.state_after s) is

pub returns-clause-refused_lines : goal.returns-clause-refused_lines
returns-clause-refused_lines c = λ r e why is. ap (state_after r) is
