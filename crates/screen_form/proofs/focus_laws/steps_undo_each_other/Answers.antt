use Rattle.screen_form.proofs.FocusSteps.{back_law, forth_law}
use Rattle.screen_form.proofs.focus_laws.steps_undo_each_other.Goals as goal

pub returns-clause-back : goal.returns-clause-back
returns-clause-back c = back_law

pub returns-clause-forth : goal.returns-clause-forth
returns-clause-forth c = forth_law
