use Rattle.screen_form.proofs.Reading.{each_law, once_law}
use Rattle.screen_form.proofs.focus_laws.order_has_each_once.Goals as goal

pub returns-clause-each : goal.returns-clause-each
returns-clause-each c = each_law

pub returns-clause-once : goal.returns-clause-once
returns-clause-once c = once_law
