use Rattle.frame_run.specs.Words.{meant, task_with}
use Rattle.frame_run.proofs.input.run_input.Goals as goal

pub returns-clause-status : goal.returns-clause-status
returns-clause-status g c b told = c.take_input-status.ensures.status (task_with c.args.mode (meant c.args.delegates.items (λ v. (g.dyn-1.0.entry v).1))) b c.new-job.ensures.stands told

pub returns-clause-text : goal.returns-clause-text
returns-clause-text g c b told = c.take_input-status.ensures.text (task_with c.args.mode (meant c.args.delegates.items (λ v. (g.dyn-1.0.entry v).1))) b c.new-job.ensures.stands told

pub returns-clause-cut_off : goal.returns-clause-cut_off
returns-clause-cut_off g c = c.take_input-status.ensures.cut_off (task_with c.args.mode (meant c.args.delegates.items (λ v. (g.dyn-1.0.entry v).1))) c.new-job.ensures.stands

pub returns-clause-answered : goal.returns-clause-answered
returns-clause-answered g c = c.take_input-status.ensures.answered (task_with c.args.mode (meant c.args.delegates.items (λ v. (g.dyn-1.0.entry v).1))) c.new-job.ensures.stands

pub returns-clause-at_end : goal.returns-clause-at_end
returns-clause-at_end g c done = c.take_input-status.ensures.at_end (task_with c.args.mode (meant c.args.delegates.items (λ v. (g.dyn-1.0.entry v).1))) c.new-job.ensures.stands done

pub take_input-status-requires-clause-holds : goal.take_input-status-requires-clause-holds
take_input-status-requires-clause-holds g c = (task_with c.args.mode (meant c.args.delegates.items (λ v. (g.dyn-1.0.entry v).1)), c.new-job.ensures.stands)

pub returns-clause-work : goal.returns-clause-work
returns-clause-work g c b told = c.take_input-status.ensures.work (task_with c.args.mode (meant c.args.delegates.items (λ v. (g.dyn-1.0.entry v).1))) b c.new-job.ensures.stands told

pub returns-clause-answered_within : goal.returns-clause-answered_within
returns-clause-answered_within g c = c.take_input-status.ensures.answered_within (task_with c.args.mode (meant c.args.delegates.items (λ v. (g.dyn-1.0.entry v).1))) c.new-job.ensures.stands
