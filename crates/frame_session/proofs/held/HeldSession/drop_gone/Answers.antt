use Rattle.std.proofs.Common.{◌∙◌}
use Rattle.frame_session.proofs.GoneLemmas.{drops, drops_printed}
use Rattle.frame_session.proofs.held.HeldSession.drop_gone.Goals as goal

pub returns-clause-state : goal.returns-clause-state
returns-clause-state c ds s h =
    drops c.args.self.now c.dropped.new.self c.take_events.new.self ds s c.as_slice.result.now c.take_events.result h
    (c.as_slice.ensures.value ∙ c.in_ok-gone.ensures ds s h) c.dropped.ensures.stands c.dropped.ensures.events (λ s1 k. c.take_events.ensures.state ds s1 k)

pub returns-clause-text : goal.returns-clause-text
returns-clause-text c ds s h =
    drops_printed c.args.self.now c.dropped.new.self ds s c.as_slice.result.now c.take_events.result c.args.out.now.items c.take_events.new.out.items h
    (c.as_slice.ensures.value ∙ c.in_ok-gone.ensures ds s h) c.dropped.ensures.events c.take_events.ensures.text
