use Rattle.gesture_arena.specs.Moment.{cancel}
use Rattle.gesture_arena.specs.Pointers.{one_gets, without}
use Rattle.session_form.specs.Gestures.{events_given, goes_away, cancel_line}
use Rattle.session_form.specs.Program.{scale_of}
use Rattle.frame_session.proofs.StandsLemmas.{happens, false_is_true, if_down_done, stands_by}
use Rattle.frame_session.proofs.held.HeldSession.cancel.Goals as goal

pub returns-in_ok-take_events-in-Ok-clause-state : goal.returns-in_ok-take_events-in-Ok-clause-state
returns-in_ok-take_events-in-Ok-clause-state c ds s h =
    let given = one_gets c.args.pointer cancel in
    let down = if_down_done c.args.pointer s (goes_away c.args.pointer given s) (λ isnt. false_is_true ((c.in-Ok.ensures.is_up (scale_of s.program) s.pointers h.pointers).1 isnt)) in
    stands_by c.take_events.new.self ds s (cancel_line c.args.pointer s) (goes_away c.args.pointer given s) down
    (happens c.args.self.now c.cancel.new.self c.take_events.new.self ds s (events_given given s) (without c.args.pointer s.pointers) h
    (c.in-Ok.ensures.stands (scale_of s.program) s.pointers h.pointers) (c.in-Ok.ensures.events (scale_of s.program) s.pointers h.pointers)
    (λ s1 k. c.in_ok-take_events-in-Ok.ensures.state ds s1 k))
