use Rattle.std.proofs.Common.{arith, ◌≤◌}
use Rattle.gesture_arena.specs.Pointers.{comes_due, after}
use Rattle.session_form.specs.Gestures.{events_given, given_moment}
use Rattle.session_form.specs.Program.{scale_of}
use Rattle.frame_session.proofs.StandsLemmas.{with_time, happens, at_done}
use Rattle.frame_session.proofs.held.HeldSession.advance.Goals as goal

pub returns-clause-state : goal.returns-clause-state
returns-clause-state c ds s h =
    let kept = c.args.self.now in
    let late : kept.time ≤ c.args.time = omega arith in
    let later : s.time ≤ c.args.time = omega (arith, late, h.time) in
    let moved = happens kept c.advance.new.self c.take_events.new.self ds s (events_given (comes_due c.args.time) s) (after (comes_due c.args.time) s.pointers) h
    (c.advance.ensures.stands (scale_of s.program) s.pointers h.pointers) (c.advance.ensures.events (scale_of s.program) s.pointers h.pointers)
    (λ s1 k. c.in_ok-take_events.ensures.state ds s1 k) in
    at_done c.take_events.new.self ds s c.args.time later (with_time c.take_events.new.self ds (given_moment (comes_due c.args.time) s) c.args.time moved)
