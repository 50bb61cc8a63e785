use Rattle.std.proofs.Common.{ap, ◌∙◌, drop, sym, refl}
use Rattle.gesture_arena.specs.StandsFor.{events_left}
use Rattle.session_form.specs.Program.{scale_of}
use Rattle.frame_session.proofs.EventLemmas.{first_and_rest, event_step, text_step, all_done}
use Rattle.frame_session.proofs.held.HeldSession.take_events.Goals as goal

pub loop-event-preserved : goal.loop-event-preserved
loop-event-preserved c =
    let kept = c.loop-event.self in
    let es = drop 1 (events_left kept.pointers) in
    let first = first_and_rest (events_left kept.pointers) c.in-Some.event (sym c.in-Some.ensures.first) in
    let left = ap events_left c.in_ok-do_event.ensures.pointers ∙ c.next_event.ensures.rest in
    record {
      state = λ ds s h. event_step kept c.next_event.new.self c.do_event.new.self ds _ s c.in-Some.event es (c.loop-event.invariant.state ds s h) first
          (λ s1 k. c.next_event.ensures.stands (scale_of s1.program) s1.pointers k.pointers) (λ s1 k. c.in_ok-do_event.ensures.state ds s1 k) left;
      sound = c.in_ok-do_event.ensures.sound;
      frames = c.do_event.ensures.frames ∙ c.loop-event.invariant.frames;
      screen = c.do_event.ensures.screen ∙ c.loop-event.invariant.screen;
      text = text_step c.loop-event.out.items c.print_event.new.out.items _ (events_left kept.pointers) c.in-Some.event es (events_left c.do_event.new.self.pointers)
          c.loop-event.invariant.text first c.in_ok-print_event.ensures left;
    }

pub returns-clause-state : goal.returns-clause-state
returns-clause-state c ds s h =
    all_done c.loop-event.self c.next_event.new.self ds _ s (c.loop-event.invariant.state ds s h) (c.in_default.ensures.none.0 refl)
    (λ s1 k. c.next_event.ensures.stands (scale_of s1.program) s1.pointers k.pointers)
