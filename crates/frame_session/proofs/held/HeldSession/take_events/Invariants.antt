-- The events that are left become fewer: what was done and printed, with what is left, is all.
use Rattle.std.proofs.Common.{◌≡◌, ◌++◌, List, length}
use Rattle.delegates.specs.Table.{Plug}
use Rattle.gesture_arena.specs.StandsFor.{events_left}
use Rattle.session_form.specs.EventText.{events_text}
use Rattle.frame_session.specs.StandsFor.{StandsFor, IsSound}
use Rattle.session_form.specs.State.{SessionState}
use Rattle.frame_session.proofs.EventLemmas.{Midway}
use Rattle.frame_session.proofs.held.HeldSession.take_events.Given as goal

abbrev pub invariant-loop-event : goal.invariant-loop-event
invariant-loop-event l = record {
  state : (ds : List Plug) (s : SessionState) → StandsFor l.fn.self ds s → Midway l.self ds (events_left l.fn.self.pointers) s;
  sound : IsSound l.self;
  frames : l.self.frames ≡ l.fn.self.frames;
  screen : l.self.owner.screen ≡ l.fn.self.owner.screen;
  text : l.out.items ++ events_text (events_left l.self.pointers) ≡ l.fn.out.items ++ events_text (events_left l.fn.self.pointers);
}

abbrev pub decreases-loop-event : goal.decreases-loop-event
decreases-loop-event l = length (events_left l.self.pointers)
