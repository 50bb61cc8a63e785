-- Events that are done one after another.
use Rattle.std.proofs.Common.{◌≡◌, List, [], ◌∷◌, ◌++◌, Some, slice_get, drop, subst, ap, ◌∙◌, sym, append_assoc}
use Rattle.std.proofs.lemmas.Grind.{common_steps}
use Rattle.std.proofs.Common.{arith}
use Rattle.delegates.specs.Table.{Plug}
use Rattle.gesture_arena.specs.StandsFor as arena
use Rattle.gesture_arena.specs.StandsFor.{events_left}
use Rattle.gesture_arena.specs.declared.gesture.ArenaEvent.{ArenaEvent}
use Rattle.gesture_arena.specs.declared.pointers.Pointers.{Pointers}
use Rattle.session_form.specs.EventText.{event_text, events_text}
use Rattle.session_form.specs.Handlers.{after_event, after_events}
use Rattle.session_form.specs.Program.{scale_of}
use Rattle.frame_session.specs.StandsFor.{StandsFor}
use Rattle.session_form.specs.State.{SessionState}
use Rattle.frame_session.specs.declared.held.HeldSession.{HeldSession}
use Rattle.frame_session.proofs.StandsLemmas.{with_pointers}
use Rattle.std.specs.Prelude.{ℕ}

-- some of these events were done in a state, and the others are left
pub record Midway (kept : HeldSession) (ds : List Plug) (events : List ArenaEvent) (s : SessionState) : Type 0 where
  pub now : SessionState
  pub stands : StandsFor kept ds now
  pub comes_to : after_events (events_left kept.pointers) now ≡ after_events events s

pub first_and_rest : {A : Type 0} (xs : List A) (x : A) → slice_get xs 0 ≡ Some x → xs ≡ x ∷ drop 1 xs
first_and_rest [] x e = grind (arith, common_steps)
first_and_rest (y ∷ ys) x e = grind (arith, common_steps)

pub event_step : (kept : HeldSession) (p : Pointers) (kept2 : HeldSession) (ds : List Plug) (events : List ArenaEvent) (s : SessionState) (e : ArenaEvent) (es : List ArenaEvent)
    → Midway kept ds events s → events_left kept.pointers ≡ e ∷ es
    → ((s1 : SessionState) → StandsFor kept ds s1 → arena.StandsFor p (scale_of s1.program) s1.pointers)
    → ((s1 : SessionState) → StandsFor (record kept { pointers = p }) ds s1 → StandsFor kept2 ds (after_event e s1))
    → events_left kept2.pointers ≡ es
    → Midway kept2 ds events s
event_step kept p kept2 ds events s e es m first goes does left = record {
  now = after_event e m.now;
  stands = does m.now (with_pointers kept ds m.now p m.now.pointers m.stands (goes m.now m.stands));
  comes_to = ap (λ l. after_events l (after_event e m.now)) left ∙ ap (λ l. after_events l m.now) (sym first) ∙ m.comes_to;
}

pub text_step : (out out2 all : List ℕ) (events : List ArenaEvent) (e : ArenaEvent) (es left : List ArenaEvent)
    → out ++ events_text events ≡ all → events ≡ e ∷ es → out2 ≡ out ++ event_text e → left ≡ es → out2 ++ events_text left ≡ all
text_step out out2 all events e es left h first more same =
    ap (λ l. out2 ++ events_text l) same
    ∙ ap (λ o. o ++ events_text es) more
    ∙ append_assoc out (event_text e) (events_text es)
    ∙ ap (λ l. out ++ events_text l) (sym first)
    ∙ h

pub all_done : (kept : HeldSession) (p : Pointers) (ds : List Plug) (events : List ArenaEvent) (s : SessionState)
    → Midway kept ds events s → events_left kept.pointers ≡ []
    → ((s1 : SessionState) → StandsFor kept ds s1 → arena.StandsFor p (scale_of s1.program) s1.pointers)
    → StandsFor (record kept { pointers = p }) ds (after_events events s)
all_done kept p ds events s m none goes =
    let P : SessionState → Type 0 = λ t. StandsFor (record kept { pointers = p }) ds t in
    subst P (ap (λ l. after_events l m.now) (sym none) ∙ m.comes_to) (with_pointers kept ds m.now p m.now.pointers m.stands (goes m.now m.stands))
