-- The members that are gone, found one after another.
use Rattle.std.proofs.Common.{◌≡◌, ℕ, zero, suc, ◌+◌, Bool, true, false, Option, Some, None, IfSome, IfNone, is_none, Result, Ok, Err, OnOk, List, [], ◌∷◌, ◌++◌, slice_get, drop, filter, cond, refl, sym, ap, subst, ◌∙◌, append_assoc, arith}
use Rattle.std.proofs.lemmas.List.{append-nil}
use Rattle.std.specs.Borrow.{Bor}
use Rattle.fx_geom.specs.declared.scales.Scale.{Scale}
use Rattle.delegates.specs.Table.{Plug}
use Rattle.fx_expr.specs.declared.handlers.Handler.{Handler}
use Rattle.widget_model.specs.Plain.{look_of}
use Rattle.widget_model.specs.View.{look_in, plain_of}
use Rattle.widget_model.specs.declared.widgets.Widget.{Widget}
use Rattle.plain_tree.specs.PlainNode.{PlainNode, widget_of}
use Rattle.screen_form.specs.Members.{handler_in}
use Rattle.gesture_arena.specs.Moment.{Pointer}
use Rattle.gesture_arena.specs.Pointers.{loses, after, events_of}
use Rattle.gesture_arena.specs.StandsFor as arena
use Rattle.gesture_arena.specs.StandsFor.{events_left}
use Rattle.gesture_arena.specs.declared.gesture.Member.{Member}
use Rattle.gesture_arena.specs.declared.pointers.Pointers.{Pointers}
use Rattle.frame_session.specs.declared.held.HeldSession.{HeldSession}
use Rattle.session_form.specs.EventText.{events_text}
use Rattle.session_form.specs.Framing.{gone_members, after_drops, drop_events}
use Rattle.session_form.specs.Gestures.{events_given, given_moment}
use Rattle.session_form.specs.Handlers.{node_in, handler_of_node, handler_at, is_gone, after_events}
use Rattle.session_form.specs.Program.{scale_of}
use Rattle.frame_session.specs.StandsFor.{StandsFor}
use Rattle.session_form.specs.State.{SessionState}
use Rattle.frame_session.proofs.StandsLemmas.{happens}
use Rattle.session_form.proofs.TreeLemmas.{some_inj, none_some}

drop_some : {A : Type 0} (xs : List A) (i : ℕ) (x : A) → slice_get xs i ≡ Some x → drop i xs ≡ x ∷ drop (suc i) xs
drop_some [] i x e = absurd (none_some e)
drop_some (y ∷ ys) zero x e = ap (λ z. z ∷ ys) (some_inj e)
drop_some (y ∷ ys) (suc i) x e = drop_some ys i x e

drop_none : {A : Type 0} (xs : List A) (i : ℕ) → slice_get xs i ≡ None → drop i xs ≡ []
drop_none [] zero e = refl
drop_none [] (suc i) e = refl
drop_none (y ∷ ys) zero e = absurd (none_some (sym e))
drop_none (y ∷ ys) (suc i) e = drop_none ys i e

one_more : (i : ℕ) → i + 1 ≡ suc i
one_more i = omega arith

-- one more that passes the test, and one that doesn't
pub takes_one : {A : Type 0} (test : A → Bool) (xs gone all : List A) (i : ℕ) (x : A) → slice_get xs i ≡ Some x → test x ≡ true
    → gone ++ filter test (drop i xs) ≡ all → (gone ++ x ∷ []) ++ filter test (drop (i + 1) xs) ≡ all
takes_one test xs gone all i x found passes h =
    append_assoc gone (x ∷ []) (filter test (drop (i + 1) xs))
    ∙ ap (λ n. gone ++ (x ∷ filter test (drop n xs))) (one_more i)
    ∙ sym (ap (λ l. gone ++ filter test l) (drop_some xs i x found) ∙ ap (λ b. gone ++ cond b (x ∷ filter test (drop (suc i) xs)) (filter test (drop (suc i) xs))) passes)
    ∙ h

pub passes_one : {A : Type 0} (test : A → Bool) (xs gone all : List A) (i : ℕ) (x : A) → slice_get xs i ≡ Some x → test x ≡ false
    → gone ++ filter test (drop i xs) ≡ all → gone ++ filter test (drop (i + 1) xs) ≡ all
passes_one test xs gone all i x found fails h =
    ap (λ n. gone ++ filter test (drop n xs)) (one_more i)
    ∙ sym (ap (λ l. gone ++ filter test l) (drop_some xs i x found) ∙ ap (λ b. gone ++ cond b (x ∷ filter test (drop (suc i) xs)) (filter test (drop (suc i) xs))) fails)
    ∙ h

pub takes_all : {A : Type 0} (test : A → Bool) (xs gone all : List A) (i : ℕ) → slice_get xs i ≡ None → gone ++ filter test (drop i xs) ≡ all → gone ≡ all
takes_all test xs gone all i past h = sym (append-nil gone) ∙ sym (ap (λ l. gone ++ filter test l) (drop_none xs i past)) ∙ h

-- pointers are given that these members are gone, and then the events that come of it are done and printed
pub drops : {T E : Type 0} (kept : HeldSession) (p : Pointers) (kept2 : HeldSession) (ds : List Plug) (s : SessionState) (gone : List Member) (r : Result T E)
    → StandsFor kept ds s → gone ≡ gone_members s
    → ((z : Scale) (ps : List Pointer) → arena.StandsFor kept.pointers z ps → arena.StandsFor p z (after (loses gone) ps))
    → ((z : Scale) (ps : List Pointer) → arena.StandsFor kept.pointers z ps → events_left p ≡ events_of z (loses gone) ps)
    → ((s1 : SessionState) → StandsFor (record kept { pointers = p }) ds s1 → OnOk r (StandsFor kept2 ds (after_events (events_left p) s1)))
    → OnOk r (StandsFor kept2 ds (after_drops s))
drops kept p kept2 ds s gone (Ok x) h same stands events go =
    let z = scale_of s.program in
    let P : List Member → Type 0 = λ ms. StandsFor kept2 ds (given_moment (loses ms) s) in
    subst P same
    (happens kept p kept2 ds s (events_given (loses gone) s) (after (loses gone) s.pointers) h (stands z s.pointers h.pointers) (events z s.pointers h.pointers) go)
drops kept p kept2 ds s gone (Err e) h same stands events go = tt

pub drops_printed : {T E : Type 0} (kept : HeldSession) (p : Pointers) (ds : List Plug) (s : SessionState) (gone : List Member) (r : Result T E) (old new : List ℕ)
    → StandsFor kept ds s → gone ≡ gone_members s
    → ((z : Scale) (ps : List Pointer) → arena.StandsFor kept.pointers z ps → events_left p ≡ events_of z (loses gone) ps)
    → OnOk r (new ≡ old ++ events_text (events_left p)) → OnOk r (new ≡ old ++ events_text (drop_events s))
drops_printed kept p ds s gone (Ok x) old new h same events text =
    text ∙ ap (λ es. old ++ events_text es) (events (scale_of s.program) s.pointers h.pointers ∙ ap (λ ms. events_given (loses ms) s) same)
drops_printed kept p ds s gone (Err e) old new h same events text = tt

-- where the detector is there, its widget says it
none_as : {A B : Type 0} (r : Option A) (o : Option B) (f : A → B) → IfSome r (λ a. o ≡ Some (f a)) → IfNone r (o ≡ None) → is_none r ≡ is_none o
none_as None o f there missing = sym (ap is_none missing)
none_as (Some a) o f there missing = sym (ap is_none there)

pub gone_here : (t : Option PlainNode) (member : Member) (m : PlainNode) (w : Widget) (r : Option (Bor Handler)) → node_in t member.node ≡ Some m → widget_of m ≡ plain_of w
    → IfSome r (λ (h : Bor Handler). handler_in (look_in w.kind) member.gesture ≡ Some h.now) → IfNone r (handler_in (look_in w.kind) member.gesture ≡ None) → is_none r ≡ is_gone t member
gone_here t member m w r found widget there missing =
    let same : handler_at t member.node member.gesture ≡ handler_in (look_in w.kind) member.gesture =
    ap (λ o. handler_of_node o member.gesture) found ∙ ap (λ x. handler_in (look_of x) member.gesture) widget in
    none_as r (handler_in (look_in w.kind) member.gesture) (λ (h : Bor Handler). h.now) there missing ∙ sym (ap is_none same)
