-- What a session stands for when parts of it change.
use Rattle.std.proofs.Common.{◌≡◌, ℕ, ◌≤◌, Option, Some, None, IfSome, option_map, option_and_then, option_copied, Ok, Err, List, [], ◌∷◌, ◌++◌, Bool, true, false, nat_lt, nat_le, length, if◌then◌else◌, refl, subst, sym, ap, ◌∙◌, arith, Vec, Global}
use Rattle.std.proofs.lemmas.Bool.Decides.{nat_tests}
use Rattle.std.specs.Borrow.{Bor}
use Rattle.fx_geom.specs.declared.shapes.Offset.{Offset}
use Rattle.layer_tree.specs.declared.layers.Layer.{Layer}
use Rattle.delegates.specs.Table.{Plug, if_some}
use Rattle.gesture_arena.specs.Moment.{Pointer}
use Rattle.gesture_arena.specs.Pointers.{comes_due, is_down, put_down, down_events}
use Rattle.gesture_arena.specs.StandsFor as arena
use Rattle.gesture_arena.specs.StandsFor.{events_left}
use Rattle.gesture_arena.specs.declared.gesture.ArenaEvent.{ArenaEvent}
use Rattle.gesture_arena.specs.declared.pointers.Pointers.{Pointers}
use Rattle.frame_session.specs.declared.held.HeldSession.{HeldSession}
use Rattle.session_form.specs.declared.refusal.Refusal.TheVariants.{TimeGoesBack, PointerIsDown, PointerIsUp, TooManyPointers}
use Rattle.session_form.specs.EventText.{events_text}
use Rattle.session_form.specs.FrameText.{layers_of}
use Rattle.session_form.specs.Gestures.{happened, events_given, advanced, at_line, members_at, if_down, goes_down, down_line, event_by, act_by, act_in}
use Rattle.session_form.specs.Handlers.{after_event, after_events}
use Rattle.session_form.specs.Outcome.{Outcome, done, refused, state_after, text_of}
use Rattle.session_form.specs.Program.{scale_of}
use Rattle.session_form.specs.Seeing.{semantics_in, size_in, laid_size as view_size, view_in}
use Rattle.frame_session.specs.StandsFor.{StandsFor, IsShown, IsTextOf}
use Rattle.session_form.specs.State.{SessionState, Shown}
use Rattle.screen_owner.specs.Screen.{KeptScreen, shown_in, layer_in, laid_size}
use Rattle.render_tree.specs.Object.{size_in as object_size}
use Rattle.plain_tree.specs.Laid.{Laid, laid}
use Rattle.plain_tree.specs.declared.laid.Frame.{Frame}
use Rattle.plain_tree.specs.declared.laid.Frame.TheVariants.{Boxed, Sliver}
use Rattle.screen_form.specs.Sem.{Sem}
use Rattle.fx_geom.specs.declared.shapes.Size.{Size}
use Rattle.gesture_arena.specs.declared.gesture.Member.{Member}
use Rattle.script_lines.specs.declared.command.Action.{Action}
use Rattle.screen_form.specs.Acts.{acted}
use Rattle.screen_form.specs.Semantics.{semantics_of}

pub with_pointers : (kept : HeldSession) (ds : List Plug) (s : SessionState) (p : Pointers) (ps : List Pointer) → StandsFor kept ds s
    → arena.StandsFor p (scale_of s.program) ps → StandsFor (record kept { pointers = p }) ds (record s { pointers = ps })
with_pointers kept ds s p ps h g = record {
  program = h.program;
  root = h.root;
  tree = h.tree;
  next = h.next;
  shown = h.shown;
  view = h.view;
  delegates_mean = h.delegates_mean;
  pointers = g;
  time = h.time;
  frames = h.frames;
  last = h.last;
}

-- what is shown has another text
pub with_last : (kept : HeldSession) (ds : List Plug) (s : SessionState) (last : Option (Vec ℕ Global)) → StandsFor kept ds s → IfSome last (λ text. IsTextOf (scale_of s.program).cell s.shown text.items)
    → StandsFor (record kept { last = last }) ds s
with_last kept ds s last h is = record {
  program = h.program;
  root = h.root;
  tree = h.tree;
  next = h.next;
  shown = h.shown;
  view = h.view;
  delegates_mean = h.delegates_mean;
  pointers = h.pointers;
  time = h.time;
  frames = h.frames;
  last = is;
}

pub with_time : (kept : HeldSession) (ds : List Plug) (s : SessionState) (t : ℕ) → StandsFor kept ds s → StandsFor (record kept { time = t }) ds (record s { time = t })
with_time kept ds s t h = record {
  program = h.program;
  root = h.root;
  tree = h.tree;
  next = h.next;
  shown = h.shown;
  view = h.view;
  delegates_mean = h.delegates_mean;
  pointers = h.pointers;
  time = refl;
  frames = h.frames;
  last = h.last;
}

-- pointers go on, and then the events that come of it are done
pub happens : (kept : HeldSession) (p : Pointers) (kept2 : HeldSession) (ds : List Plug) (s : SessionState) (events : List ArenaEvent) (ps : List Pointer)
    → StandsFor kept ds s → arena.StandsFor p (scale_of s.program) ps → events_left p ≡ events
    → ((s1 : SessionState) → StandsFor (record kept { pointers = p }) ds s1 → StandsFor kept2 ds (after_events (events_left p) s1))
    → StandsFor kept2 ds (happened events ps s)
happens kept p kept2 ds s events ps h g e go =
    let P : List ArenaEvent → Type 0 = λ es. StandsFor kept2 ds (after_events es (record s { pointers = ps })) in
    subst P e (go (record s { pointers = ps }) (with_pointers kept ds s p ps h g))

pub at_done : (kept2 : HeldSession) (ds : List Plug) (s : SessionState) (t : ℕ) → s.time ≤ t → StandsFor (record kept2 { time = t }) ds (advanced t s)
    → StandsFor (record kept2 { time = t }) ds (state_after s (at_line t s))
at_done kept2 ds s t h k =
    let test : nat_lt t s.time ≡ false = grind (arith, nat_tests) in
    let P : Bool → Type 0 =
    λ b. StandsFor (record kept2 { time = t }) ds (state_after s (if b then refused TimeGoesBack else done (advanced t s) (events_text (events_given (comes_due t) s)))) in
    subst P (sym test) k

pub down_done : (pointer : ℕ) (at : Offset) (s : SessionState) → is_down pointer s.pointers ≡ false → nat_le 32 (length s.pointers) ≡ false
    → down_line pointer at s ≡ goes_down pointer at (members_at s.shown at) s
down_done pointer at s a b =
    ap (λ (t : Bool). if t then refused PointerIsDown else (if nat_le 32 (length s.pointers) then refused TooManyPointers else goes_down pointer at (members_at s.shown at) s)) a
    ∙ ap (λ (t : Bool). if t then refused TooManyPointers else goes_down pointer at (members_at s.shown at) s) b

pub false_is_true : false ≡ true → ⊥
false_is_true e = cc

not_false : (b : Bool) → (b ≡ false → ⊥) → b ≡ true
not_false true h = refl
not_false false h = absurd (h refl)

-- a pointer that is down goes on
pub if_down_done : (pointer : ℕ) (s : SessionState) (o : Outcome) → (is_down pointer s.pointers ≡ false → ⊥) → if_down pointer s o ≡ o
if_down_done pointer s o h = ap (λ (b : Bool). if b then o else refused PointerIsUp) (not_false (is_down pointer s.pointers) h)

pub stands_by : (kept : HeldSession) (ds : List Plug) (s : SessionState) (o q : Outcome) → o ≡ q → StandsFor kept ds (state_after s q) → StandsFor kept ds (state_after s o)
stands_by kept ds s o q e h = let P : Outcome → Type 0 = λ x. StandsFor kept ds (state_after s x) in subst P (sym e) h

pub ok_is_err : {A B : Type 0} {x : A} {y : B} → Ok x ≡ Err y → ⊥
ok_is_err e = cc

pub not_true : (b : Bool) → (b ≡ true → ⊥) → b ≡ false
not_true true h = absurd (h refl)
not_true false h = refl

pub not_full : (n : ℕ) → (32 ≤ n → ⊥) → nat_le 32 n ≡ false
not_full n h = not_true (nat_le 32 n) (λ e. h (grind (arith, nat_tests)))

-- the arena after a pointer went down, by what the definition says of its time and its members
pub down_stands : (kept : HeldSession) (p : Pointers) (kept2 : HeldSession) (ds : List Plug) (s : SessionState) (pointer : ℕ) (at : Offset) (now : ℕ) (ms : List Member)
    → StandsFor kept ds s → now ≡ s.time → ms ≡ members_at s.shown at → is_down pointer s.pointers ≡ false → nat_le 32 (length s.pointers) ≡ false
    → arena.StandsFor p (scale_of s.program) (s.pointers ++ put_down pointer at now ms ∷ []) → events_left p ≡ down_events (scale_of s.program) pointer at now ms
    → ((s1 : SessionState) → StandsFor (record kept { pointers = p }) ds s1 → StandsFor kept2 ds (after_events (events_left p) s1))
    → StandsFor kept2 ds (state_after s (down_line pointer at s))
down_stands kept p kept2 ds s pointer at now ms h time members up few stands events go =
    let ps : ℕ → List Member → List Pointer = λ t l. s.pointers ++ put_down pointer at t l ∷ [] in
    let here : put_down pointer at now ms ≡ put_down pointer at s.time (members_at s.shown at) = λ i. put_down pointer at (time i) (members i) in
    let P : List Pointer → Type 0 = λ l. arena.StandsFor p (scale_of s.program) l in
    stands_by kept2 ds s (down_line pointer at s) (goes_down pointer at (members_at s.shown at) s) (down_done pointer at s up few)
    (happens kept p kept2 ds s (down_events (scale_of s.program) pointer at s.time (members_at s.shown at)) (s.pointers ++ put_down pointer at s.time (members_at s.shown at) ∷ []) h
    (subst P (ap (λ x. s.pointers ++ x ∷ []) here) stands)
    (events ∙ (λ i. down_events (scale_of s.program) pointer at (time i) (members i))) go)

pub down_text : (s : SessionState) (pointer : ℕ) (at : Offset) (now : ℕ) (ms : List Member) (p : Pointers) (old new : List ℕ)
    → now ≡ s.time → ms ≡ members_at s.shown at → is_down pointer s.pointers ≡ false → nat_le 32 (length s.pointers) ≡ false
    → events_left p ≡ down_events (scale_of s.program) pointer at now ms → new ≡ old ++ events_text (events_left p) → new ≡ old ++ text_of (down_line pointer at s)
down_text s pointer at now ms p old new time members up few events text =
    text ∙ ap (λ es. old ++ events_text es) (events ∙ (λ i. down_events (scale_of s.program) pointer at (time i) (members i)))
    ∙ ap (λ o. old ++ text_of o) (sym (down_done pointer at s up few))

-- ---- what is read of the screen is what is read of the frame that was shown

semantics_of_laid : (shown : Option Shown) → semantics_in shown ≡ option_map semantics_of (option_map (λ (x : Shown). x.laid) shown)
semantics_of_laid None = refl
semantics_of_laid (Some x) = refl

pub semantics_shown : (cell : Size) (screen : KeptScreen) (shown : Option Shown) (o : Option Sem) → IsShown cell screen shown
    → option_map semantics_of (shown_in screen) ≡ o → semantics_in shown ≡ o
semantics_shown cell screen shown o h is = semantics_of_laid shown ∙ (sym (ap (option_map semantics_of) h.laid) ∙ is)

-- an action of a semantics node is done
pub act_done : (kept2 : HeldSession) (ds : List Plug) (s : SessionState) (cell : Size) (screen : KeptScreen) (tree : Sem) (number : ℕ) (what : Action) (detector : ℕ)
    → IsShown cell screen s.shown → option_map semantics_of (shown_in screen) ≡ Some tree → acted tree number what ≡ Ok detector
    → StandsFor kept2 ds (after_event (event_by what detector) s) → StandsFor kept2 ds (state_after s (act_in (semantics_in s.shown) number what s))
act_done kept2 ds s cell screen tree number what detector shown is done_by h =
    stands_by kept2 ds s (act_in (semantics_in s.shown) number what s) (act_by what (Ok detector) s)
    (ap (λ o. act_in o number what s) (semantics_shown cell screen s.shown (Some tree) shown is) ∙ ap (λ r. act_by what r s) done_by) h

boxes_measured : (f : Frame) → object_size (Some f) ≡ size_in f
boxes_measured (Boxed bounds size) = refl
boxes_measured (Sliver bounds geometry) = refl

laid_measured : (l : Laid) → laid_size l ≡ view_size l
laid_measured (laid number look facts children) = boxes_measured facts.frame

size_of_laid : (shown : Option Shown) → option_and_then laid_size (option_map (λ (x : Shown). x.laid) shown) ≡ view_in shown
size_of_laid None = refl
size_of_laid (Some x) = laid_measured x.laid

pub size_shown : (cell : Size) (screen : KeptScreen) (shown : Option Shown) → IsShown cell screen shown
    → option_and_then laid_size (shown_in screen) ≡ view_in shown
size_shown cell screen shown h = ap (option_and_then laid_size) h.laid ∙ size_of_laid shown

copied_layer : (o : Option (Bor Layer)) → if_some o (λ l. l.now) ≡ option_copied o
copied_layer None = refl
copied_layer (Some l) = refl

pub layers_shown : (cell : Size) (screen : KeptScreen) (shown : Option Shown) (o : Option (Bor Layer)) → IsShown cell screen shown
    → option_copied o ≡ layer_in screen → if_some o (λ l. l.now) ≡ option_map (layers_of cell) shown
layers_shown cell screen shown o h is = copied_layer o ∙ (is ∙ h.layers)
