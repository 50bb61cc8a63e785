-- What a session stands for once its owner stands for another tree.
use Rattle.std.proofs.Common.{◌≡◌, ℕ, ℤ, ◌==◌, Bool, true, false, Option, Some, None, IfSome, option_map, option_copied, is_none, List, ◌∷◌, [], ◌++◌, map, if◌then◌else◌, refl, sym, ap, subst, ◌∙◌}
use Rattle.std.specs.Borrow.{Bor}
use Rattle.std.specs.declared.alloc.Global.{Global}
use Rattle.std.specs.declared.rc.Rc.{Rc}
use Rattle.delegates.specs.Table.{Plug}
use Rattle.fx_expr.specs.declared.handlers.Handler.{Handler}
use Rattle.fx_expr.specs.declared.values.Value.{Value}
use Rattle.fx_expr.specs.Value.{type_of}
use Rattle.fx_geom.specs.declared.shapes.Size.{Size}
use Rattle.gesture_arena.specs.declared.gesture.Gesture.{Gesture}
use Rattle.paint_owner.specs.PaintOwner.{PaintOwner}
use Rattle.plain_tree.specs.At.{changed_at, having_fields, having_scroll}
use Rattle.plain_tree.specs.PlainNode.{PlainNode, node, widget_of, number_of, fields_of, scroll_of}
use Rattle.plain_tree.specs.States.{own_state, state_of}
use Rattle.widget_model.specs.Plain.{look_of}
use Rattle.screen_form.specs.Members.{handler_in}
use Rattle.widget_model.specs.View.{look_in, plain_of, shared}
use Rattle.widget_model.specs.declared.widgets.Widget.{Widget}
use Rattle.program_check.specs.CheckedView.{plain_checked}
use Rattle.program_check.specs.declared.checked.CheckedParts.{CheckedParts}
use Rattle.screen_owner.specs.Screen.{KeptScreen, shown_in}
use Rattle.frame_owner.specs.Frame.{KeptFrame, next_in}
use Rattle.frame_owner.specs.Rooms.{HasRoomAfter}
use Rattle.frame_owner.specs.Standing.{FrameStandsFor}
use Rattle.session_form.specs.Handlers.{node_in, handler_at, handler_of_node, set_by, handled_by, run_at}
use Rattle.session_form.specs.Program.{scale_of}
use Rattle.session_form.specs.State.{SessionState, Shown, Touched}
use Rattle.build_form.specs.Numbered.{IsNumbered}
use Rattle.frame_session.specs.declared.held.HeldSession.{HeldSession}
use Rattle.frame_session.specs.StandsFor.{StandsFor, IsShown, AreSound, AreSoundOn}
use Rattle.frame_session.proofs.LastLemmas.{known_still}
use Rattle.frame_session.proofs.LikeLemmas.{sound_fields, sound_scroll}
use Rattle.session_form.proofs.TreeLemmas.{none_some, some_inj, true_false, changed_same, changed_missing}

-- a screen that shows the same
pub shown_same : (cell : Size) (old new : KeptScreen) (shown : Option Shown) → shown_in new ≡ shown_in old → new.layers ≡ old.layers → IsShown cell old shown
    → IsShown cell new shown
shown_same cell old new shown same layers h = record { laid = same ∙ h.laid; layers = ap (λ (o : PaintOwner). o.root) layers ∙ h.layers }

-- an owner that shows the same, and stands for another tree
pub with_owner : (kept : HeldSession) (owner : KeptFrame) (old new es : List Plug) (s : SessionState) (tree : Option PlainNode) (marks : List ℕ) (touched : List Touched) → StandsFor kept old s
    → FrameStandsFor s.program new marks tree owner → next_in owner ≡ next_in kept.owner → shown_in owner.screen ≡ shown_in kept.owner.screen
    → owner.screen.layers ≡ kept.owner.screen.layers → new ≡ es
    → StandsFor (record kept { owner = owner }) new (record s { tree = tree; marks = marks; touched = touched; delegates = es })
with_owner kept owner old new es s tree marks touched h stands next shown layers means = record {
  program = h.program;
  root = h.root;
  tree = stands;
  next = next ∙ h.next;
  shown = shown_same (scale_of s.program).cell kept.owner.screen owner.screen s.shown shown layers h.shown;
  view = h.view;
  delegates_mean = means;
  pointers = h.pointers;
  time = h.time;
  frames = h.frames;
  last = h.last;
}

-- ---- the node with a number, as the owner answers its widget

pub node_there : (o : Option PlainNode) (r : Option (Bor (Rc Widget Global))) (w : Bor (Rc Widget Global)) → r ≡ Some w → option_map shared (option_copied r) ≡ option_map widget_of o
    → (m : PlainNode) × (o ≡ Some m) × (widget_of m ≡ shared w.now)
node_there o r w is e = by_node o refl
  where
    said : Some (shared w.now) ≡ option_map widget_of o
    said = sym (ap (λ (x : Option (Bor (Rc Widget Global))). option_map shared (option_copied x)) is) ∙ e

    by_node : (x : Option PlainNode) → o ≡ x → (m : PlainNode) × (o ≡ Some m) × (widget_of m ≡ shared w.now)
    by_node None at = absurd (none_some (sym (said ∙ ap (option_map widget_of) at)))
    by_node (Some m) at = (m, at, sym (some_inj (said ∙ ap (option_map widget_of) at)))

pub widget_there : (o : Option PlainNode) (r : Option (Bor (Rc Widget Global))) (w : Bor (Rc Widget Global)) (v : Widget) → r ≡ Some w → option_map shared (option_copied r) ≡ option_map widget_of o → v ≡ w.now.value
    → (m : PlainNode) × (o ≡ Some m) × (widget_of m ≡ plain_of v)
widget_there o r w v is e same = let m = node_there o r w is e in (m.0, m.1, m.2 ∙ ap plain_of (sym same))

pub node_missing : (o : Option PlainNode) (r : Option (Bor (Rc Widget Global))) → r ≡ None → option_map shared (option_copied r) ≡ option_map widget_of o → o ≡ None
node_missing None r is e = refl
node_missing (Some m) r is e = absurd (none_some (sym (ap (λ (x : Option (Bor (Rc Widget Global))). option_map shared (option_copied x)) is) ∙ e))

-- its state
pub state_is : (n : PlainNode) → own_state n ≡ state_of (look_of (widget_of n)) (number_of n) (fields_of n) (scroll_of n)
state_is (node number widget fields scroll index children) = refl

-- whether the owner has a widget, so whether there is a node
pub node_is_there : (o : Option PlainNode) (r : Option (Bor (Rc Widget Global))) → option_map shared (option_copied r) ≡ option_map widget_of o → is_none r ≡ false → (m : PlainNode) × (o ≡ Some m)
node_is_there None (Some w) e there = absurd (none_some (sym e))
node_is_there None None e there = absurd (true_false there)
node_is_there (Some m) r e there = (m, refl)

pub node_is_missing : (o : Option PlainNode) (r : Option (Bor (Rc Widget Global))) → option_map shared (option_copied r) ≡ option_map widget_of o → is_none r ≡ true → o ≡ None
node_is_missing None r e missing = refl
node_is_missing (Some m) None e missing = absurd (none_some e)
node_is_missing (Some m) (Some w) e missing = absurd (true_false (sym missing))

-- ---- all that is kept is sound

-- where fields of the node that is found have other values of their types, and where a Viewport is scrolled
pub sound_set : ((f : PlainNode → List Value) (wanted after : ℕ) (n : PlainNode) → IsNumbered after n → IsNumbered after (changed_at (λ x. having_fields (f x) x) wanted n))
    → (program : CheckedParts) (root : Option (Rc Widget Global)) (t : Option PlainNode) (m : PlainNode) (next frames number : ℕ) (change : List Value → List Value) → AreSound program root t next frames
    → node_in t number ≡ Some m → map type_of (change (fields_of m)) ≡ map type_of (fields_of m)
    → AreSound program root (option_map (changed_at (λ x. having_fields (change (fields_of x)) x) number) t) next frames
sound_set law program root None m next frames number change h found types = absurd (none_some found)
sound_set law program root (Some a) m next frames number change h found types =
    let set : PlainNode → PlainNode = λ x. having_fields (change (fields_of x)) x in
    sound_fields program root (Some a) a (changed_at set number a) m next frames number (change (fields_of m)) law h refl
    (changed_same set (having_fields (change (fields_of m))) number a m found refl) found types

pub sound_scrolled : ((scroll wanted after : ℕ) (n : PlainNode) → IsNumbered after n → IsNumbered after (changed_at (having_scroll scroll) wanted n))
    → (program : CheckedParts) (root : Option (Rc Widget Global)) (t : Option PlainNode) (next frames number to : ℕ) → AreSound program root t next frames
    → AreSound program root (option_map (changed_at (having_scroll to) number) t) next frames
sound_scrolled law program root None next frames number to h = h
sound_scrolled law program root (Some a) next frames number to h = sound_scroll program root (Some a) a (changed_at (having_scroll to) number a) next frames number to law h refl refl

-- once a tree that is like the one before stands
pub sound_after : (old new : KeptFrame) (program : CheckedParts) (root : Option (Rc Widget Global)) (same_root : Bool) (frames : ℕ) (delegates : List Plug) (marks : List ℕ) (a : Option PlainNode)
    → FrameStandsFor (plain_checked program) delegates marks a new → AreSound program root a (next_in old) frames → next_in new ≡ next_in old → new.screen.spent ≡ old.screen.spent
    → new.screen.scale ≡ old.screen.scale → (HasRoomAfter frames old → HasRoomAfter frames new) → IfSome new.settled (λ w. old.settled ≡ Some w)
    → AreSoundOn old program root same_root frames → AreSoundOn new program root same_root frames
sound_after old new program root same_root frames delegates marks a stands parts next spent scale room only h = record {
  delegates = delegates;
  marks = marks;
  tree = a;
  stands = stands;
  parts = subst (λ n. AreSound program root a n frames) (sym next) parts;
  ready = spent ∙ h.ready;
  scale_is = scale ∙ h.scale_is;
  room = room h.room;
  known = λ on. known_still old.settled new.settled (λ w. IfSome root (λ r. w ≡ shared r)) only (h.known on);
}

-- ---- the handler that the node with a number has

pub handler_found : (t : Option PlainNode) (number : ℕ) (m : PlainNode) (w : Widget) (g : Gesture) (h : Handler) → node_in t number ≡ Some m → widget_of m ≡ plain_of w → handler_in (look_in w.kind) g ≡ Some h
    → handler_at t number g ≡ Some h
handler_found t number m w g h found widget has = ap (λ o. handler_of_node o g) found ∙ (ap (λ x. handler_in (look_of x) g) widget ∙ has)

pub no_handler : (t : Option PlainNode) (number : ℕ) (m : PlainNode) (w : Widget) (g : Gesture) → node_in t number ≡ Some m → widget_of m ≡ plain_of w → handler_in (look_in w.kind) g ≡ None
    → handler_at t number g ≡ None
no_handler t number m w g found widget has = ap (λ o. handler_of_node o g) found ∙ (ap (λ x. handler_in (look_of x) g) widget ∙ has)

pub nobody : (t : Option PlainNode) (number : ℕ) (g : Gesture) → node_in t number ≡ None → handler_at t number g ≡ None
nobody t number g missing = ap (λ o. handler_of_node o g) missing

-- where it does nothing
pub run_nothing : (kept : HeldSession) (ds : List Plug) (s : SessionState) (number : ℕ) (g : Gesture) (dx dy : ℤ) → StandsFor kept ds s → handler_at s.tree number g ≡ None → StandsFor kept ds (run_at number g dx dy s)
run_nothing kept ds s number g dx dy h none = subst (λ o. StandsFor kept ds (handled_by o dx dy s)) (sym none) h

pub run_outside : (kept : HeldSession) (ds : List Plug) (s : SessionState) (number : ℕ) (g : Gesture) (handler : Handler) (dx dy : ℤ) → StandsFor kept ds s → handler_at s.tree number g ≡ Some handler
    → (handler.owner == 0) ≡ true → StandsFor kept ds (run_at number g dx dy s)
run_outside kept ds s number g handler dx dy h has outside =
    let after : SessionState = record s { tree = option_map (changed_at (set_by handler dx dy) handler.owner) s.tree; marks = s.marks ++ handler.owner ∷ [] } in
    subst (λ o. StandsFor kept ds (handled_by o dx dy s)) (sym has) (subst (λ b. StandsFor kept ds (if b then s else after)) (sym outside) h)

-- and where it sets its owner's fields
pub run_done : (kept new : HeldSession) (ds : List Plug) (s : SessionState) (number : ℕ) (g : Gesture) (handler : Handler) (dx dy : ℤ) → handler_at s.tree number g ≡ Some handler → (handler.owner == 0) ≡ false
    → StandsFor new ds (record s { tree = option_map (changed_at (set_by handler dx dy) handler.owner) s.tree; marks = s.marks ++ handler.owner ∷ [] }) → StandsFor new ds (run_at number g dx dy s)
run_done kept new ds s number g handler dx dy has owned h =
    let after : SessionState = record s { tree = option_map (changed_at (set_by handler dx dy) handler.owner) s.tree; marks = s.marks ++ handler.owner ∷ [] } in
    subst (λ o. StandsFor new ds (handled_by o dx dy s)) (sym has) (subst (λ b. StandsFor new ds (if b then s else after)) (sym owned) h)

-- where its owner is gone, whose number marks nothing
unchanged : (f : PlainNode → PlainNode) (number : ℕ) (t : Option PlainNode) → node_in t number ≡ None → option_map (changed_at f number) t ≡ t
unchanged f number None missing = refl
unchanged f number (Some root) missing = ap Some (changed_missing f number root missing)

pub run_unowned : (kept : HeldSession) (ds : List Plug) (s : SessionState) (number : ℕ) (g : Gesture) (handler : Handler) (dx dy : ℤ) → StandsFor kept ds s → handler_at s.tree number g ≡ Some handler
    → (handler.owner == 0) ≡ false → node_in s.tree handler.owner ≡ None → FrameStandsFor s.program ds (s.marks ++ handler.owner ∷ []) s.tree kept.owner → StandsFor kept ds (run_at number g dx dy s)
run_unowned kept ds s number g handler dx dy h has owned missing stands =
    let same = unchanged (set_by handler dx dy) handler.owner s.tree missing in
    run_done kept kept ds s number g handler dx dy has owned
    (with_owner kept kept.owner ds ds s.delegates s (option_map (changed_at (set_by handler dx dy) handler.owner) s.tree) (s.marks ++ handler.owner ∷ []) s.touched h
    (subst (λ t. FrameStandsFor s.program ds (s.marks ++ handler.owner ∷ []) t kept.owner) (sym same) stands) refl refl refl h.delegates_mean)
