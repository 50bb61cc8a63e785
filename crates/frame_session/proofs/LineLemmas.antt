-- What `set` and `scroll` come to at the node that is found.
use Rattle.std.proofs.Common.{◌≡◌, ℕ, ◌^◌, ℤ, pos, ◌+ℤ◌, Option, Some, None, IfSome, option_and_then, Result, Ok, Err, OnErr, List, [], ◌∷◌, length, map, slice_set, ◌<◌, sym, subst, ap, ◌∙◌, refl}
use Rattle.fx_expr.specs.declared.values.Ty.{Ty}
use Rattle.fx_expr.specs.declared.values.Value.{Value}
use Rattle.delegates.specs.Answers.{clamped}
use Rattle.expr_check.specs.Names.{place_of}
use Rattle.fx_expr.specs.Value.{type_of}
use Rattle.widget_model.specs.declared.decl.Decl.{Decl}
use Rattle.widget_model.specs.Look.{Look, viewport, component}
use Rattle.widget_model.specs.Plain.{look_of}
use Rattle.widget_model.specs.Typed.{Declarations}
use Rattle.widget_model.specs.View.{look_in, plain_of}
use Rattle.widget_model.specs.declared.widgets.Widget.{Widget}
use Rattle.plain_tree.specs.Offsets.{of_window}
use Rattle.plain_tree.specs.PlainNode.{PlainNode, widget_of, number_of, fields_of, scroll_of}
use Rattle.plain_tree.specs.RenderRole.{render_role_of}
use Rattle.plain_tree.specs.States.{State, holding, scrolled, state_of, own_state}
use Rattle.build_form.specs.WellBuilt.{IsWellBuilt}
use Rattle.frame_owner.specs.Nodes.{window_at}
use Rattle.session_form.specs.declared.refusal.Refusal.{Refusal}
use Rattle.session_form.specs.declared.refusal.Refusal.TheVariants.{NoNode, NoField, NotAViewport, ViewOutOfRange}
use Rattle.session_form.specs.Changing.{set_to, set_field, set_state, set_node, set_line, scrolled_to, scroll_state, scroll_node, scroll_line, side_of, resized, resize_line}
use Rattle.session_form.specs.FieldValue.{value_read}
use Rattle.session_form.specs.Handlers.{node_in}
use Rattle.session_form.specs.Outcome.{Outcome, quietly, refused}
use Rattle.session_form.specs.State.{SessionState}
use Rattle.session_form.proofs.SetLemmas.{AllHaveTypes, number_found, built_found, set_typed, types_stored}
use Rattle.session_form.proofs.TreeLemmas.{none_some, some_inj}
use Rattle.frame_session.specs.Memory.{MayLackMemory}
use Rattle.frame_session.specs.NodeState.{set_by}
use Rattle.frame_session.proofs.OwnerLemmas.{state_is}

pub set_nowhere : (s : SessionState) (number : ℕ) (name bytes : List ℕ) → node_in s.tree number ≡ None → set_line number name bytes s ≡ refused NoNode
set_nowhere s number name bytes e = ap (λ o. set_node o name bytes s) e

pub scroll_nowhere : (s : SessionState) (number : ℕ) (by : ℤ) → node_in s.tree number ≡ None → scroll_line number by s ≡ refused NoNode
scroll_nowhere s number by e = ap (λ o. scroll_node o by s) e

-- the node that is found has the number
pub has_number : (t : Option PlainNode) (number : ℕ) (m : PlainNode) → node_in t number ≡ Some m → number_of m ≡ number
has_number None number m e = absurd (none_some e)
has_number (Some root) number m e = number_found number root m e

-- ---- `set`

-- by what the node's field came to
pub set_at : (s : SessionState) (m : PlainNode) (number : ℕ) (name bytes : List ℕ) (field : Result (ℕ × Ty) Refusal) → node_in s.tree number ≡ Some m
    → set_state (own_state m) name bytes s ≡ set_by (number_of m) field bytes s → set_line number name bytes s ≡ set_by number field bytes s
set_at s m number name bytes field found by =
    ap (λ o. set_node o name bytes s) found ∙ (by ∙ ap (λ n. set_by n field bytes s) (has_number s.tree number m found))

-- by the widget of the node and the values of its fields
pub field_at : (s : SessionState) (m : PlainNode) (w : Widget) (fields : List Value) (number : ℕ) (name name2 bytes : List ℕ) (field : Result (ℕ × Ty) Refusal) → node_in s.tree number ≡ Some m → widget_of m ≡ plain_of w
    → fields ≡ fields_of m → name2 ≡ name → ((n scroll : ℕ) (bs : List ℕ) (t : SessionState) → set_state (state_of (look_in w.kind) n fields scroll) name2 bs t ≡ set_by n field bs t)
    → set_line number name bytes s ≡ set_by number field bytes s
field_at s m w fields number name name2 bytes field found widget same named law =
    set_at s m number name bytes field found
    (ap (λ l. set_state l name bytes s) (state_is m ∙ (λ i. state_of (look_of (widget i)) (number_of m) (sym same i) (scroll_of m)))
    ∙ (ap (λ x. set_state (state_of (look_in w.kind) (number_of m) fields (scroll_of m)) x bytes s) (sym named) ∙ law (number_of m) (scroll_of m) bytes s))

-- want of memory may come once the field is found
pub set_may_lack : (number place : ℕ) (v : Option Value) (s : SessionState) → MayLackMemory (set_to number place v s)
set_may_lack number place None s = refl
set_may_lack number place (Some v) s = tt

-- a node of a tree that is well built is well built
pub built_in : (d : Declarations) (t : Option PlainNode) (m : PlainNode) (number : ℕ) → IfSome t (IsWellBuilt d) → node_in t number ≡ Some m → IsWellBuilt d m
built_in d None m number built found = absurd (none_some found)
built_in d (Some root) m number built found = built_found d number root m built found

-- ---- `scroll`

pub window_state : (look : Look) (number : ℕ) (fields : List Value) (scroll offset : ℕ) → of_window (render_role_of look) scroll ≡ Some offset → state_of look number fields scroll ≡ scrolled number offset ∷ []
window_state (viewport axis) number fields scroll offset e = ap (λ n. scrolled number n ∷ []) (some_inj e)
window_state look number fields scroll offset e = absurd (none_some e)

other_state : (look : Look) (number : ℕ) (fields : List Value) (scroll : ℕ) (by : ℤ) (s : SessionState) → of_window (render_role_of look) scroll ≡ None → scroll_state (state_of look number fields scroll) by s ≡ refused NotAViewport
other_state (viewport axis) number fields scroll by s e = absurd (none_some (sym e))
other_state (component place props declaration) number [] scroll by s e = refl
other_state (component place props declaration) number (v ∷ vs) scroll by s e = refl
other_state look number fields scroll by s e = refl

-- where a Viewport has the number there is a node
pub window_node : (t : Option PlainNode) (number offset : ℕ) → window_at t number ≡ Some offset → (m : PlainNode) × (node_in t number ≡ Some m)
window_node t number offset e = by_node (node_in t number) refl
  where
    by_node : (o : Option PlainNode) → node_in t number ≡ o → (m : PlainNode) × (node_in t number ≡ Some m)
    by_node None at = absurd (none_some (sym (ap (option_and_then (λ (n : PlainNode). of_window (render_role_of (look_of (widget_of n))) (scroll_of n))) at) ∙ e))
    by_node (Some m) at = (m, at)

pub scroll_there : (s : SessionState) (m : PlainNode) (number offset : ℕ) (by : ℤ) → node_in s.tree number ≡ Some m → window_at s.tree number ≡ Some offset
    → scroll_line number by s ≡ quietly (scrolled_to number (clamped (2 ^ 40) (pos offset +ℤ by)) s)
scroll_there s m number offset by found view =
    let window : of_window (render_role_of (look_of (widget_of m))) (scroll_of m) ≡ Some offset =
    sym (ap (option_and_then (λ (n : PlainNode). of_window (render_role_of (look_of (widget_of n))) (scroll_of n))) found) ∙ view in
    ap (λ o. scroll_node o by s) found
    ∙ (ap (λ l. scroll_state l by s) (state_is m ∙ window_state (look_of (widget_of m)) (number_of m) (fields_of m) (scroll_of m) offset window)
    ∙ ap (λ n. quietly (scrolled_to n (clamped (2 ^ 40) (pos offset +ℤ by)) s)) (has_number s.tree number m found))

pub scroll_elsewhere : (s : SessionState) (m : PlainNode) (number : ℕ) (by : ℤ) → node_in s.tree number ≡ Some m → window_at s.tree number ≡ None → scroll_line number by s ≡ refused NotAViewport
scroll_elsewhere s m number by found view =
    ap (λ o. scroll_node o by s) found
    ∙ (ap (λ l. scroll_state l by s) (state_is m)
    ∙ other_state (look_of (widget_of m)) (number_of m) (fields_of m) (scroll_of m) by s
    (sym (ap (option_and_then (λ (n : PlainNode). of_window (render_role_of (look_of (widget_of n))) (scroll_of n))) found) ∙ view))

-- ---- a side of a view that is out of range

pub no_width : (w h : ℤ) (s : SessionState) → side_of w ≡ None → resize_line w h s ≡ refused ViewOutOfRange
no_width w h s none = ap (λ (o : Option ℕ). resized o (side_of h) s) none

pub no_height : (w h : ℤ) (s : SessionState) → side_of h ≡ None → resize_line w h s ≡ refused ViewOutOfRange
no_height w h s none = ap (λ (o : Option ℕ). resized (side_of w) o s) none ∙ by_width (side_of w)
  where
    by_width : (o : Option ℕ) → resized o None s ≡ refused ViewOutOfRange
    by_width None = refl
    by_width (Some side) = refl

-- ---- the field that a component declares

pub field_set : (states : List State) (number : ℕ) (declaration : Decl) (fields : List Value) (name : List ℕ) (field : ℕ × Ty) (bytes : List ℕ) (s : SessionState) → holding number declaration fields ∷ [] ≡ states
    → place_of declaration.fields name ≡ Some field → set_state states name bytes s ≡ set_by number (Ok field) bytes s
field_set states number declaration fields name field bytes s is place = ap (λ l. set_state l name bytes s) (sym is) ∙ ap (λ o. set_field number o bytes s) place

pub field_unset : (states : List State) (number : ℕ) (declaration : Decl) (fields : List Value) (name bytes : List ℕ) (s : SessionState) → holding number declaration fields ∷ [] ≡ states
    → place_of declaration.fields name ≡ None → set_state states name bytes s ≡ refused NoField
field_unset states number declaration fields name bytes s is place = ap (λ l. set_state l name bytes s) (sym is) ∙ ap (λ o. set_field number o bytes s) place

pub field_fits : (d : Declarations) (n : PlainNode) (look : Look) (fields : List Value) (declaration : Decl) (name bytes : List ℕ) (field : ℕ × Ty) (v : Value) → IsWellBuilt d n → look_of (widget_of n) ≡ look → fields_of n ≡ fields
    → ((number scroll : ℕ) → holding number declaration fields ∷ [] ≡ state_of look number fields scroll) → place_of declaration.fields name ≡ Some field → value_read field.1 bytes ≡ Some v
    → (field.0 < length fields) × (map type_of (slice_set fields field.0 v) ≡ map type_of fields)
field_fits d n look fields declaration name bytes field v built is same states place read =
    set_typed (own_state n) fields (number_of n) declaration fields name bytes field.0 field.1 v (subst (λ l. AllHaveTypes (own_state n) l) same (types_stored d n built))
    (state_is n ∙ ((λ i. state_of (is i) (number_of n) (same i) (scroll_of n)) ∙ sym (states (number_of n) (scroll_of n)))) place read

-- where it takes memory
pub on_err : {A E P : Type 0} (r : Result A E) → P → OnErr r P
on_err (Ok x) h = tt
on_err (Err e) h = h

pub may_by : (o q : Outcome) → o ≡ q → MayLackMemory q → MayLackMemory o
may_by o q e h = let P : Outcome → Type 0 = λ x. MayLackMemory x in subst P (sym e) h
