-- Lines that print nothing, whatever they come to.
use Rattle.std.proofs.Common.{◌≡◌, ℕ, ℤ, Bool, true, false, Option, Some, None, is_some, List, [], ◌∷◌, ◌++◌, refl, if◌then◌else◌}
use Rattle.delegates.specs.Table.{meaning_of, set_end, unplugged}
use Rattle.delegates.specs.declared.table.SetEnd.{SetEnd}
use Rattle.delegates.specs.declared.table.SetEnd.TheVariants as set_end
use Rattle.expr_check.specs.Names.{place_of}
use Rattle.fx_expr.specs.declared.values.Ty.{Ty}
use Rattle.fx_expr.specs.declared.values.Value.{Value}
use Rattle.plain_tree.specs.PlainNode.{PlainNode}
use Rattle.plain_tree.specs.States.{State, holding, scrolled, own_state}
use Rattle.session_form.specs.Changing.{set_to, set_field, set_state, set_node, set_line, scroll_state, scroll_node, scroll_line, side_of, resized, resize_line, delegate_ended, delegate_line, unplug_line}
use Rattle.session_form.specs.FieldValue.{value_read}
use Rattle.session_form.specs.Handlers.{node_in}
use Rattle.session_form.specs.Outcome.{quietly, refused, text_of}
use Rattle.session_form.specs.State.{SessionState, delegate}
use Rattle.session_form.specs.declared.refusal.Refusal.TheVariants.{NoDelegate}

-- ---- `set`

set_to_quiet : (number place : ℕ) (v : Option Value) (s : SessionState) → text_of (set_to number place v s) ≡ []
set_to_quiet number place None s = refl
set_to_quiet number place (Some v) s = refl

set_field_quiet : (number : ℕ) (field : Option (ℕ × Ty)) (bytes : List ℕ) (s : SessionState) → text_of (set_field number field bytes s) ≡ []
set_field_quiet number None bytes s = refl
set_field_quiet number (Some field) bytes s = set_to_quiet number field.0 (value_read field.1 bytes) s

set_state_quiet : (states : List State) (name bytes : List ℕ) (s : SessionState) → text_of (set_state states name bytes s) ≡ []
set_state_quiet [] name bytes s = refl
set_state_quiet (scrolled number scroll ∷ more) name bytes s = refl
set_state_quiet (holding number declaration fields ∷ more) name bytes s = set_field_quiet number (place_of declaration.fields name) bytes s

set_node_quiet : (n : Option PlainNode) (name bytes : List ℕ) (s : SessionState) → text_of (set_node n name bytes s) ≡ []
set_node_quiet None name bytes s = refl
set_node_quiet (Some n) name bytes s = set_state_quiet (own_state n) name bytes s

pub set_quiet : (number : ℕ) (name bytes : List ℕ) (s : SessionState) → text_of (set_line number name bytes s) ≡ []
set_quiet number name bytes s = set_node_quiet (node_in s.tree number) name bytes s

-- ---- `scroll`

scroll_state_quiet : (states : List State) (by : ℤ) (s : SessionState) → text_of (scroll_state states by s) ≡ []
scroll_state_quiet [] by s = refl
scroll_state_quiet (holding number declaration fields ∷ more) by s = refl
scroll_state_quiet (scrolled number offset ∷ more) by s = refl

scroll_node_quiet : (n : Option PlainNode) (by : ℤ) (s : SessionState) → text_of (scroll_node n by s) ≡ []
scroll_node_quiet None by s = refl
scroll_node_quiet (Some n) by s = scroll_state_quiet (own_state n) by s

pub scroll_quiet : (number : ℕ) (by : ℤ) (s : SessionState) → text_of (scroll_line number by s) ≡ []
scroll_quiet number by s = scroll_node_quiet (node_in s.tree number) by s

-- ---- `resize`

resized_quiet : (w h : Option ℕ) (s : SessionState) → text_of (resized w h s) ≡ []
resized_quiet (Some w) (Some h) s = refl
resized_quiet (Some w) None s = refl
resized_quiet None h s = refl

pub resize_quiet : (w h : ℤ) (s : SessionState) → text_of (resize_line w h s) ≡ []
resize_quiet w h s = resized_quiet (side_of w) (side_of h) s

-- ---- `delegate` and `unplug`

ended_quiet : (e : SetEnd) (name field : List ℕ) (n : ℤ) (s : SessionState) → text_of (delegate_ended e name field n s) ≡ []
ended_quiet set_end.Done name field n s = refl
ended_quiet set_end.NoDelegate name field n s = refl
ended_quiet set_end.NoField name field n s = refl

pub delegate_quiet : (name field : List ℕ) (n : ℤ) (s : SessionState) → text_of (delegate_line name field n s) ≡ []
delegate_quiet name field n s = ended_quiet (set_end (meaning_of s.delegates name) field) name field n s

dropped_quiet : (b : Bool) (name : List ℕ) (s : SessionState)
    → text_of (if b then quietly (record s { delegates = unplugged s.delegates name; touched = s.touched ++ delegate name ∷ [] }) else refused NoDelegate) ≡ []
dropped_quiet true name s = refl
dropped_quiet false name s = refl

pub unplug_quiet : (name : List ℕ) (s : SessionState) → text_of (unplug_line name s) ≡ []
unplug_quiet name s = dropped_quiet (is_some (meaning_of s.delegates name)) name s
