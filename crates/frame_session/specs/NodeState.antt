-- The state of a node, as the program says it.
use Rattle.std.specs.Prelude.{ℕ, Option, Some, None, Result, Ok, Err, List, [], ◌∷◌, ◌++◌}
use Rattle.fx_expr.specs.declared.values.Ty.{Ty}
use Rattle.fx_expr.specs.declared.values.Value.{Value}
use Rattle.plain_tree.specs.PlainNode.{PlainNode}
use Rattle.plain_tree.specs.States.{State, holding, scrolled, own_state}
use Rattle.session_form.specs.Changing.{set_to}
use Rattle.session_form.specs.FieldValue.{value_read}
use Rattle.session_form.specs.Outcome.{Outcome, refused}
use Rattle.session_form.specs.State.{SessionState}
use Rattle.frame_session.specs.declared.node_state.NodeState.{NodeState}
use Rattle.frame_session.specs.declared.node_state.NodeState.TheVariants.{Nothing, Fields, Offset}
use Rattle.session_form.specs.declared.refusal.Refusal.{Refusal}

-- where a node has this number, these values of its fields and this offset
abbrev pub states_as : NodeState → ℕ → List Value → ℕ → List State
states_as Nothing number fields scroll = []
states_as (Fields declaration) number fields scroll = holding number declaration.now fields ∷ []
states_as Offset number fields scroll = scrolled number scroll ∷ []

-- the state of a node that may not be there, and those of the nodes with these numbers, by what is found of each
abbrev pub state_found : Option PlainNode → List State
state_found None = []
state_found (Some n) = own_state n

abbrev pub states_found : (ℕ → Option PlainNode) → List ℕ → List State
states_found find [] = []
states_found find (number ∷ numbers) = state_found (find number) ++ states_found find numbers

-- what `set` comes to at a node whose field, by its place and type, was found, or not
abbrev pub set_by : ℕ → Result (ℕ × Ty) Refusal → List ℕ → SessionState → Outcome
set_by number (Err why) bytes s = refused why
set_by number (Ok field) bytes s = set_to number field.0 (value_read field.1 bytes) s
