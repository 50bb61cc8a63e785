-- The value that a field of a node's state has between two lines.
use Rattle.std.specs.Prelude.{ℕ, Option, Some, None, option_and_then, List, [], ◌∷◌, slice_get}
use Rattle.fx_expr.specs.declared.values.Value.{Value}
use Rattle.expr_check.specs.Names.{place_of}
use Rattle.plain_tree.specs.PlainNode.{PlainNode}
use Rattle.plain_tree.specs.States.{State, holding, scrolled, own_state}
use Rattle.session_form.specs.Handlers.{node_in}
use Rattle.session_form.specs.State.{SessionState}

-- the field with a name, in a node's state
abbrev pub field_of : List State → List ℕ → Option Value
field_of [] name = None
field_of (scrolled number scroll ∷ more) name = None
field_of (holding number declaration fields ∷ more) name = option_and_then (λ place. slice_get fields place.0) (place_of declaration.fields name)

abbrev pub field_at : Option PlainNode → List ℕ → Option Value
field_at None name = None
field_at (Some n) name = field_of (own_state n) name

-- the field with a name, of the node with a number; none where there is none
abbrev pub field_in : SessionState → ℕ → List ℕ → Option Value
field_in s number name = field_at (node_in s.tree number) name
