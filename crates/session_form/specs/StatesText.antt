-- The text of the states of a tree.
use Rattle.std.specs.Prelude.{ℕ, Option, Some, None, List, [], ◌∷◌, ◌++◌, codes}
use Rattle.std.specs.Fmt.{decimal}
use Rattle.fx_expr.specs.declared.values.Value.{Value}
use Rattle.fx_expr.specs.declared.values.Ty.{Ty}
use Rattle.plain_tree.specs.PlainNode.{PlainNode}
use Rattle.plain_tree.specs.States.{State, holding, scrolled, states_of}
use Rattle.session_form.specs.Values.{value_text}

-- ` f=v`
abbrev pub field_text : List ℕ → Value → List ℕ
field_text name v = codes " " ++ (name ++ (codes "=" ++ value_text v))

-- the same for each field
abbrev pub fields_text : List (List ℕ × Ty) → List Value → List ℕ
fields_text [] vs = []
fields_text (f ∷ fs) [] = []
fields_text (f ∷ fs) (v ∷ vs) = field_text f.0 v ++ fields_text fs vs

-- `#n NAME f=v ..` of a component, and `#n Viewport scroll=V`
abbrev pub state_text : State → List ℕ
state_text (holding number declaration fields) =
    codes "#" ++ (decimal number ++ (codes " " ++ (declaration.name ++ (fields_text declaration.fields fields ++ codes "\n"))))
state_text (scrolled number scroll) = codes "#" ++ (decimal number ++ (codes " Viewport scroll=" ++ (decimal scroll ++ codes "\n")))

abbrev pub all_states_text : List State → List ℕ
all_states_text [] = []
all_states_text (s ∷ ss) = state_text s ++ all_states_text ss

-- the states of a tree in preorder; before the first frame there is no tree
abbrev pub states_in : Option PlainNode → List State
states_in None = []
states_in (Some root) = states_of root

-- `states`, the states, `end`
abbrev pub states_text : Option PlainNode → List ℕ
states_text tree = codes "states\n" ++ (all_states_text (states_in tree) ++ codes "end\n")
