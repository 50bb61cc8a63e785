-- What elements tell of the last frame: the values of inherited names at their places, flags and stored outputs.
use Rattle.std.specs.Prelude.{◌≡◌, ℕ, false, Some, List, [], ◌∷◌, ◌++◌, map}
use Rattle.std.specs.Option.{option_to_list}
use Rattle.fx_expr.specs.declared.values.Value.{Value}
use Rattle.node_tree.specs.Forest.{Forest}
use Rattle.node_tree.specs.Forest.Forest.{none, tree}
use Rattle.widget_model.specs.Plain.{look_of}
use Rattle.plain_tree.specs.PlainNode.{PlainNode, widget_of}
use Rattle.build_form.specs.BuildRole.{BuildRole, composes, provides, keeps, lists, holds, build_role_of}
use Rattle.build_form.specs.Entering.{Blueprint, values_below}
use Rattle.element_tree.specs.Element.{Element}
use Rattle.element_tree.specs.Nodes.{nodes_of}
use Rattle.build_walk.specs.Past.{Past, Pasts, is_marked}
use Rattle.build_walk.specs.Fresh.{HasOutput}

-- what an element tells where the inherited names have these values
abbrev pub element_past : List Value → Element → Past
element_past values e = record { number = e.number; widget = e.widget; values = values; marked = e.dirty; output = option_to_list e.output }

-- what is known of numbers is what the elements of a forest tell, which stands where the inherited names have these values
abbrev pub TellPasts : Pasts → List Value → Forest Element → Type 0
TellPasts pasts values none = Unit {0}
TellPasts pasts values (tree h e kids rest) =
    (pasts e.number ≡ Some (element_past values e)) × TellPasts pasts (values_below e.widget values) kids × TellPasts pasts values rest

-- what they tell, in preorder
abbrev pub element_pasts : List Value → Forest Element → List Past
element_pasts values none = []
element_pasts values (tree h e kids rest) =
    (element_past values e ∷ element_pasts (values_below e.widget values) kids) ++ element_pasts values rest

-- the output that is stored at an element without a flag is what its body gives, of a component
abbrev pub HoldOutputs : Blueprint → List Value → Forest Element → Type 0
HoldOutputs b values none = Unit {0}
HoldOutputs b values (tree h e kids rest) =
    (e.dirty ≡ false → HasOutput b (build_role_of (look_of e.widget)) e.widget e.fields values e.number (option_to_list e.output))
    × HoldOutputs b (values_below e.widget values) kids × HoldOutputs b values rest

-- what is stored as the output of a component without a flag are the widgets right below it
abbrev pub StoresBelow : BuildRole → Element → List PlainNode → Type 0
StoresBelow (composes place props) e ns = e.dirty ≡ false → option_to_list e.output ≡ map widget_of ns
StoresBelow (provides name value) e ns = Unit {0}
StoresBelow (keeps kept) e ns = Unit {0}
StoresBelow (lists extent) e ns = Unit {0}
StoresBelow holds e ns = Unit {0}

abbrev pub StoreOutputs : (ℕ → ℕ) → Forest Element → Type 0
StoreOutputs scrolled none = Unit {0}
StoreOutputs scrolled (tree h e kids rest) =
    StoresBelow (build_role_of (look_of e.widget)) e (nodes_of scrolled kids) × StoreOutputs scrolled kids × StoreOutputs scrolled rest

-- a flag is set at each marked number
abbrev pub AreFlagged : (ℕ → Type 0) → Forest Element → Type 0
AreFlagged IsMarked none = Unit {0}
AreFlagged IsMarked (tree h e kids rest) = (e.dirty ≡ false → IsMarked e.number) × AreFlagged IsMarked kids × AreFlagged IsMarked rest

-- the elements that are flagged are those whose numbers are marked
abbrev pub FlagsAre : List ℕ → Forest Element → Type 0
FlagsAre marks none = Unit {0}
FlagsAre marks (tree h e kids rest) = (e.dirty ≡ is_marked marks e.number) × FlagsAre marks kids × FlagsAre marks rest
