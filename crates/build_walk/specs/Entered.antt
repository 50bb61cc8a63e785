-- What the code's walk comes to where it enters a widget: what the definition's walk comes to, and what is planned for both trees.
use Rattle.std.specs.Prelude.{◌≡◌, ℕ, false, List, ◌++◌, map}
use Rattle.std.specs.Option.{option_to_list}
use Rattle.fx_expr.specs.declared.values.Value.{Value}
use Rattle.fx_handles.specs.declared.Handle.{Handle}
use Rattle.node_tree.specs.Forest.{Forest, tops}
use Rattle.node_tree.specs.Forest.Forest.{none, tree}
use Rattle.node_tree.specs.Tree.{Tree}
use Rattle.widget_model.specs.Plain.{PlainWidget, look_of}
use Rattle.plain_tree.specs.PlainNode.{node, nodes_of as listed}
use Rattle.build_form.specs.Step.{Progress, gives, each}
use Rattle.build_form.specs.BuildRole.{BuildRole, composes, provides, keeps, lists, holds, build_role_of}
use Rattle.build_form.specs.Partner.{Arrival}
use Rattle.build_form.specs.Entering.{Basis, Phase, scroll_for, values_below, waits, Opening, entered_below}
use Rattle.build_form.specs.WellBuilt.{AreBelow}
use Rattle.element_tree.specs.Element.{Element}
use Rattle.element_tree.specs.Nodes.{nodes_of}
use Rattle.render_tree.specs.Object.{RenderObject}
use Rattle.build_walk.specs.Keeping.{reenter}
use Rattle.build_walk.specs.Past.{Pasts}
use Rattle.build_walk.specs.Telling.{StoreOutputs}
use Rattle.build_walk.specs.Serving.{waiting_lists, all_waiting_lists}
use Rattle.build_walk.specs.Walked.{WalkPlans, WalkPlace, waiting_in, Walked}

-- a widget was entered, and this is its handle
pub record IsEntered (from : Basis) (pasts : Pasts) (phase : Phase) (left : ℕ) (values : List Value) (scrolled : ℕ → ℕ) (at : WalkPlace) (a : Arrival) (before after : Progress)
    (t : Tree Element) (r : Tree RenderObject) (old new : WalkPlans) (h : Handle) : Type 0 where
  pub value : Element
  pub kids : Forest Element
  pub is : reenter from pasts phase left values a before
      ≡ gives (node value.number value.widget value.fields (scrolled value.number) value.index (listed (nodes_of scrolled kids))) after
  pub walked : Walked phase t r scrolled at old new (tree h value kids none)
  pub waiting : new.waiting
      ≡ old.waiting ++ waiting_in phase (waiting_lists left values (node value.number value.widget value.fields (scrolled value.number) value.index (listed (nodes_of scrolled kids))))
  pub stored : StoreOutputs scrolled (tree h value kids none)

-- and widgets one after another, with these handles
pub record AreEntered (from : Basis) (pasts : Pasts) (phase : Phase) (left : ℕ) (values : List Value) (scrolled : ℕ → ℕ) (at : WalkPlace) (arriving : List Arrival) (before after : Progress)
    (t : Tree Element) (r : Tree RenderObject) (old new : WalkPlans) (hs : List Handle) : Type 0 where
  pub kids : Forest Element
  pub is : each (reenter from pasts phase left values) arriving before ≡ gives (nodes_of scrolled kids) after
  pub handles : hs ≡ tops kids
  pub walked : Walked phase t r scrolled at old new kids
  pub waiting : new.waiting ≡ old.waiting ++ waiting_in phase (all_waiting_lists left values (listed (nodes_of scrolled kids)))
  pub stored : StoreOutputs scrolled kids

-- what is below a widget was entered, or put off, and these are the handles below its element
pub record IsEnteredBelow (from : Basis) (pasts : Pasts) (phase : Phase) (left : ℕ) (values : List Value) (scrolled : ℕ → ℕ) (at : WalkPlace) (w : PlainWidget) (o : Opening) (before after : Progress)
    (t : Tree Element) (r : Tree RenderObject) (old new : WalkPlans) (hs : List Handle) : Type 0 where
  pub kids : Forest Element
  pub is : entered_below (reenter from pasts phase left) phase values w o before ≡ gives (nodes_of scrolled kids) after
  pub handles : hs ≡ tops kids
  pub walked : Walked phase t r scrolled at old new kids
  pub waiting : new.waiting ≡ old.waiting ++ waiting_in phase (all_waiting_lists left (values_below w values) (listed (nodes_of scrolled kids)))
  pub stored : StoreOutputs scrolled kids
  pub widgets : AreBelow (waits phase (build_role_of (look_of w))) o.given (nodes_of scrolled kids)

-- what is stored as the output of a component without a flag is what its body gave
abbrev pub StoresGiven : BuildRole → Element → List PlainWidget → Type 0
StoresGiven (composes place props) e given = e.dirty ≡ false → option_to_list e.output ≡ given
StoresGiven (provides name value) e given = Unit {0}
StoresGiven (keeps kept) e given = Unit {0}
StoresGiven (lists extent) e given = Unit {0}
StoresGiven holds e given = Unit {0}

-- an element is that of a widget which was opened so
pub record IsElementFor (scrolled : ℕ → ℕ) (a : Arrival) (o : Opening) (e : Element) : Type 0 where
  pub number : e.number ≡ o.number
  pub widget : e.widget ≡ a.widget
  pub fields : e.fields ≡ o.fields
  pub place : e.index ≡ a.place
  pub scroll : scrolled e.number ≡ scroll_for o.partner
  pub output : StoresGiven (build_role_of (look_of e.widget)) e o.given
