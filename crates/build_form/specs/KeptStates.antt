-- Which state each node of a build has: the one of the node of the old tree that it goes on from, or a first one.
use Rattle.std.specs.Prelude.{◌≡◌, ℕ, ◌≤◌, ◌⊎◌, Option, Some, None, List}
use Rattle.fx_expr.specs.declared.values.Value.{Value}
use Rattle.widget_model.specs.Plain.{PlainWidget, look_of}
use Rattle.widget_model.specs.Update.{CanUpdate}
use Rattle.plain_tree.specs.At.{node_at}
use Rattle.plain_tree.specs.PlainNode.{PlainNode, node, PlainNodes, no_nodes, more_nodes, widget_of, fields_of, scroll_of}
use Rattle.build_form.specs.BuildRole.{build_role_of}
use Rattle.build_form.specs.Entering.{Blueprint, first_fields}

-- the node of the old tree with a number had a widget of this one's type and key, these values of its fields and this offset
abbrev pub HadState : Option PlainNode → ℕ → PlainWidget → List Value → ℕ → Type 0
HadState None number widget fields scroll = ⊥
HadState (Some old) number widget fields scroll =
    (was : PlainNode) × (node_at number old ≡ Some was) × CanUpdate (widget_of was) widget × (fields ≡ fields_of was) × (scroll ≡ scroll_of was)

-- the number was free then, the fields have their first values, and nothing is scrolled
pub record IsFirstState (b : Blueprint) (next number : ℕ) (widget : PlainWidget) (fields : List Value) (scroll : ℕ) : Type 0 where
  pub number_free : next ≤ number
  pub fields_first : fields ≡ first_fields b (build_role_of (look_of widget))
  pub unscrolled : scroll ≡ 0

-- a node had its state in the old tree, or is new
abbrev pub HadOrIsNew : Blueprint → Option PlainNode → ℕ → ℕ → PlainWidget → List Value → ℕ → Type 0
HadOrIsNew b old next number widget fields scroll = HadState old number widget fields scroll ⊎ IsFirstState b next number widget fields scroll

-- this holds of each node of a tree: of its number, its widget, the values of its fields and its offset
abbrev mutual
  pub EachIs : (ℕ → PlainWidget → List Value → ℕ → Type 0) → PlainNode → Type 0
  EachIs R (node number widget fields scroll index children) = R number widget fields scroll × AllAre R children

  pub AllAre : (ℕ → PlainWidget → List Value → ℕ → Type 0) → PlainNodes → Type 0
  AllAre R no_nodes = Unit {0}
  AllAre R (more_nodes n ns) = EachIs R n × AllAre R ns
