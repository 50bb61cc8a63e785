-- The tree that a build makes, as nested plain values.
use Rattle.std.specs.Prelude.{ℕ, suc, ◌+◌, List, [], ◌∷◌}
use Rattle.fx_expr.specs.declared.values.Value.{Value}
use Rattle.widget_model.specs.Plain.{PlainWidget}

mutual
  -- a node: its number, its widget, the values of its fields, how far it is scrolled, its place among its parent's child
  -- widgets, and its children
  pub data PlainNode : Type 0 where
    node : ℕ → PlainWidget → List Value → ℕ → ℕ → PlainNodes → PlainNode

  pub data PlainNodes : Type 0 where
    no_nodes : PlainNodes
    more_nodes : PlainNode → PlainNodes → PlainNodes

-- the nodes of a list, one after another
abbrev pub nodes_of : List PlainNode → PlainNodes
nodes_of [] = no_nodes
nodes_of (n ∷ ns) = more_nodes n (nodes_of ns)

abbrev pub list_of : PlainNodes → List PlainNode
list_of no_nodes = []
list_of (more_nodes n ns) = n ∷ list_of ns

-- the parts of a node
abbrev pub number_of : PlainNode → ℕ
number_of (node number widget fields scroll index children) = number

abbrev pub widget_of : PlainNode → PlainWidget
widget_of (node number widget fields scroll index children) = widget

abbrev pub fields_of : PlainNode → List Value
fields_of (node number widget fields scroll index children) = fields

abbrev pub scroll_of : PlainNode → ℕ
scroll_of (node number widget fields scroll index children) = scroll

abbrev pub index_of : PlainNode → ℕ
index_of (node number widget fields scroll index children) = index

abbrev pub children_of : PlainNode → List PlainNode
children_of (node number widget fields scroll index children) = list_of children

-- how many nodes a node is, with those below it
abbrev mutual
  pub count_of : PlainNode → ℕ
  count_of (node number widget fields scroll index children) = suc (counts_of children)

  pub counts_of : PlainNodes → ℕ
  counts_of no_nodes = 0
  counts_of (more_nodes n ns) = count_of n + counts_of ns
