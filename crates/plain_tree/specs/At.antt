-- The node with a number, and a tree with that node changed.
use Rattle.std.specs.Prelude.{ℕ, Bool, ◌==◌, Option, Some, None, is_some, List, [], ◌∷◌, ◌++◌, if◌then◌else◌}
use Rattle.std.specs.Option.{option_or}
use Rattle.fx_expr.specs.declared.values.Value.{Value}
use Rattle.plain_tree.specs.declared.changing.Change.{Change}
use Rattle.plain_tree.specs.declared.changing.Change.TheVariants as change
use Rattle.plain_tree.specs.Laid.{Laid, laid, Laids, no_laids, more_laids}
use Rattle.plain_tree.specs.PlainNode.{PlainNode, node, PlainNodes, no_nodes, more_nodes}

-- the numbers of a tree in preorder
abbrev mutual
  pub numbers_of : PlainNode → List ℕ
  numbers_of (node number widget fields scroll index children) = number ∷ numbers_in children

  pub numbers_in : PlainNodes → List ℕ
  numbers_in no_nodes = []
  numbers_in (more_nodes n ns) = numbers_of n ++ numbers_in ns

-- the first node in preorder that has a number
abbrev mutual
  pub node_at : ℕ → PlainNode → Option PlainNode
  node_at wanted (node number widget fields scroll index children) =
      if number == wanted then Some (node number widget fields scroll index children) else node_in wanted children

  pub node_in : ℕ → PlainNodes → Option PlainNode
  node_in wanted no_nodes = None
  node_in wanted (more_nodes n ns) = option_or (node_at wanted n) (node_in wanted ns)

-- a node with other fields, and with another offset
abbrev pub having_fields : List Value → PlainNode → PlainNode
having_fields fields (node number widget old scroll index children) = node number widget fields scroll index children

abbrev pub having_scroll : ℕ → PlainNode → PlainNode
having_scroll scroll (node number widget fields old index children) = node number widget fields scroll index children

-- whether a tree has a node with a number, and whether a list has
abbrev pub is_there : ℕ → PlainNode → Bool
is_there wanted n = is_some (node_at wanted n)

abbrev pub is_there_in : ℕ → PlainNodes → Bool
is_there_in wanted ns = is_some (node_in wanted ns)

-- a change of a node as the code hands it on
abbrev pub applied : Change → PlainNode → PlainNode
applied (change.Fields fields) = having_fields fields
applied (change.Scroll scroll) = having_scroll scroll

-- a tree whose first node in preorder that has a number is changed, and the same of a list
abbrev mutual
  pub changed_at : (PlainNode → PlainNode) → ℕ → PlainNode → PlainNode
  changed_at change wanted (node number widget fields scroll index children) =
      if number == wanted
      then change (node number widget fields scroll index children)
      else node number widget fields scroll index (changed_in change wanted children)

  pub changed_in : (PlainNode → PlainNode) → ℕ → PlainNodes → PlainNodes
  changed_in change wanted no_nodes = no_nodes
  changed_in change wanted (more_nodes n ns) =
      if is_there wanted n
      then more_nodes (changed_at change wanted n) ns
      else more_nodes n (changed_in change wanted ns)

-- the first laid node in preorder that has a number
abbrev mutual
  pub laid_at : ℕ → Laid → Option Laid
  laid_at wanted (laid number look facts children) =
      if number == wanted then Some (laid number look facts children) else laid_in wanted children

  pub laid_in : ℕ → Laids → Option Laid
  laid_in wanted no_laids = None
  laid_in wanted (more_laids at l ls) = option_or (laid_at wanted l) (laid_in wanted ls)
