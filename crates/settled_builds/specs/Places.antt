-- Where a node stands in a tree, and trees without global keys.
use Rattle.std.specs.Prelude.{ℕ, zero, suc, ◌+◌, ◌==◌, if◌then◌else◌, Option, Some, None, List}
use Rattle.fx_expr.specs.declared.values.Value.{Value}
use Rattle.widget_keys.specs.declared.keys.Key.{Key}
use Rattle.widget_keys.specs.declared.keys.Key.TheVariants as key
use Rattle.widget_model.specs.Plain.{key_of}
use Rattle.plain_tree.specs.At.{is_there}
use Rattle.plain_tree.specs.PlainNode.{PlainNode, node, PlainNodes, no_nodes, more_nodes, count_of, counts_of}
use Rattle.build_form.specs.Entering.{values_below}

-- a node, how many depths are left at its place, the values of the inherited names there, and how many nodes come before it in preorder, and
-- after it and all that is below it
pub record NodePlace : Type 0 where
  pub node : PlainNode
  pub left : ℕ
  pub values : List Value
  pub before : ℕ
  pub after : ℕ

-- where the first node stands that has a number, in a tree before and after which there are so many nodes
abbrev mutual
  pub spot_at : ℕ → ℕ → List Value → ℕ → ℕ → PlainNode → Option NodePlace
  spot_at wanted zero values before after (node number widget fields scroll index children) = None
  spot_at wanted (suc left) values before after (node number widget fields scroll index children) =
      if number == wanted
      then Some (record { node = node number widget fields scroll index children; left = suc left; values = values; before = before; after = after })
      else spot_in wanted left (values_below widget values) (suc before) after children

  pub spot_in : ℕ → ℕ → List Value → ℕ → ℕ → PlainNodes → Option NodePlace
  spot_in wanted left values before after no_nodes = None
  spot_in wanted left values before after (more_nodes n ns) =
      if is_there wanted n
      then spot_at wanted left values before (after + counts_of ns) n
      else spot_in wanted left values (before + count_of n) after ns

-- no widget of a tree has a global key
abbrev pub IsNoGlobal : Key Value → Type 0
IsNoGlobal key.None = Unit {0}
IsNoGlobal (key.Local k) = Unit {0}
IsNoGlobal (key.Global k) = ⊥

abbrev mutual
  pub HasNoGlobals : PlainNode → Type 0
  HasNoGlobals (node number widget fields scroll index children) = IsNoGlobal (key_of widget) × HaveNoGlobals children

  pub HaveNoGlobals : PlainNodes → Type 0
  HaveNoGlobals no_nodes = Unit {0}
  HaveNoGlobals (more_nodes n ns) = HasNoGlobals n × HaveNoGlobals ns
