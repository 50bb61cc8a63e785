-- Trees of widgets whose members lie in their ranges.
use Rattle.widget_model.specs.Plain.{look_of}
use Rattle.widget_model.specs.Typed.{Declarations, FitMembers}
use Rattle.plain_tree.specs.PlainNode.{PlainNode, node, PlainNodes, no_nodes, more_nodes}

abbrev mutual
  pub HasMembers : Declarations → PlainNode → Type 0
  HasMembers p (node number widget fields scroll index children) = FitMembers p (look_of widget) × AllHaveMembers p children

  pub AllHaveMembers : Declarations → PlainNodes → Type 0
  AllHaveMembers p no_nodes = Unit {0}
  AllHaveMembers p (more_nodes n ns) = HasMembers p n × AllHaveMembers p ns
