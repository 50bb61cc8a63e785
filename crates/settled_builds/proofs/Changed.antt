-- What stays of a tree in which what is below the node with a number is changed.
use Rattle.std.proofs.Common.{◌≡◌, ℕ, suc, Bool, true, false, eqb, cond, ◌∷◌, map, refl, ap, ◌∙◌}
use Rattle.plain_tree.specs.At.{is_there, changed_at, changed_in}
use Rattle.plain_tree.specs.PlainNode.{PlainNode, node, PlainNodes, no_nodes, more_nodes, list_of, widget_of, index_of}
use Rattle.settled_builds.specs.Retaken.{over}
use Rattle.settled_builds.specs.Settled.{StandInOrder}

module _ (below : PlainNodes → PlainNodes) (wanted : ℕ) where
  abbrev pub changed : PlainNode → PlainNode
  changed n = changed_at (over below) wanted n

  abbrev pub all_changed : PlainNodes → PlainNodes
  all_changed ns = changed_in (over below) wanted ns

  pub changed_widget : (n : PlainNode) → widget_of (changed n) ≡ widget_of n
  changed_widget (node number widget fields scroll index children) = by_here (eqb number wanted)
    where
      by_here : (b : Bool) → widget_of (cond {A = PlainNode} b (over below (node number widget fields scroll index children)) (node number widget fields scroll index (all_changed children))) ≡ widget
      by_here true = refl
      by_here false = refl

  pub changed_index : (n : PlainNode) → index_of (changed n) ≡ index_of n
  changed_index (node number widget fields scroll index children) = by_here (eqb number wanted)
    where
      by_here : (b : Bool) → index_of (cond {A = PlainNode} b (over below (node number widget fields scroll index children)) (node number widget fields scroll index (all_changed children))) ≡ index
      by_here true = refl
      by_here false = refl

  pub changed_widgets : (ns : PlainNodes) → map widget_of (list_of (all_changed ns)) ≡ map widget_of (list_of ns)
  changed_widgets no_nodes = refl
  changed_widgets (more_nodes n ns) = by_there (is_there wanted n) (changed_widgets ns)
    where
      by_there : (b : Bool) → map widget_of (list_of (all_changed ns)) ≡ map widget_of (list_of ns)
          → map widget_of (list_of (cond {A = PlainNodes} b (more_nodes (changed n) ns) (more_nodes n (all_changed ns)))) ≡ widget_of n ∷ map widget_of (list_of ns)
      by_there true later_ones = ap (λ w. w ∷ map widget_of (list_of ns)) (changed_widget n)
      by_there false later_ones = ap (λ vs. widget_of n ∷ vs) later_ones

  pub changed_order : (place : ℕ) (ns : PlainNodes) → StandInOrder place (list_of ns) → StandInOrder place (list_of (all_changed ns))
  changed_order place no_nodes order = tt
  changed_order place (more_nodes n ns) order = by_there (is_there wanted n) (changed_order (suc place) ns order.1)
    where
      by_there : (b : Bool) → StandInOrder (suc place) (list_of (all_changed ns)) → StandInOrder place (list_of (cond {A = PlainNodes} b (more_nodes (changed n) ns) (more_nodes n (all_changed ns))))
      by_there true later_ones = (changed_index n ∙ order.0, order.1)
      by_there false later_ones = (order.0, later_ones)
