-- The nodes below a node are fewer than the node.
use Rattle.std.specs.Prelude.{ℕ, ◌+◌, ◌≤◌, List, [], ◌∷◌}
use Rattle.std.proofs.Common.{arith, max}
use denote.Param.Weighed.{most}
use Rattle.fx_expr.specs.declared.values.Value.{Value}
use Rattle.widget_model.specs.Plain.{PlainWidget}
use Rattle.plain_tree.specs.PlainNode.{PlainNode, node, nodes_of, count_of, counts_of}

below : (ns : List PlainNode) → most (λ n. count_of n + 1) ns ≤ counts_of (nodes_of ns) + 1
below [] = omega arith
below (n ∷ ns) = omega (arith, below ns)

pub lighter : (number : ℕ) (w : PlainWidget) (fs : List Value) (s i : ℕ) (ns : List PlainNode)
    → max (most (λ n. count_of n + 1) ns) 0 ≤ count_of (node number w fs s i (nodes_of ns))
lighter number w fs s i ns = omega (arith, below ns)
