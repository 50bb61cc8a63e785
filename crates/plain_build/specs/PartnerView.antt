-- What widgets go on from, as the program says it.
use Rattle.std.specs.Prelude.{ℕ, Option, Some, None, List, slice_get}
use Rattle.std.specs.Borrow.{Bor}
use Rattle.std.specs.BTreeMap.{BTreeMap}
use Rattle.std.specs.Map.{lookup}
use Rattle.fx_expr.specs.declared.values.Value.{Value}
use Rattle.fx_expr.specs.Value.{value_eq}
use Rattle.widget_model.specs.View.{shared}
use Rattle.plain_tree.specs.PlainNode.{PlainNode}
use Rattle.plain_build.specs.declared.partners.Arrival.{Arrival as ArrivalOfWidget}
use Rattle.build_form.specs.Lent.{lent}
use Rattle.build_form.specs.Partner.{Arrival, arrival}

abbrev pub plain_arrival : ArrivalOfWidget → Arrival
plain_arrival a = arrival (shared a.widget) a.place (lent a.beside)

-- the node at an index, if there is one
abbrev pub node_of : List PlainNode → Option ℕ → Option PlainNode
node_of nodes None = None
node_of nodes (Some k) = slice_get nodes k

-- the node that a map has for a global key
abbrev pub held : BTreeMap Value (Bor PlainNode) → Value → Option PlainNode
held holders k = lent (lookup (λ j. value_eq k j) holders.entries)
