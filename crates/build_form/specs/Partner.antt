-- What each child widget goes on from: which node of the old tree, or none.
use Rattle.std.specs.Prelude.{ℕ, suc, ◌==◌, Bool, if◌then◌else◌, Option, Some, None, List, [], ◌∷◌, map}
use Rattle.std.specs.List.{find}
use Rattle.fx_expr.specs.declared.values.Value.{Value}
use Rattle.widget_keys.specs.declared.keys.Key.{Key}
use Rattle.widget_keys.specs.declared.keys.Key.TheVariants as key
use Rattle.widget_model.specs.Plain.{PlainWidget, look_of, key_of}
use Rattle.widget_model.specs.Plain.{children_of as child_widgets}
use Rattle.widget_model.specs.Update.{key_eq, same_type, updates}
use Rattle.reconcile.specs.Matching.{matching}
use Rattle.plain_tree.specs.PlainNode.{PlainNode, widget_of, index_of, children_of}
use Rattle.plain_tree.specs.States.{preorder_of}
use Rattle.build_form.specs.BuildRole.{build_role_of, is_lazy}

-- ---- by place

-- the whole list of child widgets that a node had: of a lazy list also those that were no nodes; of a component what its
-- body gave
abbrev pub widgets_below : PlainNode → List PlainWidget
widgets_below n =
    if is_lazy (build_role_of (look_of (widget_of n))) then child_widgets (widget_of n) else map widget_of (children_of n)

-- the node that stood at a place among its parent's child widgets
abbrev pub node_at : List PlainNode → ℕ → Option PlainNode
node_at nodes place = find (λ n. index_of n == place) nodes

abbrev pub node_at_any : List PlainNode → Option ℕ → Option PlainNode
node_at_any nodes None = None
node_at_any nodes (Some place) = node_at nodes place

-- a widget that is to be entered: its place among its parent's child widgets, and the node that it is matched to by place
-- and key among the child widgets that the parent had
pub record Arrival : Type 0 where
  pub widget : PlainWidget
  pub place : ℕ
  pub beside : Option PlainNode

abbrev pub arrival : PlainWidget → ℕ → Option PlainNode → Arrival
arrival w place beside = record { widget = w; place = place; beside = beside }

-- child widgets from a place on, each with the old place that it is matched to
abbrev pub arrivals_from : List PlainNode → ℕ → List PlainWidget → List (Option ℕ) → List Arrival
arrivals_from nodes place [] matched = []
arrivals_from nodes place (w ∷ ws) [] = arrival w place None ∷ arrivals_from nodes (suc place) ws []
arrivals_from nodes place (w ∷ ws) (m ∷ ms) = arrival w place (node_at_any nodes m) ∷ arrivals_from nodes (suc place) ws ms

-- the nodes below the old node that a node goes on from, and their whole list of child widgets; a new node has none
abbrev pub nodes_had : Option PlainNode → List PlainNode
nodes_had None = []
nodes_had (Some n) = children_of n

abbrev pub widgets_had : Option PlainNode → List PlainWidget
widgets_had None = []
widgets_had (Some n) = widgets_below n

-- the child widgets of a node, whose whole list is matched to the one that there was
abbrev pub arrivals : Option PlainNode → List PlainWidget → List Arrival
arrivals partner ws = arrivals_from (nodes_had partner) 0 ws (matching (widgets_had partner) ws)

-- the root, which is matched as a list of one against the old root
abbrev pub beside_root : Option PlainNode → PlainWidget → Option PlainNode
beside_root None w = None
beside_root (Some n) w = if updates (widget_of n) w then Some n else None

abbrev pub root_arrival : Option PlainNode → PlainWidget → Arrival
root_arrival old w = arrival w 0 (beside_root old w)

-- ---- by global key

-- the node of the old tree that had a global key
abbrev pub has_global : Value → PlainNode → Bool
has_global k n = key_eq (key.Global k) (key_of (widget_of n))

abbrev pub holder_in : Option PlainNode → Value → Option PlainNode
holder_in None k = None
holder_in (Some old) k = find (has_global k) (preorder_of old)

-- a node, where it has a widget's type
abbrev pub of_type : PlainWidget → Option PlainNode → Option PlainNode
of_type w None = None
of_type w (Some n) = if same_type (widget_of n) w then Some n else None

-- the node that a widget may go on from: with a global key the one that had this key, wherever it stood, and no other;
-- else the one that it is matched to by place
abbrev pub candidate : Key Value → (Value → Option PlainNode) → Option PlainNode → Option PlainNode
candidate key.None holder beside = beside
candidate (key.Local k) holder beside = beside
candidate (key.Global k) holder beside = holder k

-- it does where that node has its type
abbrev pub partner_of : (Value → Option PlainNode) → Arrival → Option PlainNode
partner_of holder a = of_type a.widget (candidate (key_of a.widget) holder a.beside)
