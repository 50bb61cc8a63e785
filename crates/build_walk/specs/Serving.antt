-- The second phase as one pass over the lazy lists of the first one's tree, from first to last.
use Rattle.std.specs.Prelude.{ℕ, ◌-◌, List, [], ◌∷◌, ◌++◌, length}
use Rattle.fx_expr.specs.declared.values.Value.{Value}
use Rattle.widget_model.specs.Plain.{PlainWidget, look_of}
use Rattle.widget_model.specs.Plain.{children_of as child_widgets}
use Rattle.plain_tree.specs.PlainNode.{PlainNode, node, PlainNodes, no_nodes, more_nodes, nodes_of}
use Rattle.build_form.specs.Step.{Progress, Step, each}
use Rattle.build_form.specs.BuildRole.{BuildRole, composes, provides, keeps, lists, holds, build_role_of}
use Rattle.build_form.specs.Partner.{Arrival, arrivals}
use Rattle.build_form.specs.Entering.{Basis, second, values_below}
use Rattle.build_form.specs.FullBuild.{Ranges, items, next_waiting, one_served}
use Rattle.build_walk.specs.Past.{Pasts}
use Rattle.build_walk.specs.Keeping.{reenter}
use Rattle.build_walk.specs.Counting.{builds_from, builds_by_each}

-- a lazy list that waits: its number, the extent of each child, its child widgets, and how many depths are left below it and
-- which values the inherited names have there
pub record WaitingList : Type 0 where
  pub number : ℕ
  pub extent : ℕ
  pub widgets : List PlainWidget
  pub left : ℕ
  pub values : List Value

-- a lazy list itself, of another node those below it
abbrev pub list_or : BuildRole → (ℕ → WaitingList) → List WaitingList → List WaitingList
list_or (composes place props) itself others = others
list_or (provides name value) itself others = others
list_or (keeps kept) itself others = others
list_or (lists extent) itself others = itself extent ∷ []
list_or holds itself others = others

-- those of a tree, where so many depths are left at its top and the inherited names have these values there
abbrev mutual
  pub waiting_lists : ℕ → List Value → PlainNode → List WaitingList
  waiting_lists left values (node number widget fields scroll index children) =
      list_or (build_role_of (look_of widget))
      (λ extent. record { number = number; extent = extent; widgets = child_widgets widget; left = left - 1; values = values_below widget values })
      (all_waiting_lists (left - 1) (values_below widget values) children)

  pub all_waiting_lists : ℕ → List Value → PlainNodes → List WaitingList
  all_waiting_lists left values no_nodes = []
  all_waiting_lists left values (more_nodes n ns) = waiting_lists left values n ++ all_waiting_lists left values ns

-- the items of a list, which are entered in rising order
abbrev pub items_of : Ranges → WaitingList → Progress → List Arrival
items_of ranges l s = items (ranges l.number l.extent (length l.widgets)) (arrivals (next_waiting s.waiting) l.widgets)

abbrev pub served : Basis → Pasts → Ranges → WaitingList → Progress → Step (List PlainNode)
served from pasts ranges l s = each (reenter from pasts second l.left l.values) (items_of ranges l s) (one_served s)

-- and how many components are built with them
abbrev pub builds_serving : Basis → Pasts → Ranges → WaitingList → Progress → ℕ
builds_serving from pasts ranges l s =
    builds_by_each (reenter from pasts second l.left l.values) (builds_from from pasts second l.left l.values) (items_of ranges l s) (one_served s)

-- ---- the items put in place

-- what has its items, and the items of later lists
pub record Put (A : Type 0) : Type 0 where
  pub whole : A
  pub rest : List (List PlainNode)

abbrev pub put : {A : Type 0} → A → List (List PlainNode) → Put A
put whole rest = record { whole = whole; rest = rest }

abbrev pub first_items : List (List PlainNode) → PlainNodes
first_items [] = no_nodes
first_items (ns ∷ nss) = nodes_of ns

abbrev pub later_items : List (List PlainNode) → List (List PlainNode)
later_items [] = []
later_items (ns ∷ nss) = nss

-- below a lazy list stand the first items, below another node what is below it with its items
abbrev pub put_below : BuildRole → List (List PlainNode) → Put PlainNodes → Put PlainNodes
put_below (composes place props) nss others = others
put_below (provides name value) nss others = others
put_below (keeps kept) nss others = others
put_below (lists extent) nss others = put (first_items nss) (later_items nss)
put_below holds nss others = others

abbrev mutual
  pub put_in : PlainNode → List (List PlainNode) → Put PlainNode
  put_in (node number widget fields scroll index children) nss =
      let below = put_below (build_role_of (look_of widget)) nss (all_put_in children nss) in
      put (node number widget fields scroll index below.whole) below.rest

  pub all_put_in : PlainNodes → List (List PlainNode) → Put PlainNodes
  all_put_in no_nodes nss = put no_nodes nss
  all_put_in (more_nodes n ns) nss =
      let here = put_in n nss in
      let later = all_put_in ns here.rest in
      put (more_nodes here.whole later.whole) later.rest
