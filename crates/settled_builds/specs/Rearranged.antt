-- What is laid out of a tree in which nodes took other widgets where they are matched: the same render nodes in another order, with the kinds
-- that these widgets have.
use Rattle.std.specs.Prelude.{◌≡◌, ℕ, ◌==◌, Bool, true, not, ◌&&◌, ◌||◌, if◌then◌else◌, Option, Some, None, List, [], ◌∷◌, ◌++◌, map, slice_get}
use Rattle.std.specs.List.{find}
use Rattle.std.specs.Option.{option_to_list}
use Rattle.widget_model.specs.Look.{Look}
use Rattle.widget_model.specs.Plain.{PlainWidget, look_of}
use Rattle.widget_model.specs.Plain.{children_of as child_widgets}
use Rattle.reconcile.specs.Matching.{matching}
use Rattle.plain_tree.specs.Laws.{VanishAlone}
use Rattle.plain_tree.specs.PlainNode.{PlainNode, node, PlainNodes, no_nodes, more_nodes, list_of, widget_of}
use Rattle.plain_tree.specs.Projection.{render_of}
use Rattle.plain_tree.specs.Render.{Render, render, Renders, no_renders, more_renders, renders_of}
use Rattle.plain_tree.specs.RenderRole.{render_role_of, vanishes}
use Rattle.build_form.specs.Entering.{Blueprint, depth_limit}
use Rattle.build_form.specs.Laws.{NumbersAre}
use Rattle.build_walk.specs.Past.{is_marked}
use Rattle.work_sets.specs.Members.{is_same_widget}
use Rattle.settled_builds.specs.Looks.{NewLook, new_look, look_after}
use Rattle.settled_builds.specs.Places.{NodePlace, spot_at}
use Rattle.settled_builds.specs.Retaken.{gathered, all_asked}
use Rattle.settled_builds.specs.Taken.{nodes_below}

-- the children of the node with a number stand in another order: each place of the new one has the old place of the child that stands there
pub record NewOrder : Type 0 where
  pub number : ℕ
  pub places : List (Option ℕ)

-- ---- where widgets are taken

-- the looks of the nodes that take another widget, each before those below it
abbrev mutual
  pub looks_retaken : PlainNode → PlainWidget → List NewLook
  looks_retaken (node number widget fields scroll index children) w =
      if is_same_widget widget w then []
      else (new_look number (look_of w) ∷ gathered (each_looks children) 0 (child_widgets w) (matching (map widget_of (list_of children)) (child_widgets w)))

  pub each_looks : PlainNodes → List (PlainWidget → ℕ → List NewLook)
  each_looks no_nodes = []
  each_looks (more_nodes n ns) = (λ w place. looks_retaken n w) ∷ each_looks ns

-- and the orders of their children
abbrev mutual
  pub orders_retaken : PlainNode → PlainWidget → List NewOrder
  orders_retaken (node number widget fields scroll index children) w =
      if is_same_widget widget w then []
      else (record { number = number; places = matching (map widget_of (list_of children)) (child_widgets w) } ∷ gathered (each_order children) 0 (child_widgets w) (matching (map widget_of (list_of children)) (child_widgets w)))

  pub each_order : PlainNodes → List (PlainWidget → ℕ → List NewOrder)
  each_order no_nodes = []
  each_order (more_nodes n ns) = (λ w place. orders_retaken n w) ∷ each_order ns

-- whether each node that takes another widget has a render node
abbrev mutual
  pub are_retaken_drawn : PlainNode → PlainWidget → Bool
  are_retaken_drawn (node number widget fields scroll index children) w =
      is_same_widget widget w
      || (not (vanishes (render_role_of (look_of widget))) && all_asked (each_drawn children) (child_widgets w) (matching (map widget_of (list_of children)) (child_widgets w)))

  pub each_drawn : PlainNodes → List (PlainWidget → Bool)
  each_drawn no_nodes = []
  each_drawn (more_nodes n ns) = are_retaken_drawn n ∷ each_drawn ns

-- ---- other looks and orders, by number

-- those of a list that stand at these places
abbrev pub at_some : {A : Type 0} → List A → Option ℕ → List A
at_some xs None = []
at_some xs (Some j) = option_to_list (slice_get xs j)

abbrev pub at_all : {A : Type 0} → List A → List (Option ℕ) → List A
at_all xs [] = []
at_all xs (m ∷ ms) = at_some xs m ++ at_all xs ms

abbrev pub order_or : {A : Type 0} → Option NewOrder → List A → List A
order_or None xs = xs
order_or (Some o) xs = at_all xs o.places

-- a list of children after these orders: in that of the first one of the node's number, or else as it was
abbrev pub order_after : {A : Type 0} → List NewOrder → ℕ → List A → List A
order_after orders number xs = order_or (find (λ o. o.number == number) orders) xs

-- none of these is of a number
abbrev pub TellsNothing : List NewLook → List NewOrder → ℕ → Type 0
TellsNothing looks orders number = (find (λ n. n.number == number) looks ≡ None) × (find (λ o. o.number == number) orders ≡ None)

-- render nodes with other looks, and their children in other orders
abbrev mutual
  pub rearranged : (ℕ → Look → Look) → (ℕ → List Render → List Render) → Render → Render
  rearranged change order (render number look parent_data scroll count children) =
      render number (change number look) parent_data scroll count (renders_of (order number (all_rearranged change order children)))

  pub all_rearranged : (ℕ → Look → Look) → (ℕ → List Render → List Render) → Renders → List Render
  all_rearranged change order no_renders = []
  all_rearranged change order (more_renders r rs) = rearranged change order r ∷ all_rearranged change order rs

-- ---- below one node whose children take widgets

abbrev pub looks_in : List PlainWidget → PlainNode → List NewLook
looks_in ws n = gathered (each_looks (nodes_below n)) 0 ws (matching (map widget_of (list_of (nodes_below n))) ws)

abbrev pub orders_in : List PlainWidget → PlainNode → List NewOrder
orders_in ws n = gathered (each_order (nodes_below n)) 0 ws (matching (map widget_of (list_of (nodes_below n))) ws)

abbrev pub drawn_in : List PlainWidget → PlainNode → Bool
drawn_in ws n = all_asked (each_drawn (nodes_below n)) ws (matching (map widget_of (list_of (nodes_below n))) ws)

-- ---- after several steps

-- what is laid out of a tree is what is laid out of an older one, with these looks and in these orders, of which none is of a marked component
-- or of what is below it
pub record IsRearrangedFrom (b : Blueprint) (marks : List ℕ) (looks : List NewLook) (orders : List NewOrder) (old tree : PlainNode) : Type 0 where
  pub drawn : render_of tree ≡ all_rearranged (look_after looks) (order_after orders) (renders_of (render_of old))
  pub alone : VanishAlone tree
  pub untold : (k : ℕ) (p : NodePlace) → is_marked marks k ≡ true → spot_at k depth_limit b.defaults 0 0 tree ≡ Some p → NumbersAre (TellsNothing looks orders) p.node
