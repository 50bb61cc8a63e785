-- The items of lazy lists put into a forest, and their plans into the forest's plan.
use Rattle.std.specs.Prelude.{◌≡◌, Bool, true, false, if◌then◌else◌, Some, List, [], ◌∷◌, ◌++◌}
use Rattle.fx_handles.specs.declared.Handle.{Handle}
use Rattle.node_tree.specs.Forest.{Forest, tops}
use Rattle.node_tree.specs.Forest.Forest.{none, tree}
use Rattle.node_tree.specs.Plan.{PlanEntry, entries}
use Rattle.widget_model.specs.Plain.{PlainWidget, look_of}
use Rattle.plain_tree.specs.PlainNode.{PlainNode, node, PlainNodes, no_nodes, more_nodes}
use Rattle.build_form.specs.BuildRole.{build_role_of, is_lazy}
use Rattle.element_tree.specs.Element.{Element}
use Rattle.element_tree.specs.Renewal.{Renewal}
use Rattle.render_tree.specs.Redraw.{Redraw}

-- ---- which nodes are lazy lists

abbrev pub lists_items : PlainWidget → Bool
lists_items w = is_lazy (build_role_of (look_of w))

abbrev pub lists_element : Element → Bool
lists_element e = lists_items e.widget

abbrev pub lists_renewal : Renewal → Bool
lists_renewal u = lists_items u.widget

abbrev pub lists_redraw : Redraw → Bool
lists_redraw u = lists_items u.widget

-- ---- forests

-- a forest whose lists have their items, and the items of later lists
pub record Grown (T : Type 0) : Type 0 where
  pub forest : Forest T
  pub rest : List (Forest T)

abbrev pub grown : {T : Type 0} → Forest T → List (Forest T) → Grown T
grown f gs = record { forest = f; rest = gs }

module _ {T : Type 0} where
  abbrev pub first_forest : List (Forest T) → Forest T
  first_forest [] = none
  first_forest (g ∷ gs) = g

  abbrev pub later_forests : List (Forest T) → List (Forest T)
  later_forests [] = []
  later_forests (g ∷ gs) = gs

  -- below a list stand the first items, below another node what is below it with its items
  abbrev pub grown_below : Bool → List (Forest T) → Grown T → Grown T
  grown_below true gs others = grown (first_forest gs) (later_forests gs)
  grown_below false gs others = others

module _ {T : Type 0} (lists : T → Bool) where
  abbrev pub grow : Forest T → List (Forest T) → Grown T
  grow none gs = grown none gs
  grow (tree h v kids rest) gs =
      let below = grown_below (lists v) gs (grow kids gs) in
      let later = grow rest below.rest in
      grown (tree h v below.forest later.forest) later.rest

  -- the handles of the lists, from first to last
  abbrev pub list_handles : Forest T → List Handle
  list_handles none = []
  list_handles (tree h v kids rest) = (if lists v then h ∷ [] else list_handles kids) ++ list_handles rest

  -- nothing is below a list
  abbrev pub AreBare : Forest T → Type 0
  AreBare none = Unit {0}
  AreBare (tree h v kids rest) = (lists v ≡ true → kids ≡ none) × AreBare kids × AreBare rest

-- ---- plans

-- what was planned for the items of one list: their handles, and their entries
pub record Serving (U : Type 0) : Type 0 where
  pub children : List Handle
  pub entries : List (PlanEntry U)

-- a plan whose lists have their items, and what was planned for those of later lists
pub record Merged (U : Type 0) : Type 0 where
  pub plan : List (PlanEntry U)
  pub rest : List (Serving U)

abbrev pub merged : {U : Type 0} → List (PlanEntry U) → List (Serving U) → Merged U
merged es ss = record { plan = es; rest = ss }

module _ {U : Type 0} where
  -- the plan of some items below a list
  abbrev pub serving : Handle → Forest U → Serving U
  serving h g = record { children = tops g; entries = entries (Some h) g }

  abbrev pub serving_each : List Handle → List (Forest U) → List (Serving U)
  serving_each [] gs = []
  serving_each (h ∷ hs) gs = serving h (first_forest gs) ∷ serving_each hs (later_forests gs)

  abbrev pub first_serving : List (Serving U) → Serving U
  first_serving [] = record { children = []; entries = [] }
  first_serving (s ∷ ss) = s

  abbrev pub later_servings : List (Serving U) → List (Serving U)
  later_servings [] = []
  later_servings (s ∷ ss) = ss

  -- an entry with these children
  abbrev pub listing : List Handle → PlanEntry U → PlanEntry U
  listing hs e = record { at = e.at; parent = e.parent; children = hs; update = e.update }

  -- the entry of a list comes after those of its items, and has their handles
  abbrev pub merge_at : Bool → PlanEntry U → List (Serving U) → (List (Serving U) → Merged U) → Merged U
  merge_at true e ss later =
      let m = later (later_servings ss) in
      merged ((first_serving ss).entries ++ (listing (first_serving ss).children e ∷ m.plan)) m.rest
  merge_at false e ss later =
      let m = later ss in
      merged (e ∷ m.plan) m.rest

module _ {U : Type 0} (lists : U → Bool) where
  abbrev pub merge : List (PlanEntry U) → List (Serving U) → Merged U
  merge [] ss = merged [] ss
  merge (e ∷ es) ss = merge_at (lists e.update) e ss (merge es)

-- ---- the tree of the first phase

-- nothing is below a lazy list of it
abbrev mutual
  pub ListsAreBare : PlainNode → Type 0
  ListsAreBare (node number widget fields scroll index children) = (lists_items widget ≡ true → children ≡ no_nodes) × AllListsAreBare children

  pub AllListsAreBare : PlainNodes → Type 0
  AllListsAreBare no_nodes = Unit {0}
  AllListsAreBare (more_nodes n ns) = ListsAreBare n × AllListsAreBare ns
