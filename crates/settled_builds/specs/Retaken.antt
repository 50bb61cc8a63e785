-- Nodes that take other widgets, each where it is matched: what is below a node takes the child widgets of its new widget, in any order.
use Rattle.std.specs.Prelude.{ℕ, suc, ◌==◌, Bool, true, false, not, ◌&&◌, ◌||◌, if◌then◌else◌, Option, Some, None, is_some, List, [], ◌∷◌, ◌++◌, map, length, slice_get}
use Rattle.widget_model.specs.Plain.{PlainWidget, look_of, key_of}
use Rattle.widget_model.specs.Plain.{children_of as child_widgets}
use Rattle.widget_model.specs.Update.{updates}
use Rattle.reconcile.specs.Matching.{matching}
use Rattle.plain_tree.specs.At.{changed_at}
use Rattle.plain_tree.specs.PlainNode.{PlainNode, node, PlainNodes, no_nodes, more_nodes, nodes_of, list_of, widget_of}
use Rattle.build_form.specs.BuildRole.{build_role_of}
use Rattle.build_form.specs.Entering.{first_repeated}
use Rattle.work_sets.specs.Members.{is_same_widget}
use Rattle.settled_builds.specs.Taken.{has_own_children}

-- ---- what is gathered of widgets one after another, each at its place, from the one of these at the old place to which it is matched

abbrev pub gathered_by : {A : Type 0} → Option (PlainWidget → ℕ → List A) → PlainWidget → ℕ → List A
gathered_by None w place = []
gathered_by (Some take) w place = take w place

abbrev pub gathered_at : {A : Type 0} → List (PlainWidget → ℕ → List A) → Option ℕ → PlainWidget → ℕ → List A
gathered_at takes None w place = []
gathered_at takes (Some j) w place = gathered_by (slice_get takes j) w place

abbrev pub gathered : {A : Type 0} → List (PlainWidget → ℕ → List A) → ℕ → List PlainWidget → List (Option ℕ) → List A
gathered takes place [] ms = []
gathered takes place (w ∷ ws) [] = []
gathered takes place (w ∷ ws) (m ∷ ms) = gathered_at takes m w place ++ gathered takes (suc place) ws ms

-- a node that takes a widget at a place: one that has the widget stays as it is, with all below it
abbrev mutual
  pub retaking : PlainNode → PlainWidget → ℕ → PlainNode
  retaking (node number widget fields scroll index children) w place =
      if is_same_widget widget w
      then node number widget fields scroll place children
      else node number w fields scroll place (nodes_of (gathered (each_taking children) 0 (child_widgets w) (matching (map widget_of (list_of children)) (child_widgets w))))

  -- what each of these nodes becomes that takes a widget at a place
  pub each_taking : PlainNodes → List (PlainWidget → ℕ → List PlainNode)
  each_taking no_nodes = []
  each_taking (more_nodes n ns) = (λ w place. retaking n w place ∷ []) ∷ each_taking ns

-- ---- whether they can: each of the widgets is asked of the one at the old place to which it is matched

abbrev pub asked_by : Option (PlainWidget → Bool) → PlainWidget → Bool
asked_by None w = false
asked_by (Some can) w = can w

abbrev pub asked_at : List (PlainWidget → Bool) → Option ℕ → PlainWidget → Bool
asked_at cans None w = false
asked_at cans (Some j) w = asked_by (slice_get cans j) w

abbrev pub all_asked : List (PlainWidget → Bool) → List PlainWidget → List (Option ℕ) → Bool
all_asked cans [] ms = true
all_asked cans (w ∷ ws) [] = false
all_asked cans (w ∷ ws) (m ∷ ms) = asked_at cans m w && all_asked cans ws ms

-- no two of them have one key
abbrev pub are_apart : List PlainWidget → Bool
are_apart ws = not (is_some (first_repeated [] (map key_of ws)))

-- these widgets can follow old ones, of which each is asked so: they are as many, no two have one key, and each is matched to one that can take it
abbrev pub can_follow_all : List PlainWidget → List PlainWidget → List (PlainWidget → Bool) → Bool
can_follow_all olds ws cans = (length olds == length ws) && (are_apart ws && all_asked cans ws (matching olds ws))

-- a node has this widget, or can take it: it can be updated to it, both have their own children, and those below it can take these
abbrev mutual
  pub can_retake : PlainNode → PlainWidget → Bool
  can_retake (node number widget fields scroll index children) w =
      is_same_widget widget w
      || (updates widget w
      && (has_own_children (build_role_of (look_of widget)) && (has_own_children (build_role_of (look_of w)) && can_follow_all (map widget_of (list_of children)) (child_widgets w) (each_can children))))

  pub each_can : PlainNodes → List (PlainWidget → Bool)
  each_can no_nodes = []
  each_can (more_nodes n ns) = can_retake n ∷ each_can ns

-- ---- below one node, and in a whole tree

-- a node of which what is below it is changed
abbrev pub over : (PlainNodes → PlainNodes) → PlainNode → PlainNode
over below (node number widget fields scroll index children) = node number widget fields scroll index (below children)

-- children that take widgets
abbrev pub all_retaking : List PlainWidget → PlainNodes → PlainNodes
all_retaking ws ns = nodes_of (gathered (each_taking ns) 0 ws (matching (map widget_of (list_of ns)) ws))

abbrev pub retaking_below : List PlainWidget → PlainNode → PlainNode
retaking_below ws n = over (all_retaking ws) n

abbrev pub can_retake_below : List PlainWidget → PlainNode → Bool
can_retake_below ws (node number widget fields scroll index children) = can_follow_all (map widget_of (list_of children)) ws (each_can children)

-- the tree in which those below the node with a number do
abbrev pub retaken : List PlainWidget → ℕ → PlainNode → PlainNode
retaken ws wanted tree = changed_at (over (all_retaking ws)) wanted tree
