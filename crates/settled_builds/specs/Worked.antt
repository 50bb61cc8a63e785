-- Small trees that a build leaves as they are, and some that it doesn't, worked by hand.
use Rattle.std.specs.Prelude.{◌≡◌, ℕ, [], ◌∷◌}
use Rattle.fx_expr.specs.Scope.{value_at}
use Rattle.widget_keys.specs.declared.keys.Key.TheVariants as key
use Rattle.widget_model.specs.Look.{colored_box, sliver_to_box, viewport}
use Rattle.widget_model.specs.Plain.{PlainWidget}
use Rattle.fx_geom.specs.declared.shapes.Axis.TheVariants.{Vertical}
use Rattle.build_form.specs.Entering.{Blueprint}
use Rattle.build_form.specs.FullBuild.{Built, failed, built}
use Rattle.build_form.specs.Worked.{starting, again, set, scroll, int, ints, keyed, list_root, moving, in_first, in_second, item, use_of, color_in, bare, line, widget, reading, giving, reads, both, holding_one, by_their_keys}
use Rattle.settled_builds.specs.Settled.{IsSettledFor}
use Rattle.settled_builds.specs.Taken.{IsMarkedFor}
use Rattle.plain_tree.specs.PlainNode.{PlainNode, node, no_nodes, more_nodes}

-- what is settled of a build
abbrev pub IsSettledBuilt : Blueprint → PlainWidget → Built → Type 0
IsSettledBuilt p root (failed fault) = ⊥
IsSettledBuilt p root (built tree next) = IsSettledFor p [] root tree

-- a viewport around a reader
abbrev pub window : PlainWidget
window = holding_one (viewport Vertical) (holding_one sliver_to_box reads)

abbrev pub two_readers : PlainWidget
two_readers = both (giving 1 (giving 2 reads) ∷ reads ∷ [])

-- the trees before the frame that is looked at
abbrev pub listed_tree : Built
listed_tree = starting keyed list_root

abbrev pub reordered_tree : Built
reordered_tree = set 1 (ints (3 ∷ 2 ∷ 1 ∷ [])) listed_tree

abbrev pub moved_tree : Built
moved_tree = again moving in_second (set 3 (int 7 ∷ []) (starting moving in_first))

abbrev pub scrolled_tree : Built
scrolled_tree = scroll 1 40000 (starting reading window)

abbrev pub scrolled_list : Built
scrolled_list = scroll 1 40000 (starting keyed by_their_keys)

-- ---- one component is marked

-- components that show their field as a color
abbrev pub showing : Blueprint
showing = record {
  output = λ place props slots fields values number. widget line key.None (bare (colored_box (color_in (value_at fields 0))) ∷ bare (colored_box 5) ∷ []) ∷ [];
  initial = λ place props. int 4 ∷ [];
  defaults = [];
  nodes = 65536;
}

abbrev pub shown : ℕ → PlainWidget
shown n = widget line key.None (bare (colored_box n) ∷ bare (colored_box 5) ∷ [])

abbrev pub two_shown : PlainWidget
two_shown = both (use_of 0 item key.None [] [] ∷ use_of 0 item key.None [] [] ∷ [])

-- the first of the two has another field
abbrev pub recolored_tree : Built
recolored_tree = set 2 (int 9 ∷ []) (starting showing two_shown)

-- the nodes of such a component, and of a tree of two: the field of the first one is another than what is below it shows
abbrev pub shown_nodes : ℕ → ℕ → ℕ → ℕ → ℕ → ℕ → PlainNode
shown_nodes number below left right field index =
    node number (use_of 0 item key.None [] []) (int field ∷ []) 0 index
    (more_nodes
    (node below (shown 4) [] 0 0 (more_nodes (node left (bare (colored_box 4)) [] 0 0 no_nodes) (more_nodes (node right (bare (colored_box 5)) [] 0 1 no_nodes) no_nodes)))
    no_nodes)

abbrev pub recolored_nodes : PlainNode
recolored_nodes = node 1 two_shown [] 0 0 (more_nodes (shown_nodes 2 3 4 5 9 0) (more_nodes (shown_nodes 6 7 8 9 4 1) no_nodes))

pub record WorksOfSettledTrees : Type 0 where
  -- a component around components with keys; providers and readers; a state that has moved by its global key; and what is scrolled
  pub listed : again keyed list_root listed_tree ≡ listed_tree
  pub readers : again reading two_readers (starting reading two_readers) ≡ starting reading two_readers
  pub moved : again moving in_second moved_tree ≡ moved_tree
  pub scrolled : again reading window scrolled_tree ≡ scrolled_tree
  pub settled : IsSettledBuilt reading (giving 1 reads) (starting reading (giving 1 reads))
  -- a component whose field was set has something else below it; and a lazy list that is scrolled gets other items
  pub set_since : again keyed list_root reordered_tree ≡ reordered_tree → ⊥
  pub stale : IsSettledBuilt keyed list_root reordered_tree → ⊥
  pub scrolled_since : again keyed by_their_keys scrolled_list ≡ scrolled_list → ⊥
  pub listed_lazily : IsSettledBuilt keyed by_their_keys (starting keyed by_their_keys) → ⊥
  -- another root, even one that differs by a value that is read by none
  pub other_root : IsSettledBuilt reading (giving 2 reads) (starting reading (giving 1 reads)) → ⊥
  -- a component whose field was set is the one that is marked, and no other one is
  pub nodes : recolored_tree ≡ built recolored_nodes 10
  pub marked : IsMarkedFor showing (2 ∷ []) 2 two_shown recolored_nodes
  pub unmarked : IsMarkedFor showing [] 2 two_shown recolored_nodes → ⊥
  pub both_marked : IsMarkedFor showing (2 ∷ 6 ∷ []) 2 two_shown recolored_nodes → ⊥
