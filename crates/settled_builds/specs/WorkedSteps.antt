-- Steps of frames over small trees, worked by hand.
use Rattle.std.specs.Prelude.{◌==◌, if◌then◌else◌, ◌≡◌, ℕ, zero, suc, ℤ, pos, Bool, true, false, Option, Some, None, List, [], ◌∷◌, map}
use Rattle.fx_expr.specs.declared.values.Value.{Value}
use Rattle.fx_expr.specs.declared.values.Ty.TheVariants as ty
use Rattle.fx_expr.specs.Scope.{value_at}
use Rattle.widget_keys.specs.declared.keys.Key.TheVariants as key
use Rattle.widget_model.specs.declared.decl.Decl.{Decl}
use Rattle.widget_model.specs.Look.{colored_box, inherit}
use Rattle.widget_model.specs.Plain.{PlainWidget}
use Rattle.plain_tree.specs.At.{node_at}
use Rattle.plain_tree.specs.PlainNode.{PlainNode, node, no_nodes, more_nodes}
use Rattle.plain_tree.specs.Projection.{render_of}
use Rattle.plain_tree.specs.Render.{Render, renders_of}
use Rattle.build_form.specs.Entering.{Blueprint}
use Rattle.build_form.specs.FullBuild.{Built, failed, built}
use Rattle.build_form.specs.Worked.{screen, starting, again, set, int, ints, keyed, list_root, by_key, items_by, use_of, item, line, widget, bare, color_in, holding_one, both, numbers_in}
use Rattle.work_sets.specs.Entered.{Entered, entered_widgets}
use Rattle.build_walk.specs.Standing.{all_builds}
use Rattle.settled_builds.specs.Looks.{NewLook, look_after}
use Rattle.settled_builds.specs.Rearranged.{NewOrder, all_rearranged, order_after, looks_in, orders_in}
use Rattle.settled_builds.specs.Regiven.{regiven, readers_in}
use Rattle.settled_builds.specs.Retaken.{can_retake_below, retaken}
use Rattle.settled_builds.specs.Taken.{nodes_below}
use Rattle.settled_builds.specs.Worked.{showing, two_shown}

-- ---- of what a build came to

abbrev pub retaken_built : List PlainWidget → ℕ → Built → Built
retaken_built ws wanted (failed fault) = failed fault
retaken_built ws wanted (built tree next) = built (retaken ws wanted tree) next

abbrev pub can_in : List PlainWidget → Built → Bool
can_in ws (failed fault) = false
can_in ws (built tree next) = can_retake_below ws tree

abbrev pub drawn_of : Built → List Render
drawn_of (failed fault) = []
drawn_of (built tree next) = render_of tree

abbrev pub looks_of : List PlainWidget → Built → List NewLook
looks_of ws (failed fault) = []
looks_of ws (built tree next) = looks_in ws tree

abbrev pub orders_of : List PlainWidget → Built → List NewOrder
orders_of ws (failed fault) = []
orders_of ws (built tree next) = orders_in ws tree

abbrev pub found_at : ℕ → Built → Option PlainNode
found_at n (failed fault) = None
found_at n (built m next) = node_at n m

abbrev pub entered_by : Blueprint → PlainWidget → Built → List Entered
entered_by b root (failed fault) = []
entered_by b root (built tree next) = entered_widgets b screen (Some tree) next root

abbrev pub counted_of : Blueprint → List ℕ → PlainWidget → Built → ℕ
counted_of b marks root (failed fault) = 999
counted_of b marks root (built tree next) = all_builds b screen (Some tree) marks next root

-- ---- a row of what has keys, in the order of the field: components, or boxes of which each has the color of its place

abbrev pub colored_by : List ℤ → ℕ → List PlainWidget
colored_by [] c = []
colored_by (n ∷ ns) c = widget (colored_box c) (by_key n) [] ∷ colored_by ns (suc c)

abbrev pub coloring : Blueprint
coloring = record {
  output = λ place props slots fields values number. widget line key.None (colored_by (numbers_in (value_at fields 0)) 1) ∷ [];
  initial = λ place props. ints (1 ∷ 2 ∷ 3 ∷ []);
  defaults = [];
  nodes = 65536;
}

abbrev pub listing : List ℕ → List PlainWidget
listing ns = widget line key.None (items_by by_key (map (λ n. pos n) ns)) ∷ []

abbrev pub colored : List ℕ → List PlainWidget
colored ns = widget line key.None (colored_by (map (λ n. pos n) ns) 1) ∷ []

abbrev pub reordered_list : Built
reordered_list = set 1 (ints (3 ∷ 1 ∷ 2 ∷ [])) (starting keyed list_root)

abbrev pub reordered_boxes : Built
reordered_boxes = set 1 (ints (3 ∷ 1 ∷ 2 ∷ [])) (starting coloring list_root)

-- ---- two components that show their field as a color

abbrev pub shown_below : ℕ → List PlainWidget
shown_below n = widget line key.None (bare (colored_box n) ∷ bare (colored_box 5) ∷ []) ∷ []

abbrev pub two_set : Built
two_set = set 6 (int 8 ∷ []) (set 2 (int 9 ∷ []) (starting showing two_shown))

-- ---- one that shows its field, and another component beside it

abbrev pub nest_output : ℕ → List Value → List PlainWidget
nest_output zero fields = shown_below (color_in (value_at fields 0))
nest_output (suc place) fields = widget line key.None (bare (colored_box (color_in (value_at fields 0))) ∷ use_of 0 item key.None [] [] ∷ []) ∷ []

abbrev pub nesting : Blueprint
nesting = record {
  output = λ place props slots fields values number. nest_output place fields;
  initial = λ place props. int 4 ∷ [];
  defaults = [];
  nodes = 65536;
}

abbrev pub nest_root : PlainWidget
nest_root = use_of 1 item key.None [] []

abbrev pub nest_below : ℕ → List PlainWidget
nest_below n = widget line key.None (bare (colored_box n) ∷ use_of 0 item key.None [] [] ∷ []) ∷ []

abbrev pub nested_set : Built
nested_set = set 4 (int 8 ∷ []) (set 1 (int 9 ∷ []) (starting nesting nest_root))

-- ---- component 0 shows the inherited value, and component 1 gives it

abbrev pub reader : Decl
reader = record { name = 82 ∷ []; fields = []; inherited = 0 ∷ [] }

abbrev pub board : Decl
board = record { name = 66 ∷ []; fields = (99 ∷ [], ty.Int) ∷ []; inherited = [] }

abbrev pub shows_value : PlainWidget
shows_value = use_of 0 reader key.None [] []

abbrev pub two_showing : PlainWidget
two_showing = both (shows_value ∷ bare (colored_box 7) ∷ shows_value ∷ [])

abbrev pub giving_two : ℕ → PlainWidget
giving_two n = holding_one (inherit 0 (int n)) two_showing

abbrev pub board_output : ℕ → List Value → List Value → List PlainWidget
board_output zero fields values = bare (colored_box (color_in (value_at values 0))) ∷ []
board_output (suc place) fields values = holding_one (inherit 0 (value_at fields 0)) two_showing ∷ []

abbrev pub boarding : Blueprint
boarding = record {
  output = λ place props slots fields values number. board_output place fields values;
  initial = λ place props. (if place == 1 then int 4 ∷ [] else []);
  defaults = int 0 ∷ [];
  nodes = 65536;
}

abbrev pub board_root : PlainWidget
board_root = use_of 1 board key.None [] []

abbrev pub given_tree : Built
given_tree = set 1 (int 9 ∷ []) (starting boarding board_root)

abbrev pub regiven_built : PlainWidget → ℕ → Built → Built
regiven_built w wanted (failed fault) = failed fault
regiven_built w wanted (built tree next) = built (regiven w wanted tree) next

abbrev pub readers_below : ℕ → Built → List ℕ
readers_below name (failed fault) = []
readers_below name (built (node number widget fields scroll index no_nodes) next) = []
readers_below name (built (node number widget fields scroll index (more_nodes n ns)) next) = readers_in name (nodes_below n)

-- the component between, which reads the value, gives one too: of the other name, or of the same one
abbrev pub switch_output : ℕ → List Value → List Value → List PlainWidget
switch_output zero fields values = bare (colored_box (color_in (value_at values 0))) ∷ []
switch_output (suc zero) fields values = holding_one (inherit 0 (value_at fields 0)) (use_of 2 reader key.None [] []) ∷ []
switch_output (suc (suc place)) fields values = holding_one (inherit (if color_in (value_at values 0) == 4 then 1 else 0) (int 4)) shows_value ∷ []

abbrev pub switching : Blueprint
switching = record {
  output = λ place props slots fields values number. switch_output place fields values;
  initial = λ place props. (if place == 1 then int 4 ∷ [] else []);
  defaults = int 0 ∷ int 0 ∷ [];
  nodes = 65536;
}

abbrev pub switched_tree : Built
switched_tree = set 1 (int 9 ∷ []) (starting switching board_root)

abbrev pub giving_switch : ℕ → PlainWidget
giving_switch n = holding_one (inherit 0 (int n)) (use_of 2 reader key.None [] [])

pub record WorksOfSteps : Type 0 where
  -- what is below the component comes into the order of its field, and nothing else is built
  pub listed : again keyed list_root reordered_list ≡ retaken_built (listing (3 ∷ 1 ∷ 2 ∷ [])) 1 reordered_list
  pub colored_too : again coloring list_root reordered_boxes ≡ retaken_built (colored (3 ∷ 1 ∷ 2 ∷ [])) 1 reordered_boxes
  pub listed_count : counted_of keyed (1 ∷ []) list_root reordered_list ≡ 1
  pub listed_left : counted_of keyed [] list_root (retaken_built (listing (3 ∷ 1 ∷ 2 ∷ [])) 1 reordered_list) ≡ 0
  pub listed_entered : entered_by keyed list_root reordered_list ≡ entered_by keyed list_root (retaken_built (listing (3 ∷ 1 ∷ 2 ∷ [])) 1 reordered_list)
  -- it can take as many children, of which none is new and none stands twice
  pub can : can_in (listing (3 ∷ 1 ∷ 2 ∷ [])) (starting keyed list_root) ≡ true
  pub one_more : can_in (listing (3 ∷ 1 ∷ 2 ∷ 4 ∷ [])) (starting keyed list_root) ≡ false
  pub another : can_in (listing (3 ∷ 1 ∷ 4 ∷ [])) (starting keyed list_root) ≡ false
  pub twice : can_in (listing (3 ∷ 1 ∷ 1 ∷ [])) (starting keyed list_root) ≡ false
  -- what is laid out then
  pub boxes_drawn : drawn_of (retaken_built (colored (3 ∷ 1 ∷ 2 ∷ [])) 1 reordered_boxes)
      ≡ all_rearranged (look_after (looks_of (colored (3 ∷ 1 ∷ 2 ∷ [])) (starting coloring list_root))) (order_after (orders_of (colored (3 ∷ 1 ∷ 2 ∷ [])) (starting coloring list_root))) (renders_of (drawn_of (starting coloring list_root)))
  pub list_drawn : drawn_of (retaken_built (listing (3 ∷ 1 ∷ 2 ∷ [])) 1 reordered_list)
      ≡ all_rearranged (look_after (looks_of (listing (3 ∷ 1 ∷ 2 ∷ [])) (starting keyed list_root))) (order_after (orders_of (listing (3 ∷ 1 ∷ 2 ∷ [])) (starting keyed list_root))) (renders_of (drawn_of (starting keyed list_root)))
  -- of two that are marked the first is built, and then the other; or what it gives is left to a build, which counts one less
  pub both_taken : again showing two_shown two_set ≡ retaken_built (shown_below 8) 6 (retaken_built (shown_below 9) 2 two_set)
  pub both_count : counted_of showing (2 ∷ 6 ∷ []) two_shown two_set ≡ 2
  pub first_taken : again showing two_shown two_set ≡ again showing two_shown (retaken_built (shown_below 9) 2 two_set)
  pub first_count : counted_of showing (2 ∷ 6 ∷ []) two_shown two_set ≡ suc (counted_of showing (6 ∷ []) two_shown (retaken_built (shown_below 9) 2 two_set))
  pub first_left : counted_of showing (2 ∷ 6 ∷ []) two_shown two_set ≡ suc (counted_of showing (6 ∷ []) two_shown two_set)
  pub both_entered : entered_by showing two_shown two_set ≡ entered_by showing two_shown (retaken_built (shown_below 9) 2 two_set)
  -- one of them stands below the other, and stays as it is where that one was built
  pub nest_taken : again nesting nest_root nested_set ≡ retaken_built (shown_below 8) 4 (retaken_built (nest_below 9) 1 nested_set)
  pub nest_count : counted_of nesting (1 ∷ 4 ∷ []) nest_root nested_set ≡ 2
  pub nest_first : counted_of nesting (1 ∷ 4 ∷ []) nest_root nested_set ≡ suc (counted_of nesting (4 ∷ []) nest_root (retaken_built (nest_below 9) 1 nested_set))
  pub nest_stays : found_at 4 (retaken_built (nest_below 9) 1 nested_set) ≡ found_at 4 nested_set
  -- an Inherit gives another value: those that read its name are built, also one below which there is an Inherit of another name, or was
  pub given_readers : readers_below 0 given_tree ≡ 4 ∷ 7 ∷ []
  pub given_same : again boarding board_root given_tree ≡ again boarding board_root (regiven_built (giving_two 9) 1 given_tree)
  pub given_count : counted_of boarding (1 ∷ []) board_root given_tree ≡ 3
  pub given_left : counted_of boarding (1 ∷ []) board_root given_tree ≡ suc (counted_of boarding (4 ∷ 7 ∷ []) board_root (regiven_built (giving_two 9) 1 given_tree))
  pub given_entered : entered_by boarding board_root given_tree ≡ entered_by boarding board_root (regiven_built (giving_two 9) 1 given_tree)
  pub given_drawn : drawn_of (regiven_built (giving_two 9) 1 given_tree) ≡ drawn_of given_tree
  pub switch_readers : readers_below 0 switched_tree ≡ 3 ∷ 5 ∷ []
  pub switch_same : again switching board_root switched_tree ≡ again switching board_root (regiven_built (giving_switch 9) 1 switched_tree)
  pub switch_count : counted_of switching (1 ∷ []) board_root switched_tree ≡ 3
  pub switch_left : counted_of switching (3 ∷ 5 ∷ []) board_root (regiven_built (giving_switch 9) 1 switched_tree) ≡ 2
