-- Builds of small trees, worked by hand.
use Rattle.std.specs.Prelude.{◌≡◌, ℕ, zero, suc, ℤ, pos, negsuc, Bool, true, false, Some, None, List, [], ◌∷◌, map}
use Rattle.fx_expr.specs.declared.values.Value.{Value}
use Rattle.fx_expr.specs.declared.values.Value.TheVariants as value
use Rattle.fx_expr.specs.declared.values.Ty.TheVariants as ty
use Rattle.fx_expr.specs.Scope.{value_at}
use Rattle.fx_geom.specs.Scale.{standard_scale}
use Rattle.fx_geom.specs.declared.shapes.Axis.TheVariants.{Vertical}
use Rattle.fx_geom.specs.declared.words.CrossAlign.TheVariants as cross_align
use Rattle.fx_geom.specs.declared.words.MainAlign.TheVariants as main_align
use Rattle.widget_keys.specs.declared.keys.Key.{Key}
use Rattle.widget_keys.specs.declared.keys.Key.TheVariants as key
use Rattle.widget_model.specs.declared.decl.Decl.{Decl}
use Rattle.widget_model.specs.declared.words.MainSize.TheVariants as main_size
use Rattle.widget_model.specs.Look.{Look, sized_box, colored_box, padding, row, viewport, sliver_lazy, keep, inherit, component}
use Rattle.widget_model.specs.Plain.{PlainWidget, plain, no_widgets, widgets_of, look_of}
use Rattle.plain_tree.specs.At.{numbers_of, changed_at, having_fields, having_scroll}
use Rattle.plain_tree.specs.PlainNode.{widget_of}
use Rattle.plain_tree.specs.States.{State, holding, scrolled, preorder_of, states_of}
use Rattle.build_form.specs.Step.{repeated_sibling_key, repeated_global_key, tree_too_large}
use Rattle.build_form.specs.Entering.{Blueprint}
use Rattle.build_form.specs.FullBuild.{Screen, Built, failed, built, full_build}

-- ---- what of a build is shown

abbrev pub states_built : Built → List State
states_built (failed fault) = []
states_built (built tree next) = states_of tree

abbrev pub numbers_built : Built → List ℕ
numbers_built (failed fault) = []
numbers_built (built tree next) = numbers_of tree

abbrev pub looks_built : Built → List Look
looks_built (failed fault) = []
looks_built (built tree next) = map (λ n. look_of (widget_of n)) (preorder_of tree)

abbrev pub is_built : Built → Bool
is_built (failed fault) = false
is_built (built tree next) = true

-- ---- frames one after another

abbrev pub screen : Screen
screen = record { scale = standard_scale; delegates = []; view = record { w = 100; h = 100 } }

abbrev pub starting : Blueprint → PlainWidget → Built
starting p root = full_build p screen None 1 root

abbrev pub again : Blueprint → PlainWidget → Built → Built
again p root (failed fault) = failed fault
again p root (built tree next) = full_build p screen (Some tree) next root

abbrev pub set : ℕ → List Value → Built → Built
set number fields (failed fault) = failed fault
set number fields (built tree next) = built (changed_at (having_fields fields) number tree) next

abbrev pub scroll : ℕ → ℕ → Built → Built
scroll number offset (failed fault) = failed fault
scroll number offset (built tree next) = built (changed_at (having_scroll offset) number tree) next

-- ---- widgets

abbrev pub int : ℕ → Value
int n = value.Int (pos n)

abbrev pub widget : Look → Key Value → List PlainWidget → PlainWidget
widget look k children = plain look k no_widgets (widgets_of children)

abbrev pub holding_one : Look → PlainWidget → PlainWidget
holding_one look child = widget look key.None (child ∷ [])

abbrev pub bare : Look → PlainWidget
bare look = widget look key.None []

abbrev pub use_of : ℕ → Decl → Key Value → List Value → List PlainWidget → PlainWidget
use_of place d k props slots = plain (component place props d) k (widgets_of slots) no_widgets

abbrev pub line : Look
line = row main_align.Start cross_align.Center main_size.Max

abbrev pub nothing_around : Look
nothing_around = padding 0 0 0 0

abbrev pub box : Look
box = sized_box None None

abbrev pub g : Value
g = value.Text (103 ∷ [])

-- ---- a list over items with a field each, whose first value is a prop

abbrev pub item : Decl
item = record { name = 73 ∷ []; fields = (110 ∷ [], ty.Int) ∷ []; inherited = [] }

abbrev pub list : Decl
list = record { name = 76 ∷ []; fields = (108 ∷ [], ty.Ints) ∷ []; inherited = [] }

abbrev pub numbers_in : Value → List ℤ
numbers_in (value.Int n) = []
numbers_in (value.Bool b) = []
numbers_in (value.Text t) = []
numbers_in (value.Ints ns) = ns
numbers_in (value.Texts ts) = []

abbrev pub items_by : (ℤ → Key Value) → List ℤ → List PlainWidget
items_by k [] = []
items_by k (n ∷ ns) = use_of 0 item (k n) (value.Int n ∷ []) [] ∷ items_by k ns

abbrev pub by_key : ℤ → Key Value
by_key n = key.Local (value.Int n)

abbrev pub by_place : ℤ → Key Value
by_place n = key.None

-- component 0 is an item around a box, component 1 a list of items, by their keys or by their places
abbrev pub list_output : (ℤ → Key Value) → ℕ → List Value → PlainWidget
list_output k zero fields = bare box
list_output k (suc place) fields = widget line key.None (items_by k (numbers_in (value_at fields 0)))

abbrev pub list_initial : List ℤ → ℕ → List Value → List Value
list_initial ns zero props = props
list_initial ns (suc place) props = value.Ints ns ∷ []

abbrev pub list_program : (ℤ → Key Value) → List ℤ → Blueprint
list_program k ns = record {
  output = λ place props slots fields values number. list_output k place fields ∷ [];
  initial = list_initial ns;
  defaults = [];
  nodes = 65536;
}

abbrev pub list_root : PlainWidget
list_root = use_of 1 list key.None [] []

abbrev pub ints : List ℕ → List Value
ints ns = value.Ints (map (λ n. pos n) ns) ∷ []

abbrev pub listed : List ℕ → State
listed ns = holding 1 list (ints ns)

abbrev pub counts : ℕ → ℕ → State
counts number n = holding number item (int n ∷ [])

abbrev pub keyed : Blueprint
keyed = list_program by_key (pos 1 ∷ pos 2 ∷ pos 3 ∷ [])

abbrev pub placed : Blueprint
placed = list_program by_place (pos 1 ∷ pos 2 ∷ [])

-- ---- states that move by global keys

abbrev pub state : Decl
state = record { name = 83 ∷ []; fields = (110 ∷ [], ty.Int) ∷ []; inherited = [] }

-- component 0 has a field and shows what its slot holds, or a box
abbrev pub shown_slot : List PlainWidget → PlainWidget
shown_slot [] = bare box
shown_slot (w ∷ ws) = w

-- component 1 shows component 0 by a global key, component 2 where its field is true
abbrev pub choice : Value → PlainWidget
choice (value.Int n) = bare box
choice (value.Bool true) = use_of 0 state (key.Global g) [] []
choice (value.Bool false) = bare box
choice (value.Text t) = bare box
choice (value.Ints ns) = bare box
choice (value.Texts ts) = bare box

abbrev pub moving_output : ℕ → List PlainWidget → List Value → PlainWidget
moving_output zero slots fields = shown_slot slots
moving_output (suc zero) slots fields = use_of 0 state (key.Global g) [] []
moving_output (suc (suc place)) slots fields = choice (value_at fields 0)

abbrev pub moving_initial : ℕ → List Value
moving_initial zero = int 0 ∷ []
moving_initial (suc zero) = []
moving_initial (suc (suc place)) = value.Bool false ∷ []

abbrev pub moving : Blueprint
moving = record {
  output = λ place props slots fields values number. moving_output place slots fields ∷ [];
  initial = λ place props. moving_initial place;
  defaults = [];
  nodes = 65536;
}

abbrev pub holder : Decl
holder = record { name = 72 ∷ []; fields = []; inherited = [] }

abbrev pub chooser : Decl
chooser = record { name = 67 ∷ []; fields = (111 ∷ [], ty.Bool) ∷ []; inherited = [] }

abbrev pub moved : PlainWidget
moved = use_of 0 state (key.Global g) [] []

abbrev pub in_first : PlainWidget
in_first = widget line key.None (holding_one nothing_around moved ∷ bare nothing_around ∷ [])

abbrev pub in_second : PlainWidget
in_second = widget line key.None (bare nothing_around ∷ holding_one nothing_around moved ∷ [])

abbrev pub nested : ℕ → ℕ → PlainWidget
nested outer inner = use_of 0 state (key.Global (int outer)) [] (use_of 0 state (key.Global (int inner)) [] (bare box ∷ []) ∷ [])

abbrev pub both : List PlainWidget → PlainWidget
both ws = widget line key.None ws

abbrev pub shows : PlainWidget
shows = use_of 1 holder key.None [] []

abbrev pub chooses : PlainWidget
chooses = use_of 2 chooser key.None [] []

-- ---- values that are given from above: component 0 shows the value of the one inherited name as a color

abbrev pub reader : Decl
reader = record { name = 82 ∷ []; fields = []; inherited = 0 ∷ [] }

abbrev pub color_in : Value → ℕ
color_in (value.Int (pos n)) = n
color_in (value.Int (negsuc n)) = 0
color_in (value.Bool b) = 0
color_in (value.Text t) = 0
color_in (value.Ints ns) = 0
color_in (value.Texts ts) = 0

abbrev pub reading : Blueprint
reading = record {
  output = λ place props slots fields values number. bare (colored_box (color_in (value_at values 0))) ∷ [];
  initial = λ place props. [];
  defaults = int 4 ∷ [];
  nodes = 65536;
}

abbrev pub reads : PlainWidget
reads = use_of 0 reader key.None [] []

abbrev pub giving : ℕ → PlainWidget → PlainWidget
giving n child = holding_one (inherit 0 (int n)) child

-- ---- a lazy list of five items, each 16,000 u high, in a view of 100

abbrev pub counted_item : ℕ → Key Value → PlainWidget
counted_item n k = use_of 0 item k (int n ∷ []) []

abbrev pub lazily : List PlainWidget → PlainWidget
lazily ws = widget (viewport Vertical) key.None (widget (sliver_lazy 16000) key.None ws ∷ [])

abbrev pub five : (ℕ → PlainWidget) → List PlainWidget
five w = w 0 ∷ w 1 ∷ w 2 ∷ w 3 ∷ w 4 ∷ []

abbrev pub by_their_keys : PlainWidget
by_their_keys = lazily (five (λ n. counted_item n (key.Local (int n))))

abbrev pub kept_alive : PlainWidget
kept_alive = lazily (five (λ n. holding_one (keep true) (counted_item n key.None)))

abbrev pub let_go : PlainWidget
let_go = lazily (five (λ n. holding_one (keep false) (counted_item n key.None)))

abbrev pub one_key_twice : PlainWidget
one_key_twice = lazily (five (λ n. holding_one box (widget box (key.Global g) [])))

-- a lazy list whose second item is a viewport with a lazy list of its own
abbrev pub list_in_list : PlainWidget
list_in_list = lazily (bare box ∷ lazily (five (λ n. bare box)) ∷ [])

-- ---- depth

abbrev pub deep : ℕ → PlainWidget
deep zero = bare box
deep (suc n) = holding_one nothing_around (deep n)

-- at most so many nodes
abbrev pub small : ℕ → Blueprint
small n = record {
  output = λ place props slots fields values number. widget line key.None (bare box ∷ bare box ∷ []) ∷ [];
  initial = λ place props. [];
  defaults = [];
  nodes = n;
}

pub record Works : Type 0 where
  -- items that go on by their keys: in another order, and some left out
  pub reordered : states_built (again keyed list_root (set 1 (ints (3 ∷ 2 ∷ 1 ∷ [])) (starting keyed list_root)))
      ≡ listed (3 ∷ 2 ∷ 1 ∷ []) ∷ counts 7 3 ∷ counts 5 2 ∷ counts 3 1 ∷ []
  pub left_out : states_built (again keyed list_root (set 1 (ints (3 ∷ 1 ∷ [])) (again keyed list_root (set 1 (ints (3 ∷ 2 ∷ 1 ∷ [])) (starting keyed list_root)))))
      ≡ listed (3 ∷ 1 ∷ []) ∷ counts 7 3 ∷ counts 3 1 ∷ []
  -- items that go on by their places
  pub by_places : states_built (again placed list_root (set 1 (ints (9 ∷ 1 ∷ 2 ∷ [])) (starting placed list_root)))
      ≡ listed (9 ∷ 1 ∷ 2 ∷ []) ∷ counts 3 1 ∷ counts 5 2 ∷ counts 7 2 ∷ []
  -- no state passes from one type to another
  pub other_type : states_built (again moving chooses (set 1 (int 3 ∷ []) (starting moving (use_of 0 state key.None [] [])))) ≡ holding 3 chooser (value.Bool false ∷ []) ∷ []
  -- a state moves with its global key, under another parent and under what was below it
  pub other_parent : states_built (again moving in_second (set 3 (int 7 ∷ []) (starting moving in_first))) ≡ holding 3 state (int 7 ∷ []) ∷ []
  pub turned_round : states_built (again moving (nested 2 1) (set 2 (int 2 ∷ []) (set 1 (int 1 ∷ []) (starting moving (nested 1 2)))))
      ≡ holding 2 state (int 2 ∷ []) ∷ holding 1 state (int 1 ∷ []) ∷ []
  -- a global key, and a key among siblings, that is met again
  pub met_again : again moving (both (shows ∷ chooses ∷ [])) (set 5 (value.Bool true ∷ []) (starting moving (both (shows ∷ chooses ∷ [])))) ≡ failed (repeated_global_key g)
  pub met_before : again moving (both (chooses ∷ shows ∷ [])) (set 2 (value.Bool true ∷ []) (starting moving (both (chooses ∷ shows ∷ [])))) ≡ failed (repeated_global_key g)
  pub siblings : again keyed list_root (set 1 (ints (1 ∷ 1 ∷ [])) (starting keyed list_root)) ≡ failed (repeated_sibling_key (key.Local (int 1)))
  -- the nearest provider, or the default
  pub nearest : looks_built (starting reading (giving 1 (giving 2 reads))) ≡ inherit 0 (int 1) ∷ inherit 0 (int 2) ∷ component 0 [] reader ∷ colored_box 2 ∷ []
  pub default : looks_built (starting reading (both (giving 1 (bare box) ∷ reads ∷ []))) ≡ line ∷ inherit 0 (int 1) ∷ box ∷ component 0 [] reader ∷ colored_box 4 ∷ []
  -- items of a lazy list that leave what is near the view, and come back
  pub near : numbers_built (starting keyed by_their_keys) ≡ 1 ∷ 2 ∷ 3 ∷ 4 ∷ 5 ∷ 6 ∷ []
  pub away : states_built (again keyed by_their_keys (scroll 1 40000 (set 3 (int 9 ∷ []) (starting keyed by_their_keys))))
      ≡ scrolled 1 40000 ∷ counts 5 1 ∷ counts 7 2 ∷ counts 9 3 ∷ []
  pub back : states_built (again keyed by_their_keys (scroll 1 0 (again keyed by_their_keys (scroll 1 40000 (set 3 (int 9 ∷ []) (starting keyed by_their_keys))))))
      ≡ scrolled 1 0 ∷ counts 11 0 ∷ counts 5 1 ∷ []
  -- a Keep stays, one that doesn't keep is let go
  pub stays : states_built (again keyed kept_alive (scroll 1 40000 (set 4 (int 9 ∷ []) (starting keyed kept_alive))))
      ≡ scrolled 1 40000 ∷ counts 4 9 ∷ counts 7 1 ∷ counts 10 2 ∷ counts 13 3 ∷ []
  pub goes : states_built (again keyed let_go (scroll 1 40000 (set 4 (int 9 ∷ []) (starting keyed let_go))))
      ≡ scrolled 1 40000 ∷ counts 7 1 ∷ counts 10 2 ∷ counts 13 3 ∷ []
  -- one global key in two items
  pub items_share_a_key : starting keyed one_key_twice ≡ failed (repeated_global_key g)
  -- a lazy list in an item has all its children, and items get their numbers after all of the first phase
  pub inner_list_is_whole : numbers_built (starting keyed (both (list_in_list ∷ bare box ∷ []))) ≡ 1 ∷ 2 ∷ 3 ∷ 5 ∷ 6 ∷ 7 ∷ 8 ∷ 9 ∷ 10 ∷ 11 ∷ 12 ∷ 4 ∷ []
  -- what isn't laid out has no items
  pub unseen : numbers_built (starting keyed (widget (sliver_lazy 16000) key.None (five (λ n. bare box)))) ≡ 1 ∷ []
  -- the last depth, and the one after it
  pub deepest : numbers_built (again (small 3) (deep 2) (starting (small 3) (deep 2))) ≡ 1 ∷ 2 ∷ 3 ∷ []
  pub too_many : starting (small 3) (deep 3) ≡ failed tree_too_large
  pub deep_enough : is_built (starting keyed (deep 511)) ≡ true
  pub too_deep : starting keyed (deep 512) ≡ failed tree_too_large
