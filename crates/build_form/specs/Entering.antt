-- The walk over the widgets: what happens where one is entered.
use Rattle.std.specs.Prelude.{ℕ, zero, suc, nat_lt, nat_le, Bool, true, false, ◌||◌, if◌then◌else◌, Option, Some, None, List, [], ◌∷◌, ◌++◌, map, slice_set}
use Rattle.fx_expr.specs.declared.values.Value.{Value}
use Rattle.fx_expr.specs.Value.{value_eq}
use Rattle.widget_keys.specs.declared.keys.Key.{Key}
use Rattle.widget_keys.specs.declared.keys.Key.TheVariants as key
use Rattle.widget_keys.specs.Key.{repeats}
use Rattle.widget_model.specs.Plain.{PlainWidget, look_of, key_of, slots_of}
use Rattle.widget_model.specs.Plain.{children_of as child_widgets}
use Rattle.widget_model.specs.Size.{count_in}
use Rattle.plain_tree.specs.PlainNode.{PlainNode, node, nodes_of, number_of, fields_of, scroll_of}
use Rattle.build_form.specs.Step.{repeated_sibling_key, repeated_global_key, tree_too_large, output_too_large, Progress, Step, stops, gives, and_then, each}
use Rattle.build_form.specs.BuildRole.{BuildRole, composes, provides, keeps, lists, holds, build_role_of}
use Rattle.build_form.specs.Partner.{Arrival, partner_of, arrivals}

-- what a build asks of a program
pub record Blueprint : Type 0 where
  -- the one widget that the body of a component gives, by its place in the program's list: with these props, contents of slots, fields
  -- and values of all inherited names, for the node with this number
  pub output : ℕ → List Value → List PlainWidget → List Value → List Value → ℕ → List PlainWidget
  -- the first values of a component's fields, which see its props alone
  pub initial : ℕ → List Value → List Value
  -- the value of each inherited name where no widget above gives one
  pub defaults : List Value
  -- how many nodes a tree may have
  pub nodes : ℕ

-- what a build is made from: the program, and the node of the old tree that had each global key
pub record Basis : Type 0 where
  pub program : Blueprint
  pub holder : Value → Option PlainNode

-- how deep a tree may be, the root being at depth 1
abbrev pub depth_limit : ℕ
depth_limit = 512

-- how many widgets a template may give
abbrev pub output_limit : ℕ
output_limit = 65536

-- before items are entered by what is seen (first), and when they are (second)
pub data Phase : Type 0 where
  first second : Phase

-- ---- the tests

-- a global key is met once in a build
abbrev pub met_once : Key Value → Progress → Step (Unit {0})
met_once key.None s = gives tt s
met_once (key.Local k) s = gives tt s
met_once (key.Global k) s =
    if s.met k
    then stops (repeated_global_key k)
    else gives tt (record { entered = s.entered; met = λ v. value_eq k v || s.met v; next = s.next; waiting = s.waiting })

-- an output that isn't too large
abbrev pub small_enough : List PlainWidget → Progress → Step (List PlainWidget)
small_enough ws s = if nat_lt output_limit (count_in ws) then stops output_too_large else gives ws s

-- the first key of a list that is given and equals an earlier one, after some earlier ones
abbrev pub first_repeated : List (Key Value) → List (Key Value) → Option (Key Value)
first_repeated earlier [] = None
first_repeated earlier (k ∷ ks) =
    if repeats value_eq earlier k then Some k else first_repeated (earlier ++ k ∷ []) ks

abbrev pub unless_repeated : Option (Key Value) → List PlainWidget → Progress → Step (List PlainWidget)
unless_repeated None ws s = gives ws s
unless_repeated (Some k) ws s = stops (repeated_sibling_key k)

-- siblings whose keys differ
abbrev pub apart : List PlainWidget → Progress → Step (List PlainWidget)
apart ws s = unless_repeated (first_repeated [] (map key_of ws)) ws s

-- ---- what a node keeps of its partner, and what it has where it is new

abbrev pub number_for : Option PlainNode → Progress → ℕ
number_for None s = s.next
number_for (Some n) s = number_of n

abbrev pub first_fields : Blueprint → BuildRole → List Value
first_fields b (composes place props) = b.initial place props
first_fields b (provides name value) = []
first_fields b (keeps kept) = []
first_fields b (lists extent) = []
first_fields b holds = []

abbrev pub fields_for : Blueprint → PlainWidget → Option PlainNode → List Value
fields_for b w None = first_fields b (build_role_of (look_of w))
fields_for b w (Some n) = fields_of n

abbrev pub scroll_for : Option PlainNode → ℕ
scroll_for None = 0
scroll_for (Some n) = scroll_of n

-- a number more is given where a node is new
abbrev pub next_after : Option PlainNode → ℕ → ℕ
next_after None next = suc next
next_after (Some n) next = next

-- one more widget is entered
abbrev pub counted : Option PlainNode → Progress → Progress
counted partner s = record { entered = suc s.entered; met = s.met; next = next_after partner s.next; waiting = s.waiting }

-- ---- what is below

-- the values of the inherited names below a widget: an Inherit is the nearest provider of its name there
abbrev pub values_by : BuildRole → List Value → List Value
values_by (composes place props) values = values
values_by (provides name value) values = slice_set values name value
values_by (keeps kept) values = values
values_by (lists extent) values = values
values_by holds values = values

abbrev pub values_below : PlainWidget → List Value → List Value
values_below w values = values_by (build_role_of (look_of w)) values

-- the child widgets of a widget: those that it has, and of a component the one that its body gives
abbrev pub given_by : Blueprint → BuildRole → List Value → ℕ → List Value → PlainWidget → Progress → Step (List PlainWidget)
given_by b (composes place props) values number fields w s = small_enough (b.output place props (slots_of w) fields values number) s
given_by b (provides name value) values number fields w s = gives (child_widgets w) s
given_by b (keeps kept) values number fields w s = gives (child_widgets w) s
given_by b (lists extent) values number fields w s = gives (child_widgets w) s
given_by b holds values number fields w s = gives (child_widgets w) s

-- the first phase enters no child of a lazy list
abbrev pub waits : Phase → BuildRole → Bool
waits first (composes place props) = false
waits first (provides name value) = false
waits first (keeps kept) = false
waits first (lists extent) = true
waits first holds = false
waits second part = false

-- a lazy list waits until it is known which of its children are there
abbrev pub put_off : Option PlainNode → Progress → Step (List PlainNode)
put_off partner s = gives [] (record { entered = s.entered; met = s.met; next = s.next; waiting = s.waiting ++ partner ∷ [] })

-- ---- a widget is entered: the tests, and what its node has

-- what is known of a node before anything below it is entered
pub record Opening : Type 0 where
  -- the node of the old tree that it goes on from
  pub partner : Option PlainNode
  pub number : ℕ
  pub fields : List Value
  -- its child widgets
  pub given : List PlainWidget

abbrev pub opening : Option PlainNode → ℕ → List Value → List PlainWidget → Opening
opening partner number fields given = record { partner = partner; number = number; fields = fields; given = given }

-- in this order: there are too many nodes; its global key was met before; its output is too large; two children have one key
abbrev pub opened : Basis → List Value → Arrival → Progress → Step Opening
opened from values a s =
    if nat_le from.program.nodes s.entered then stops tree_too_large else
    and_then (met_once (key_of a.widget) s) (λ _ s1.
    let partner = partner_of from.holder a in
    let number = number_for partner s1 in
    let fields = fields_for from.program a.widget partner in
    and_then (given_by from.program (build_role_of (look_of a.widget)) values number fields a.widget (counted partner s1)) (λ given s2.
    and_then (apart given s2) (λ ws s3. gives (opening partner number fields ws) s3)))

-- its child widgets are entered, each as `go` says, or put off
abbrev pub entered_below : (List Value → Arrival → Progress → Step PlainNode) → Phase → List Value → PlainWidget → Opening → Progress → Step (List PlainNode)
entered_below go phase values w o s =
    if waits phase (build_role_of (look_of w)) then put_off o.partner s else each (go (values_below w values)) (arrivals o.partner o.given) s

abbrev pub made : Arrival → Opening → List PlainNode → PlainNode
made a o ns = node o.number a.widget o.fields (scroll_for o.partner) a.place (nodes_of ns)

-- a widget is entered at a place where so many depths are left and the inherited names have these values, and then what is
-- below it, in preorder
unfoldable pub enter : Basis → Phase → ℕ → List Value → Arrival → Progress → Step PlainNode
enter from phase zero values a s = stops tree_too_large
enter from phase (suc left) values a s =
    and_then (opened from values a s) (λ o s1.
    and_then (entered_below (enter from phase left) phase values a.widget o s1) (λ ns s2. gives (made a o ns) s2))
