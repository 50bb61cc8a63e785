-- The full build: the walk in two phases, and what comes of it.
use Rattle.std.specs.Prelude.{ℕ, ◌-◌, nat_lt, Bool, false, ◌&&◌, ◌||◌, is_some, if◌then◌else◌, Option, None, List, [], ◌∷◌, filter, length}
use Rattle.fx_expr.specs.declared.values.Value.{Value}
use Rattle.fx_geom.specs.declared.scales.Scale.{Scale}
use Rattle.fx_geom.specs.declared.shapes.Size.{Size}
use Rattle.delegates.specs.Table.{Plug}
use Rattle.sliver_layout.specs.declared.protocol.SliverBounds.{SliverBounds}
use Rattle.sliver_layout.specs.declared.protocol.Window.{Window}
use Rattle.widget_model.specs.Plain.{PlainWidget, look_of}
use Rattle.widget_model.specs.Plain.{children_of as child_widgets}
use Rattle.widget_model.specs.Size.{count_of}
use Rattle.plain_tree.specs.PlainNode.{PlainNode, node, PlainNodes, no_nodes, more_nodes, nodes_of}
use Rattle.plain_tree.specs.Projection.{render_of}
use Rattle.plain_tree.specs.Render.{Render}
use Rattle.layout_form.specs.Object.{setting_of}
use Rattle.layout_form.specs.Layout.{lay_view}
use Rattle.layout_form.specs.SliverRule.{is_among}
use Rattle.layout_form.specs.Live.{lazy_view_at, live_in}
use Rattle.build_form.specs.Step.{Fault, output_too_large, Progress, Step, stops, gives, and_then, each}
use Rattle.build_form.specs.BuildRole.{BuildRole, composes, provides, keeps, lists, holds, build_role_of}
use Rattle.build_form.specs.Partner.{Arrival, arrivals, root_arrival, holder_in}
use Rattle.build_form.specs.Entering.{Blueprint, Basis, depth_limit, output_limit, first, second, values_below, enter}

-- what a tree is laid out in: the numbers of the program's version, what the delegates mean, and the size of the view
pub record Screen : Type 0 where
  pub scale : Scale
  pub delegates : List Plug
  pub view : Size

-- ---- which children of a lazy list are there

-- the views of lazy lists in the first phase's tree, laid out
abbrev pub views_in : Screen → List Render → ℕ → Option SliverBounds
views_in screen [] number = None
views_in screen (r ∷ rs) number = lazy_view_at number (lay_view (setting_of screen.scale screen.delegates) r screen.view)

-- which children of a lazy list are there: of the one with a number, whose children have an extent and are so many
abbrev pub Ranges : Type 0
Ranges = ℕ → ℕ → ℕ → Window

-- the children that are near what is seen of the lazy list with a number, of so many with an extent; none where it wasn't
-- laid out
unfoldable pub live_ranges : Screen → PlainNode → Ranges
live_ranges screen tree number extent count = live_in (views_in screen (render_of tree) number) extent count screen.scale.widen

-- a Keep that keeps its child stays, where it was a node
abbrev pub keeps_alive : BuildRole → Bool
keeps_alive (composes place props) = false
keeps_alive (provides name value) = false
keeps_alive (keeps kept) = kept
keeps_alive (lists extent) = false
keeps_alive holds = false

abbrev pub stays : Arrival → Bool
stays a = keeps_alive (build_role_of (look_of a.widget)) && is_some a.beside

-- the items of a lazy list: the children in its live range, and those that stay
abbrev pub items : Window → List Arrival → List Arrival
items live ws = filter (λ a. is_among live a.place || stays a) ws

-- ---- the second phase: over the first one's tree in preorder, where each lazy list gets its items

-- what the next lazy list goes on from, and those after it
abbrev pub next_waiting : List (Option PlainNode) → Option PlainNode
next_waiting [] = None
next_waiting (partner ∷ others) = partner

abbrev pub others_waiting : List (Option PlainNode) → List (Option PlainNode)
others_waiting [] = []
others_waiting (partner ∷ others) = others

abbrev pub one_served : Progress → Progress
one_served s = record { entered = s.entered; met = s.met; next = s.next; waiting = others_waiting s.waiting }

-- the items of a lazy list are entered, in rising order
abbrev pub items_entered : Basis → ℕ → List Value → (ℕ → Window) → List PlainWidget → Progress → Step PlainNodes
items_entered from left values range ws s =
    and_then (each (enter from second left values) (items (range (length ws)) (arrivals (next_waiting s.waiting) ws)) (one_served s)) (λ ns s1.
    gives (nodes_of ns) s1)

-- a lazy list gets its items; what is below another node is gone through
abbrev pub if_lazy : BuildRole → (ℕ → Progress → Step PlainNodes) → (Progress → Step PlainNodes) → Progress → Step PlainNodes
if_lazy (composes place props) itemized others s = others s
if_lazy (provides name value) itemized others s = others s
if_lazy (keeps kept) itemized others s = others s
if_lazy (lists extent) itemized others s = itemized extent s
if_lazy holds itemized others s = others s

unfoldable mutual
  -- at a place where so many depths are left, this one's among them
  pub filled : Basis → Ranges → ℕ → List Value → PlainNode → Progress → Step PlainNode
  filled from ranges left values (node number widget fields scroll index children) s =
      let below = values_below widget values in
      and_then (if_lazy (build_role_of (look_of widget))
      (λ extent s1. items_entered from (left - 1) below (ranges number extent) (child_widgets widget) s1)
      (λ s1. all_filled from ranges (left - 1) below children s1) s) (λ ns s1.
      gives (node number widget fields scroll index ns) s1)

  pub all_filled : Basis → Ranges → ℕ → List Value → PlainNodes → Progress → Step PlainNodes
  all_filled from ranges left values no_nodes s = gives no_nodes s
  all_filled from ranges left values (more_nodes n ns) s =
      and_then (filled from ranges left values n s) (λ m s1.
      and_then (all_filled from ranges left values ns s1) (λ ms s2. gives (more_nodes m ms) s2))

-- ---- both phases

-- what a build comes to: its first fault, or the new tree and the next free number
pub data Built : Type 0 where
  failed : Fault → Built
  built : PlainNode → ℕ → Built

abbrev pub built_by : Step PlainNode → Built
built_by (stops fault) = failed fault
built_by (gives tree s) = built tree s.next

-- where no lazy list waits, the first phase's tree is the new one
abbrev pub second_phase : Basis → (PlainNode → Ranges) → PlainNode → List (Option PlainNode) → Progress → Step PlainNode
second_phase from ranges tree [] s = gives tree s
second_phase from ranges tree (partner ∷ others) s = filled from (ranges tree) depth_limit from.program.defaults tree s

abbrev pub started : ℕ → Progress
started next = record { entered = 0; met = λ k. false; next = next; waiting = [] }

abbrev pub basis : Blueprint → Option PlainNode → Basis
basis program old = record { program = program; holder = holder_in old }

-- the second phase goes by the live ranges that a layout of the first one's tree gives
unfoldable pub both_phases : Basis → (PlainNode → Ranges) → Arrival → Progress → Step PlainNode
both_phases from ranges root s =
    and_then (enter from first depth_limit from.program.defaults root s) (λ tree s1. second_phase from ranges tree s1.waiting s1)

-- the first phase's tree
abbrev pub first_tree : Blueprint → Option PlainNode → ℕ → PlainWidget → Step PlainNode
first_tree program old next root = enter (basis program old) first depth_limit program.defaults (root_arrival old root) (started next)

-- the tree of a root widget, after an old tree or none, where the next new node gets a number; the root's size is tested
-- before anything is entered
unfoldable pub full_build : Blueprint → Screen → Option PlainNode → ℕ → PlainWidget → Built
full_build program screen old next root =
    if nat_lt output_limit (count_of root)
    then failed output_too_large
    else built_by (both_phases (basis program old) (live_ranges screen) (root_arrival old root) (started next))
