-- The widgets that a build enters, in the order of its walk, also where a fault ends it.
use Rattle.std.specs.Prelude.{ℕ, zero, suc, ◌-◌, nat_le, nat_lt, Bool, false, not, ◌&&◌, if◌then◌else◌, Option, List, [], ◌∷◌, ◌++◌, length}
use Rattle.fx_expr.specs.declared.values.Value.{Value}
use Rattle.sliver_layout.specs.declared.protocol.Window.{Window}
use Rattle.widget_keys.specs.declared.keys.Key.{Key}
use Rattle.widget_keys.specs.declared.keys.Key.TheVariants as key
use Rattle.widget_model.specs.Plain.{PlainWidget, look_of, key_of}
use Rattle.widget_model.specs.Plain.{children_of as child_widgets}
use Rattle.widget_model.specs.Size.{count_of}
use Rattle.plain_tree.specs.PlainNode.{PlainNode, node, PlainNodes, no_nodes, more_nodes}
use Rattle.build_form.specs.Step.{Progress, Step, stops, gives}
use Rattle.build_form.specs.BuildRole.{BuildRole, composes, provides, keeps, lists, holds, build_role_of}
use Rattle.build_form.specs.Partner.{Arrival, partner_of, arrivals, root_arrival}
use Rattle.build_form.specs.Entering.{Blueprint, Basis, depth_limit, output_limit, Phase, first, second, number_for, values_below, waits, Opening, opened, enter}
use Rattle.build_form.specs.FullBuild.{Screen, Ranges, live_ranges, items, next_waiting, one_served, filled, started, basis}

-- a widget that was entered, where it stands: the number of its node, the numbers of the nodes above it, from its parent up,
-- and the values of all inherited names there
pub record Entered : Type 0 where
  pub number : ℕ
  pub widget : PlainWidget
  pub above : List ℕ
  pub values : List Value

abbrev pub entered : ℕ → PlainWidget → List ℕ → List Value → Entered
entered number w above values = record { number = number; widget = w; above = above; values = values }

-- ---- those of a tree, in preorder

abbrev mutual
  pub entered_of : List ℕ → List Value → PlainNode → List Entered
  entered_of above values (node number widget fields scroll index children) =
      entered number widget above values ∷ entered_in (number ∷ above) (values_below widget values) children

  pub entered_in : List ℕ → List Value → PlainNodes → List Entered
  entered_in above values no_nodes = []
  entered_in above values (more_nodes n ns) = entered_of above values n ++ entered_in above values ns

-- ---- those of a walk

-- what a list says of the state that a step leaves; nothing where it stops the build
abbrev pub after : {A B : Type 0} → Step A → (A → Progress → List B) → List B
after (stops fault) later = []
after (gives a s) later = later a s

-- what is entered where steps are made for each of a list, in order
abbrev pub seen_by_each : {A B C : Type 0} → (A → Progress → Step B) → (A → Progress → List C) → List A → Progress → List C
seen_by_each step seen [] s = []
seen_by_each step seen (x ∷ xs) s = seen x s ++ after (step x s) (λ y s1. seen_by_each step seen xs s1)

abbrev pub is_met : Key Value → Progress → Bool
is_met key.None s = false
is_met (key.Local k) s = false
is_met (key.Global k) s = s.met k

-- a widget is entered where the tree has room for a node and its global key wasn't met before; what is too large or has keys
-- twice shows later
abbrev pub is_let_in : Basis → Arrival → Progress → Bool
is_let_in from a s = not (nat_le from.program.nodes s.entered) && not (is_met (key_of a.widget) s)

abbrev pub seen_below : (List Value → Arrival → Progress → Step PlainNode) → (List Value → Arrival → Progress → List Entered)
    → Phase → List Value → PlainWidget → Opening → Progress → List Entered
seen_below step seen phase values w o s =
    if waits phase (build_role_of (look_of w)) then []
    else seen_by_each (step (values_below w values)) (seen (values_below w values)) (arrivals o.partner o.given) s

-- a widget, and what is entered below it, where so many depths are left
unfoldable pub seen_from : Basis → Phase → ℕ → List ℕ → List Value → Arrival → Progress → List Entered
seen_from from phase zero above values a s = []
seen_from from phase (suc left) above values a s =
    if is_let_in from a s
    then entered (number_for (partner_of from.holder a) s) a.widget above values
    ∷ after (opened from values a s) (λ o s1.
    seen_below (enter from phase left) (seen_from from phase left (o.number ∷ above)) phase values a.widget o s1)
    else []

-- ---- those of the second phase, over the first one's tree

abbrev pub seen_items : Basis → ℕ → List ℕ → List Value → (ℕ → Window) → List PlainWidget → Progress → List Entered
seen_items from left above values range ws s =
    seen_by_each (enter from second left values) (seen_from from second left above values)
    (items (range (length ws)) (arrivals (next_waiting s.waiting) ws)) (one_served s)

-- of a lazy list what its items are, of another node what is below it
abbrev pub items_or : BuildRole → (ℕ → List Entered) → List Entered → List Entered
items_or (composes place props) itemized others = others
items_or (provides name value) itemized others = others
items_or (keeps kept) itemized others = others
items_or (lists extent) itemized others = itemized extent
items_or holds itemized others = others

unfoldable mutual
  pub seen_filling : Basis → Ranges → ℕ → List ℕ → List Value → PlainNode → Progress → List Entered
  seen_filling from ranges left above values (node number widget fields scroll index children) s =
      items_or (build_role_of (look_of widget))
      (λ extent. seen_items from (left - 1) (number ∷ above) (values_below widget values) (ranges number extent) (child_widgets widget) s)
      (all_seen_filling from ranges (left - 1) (number ∷ above) (values_below widget values) children s)

  pub all_seen_filling : Basis → Ranges → ℕ → List ℕ → List Value → PlainNodes → Progress → List Entered
  all_seen_filling from ranges left above values no_nodes s = []
  all_seen_filling from ranges left above values (more_nodes n ns) s =
      seen_filling from ranges left above values n s
      ++ after (filled from ranges left values n s) (λ m s1. all_seen_filling from ranges left above values ns s1)

abbrev pub seen_second : Basis → (PlainNode → Ranges) → PlainNode → List (Option PlainNode) → Progress → List Entered
seen_second from ranges tree [] s = []
seen_second from ranges tree (partner ∷ others) s = seen_filling from (ranges tree) depth_limit [] from.program.defaults tree s

-- ---- those of a build

-- in both phases, from an arrival on
unfoldable pub seen_in_both : Basis → (PlainNode → Ranges) → Arrival → Progress → List Entered
seen_in_both from ranges root s =
    seen_from from first depth_limit [] from.program.defaults root s
    ++ after (enter from first depth_limit from.program.defaults root s) (λ tree s1. seen_second from ranges tree s1.waiting s1)

-- of a root widget after an old tree or none; before anything is entered its size is tested
unfoldable pub entered_widgets : Blueprint → Screen → Option PlainNode → ℕ → PlainWidget → List Entered
entered_widgets program screen old next root =
    if nat_lt output_limit (count_of root)
    then []
    else seen_in_both (basis program old) (live_ranges screen) (root_arrival old root) (started next)
