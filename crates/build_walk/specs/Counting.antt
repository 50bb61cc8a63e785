-- How many components a build that keeps outputs builds, also where a fault ends it.
use Rattle.std.specs.Prelude.{◌≡◌, ℕ, zero, suc, ◌+◌, ◌-◌, ◌==◌, ◌≤◌, nat_lt, Bool, true, false, not, ◌||◌, if◌then◌else◌, Option, Some, None, List, [], ◌∷◌, length}
use Rattle.std.specs.List.{list_any}
use Rattle.fx_expr.specs.declared.values.Value.{Value}
use Rattle.sliver_layout.specs.declared.protocol.Window.{Window}
use Rattle.widget_model.specs.Plain.{PlainWidget, look_of}
use Rattle.widget_model.specs.Plain.{children_of as child_widgets}
use Rattle.widget_model.specs.Size.{count_of}
use Rattle.plain_tree.specs.PlainNode.{PlainNode, node, PlainNodes, no_nodes, more_nodes}
use Rattle.build_form.specs.Step.{Progress, Step, stops, gives}
use Rattle.build_form.specs.BuildRole.{BuildRole, composes, provides, keeps, lists, holds, build_role_of}
use Rattle.build_form.specs.Partner.{Arrival, partner_of, arrivals, root_arrival}
use Rattle.build_form.specs.Entering.{Blueprint, Basis, depth_limit, output_limit, Phase, first, second, values_below, waits, Opening}
use Rattle.build_form.specs.FullBuild.{Screen, Ranges, live_ranges, items, next_waiting, one_served, started, basis}
use Rattle.work_sets.specs.Due.{names_read, was_entered, has_other_value}
use Rattle.work_sets.specs.Entered.{Entered, is_let_in}
use Rattle.work_sets.specs.Members.{is_same_widget}
use Rattle.build_walk.specs.Past.{Past, Pasts, is_marked, past_in}
use Rattle.build_walk.specs.Keeping.{kept_output, reopened, reenter, refilled}

-- ---- which of the widgets that are entered are built

-- a component that was there: it is marked, or its widget is another one, or it reads inherited names that have other values
abbrev pub is_built_since : Option Entered → List ℕ → List ℕ → Entered → Bool
is_built_since None names marks e = true
is_built_since (Some was) names marks e =
    list_any (λ number. number == e.number) marks || (not (is_same_widget was.widget e.widget) || list_any (has_other_value was e) names)

abbrev pub is_built_reader : Option (List ℕ) → Option Entered → List ℕ → Entered → Bool
is_built_reader None was marks e = false
is_built_reader (Some names) was marks e = is_built_since was names marks e

-- a component is built where it is new, marked, has another widget, or reads inherited names that have other values
abbrev pub is_built : List Value → Option PlainNode → List ℕ → Entered → Bool
is_built defaults old marks e = is_built_reader (names_read (look_of e.widget)) (was_entered defaults old e.number) marks e

-- ---- how often the walk builds

-- one body is built where a component keeps nothing
abbrev pub one_unless : Option (List PlainWidget) → ℕ
one_unless None = 1
one_unless (Some ws) = 0

abbrev pub built_here : Option (List ℕ) → Option (List PlainWidget) → ℕ
built_here None kept = 0
built_here (Some names) kept = one_unless kept

-- what a count says of the state that a step leaves; nothing where it stops the build
abbrev pub count_after : {A : Type 0} → Step A → (A → Progress → ℕ) → ℕ
count_after (stops fault) later = 0
count_after (gives a s) later = later a s

abbrev pub builds_by_each : {A B : Type 0} → (A → Progress → Step B) → (A → Progress → ℕ) → List A → Progress → ℕ
builds_by_each step count [] s = 0
builds_by_each step count (x ∷ xs) s = count x s + count_after (step x s) (λ y s1. builds_by_each step count xs s1)

abbrev pub builds_below : (List Value → Arrival → Progress → Step PlainNode) → (List Value → Arrival → Progress → ℕ) → Phase → List Value → PlainWidget → Opening → Progress → ℕ
builds_below step count phase values w o s =
    if waits phase (build_role_of (look_of w)) then 0
    else builds_by_each (step (values_below w values)) (count (values_below w values)) (arrivals o.partner o.given) s

-- where a widget is opened: its own body, which counts also where what it gives is too large
abbrev pub builds_opening : Basis → Pasts → List Value → Arrival → Progress → ℕ
builds_opening from pasts values a s =
    if is_let_in from a s then built_here (names_read (look_of a.widget)) (kept_output pasts (partner_of from.holder a) a.widget values) else 0

-- where a widget is entered, and below it: a body counts also where what it gives is too large
unfoldable pub builds_from : Basis → Pasts → Phase → ℕ → List Value → Arrival → Progress → ℕ
builds_from from pasts phase zero values a s = 0
builds_from from pasts phase (suc left) values a s =
    if is_let_in from a s
    then built_here (names_read (look_of a.widget)) (kept_output pasts (partner_of from.holder a) a.widget values)
    + count_after (reopened from pasts values a s) (λ o s1.
    builds_below (reenter from pasts phase left) (builds_from from pasts phase left) phase values a.widget o s1)
    else 0

-- ---- in the second phase

abbrev pub builds_in_items : Basis → Pasts → ℕ → List Value → (ℕ → Window) → List PlainWidget → Progress → ℕ
builds_in_items from pasts left values range ws s =
    builds_by_each (reenter from pasts second left values) (builds_from from pasts second left values)
    (items (range (length ws)) (arrivals (next_waiting s.waiting) ws)) (one_served s)

abbrev pub count_or : BuildRole → (ℕ → ℕ) → ℕ → ℕ
count_or (composes place props) itemized others = others
count_or (provides name value) itemized others = others
count_or (keeps kept) itemized others = others
count_or (lists extent) itemized others = itemized extent
count_or holds itemized others = others

unfoldable mutual
  pub builds_filling : Basis → Pasts → Ranges → ℕ → List Value → PlainNode → Progress → ℕ
  builds_filling from pasts ranges left values (node number widget fields scroll index children) s =
      count_or (build_role_of (look_of widget))
      (λ extent. builds_in_items from pasts (left - 1) (values_below widget values) (ranges number extent) (child_widgets widget) s)
      (all_builds_filling from pasts ranges (left - 1) (values_below widget values) children s)

  pub all_builds_filling : Basis → Pasts → Ranges → ℕ → List Value → PlainNodes → Progress → ℕ
  all_builds_filling from pasts ranges left values no_nodes s = 0
  all_builds_filling from pasts ranges left values (more_nodes n ns) s =
      builds_filling from pasts ranges left values n s
      + count_after (refilled from pasts ranges left values n s) (λ m s1. all_builds_filling from pasts ranges left values ns s1)

abbrev pub builds_second : Basis → Pasts → (PlainNode → Ranges) → PlainNode → List (Option PlainNode) → Progress → ℕ
builds_second from pasts ranges tree [] s = 0
builds_second from pasts ranges tree (partner ∷ others) s = builds_filling from pasts (ranges tree) depth_limit from.program.defaults tree s

-- ---- in both

unfoldable pub builds_in_both : Basis → Pasts → (PlainNode → Ranges) → Arrival → Progress → ℕ
builds_in_both from pasts ranges root s =
    builds_from from pasts first depth_limit from.program.defaults root s
    + count_after (reenter from pasts first depth_limit from.program.defaults root s) (λ tree s1. builds_second from pasts ranges tree s1.waiting s1)

-- of a root widget after an old tree of which some nodes are marked, or none
unfoldable pub build_count : Blueprint → Screen → Option PlainNode → List ℕ → ℕ → PlainWidget → ℕ
build_count program screen old marks next root =
    if nat_lt output_limit (count_of root)
    then 0
    else builds_in_both (basis program old) (past_in marks program.defaults old) (live_ranges screen) (root_arrival old root) (started next)

-- ---- what is known of numbers and what was entered in the last frame say the same

abbrev pub Tells : List ℕ → ℕ → Option Past → Option Entered → Type 0
Tells marks number None None = Unit {0}
Tells marks number None (Some e) = ⊥
Tells marks number (Some p) None = ⊥
Tells marks number (Some p) (Some e) = (p.widget ≡ e.widget) × (p.values ≡ e.values) × (p.marked ≡ is_marked marks number)

-- so it is of each number, and none of those from some number on was entered
pub record TellsEntered (pasts : Pasts) (defaults : List Value) (old : Option PlainNode) (marks : List ℕ) (free : ℕ) : Type 0 where
  pub tells : (number : ℕ) → Tells marks number (pasts number) (was_entered defaults old number)
  pub unknown : (number : ℕ) → free ≤ number → was_entered defaults old number ≡ None
