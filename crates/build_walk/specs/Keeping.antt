-- The walk of a build that keeps what bodies gave before, where it needn't be made anew.
use Rattle.std.specs.Prelude.{ℕ, zero, suc, ◌-◌, nat_lt, nat_le, Bool, not, ◌&&◌, if◌then◌else◌, Option, Some, None, List, [], ◌∷◌, length}
use Rattle.std.specs.List.{list_all}
use Rattle.fx_expr.specs.declared.values.Value.{Value}
use Rattle.fx_expr.specs.Scope.{value_at}
use Rattle.fx_expr.specs.Value.{value_eq}
use Rattle.sliver_layout.specs.declared.protocol.Window.{Window}
use Rattle.widget_model.specs.Plain.{PlainWidget, look_of, key_of}
use Rattle.widget_model.specs.Plain.{children_of as child_widgets}
use Rattle.widget_model.specs.Size.{count_of}
use Rattle.plain_tree.specs.PlainNode.{PlainNode, node, PlainNodes, no_nodes, more_nodes, nodes_of, number_of}
use Rattle.build_form.specs.Step.{output_too_large, tree_too_large, Progress, Step, stops, gives, and_then, each}
use Rattle.build_form.specs.BuildRole.{build_role_of}
use Rattle.build_form.specs.Partner.{Arrival, partner_of, arrivals, root_arrival}
use Rattle.build_form.specs.Entering.{Blueprint, Basis, depth_limit, output_limit, Phase, first, second, met_once, number_for, fields_for, counted, given_by, apart, values_below, Opening, opening, entered_below, made}
use Rattle.build_form.specs.FullBuild.{Screen, Ranges, live_ranges, Built, failed, built_by, items, next_waiting, one_served, if_lazy, started, basis}
use Rattle.work_sets.specs.Due.{names_read}
use Rattle.work_sets.specs.Members.{is_same_widget}
use Rattle.build_walk.specs.Past.{Past, Pasts, past_in}

-- ---- what is kept

-- the inherited names that a component reads have the values that they had
abbrev pub reads_alike : List ℕ → List Value → List Value → Bool
reads_alike names was now = list_all (λ name. value_eq (value_at was name) (value_at now name)) names

-- a component that isn't marked, has the widget that it had, and reads what it read
abbrev pub is_unchanged : List ℕ → Past → PlainWidget → List Value → Bool
is_unchanged names p w values = not p.marked && (is_same_widget p.widget w && reads_alike names p.values values)

abbrev pub kept_since : Option (List ℕ) → Option Past → PlainWidget → List Value → Option (List PlainWidget)
kept_since None p w values = None
kept_since (Some names) None w values = None
kept_since (Some names) (Some p) w values = if is_unchanged names p w values then Some p.output else None

-- what is known of the node that a widget goes on from
abbrev pub past_for : Pasts → Option PlainNode → Option Past
past_for pasts None = None
past_for pasts (Some n) = pasts (number_of n)

-- what a component keeps of what its body gave, where it goes on from a node of the old tree
abbrev pub kept_output : Pasts → Option PlainNode → PlainWidget → List Value → Option (List PlainWidget)
kept_output pasts partner w values = kept_since (names_read (look_of w)) (past_for pasts partner) w values

-- what is kept, or else what a step gives
abbrev pub kept_or : Option (List PlainWidget) → (Progress → Step (List PlainWidget)) → Progress → Step (List PlainWidget)
kept_or None step s = step s
kept_or (Some ws) step s = gives ws s

-- ---- the first phase: as a build enters widgets, but that a component that keeps its output isn't built

abbrev pub reopened : Basis → Pasts → List Value → Arrival → Progress → Step Opening
reopened from pasts values a s =
    if nat_le from.program.nodes s.entered then stops tree_too_large else
    and_then (met_once (key_of a.widget) s) (λ _ s1.
    let partner = partner_of from.holder a in
    let number = number_for partner s1 in
    let fields = fields_for from.program a.widget partner in
    and_then (kept_or (kept_output pasts partner a.widget values)
    (given_by from.program (build_role_of (look_of a.widget)) values number fields a.widget) (counted partner s1)) (λ given s2.
    and_then (apart given s2) (λ ws s3. gives (opening partner number fields ws) s3)))

unfoldable pub reenter : Basis → Pasts → Phase → ℕ → List Value → Arrival → Progress → Step PlainNode
reenter from pasts phase zero values a s = stops tree_too_large
reenter from pasts phase (suc left) values a s =
    and_then (reopened from pasts values a s) (λ o s1.
    and_then (entered_below (reenter from pasts phase left) phase values a.widget o s1) (λ ns s2. gives (made a o ns) s2))

-- ---- the second phase

abbrev pub items_reentered : Basis → Pasts → ℕ → List Value → (ℕ → Window) → List PlainWidget → Progress → Step PlainNodes
items_reentered from pasts left values range ws s =
    and_then (each (reenter from pasts second left values) (items (range (length ws)) (arrivals (next_waiting s.waiting) ws)) (one_served s)) (λ ns s1.
    gives (nodes_of ns) s1)

unfoldable mutual
  pub refilled : Basis → Pasts → Ranges → ℕ → List Value → PlainNode → Progress → Step PlainNode
  refilled from pasts ranges left values (node number widget fields scroll index children) s =
      let below = values_below widget values in
      and_then (if_lazy (build_role_of (look_of widget))
      (λ extent s1. items_reentered from pasts (left - 1) below (ranges number extent) (child_widgets widget) s1)
      (λ s1. all_refilled from pasts ranges (left - 1) below children s1) s) (λ ns s1.
      gives (node number widget fields scroll index ns) s1)

  pub all_refilled : Basis → Pasts → Ranges → ℕ → List Value → PlainNodes → Progress → Step PlainNodes
  all_refilled from pasts ranges left values no_nodes s = gives no_nodes s
  all_refilled from pasts ranges left values (more_nodes n ns) s =
      and_then (refilled from pasts ranges left values n s) (λ m s1.
      and_then (all_refilled from pasts ranges left values ns s1) (λ ms s2. gives (more_nodes m ms) s2))

-- ---- both phases

abbrev pub second_again : Basis → Pasts → (PlainNode → Ranges) → PlainNode → List (Option PlainNode) → Progress → Step PlainNode
second_again from pasts ranges tree [] s = gives tree s
second_again from pasts ranges tree (partner ∷ others) s = refilled from pasts (ranges tree) depth_limit from.program.defaults tree s

unfoldable pub both_again : Basis → Pasts → (PlainNode → Ranges) → Arrival → Progress → Step PlainNode
both_again from pasts ranges root s =
    and_then (reenter from pasts first depth_limit from.program.defaults root s) (λ tree s1. second_again from pasts ranges tree s1.waiting s1)

-- the tree of a root widget, after an old tree of which some nodes are marked, or none
unfoldable pub rebuild : Blueprint → Screen → Option PlainNode → List ℕ → ℕ → PlainWidget → Built
rebuild program screen old marks next root =
    if nat_lt output_limit (count_of root)
    then failed output_too_large
    else built_by (both_again (basis program old) (past_in marks program.defaults old) (live_ranges screen) (root_arrival old root) (started next))
