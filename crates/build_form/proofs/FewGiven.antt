-- A build gives at most as many numbers as the program allows nodes.
use Rattle.std.proofs.Common.{◌≡◌, ℕ, zero, suc, ◌+◌, ◌-◌, ◌≤◌, nat_lt, nat_le, Option, Some, None, List, [], ◌∷◌, length, subst, arith}
use Rattle.std.proofs.lemmas.Bool.{leb-false}
use Rattle.fx_expr.specs.declared.values.Value.{Value}
use Rattle.widget_keys.specs.declared.keys.Key.{Key}
use Rattle.widget_keys.specs.declared.keys.Key.TheVariants as key
use Rattle.widget_model.specs.Plain.{PlainWidget, look_of, key_of}
use Rattle.widget_model.specs.Plain.{children_of as child_widgets}
use Rattle.widget_model.specs.Size.{count_of as widget_count}
use Rattle.sliver_layout.specs.declared.protocol.Window.{Window}
use Rattle.plain_tree.specs.PlainNode.{PlainNode, node, PlainNodes, no_nodes, more_nodes}
use Rattle.build_form.specs.Step.{Progress, Step, stops, gives, each, tree_too_large, repeated_global_key}
use Rattle.build_form.specs.BuildRole.{build_role_of}
use Rattle.build_form.specs.Partner.{Arrival, arrivals, root_arrival, partner_of}
use Rattle.build_form.specs.Entering.{Blueprint, Basis, Phase, first, second, depth_limit, output_limit, met_once, unless_repeated, apart, number_for, fields_for, counted, given_by, values_below, waits, put_off, opened, entered_below, enter}
use Rattle.build_form.specs.FullBuild.{Ranges, Screen, built, built_by, live_ranges, next_waiting, one_served, items, items_entered, if_lazy, filled, all_filled, second_phase, started, basis, first_tree, both_phases, full_build}
use Rattle.build_form.proofs.Stepping.{when_false, weaker, by_list, given_keeps}
use Rattle.build_form.proofs.OldOrNew.{OnGives, then, either, small_built}

module _ (from : Basis) (start : ℕ) where
  -- each number that was given went with a widget that was entered
  abbrev Few : Progress → Type 0
  Few s = (s.next ≤ start + s.entered) × (s.entered ≤ from.program.nodes)

  -- the same where one more may be entered
  abbrev Fewer : Progress → Type 0
  Fewer s = (s.next ≤ start + s.entered) × (suc s.entered ≤ from.program.nodes)

  few_met : (k : Key Value) (s : Progress) → Fewer s → OnGives (met_once k s) (λ x t. Fewer t)
  few_met key.None s h = h
  few_met (key.Local v) s h = h
  few_met (key.Global v) s h = either (s.met v) (stops (repeated_global_key v)) _ (λ x t. Fewer t) tt h

  few_counted : (o : Option PlainNode) (s : Progress) → Fewer s → Few (counted o s)
  few_counted None s h = let low = h.0 in (omega arith, h.1)
  few_counted (Some n) s h = let low = h.0 in (omega arith, h.1)

  few_apart : (o : Option (Key Value)) (ws : List PlainWidget) (s : Progress) → Few s → OnGives (unless_repeated o ws s) (λ x t. Few t)
  few_apart None ws s h = h
  few_apart (Some k) ws s h = tt

  few_opened : (values : List Value) (a : Arrival) (s : Progress) → Few s → OnGives (opened from values a s) (λ o t. Few t)
  few_opened values a s h =
      let partner = partner_of from.holder a in
      let fields = fields_for from.program a.widget partner in
      when_false (nat_le from.program.nodes s.entered) (stops tree_too_large) _ (λ o t. Few t) tt
      (λ few.
      let room = leb-false from.program.nodes s.entered few in
      then (met_once (key_of a.widget) s) _ (λ x t. Fewer t) (λ o t. Few t) (few_met (key_of a.widget) s (h.0, omega arith)) (λ x s1 h1.
      then (given_by from.program (build_role_of (look_of a.widget)) values (number_for partner s1) fields a.widget (counted partner s1)) _ (λ y t. Few t) (λ o t. Few t)
      (given_keeps Few from.program (build_role_of (look_of a.widget)) values (number_for partner s1) fields a.widget (counted partner s1) (few_counted partner s1 h1)) (λ ws s2 h2.
      then (apart ws s2) _ (λ y t. Few t) (λ o t. Few t) (few_apart _ ws s2 h2) (λ vs s3 h3. h3))))

  few_each : (go : Arrival → Progress → Step PlainNode) → ((a : Arrival) (s : Progress) → Few s → OnGives (go a s) (λ n t. Few t))
      → (bs : List Arrival) (s : Progress) → Few s → OnGives (each go bs s) (λ ns t. Few t)
  few_each go step [] s h = h
  few_each go step (a ∷ bs) s h =
      then (go a s) _ (λ n t. Few t) (λ ns t. Few t) (step a s h) (λ n s1 h1.
      then (each go bs s1) _ (λ ns t. Few t) (λ ns t. Few t) (few_each go step bs s1 h1) (λ ns s2 h2. h2))

  few_enter : (phase : Phase) (left : ℕ) (values : List Value) (a : Arrival) (s : Progress) → Few s → OnGives (enter from phase left values a s) (λ n t. Few t)
  unfolding enter
  few_enter phase zero values a s h = tt
  few_enter phase (suc left) values a s h =
      then (opened from values a s) _ (λ o t. Few t) (λ n t. Few t) (few_opened values a s h) (λ o s1 h1.
      then (entered_below (enter from phase left) phase values a.widget o s1) _ (λ ns t. Few t) (λ n t. Few t)
      (either (waits phase (build_role_of (look_of a.widget))) (put_off o.partner s1) _ (λ ns t. Few t) h1
      (few_each (enter from phase left (values_below a.widget values)) (λ b t f. few_enter phase left (values_below a.widget values) b t f) (arrivals o.partner o.given) s1 h1))
      (λ ns s2 h2. h2))

  few_items : (left : ℕ) (values : List Value) (range : ℕ → Window) (ws : List PlainWidget) (s : Progress) → Few s → OnGives (items_entered from left values range ws s) (λ ns t. Few t)
  few_items left values range ws s h =
      then (each (enter from second left values) (items (range (length ws)) (arrivals (next_waiting s.waiting) ws)) (one_served s)) _ (λ ns t. Few t) (λ ns t. Few t)
      (few_each (enter from second left values) (λ b t f. few_enter second left values b t f) (items (range (length ws)) (arrivals (next_waiting s.waiting) ws)) (one_served s) h)
      (λ ns t k. k)

  module _ (ranges : ℕ → ℕ → ℕ → Window) where
    mutual
      unfolding filled

      few_filled : (left : ℕ) (values : List Value) (n : PlainNode) (s : Progress) → Few s → OnGives (filled from ranges left values n s) (λ m t. Few t)
      few_filled left values (node number widget fields scroll index children) s h =
          let below = values_below widget values in
          then (if_lazy (build_role_of (look_of widget)) (λ e s1. items_entered from (left - 1) below (ranges number e) (child_widgets widget) s1) (λ s1. all_filled from ranges (left - 1) below children s1) s) _
          (λ ns t. Few t) (λ m t. Few t)
          (by_list (build_role_of (look_of widget)) (λ e s1. items_entered from (left - 1) below (ranges number e) (child_widgets widget) s1) (λ s1. all_filled from ranges (left - 1) below children s1) s (λ b ns t. Few t)
          (λ e lazy. few_items (left - 1) below (ranges number e) (child_widgets widget) s h) (λ not. few_all (left - 1) below children s h))
          (λ ns t k. k)

      few_all : (left : ℕ) (values : List Value) (ns : PlainNodes) (s : Progress) → Few s → OnGives (all_filled from ranges left values ns s) (λ ms t. Few t)
      few_all left values no_nodes s h = h
      few_all left values (more_nodes n ns) s h =
          then (filled from ranges left values n s) _ (λ m t. Few t) (λ ms t. Few t) (few_filled left values n s h) (λ m s1 h1.
          then (all_filled from ranges left values ns s1) _ (λ ms t. Few t) (λ ms t. Few t) (few_all left values ns s1 h1) (λ ms s2 h2. h2))

  few_second : (ranges : PlainNode → Ranges) (tree : PlainNode) (os : List (Option PlainNode)) (s : Progress) → Few s → OnGives (second_phase from ranges tree os s) (λ m t. Few t)
  few_second ranges tree [] s h = h
  few_second ranges tree (o ∷ os) s h = few_filled (ranges tree) depth_limit from.program.defaults tree s h

on_built : (r : Step PlainNode) (tree : PlainNode) (after most : ℕ) → OnGives r (λ m t. t.next ≤ most) → built_by r ≡ built tree after → after ≤ most
on_built (stops f) tree after most h e = cc
on_built (gives m s) tree after most h e = let same : s.next ≡ after = cc in subst (λ x. x ≤ most) same h

pub few_given : (b : Blueprint) (screen : Screen) (old : Option PlainNode) (next after : ℕ) (root : PlainWidget) (tree : PlainNode) → full_build b screen old next root ≡ built tree after
    → after ≤ next + b.nodes
unfolding full_build both_phases
few_given b screen old next after root tree e =
    let from = basis b old in
    let Q : PlainNode → Progress → Type 0 = λ n t. Few from next t in
    on_built (both_phases from (live_ranges screen) (root_arrival old root) (started next)) tree after (next + b.nodes)
    (weaker (both_phases from (live_ranges screen) (root_arrival old root) (started next)) Q (λ n t. t.next ≤ next + b.nodes) (λ n t h. let low = h.0 in let most = h.1 in omega arith)
    (then (first_tree b old next root) _ Q Q (few_enter from next first depth_limit b.defaults (root_arrival old root) (started next) (omega arith, omega arith))
    (λ t s1 h1. few_second from next (live_ranges screen) t s1.waiting s1 h1)))
    (small_built (nat_lt output_limit (widget_count root)) _ (both_phases from (live_ranges screen) (root_arrival old root) (started next)) tree after e)
