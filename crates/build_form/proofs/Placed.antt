-- In a tree that a build gives each node has the widget that stands at its place, whatever the old tree was.
use Rattle.std.proofs.Common.{◌≡◌, ℕ, zero, suc, ◌+◌, ◌-◌, nat_lt, nat_le, Bool, true, false, cond, Option, Some, None, List, [], ◌∷◌, length, map, filter, slice_get, refl, sym, ap, ◌∙◌, subst, arith}
use Rattle.fx_expr.specs.declared.values.Value.{Value}
use Rattle.widget_keys.specs.declared.keys.Key.{Key}
use Rattle.widget_model.specs.Plain.{PlainWidget, look_of, key_of}
use Rattle.widget_model.specs.Plain.{children_of as child_widgets}
use Rattle.widget_model.specs.Size.{count_of as widget_count}
use Rattle.reconcile.specs.Keys.{NoKeyRepeats}
use Rattle.reconcile.specs.Matching.{matching}
use Rattle.sliver_layout.specs.declared.protocol.Window.{Window}
use Rattle.plain_tree.specs.PlainNode.{PlainNode, node, PlainNodes, no_nodes, more_nodes, nodes_of, widget_of, index_of}
use Rattle.plain_tree.specs.PlainNode.{list_of as nodes_in}
use Rattle.build_form.specs.Step.{Progress, Step, stops, gives, each, tree_too_large}
use Rattle.build_form.specs.BuildRole.{build_role_of, is_lazy}
use Rattle.build_form.specs.Partner.{Arrival, partner_of, arrivals_from, arrivals, nodes_had, widgets_had, root_arrival}
use Rattle.build_form.specs.Entering.{Blueprint, Basis, Phase, first, second, depth_limit, output_limit, met_once, number_for, fields_for, counted, given_by, first_repeated, unless_repeated, apart, values_below, waits, put_off, Opening, opened, entered_below, made, enter}
use Rattle.build_form.specs.FullBuild.{Ranges, Screen, built, built_by, live_ranges, next_waiting, one_served, items, items_entered, if_lazy, filled, all_filled, second_phase, started, basis, first_tree, both_phases, full_build}
use Rattle.build_form.specs.Numbered.{StandAt, IsInPlace, AreInPlace}
use Rattle.build_form.proofs.Apart.{none_repeats}
use Rattle.build_form.proofs.Below.{list_of-nodes_of}
use Rattle.build_form.proofs.Entered.{lazy_opened}
use Rattle.build_form.proofs.Stepping.{anything, on_gives, both, by_wait, by_list, weaker}
use Rattle.build_form.proofs.OldOrNew.{OnGives, then, either, small_built}

-- ---- child widgets at their places

abbrev pub AreFrom : List PlainWidget → List Arrival → Type 0
AreFrom ws [] = Unit {0}
AreFrom ws (a ∷ bs) = (slice_get ws a.place ≡ Some a.widget) × AreFrom ws bs

module _ (given : List PlainWidget) (nodes : List PlainNode) where
  from_next : (i : ℕ) (w : PlainWidget) (ws : List PlainWidget) → ((j : ℕ) → slice_get (w ∷ ws) j ≡ slice_get given (i + j)) → (j : ℕ) → slice_get ws j ≡ slice_get given (suc i + j)
  from_next i w ws h j = let next : i + suc j ≡ suc i + j = omega arith in h (suc j) ∙ ap (slice_get given) next

  from_first : (i : ℕ) (w : PlainWidget) (ws : List PlainWidget) → ((j : ℕ) → slice_get (w ∷ ws) j ≡ slice_get given (i + j)) → slice_get given i ≡ Some w
  from_first i w ws h = let here : i ≡ i + 0 = omega arith in ap (slice_get given) here ∙ sym (h 0)

  from_places : (i : ℕ) (ws : List PlainWidget) (ms : List (Option ℕ)) → ((j : ℕ) → slice_get ws j ≡ slice_get given (i + j)) → AreFrom given (arrivals_from nodes i ws ms)
  from_places i [] ms h = tt
  from_places i (w ∷ ws) [] h = (from_first i w ws h, from_places (suc i) ws [] (from_next i w ws h))
  from_places i (w ∷ ws) (m ∷ ms) h = (from_first i w ws h, from_places (suc i) ws ms (from_next i w ws h))

from_arrivals : (o : Option PlainNode) (ws : List PlainWidget) → AreFrom ws (arrivals o ws)
from_arrivals o ws = from_places ws (nodes_had o) 0 ws (matching (widgets_had o) ws) (λ j. let same : j ≡ 0 + j = omega arith in ap (slice_get ws) same)

from_some : (ws : List PlainWidget) (b : Bool) (a : Arrival) (bs : List Arrival) → (slice_get ws a.place ≡ Some a.widget) → AreFrom ws bs → AreFrom ws (cond b (a ∷ bs) bs)
from_some ws true a bs h k = (h, k)
from_some ws false a bs h k = k

from_filtered : (ws : List PlainWidget) (test : Arrival → Bool) (bs : List Arrival) → AreFrom ws bs → AreFrom ws (filter test bs)
from_filtered ws test [] h = tt
from_filtered ws test (a ∷ bs) h = from_some ws (test a) a (filter test bs) h.0 (from_filtered ws test bs h.1)

-- they are those widgets
same_widgets : (ns : List PlainNode) (i : ℕ) (ws : List PlainWidget) (ms : List (Option ℕ)) → map (λ (a : Arrival). a.widget) (arrivals_from ns i ws ms) ≡ ws
same_widgets ns i [] ms = refl
same_widgets ns i (w ∷ ws) [] = ap (λ l. w ∷ l) (same_widgets ns (suc i) ws [])
same_widgets ns i (w ∷ ws) (m ∷ ms) = ap (λ l. w ∷ l) (same_widgets ns (suc i) ws ms)

-- ---- what comes of a widget

-- no child widgets of a lazy list have one key
abbrev mutual
  pub AreApart : PlainNode → Type 0
  AreApart (node number widget fields scroll index children) =
      (is_lazy (build_role_of (look_of widget)) ≡ true → NoKeyRepeats (child_widgets widget)) × AllAreApart children

  pub AllAreApart : PlainNodes → Type 0
  AllAreApart no_nodes = Unit {0}
  AllAreApart (more_nodes n ns) = AreApart n × AllAreApart ns

pub record Follows (a : Arrival) (n : PlainNode) : Type 0 where
  pub widget : widget_of n ≡ a.widget
  pub place : index_of n ≡ a.place
  pub placed : IsInPlace n
  pub apart : AreApart n

abbrev AllFollow : List Arrival → List PlainNode → Type 0
AllFollow [] [] = Unit {0}
AllFollow [] (n ∷ ns) = ⊥
AllFollow (a ∷ bs) [] = ⊥
AllFollow (a ∷ bs) (n ∷ ns) = Follows a n × AllFollow bs ns

follow_widgets : (bs : List Arrival) (ns : List PlainNode) → AllFollow bs ns → map widget_of ns ≡ map (λ (a : Arrival). a.widget) bs
follow_widgets [] [] h = refl
follow_widgets [] (n ∷ ns) h = absurd h
follow_widgets (a ∷ bs) [] h = absurd h
follow_widgets (a ∷ bs) (n ∷ ns) h = λ at. h.0.widget at ∷ follow_widgets bs ns h.1 at

follow_stand : (ws : List PlainWidget) (bs : List Arrival) (ns : List PlainNode) → AreFrom ws bs → AllFollow bs ns → StandAt ws ns
follow_stand ws [] [] f h = tt
follow_stand ws [] (n ∷ ns) f h = absurd h
follow_stand ws (a ∷ bs) [] f h = absurd h
follow_stand ws (a ∷ bs) (n ∷ ns) f h = (ap (slice_get ws) h.0.place ∙ f.0 ∙ ap (λ w. Some w) (sym h.0.widget), follow_stand ws bs ns f.1 h.1)

follow_placed : (bs : List Arrival) (ns : List PlainNode) → AllFollow bs ns → AreInPlace (nodes_of ns)
follow_placed [] [] h = tt
follow_placed [] (n ∷ ns) h = absurd h
follow_placed (a ∷ bs) [] h = absurd h
follow_placed (a ∷ bs) (n ∷ ns) h = (h.0.placed, follow_placed bs ns h.1)

follow_apart : (bs : List Arrival) (ns : List PlainNode) → AllFollow bs ns → AllAreApart (nodes_of ns)
follow_apart [] [] h = tt
follow_apart [] (n ∷ ns) h = absurd h
follow_apart (a ∷ bs) [] h = absurd h
follow_apart (a ∷ bs) (n ∷ ns) h = (h.0.apart, follow_apart bs ns h.1)

-- the nodes below one, in its list of child widgets
stand_by : (lazy : Bool) (w : PlainWidget) (ws : List PlainWidget) (ns : List PlainNode) → (lazy ≡ true → ws ≡ child_widgets w) → map widget_of ns ≡ ws → StandAt ws ns
    → StandAt (cond lazy (child_widgets w) (map widget_of ns)) ns
stand_by true w ws ns own all h = subst (λ vs. StandAt vs ns) (own refl) h
stand_by false w ws ns own all h = subst (λ vs. StandAt vs ns) (sym all) h

-- none below a list that waits, or one for each child widget
abbrev Came : Option PlainNode → List PlainWidget → Bool → List PlainNode → Type 0
Came o ws true ns = ns ≡ []
Came o ws false ns = AllFollow (arrivals o ws) ns

abbrev IsOpened : Arrival → Opening → Type 0
IsOpened a o = (is_lazy (build_role_of (look_of a.widget)) ≡ true → o.given ≡ child_widgets a.widget) × NoKeyRepeats o.given

came_below : (a : Arrival) (o : Opening) (b : Bool) (ns : List PlainNode) → IsOpened a o → Came o.partner o.given b ns
    → StandAt (cond (is_lazy (build_role_of (look_of a.widget))) (child_widgets a.widget) (map widget_of ns)) ns × AreInPlace (nodes_of ns) × AllAreApart (nodes_of ns)
came_below a o true ns is none =
    let lazy = is_lazy (build_role_of (look_of a.widget)) in
    subst (λ ms. StandAt (cond lazy (child_widgets a.widget) (map widget_of ms)) ms × AreInPlace (nodes_of ms) × AllAreApart (nodes_of ms)) (sym none) (tt, tt, tt)
came_below a o false ns is all =
    let bs = arrivals o.partner o.given in
    let widgets = follow_widgets bs ns all ∙ same_widgets (nodes_had o.partner) 0 o.given (matching (widgets_had o.partner) o.given) in (
      stand_by (is_lazy (build_role_of (look_of a.widget))) a.widget o.given ns is.0 widgets (follow_stand o.given bs ns (from_arrivals o.partner o.given) all),
      follow_placed bs ns all,
      follow_apart bs ns all,
    )

came : (a : Arrival) (o : Opening) (b : Bool) (ns : List PlainNode) → IsOpened a o → Came o.partner o.given b ns → Follows a (made a o ns)
came a o b ns is below =
    let lazy = is_lazy (build_role_of (look_of a.widget)) in
    let h = came_below a o b ns is below in
    record {
      widget = refl;
      place = refl;
      placed = (subst (λ ms. StandAt (cond lazy (child_widgets a.widget) (map widget_of ms)) ms) (sym (list_of-nodes_of ns)) h.0, h.1);
      apart = (λ e. subst NoKeyRepeats (is.0 e) is.1, h.2);
    }

by_repeat : (Q : Progress → Type 0) (ws : List PlainWidget) (s : Progress) → Q s → (r : Option (Key Value)) → first_repeated [] (map key_of ws) ≡ r → OnGives (unless_repeated r ws s) (λ vs t. Q t × NoKeyRepeats vs)
by_repeat Q ws s h None e = (h, none_repeats ws e)
by_repeat Q ws s h (Some k) e = tt

pub apart_after : (Q : Progress → Type 0) (ws : List PlainWidget) (s : Progress) → Q s → OnGives (apart ws s) (λ vs t. Q t × NoKeyRepeats vs)
apart_after Q ws s h = by_repeat Q ws s h (first_repeated [] (map key_of ws)) refl

module _ (from : Basis) where
  opened_apart : (values : List Value) (a : Arrival) (s : Progress) → OnGives (opened from values a s) (λ o t. NoKeyRepeats o.given)
  opened_apart values a s =
      let partner = partner_of from.holder a in
      let fields = fields_for from.program a.widget partner in
      let Q : Progress → Type 0 = λ t. Unit {0} in
      either (nat_le from.program.nodes s.entered) (stops tree_too_large) _ (λ o t. NoKeyRepeats o.given) tt
      (then (met_once (key_of a.widget) s) _ (λ x t. Unit {0}) (λ o t. NoKeyRepeats o.given) (anything (met_once (key_of a.widget) s)) (λ x s1 h1.
      then (given_by from.program (build_role_of (look_of a.widget)) values (number_for partner s1) fields a.widget (counted partner s1)) _ (λ y t. Unit {0}) (λ o t. NoKeyRepeats o.given)
      (anything (given_by from.program (build_role_of (look_of a.widget)) values (number_for partner s1) fields a.widget (counted partner s1))) (λ ws s2 h2.
      then (apart ws s2) _ (λ vs t. Unit {0} × NoKeyRepeats vs) (λ o t. NoKeyRepeats o.given) (apart_after Q ws s2 tt) (λ vs s3 h3. h3.1))))

  opened_is : (values : List Value) (a : Arrival) (s : Progress) → OnGives (opened from values a s) (λ o t. IsOpened a o)
  opened_is values a s =
      both (opened from values a s) (λ o t. is_lazy (build_role_of (look_of a.widget)) ≡ true → o.given ≡ child_widgets a.widget) (λ o t. NoKeyRepeats o.given)
      (on_gives (opened from values a s) (λ o t. is_lazy (build_role_of (look_of a.widget)) ≡ true → o.given ≡ child_widgets a.widget) (λ o t e lazy. lazy_opened from values a s o t e lazy))
      (opened_apart values a s)

  each_follows : (go : Arrival → Progress → Step PlainNode) → ((a : Arrival) (s : Progress) → OnGives (go a s) (λ n t. Follows a n)) → (bs : List Arrival) (s : Progress) → OnGives (each go bs s) (λ ns t. AllFollow bs ns)
  each_follows go step [] s = tt
  each_follows go step (a ∷ bs) s =
      then (go a s) _ (λ n t. Follows a n) (λ ns t. AllFollow (a ∷ bs) ns) (step a s) (λ n s1 h1.
      then (each go bs s1) _ (λ ns t. AllFollow bs ns) (λ ns t. AllFollow (a ∷ bs) ns) (each_follows go step bs s1) (λ ns s2 h2. (h1, h2)))

  pub enter_follows : (phase : Phase) (left : ℕ) (values : List Value) (a : Arrival) (s : Progress) → OnGives (enter from phase left values a s) (λ n t. Follows a n)
  unfolding enter
  enter_follows phase zero values a s = tt
  enter_follows phase (suc left) values a s =
      then (opened from values a s) _ (λ o t. IsOpened a o) (λ n t. Follows a n) (opened_is values a s) (λ o s1 h1.
      let b = waits phase (build_role_of (look_of a.widget)) in
      then (entered_below (enter from phase left) phase values a.widget o s1) _ (λ ns t. Came o.partner o.given b ns) (λ n t. Follows a n)
      (by_wait b (put_off o.partner s1) _ (λ c ns t. Came o.partner o.given c ns) refl
      (each_follows (enter from phase left (values_below a.widget values)) (λ c t. enter_follows phase left (values_below a.widget values) c t) (arrivals o.partner o.given) s1))
      (λ ns s2 h2. came a o b ns h1 h2))

  -- ---- the second phase

  abbrev Stays : PlainNode → PlainNode → Type 0
  Stays n m = (widget_of m ≡ widget_of n) × (index_of m ≡ index_of n) × IsInPlace m

  abbrev AllStay : PlainNodes → PlainNodes → Type 0
  AllStay no_nodes no_nodes = Unit {0}
  AllStay no_nodes (more_nodes m ms) = ⊥
  AllStay (more_nodes n ns) no_nodes = ⊥
  AllStay (more_nodes n ns) (more_nodes m ms) = Stays n m × AllStay ns ms

  stay_placed : (ns ms : PlainNodes) → AllStay ns ms → AreInPlace ms
  stay_placed no_nodes no_nodes h = tt
  stay_placed no_nodes (more_nodes m ms) h = absurd h
  stay_placed (more_nodes n ns) no_nodes h = absurd h
  stay_placed (more_nodes n ns) (more_nodes m ms) h = (h.0.2, stay_placed ns ms h.1)

  stay_widgets : (ns ms : PlainNodes) → AllStay ns ms → map widget_of (nodes_in ms) ≡ map widget_of (nodes_in ns)
  stay_widgets no_nodes no_nodes h = refl
  stay_widgets no_nodes (more_nodes m ms) h = absurd h
  stay_widgets (more_nodes n ns) no_nodes h = absurd h
  stay_widgets (more_nodes n ns) (more_nodes m ms) h = λ at. h.0.0 at ∷ stay_widgets ns ms h.1 at

  stay_stand : (ws : List PlainWidget) (ns ms : PlainNodes) → AllStay ns ms → StandAt ws (nodes_in ns) → StandAt ws (nodes_in ms)
  stay_stand ws no_nodes no_nodes h k = tt
  stay_stand ws no_nodes (more_nodes m ms) h k = absurd h
  stay_stand ws (more_nodes n ns) no_nodes h k = absurd h
  stay_stand ws (more_nodes n ns) (more_nodes m ms) h k = (ap (slice_get ws) h.0.1 ∙ k.0 ∙ ap (λ w. Some w) (sym h.0.0), stay_stand ws ns ms h.1 k.1)

  -- the nodes below a filled one
  abbrev Filled : PlainWidget → Bool → PlainNodes → Type 0
  Filled w lazy ms = StandAt (cond lazy (child_widgets w) (map widget_of (nodes_in ms))) (nodes_in ms) × AreInPlace ms

  items_filled : (left : ℕ) (values : List Value) (range : ℕ → Window) (w : PlainWidget) (s : Progress) → OnGives (items_entered from left values range (child_widgets w) s) (λ ms t. Filled w true ms)
  items_filled left values range w s =
      let ws = child_widgets w in
      let bs = items (range (length ws)) (arrivals (next_waiting s.waiting) ws) in
      then (each (enter from second left values) bs (one_served s)) _ (λ ns t. AllFollow bs ns) (λ ms t. Filled w true ms)
      (each_follows (enter from second left values) (λ b t. enter_follows second left values b t) bs (one_served s))
      (λ ns t h. (
        subst (StandAt ws) (sym (list_of-nodes_of ns)) (follow_stand ws bs ns (from_filtered ws _ (arrivals (next_waiting s.waiting) ws) (from_arrivals (next_waiting s.waiting) ws)) h),
        follow_placed bs ns h,
      ))

  others_filled : (w : PlainWidget) (ns ms : PlainNodes) → StandAt (map widget_of (nodes_in ns)) (nodes_in ns) → AllStay ns ms → Filled w false ms
  others_filled w ns ms h k = (stay_stand (map widget_of (nodes_in ms)) ns ms k (subst (λ vs. StandAt vs (nodes_in ns)) (sym (stay_widgets ns ms k)) h), stay_placed ns ms k)

  module _ (ranges : ℕ → ℕ → ℕ → Window) where
    mutual
      unfolding filled

      filled_stays : (left : ℕ) (values : List Value) (n : PlainNode) (s : Progress) → IsInPlace n → OnGives (filled from ranges left values n s) (λ m t. Stays n m)
      filled_stays left values (node number widget fields scroll index children) s h =
          let below = values_below widget values in
          let lazy = is_lazy (build_role_of (look_of widget)) in
          then (if_lazy (build_role_of (look_of widget)) (λ e s1. items_entered from (left - 1) below (ranges number e) (child_widgets widget) s1) (λ s1. all_filled from ranges (left - 1) below children s1) s) _
          (λ ms t. Filled widget lazy ms) (λ m t. Stays (node number widget fields scroll index children) m)
          (by_list (build_role_of (look_of widget)) (λ e s1. items_entered from (left - 1) below (ranges number e) (child_widgets widget) s1) (λ s1. all_filled from ranges (left - 1) below children s1) s (λ b ms t. Filled widget b ms)
          (λ e is. items_filled (left - 1) below (ranges number e) widget s)
          (λ not. weaker (all_filled from ranges (left - 1) below children s) (λ ms t. AllStay children ms) (λ ms t. Filled widget false ms)
          (λ ms t k. others_filled widget children ms (subst (λ b. StandAt (cond b (child_widgets widget) (map widget_of (nodes_in children))) (nodes_in children)) not h.0) k)
          (all_stay (left - 1) below children s h.1)))
          (λ ms t k. (refl, refl, k))

      all_stay : (left : ℕ) (values : List Value) (ns : PlainNodes) (s : Progress) → AreInPlace ns → OnGives (all_filled from ranges left values ns s) (λ ms t. AllStay ns ms)
      all_stay left values no_nodes s h = tt
      all_stay left values (more_nodes n ns) s h =
          then (filled from ranges left values n s) _ (λ m t. Stays n m) (λ ms t. AllStay (more_nodes n ns) ms) (filled_stays left values n s h.0) (λ m s1 h1.
          then (all_filled from ranges left values ns s1) _ (λ ms t. AllStay ns ms) (λ ms t. AllStay (more_nodes n ns) ms) (all_stay left values ns s1 h.1) (λ ms s2 h2. (h1, h2)))

  second_placed : (ranges : PlainNode → Ranges) (tree : PlainNode) (os : List (Option PlainNode)) (s : Progress) → IsInPlace tree → OnGives (second_phase from ranges tree os s) (λ m t. IsInPlace m)
  second_placed ranges tree [] s h = h
  second_placed ranges tree (o ∷ os) s h =
      weaker (filled from (ranges tree) depth_limit from.program.defaults tree s) (λ m t. Stays tree m) (λ m t. IsInPlace m) (λ m t k. k.2)
      (filled_stays (ranges tree) depth_limit from.program.defaults tree s h)

on_built : (r : Step PlainNode) (tree : PlainNode) (after : ℕ) → OnGives r (λ m t. IsInPlace m) → built_by r ≡ built tree after → IsInPlace tree
on_built (stops f) tree after h e = cc
on_built (gives m s) tree after h e = let same : m ≡ tree = cc in subst IsInPlace same h

pub built_in_place : (b : Blueprint) (screen : Screen) (old : Option PlainNode) (next after : ℕ) (root : PlainWidget) (tree : PlainNode) → full_build b screen old next root ≡ built tree after → IsInPlace tree
unfolding full_build both_phases
built_in_place b screen old next after root tree e =
    on_built (both_phases (basis b old) (live_ranges screen) (root_arrival old root) (started next)) tree after
    (then (first_tree b old next root) _ (λ n t. Follows (root_arrival old root) n) (λ m t. IsInPlace m) (enter_follows (basis b old) first depth_limit b.defaults (root_arrival old root) (started next))
    (λ t s1 h1. second_placed (basis b old) (live_ranges screen) t s1.waiting s1 h1.placed))
    (small_built (nat_lt output_limit (widget_count root)) _ (both_phases (basis b old) (live_ranges screen) (root_arrival old root) (started next)) tree after e)
