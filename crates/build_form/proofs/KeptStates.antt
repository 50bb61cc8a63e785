-- A node that survives a build keeps its type and key, its fields and its offset; a new one has its first ones.
use Rattle.std.proofs.Common.{◌≡◌, ℕ, zero, suc, ◌-◌, ◌≤◌, nat_lt, nat_le, eqb, ◌&&◌, inl, inr, Bool, true, false, cond, Option, Some, None, IfSome, List, [], ◌∷◌, ◌++◌, filter, length, slice_get, refl, sym, ap, ◌∙◌, subst, arith}
use Rattle.std.specs.List.{find}
use Rattle.std.specs.Option.{option_or}
use borrow.Author.Tests.{eqb-true, eqb-false}
use Rattle.fx_expr.specs.declared.values.Value.{Value}
use Rattle.widget_keys.specs.declared.keys.Key.{Key}
use Rattle.widget_keys.specs.declared.keys.Key.TheVariants as key
use Rattle.widget_model.specs.Plain.{PlainWidget, look_of, key_of}
use Rattle.widget_model.specs.Plain.{children_of as child_widgets}
use Rattle.widget_model.specs.Size.{count_of}
use Rattle.widget_model.specs.Update.{key_eq, same_type, updates, CanUpdate}
use Rattle.widget_model.specs.UpdateLaws.{key_eq-Decides, updates_mean}
use Rattle.reconcile.specs.Laws.{CanUpdateAt}
use Rattle.reconcile.specs.Matching.{matching}
use Rattle.reconcile.proofs.LawLemmas.{matched_can_update}
use Rattle.sliver_layout.specs.declared.protocol.Window.{Window}
use Rattle.plain_tree.specs.At.{node_at, node_in, numbers_of, numbers_in}
use Rattle.plain_tree.specs.Laws.{AllDiffer}
use Rattle.plain_tree.specs.PlainNode.{PlainNode, node, PlainNodes, no_nodes, more_nodes, nodes_of, number_of, widget_of, fields_of, scroll_of, index_of, children_of}
use Rattle.plain_tree.specs.PlainNode.{list_of as nodes_in}
use Rattle.plain_tree.specs.States.{preorder_of, preorder_in}
use Rattle.plain_tree.proofs.Numbers.{IsIn, in_left, in_right, differs, apart as numbers_apart, differ_left, differ_right}
use Rattle.build_form.specs.Step.{Progress, Step, stops, gives, each, tree_too_large, repeated_global_key}
use Rattle.build_form.specs.BuildRole.{BuildRole, composes, provides, keeps, lists, holds, build_role_of}
use Rattle.build_form.specs.Partner.{node_at as node_among, Arrival, widgets_below, node_at_any, arrivals_from, arrivals, nodes_had, widgets_had, beside_root, root_arrival, has_global, holder_in, of_type, candidate, partner_of}
use Rattle.build_form.specs.Entering.{Blueprint, Basis, Phase, first, second, depth_limit, output_limit, met_once, unless_repeated, apart, first_fields, number_for, fields_for, scroll_for, counted, given_by, values_below, waits, put_off, Opening, opened, entered_below, enter}
use Rattle.build_form.specs.FullBuild.{Ranges, Screen, built, built_by, live_ranges, next_waiting, one_served, others_waiting, items, items_entered, if_lazy, filled, all_filled, second_phase, started, basis, first_tree, both_phases, full_build}
use Rattle.build_form.proofs.OldOrNew.{OnGives, then, either, small_built}
use Rattle.build_form.specs.Numbered.{StandAt, IsInPlace, AreInPlace, IsNumbered}
use Rattle.build_form.specs.KeptStates.{HadOrIsNew, EachIs, AllAre}

-- a node that a widget is matched to can update to it
abbrev Matches : PlainWidget → Option PlainNode → Type 0
Matches w o = IfSome o (λ n. updates (widget_of n) w ≡ true)

abbrev CanAt : List PlainWidget → PlainWidget → ℕ → Type 0
CanAt olds w j = (a : PlainWidget) × (slice_get olds j ≡ Some a) × (updates a w ≡ true)

module _ (olds : List PlainWidget) (w : PlainWidget) (j : ℕ) where
  matches_by : (b : Bool) (c : PlainNode) (o : Option PlainNode) → eqb (index_of c) j ≡ b → slice_get olds (index_of c) ≡ Some (widget_of c) → CanAt olds w j → Matches w o → Matches w (cond b (Some c) o)
  matches_by true c o e stands can rest =
      let there : Some (widget_of c) ≡ Some can.0 = sym stands ∙ ap (slice_get olds) (eqb-true (index_of c) j e) ∙ can.1 in
      let same : widget_of c ≡ can.0 = cc in
      subst (λ v. updates v w ≡ true) (sym same) can.2
  matches_by false c o e stands can rest = rest

  matches_at : (ns : List PlainNode) → StandAt olds ns → CanAt olds w j → Matches w (node_among ns j)
  matches_at [] h can = tt
  matches_at (c ∷ ns) h can = matches_by (eqb (index_of c) j) c (node_among ns j) refl h.0 can (matches_at ns h.1 can)

can_at : (olds ws : List PlainWidget) (k j : ℕ) (w : PlainWidget) → slice_get ws k ≡ Some w → CanUpdateAt olds ws j k → CanAt olds w j
can_at olds ws k j w at can =
    let there : Some can.1 ≡ Some w = sym can.3 ∙ at in
    let same : can.1 ≡ w = cc in
    (can.0, can.2, subst (λ v. updates can.0 v ≡ true) same can.4)

-- the node that is found with a global key has it
abbrev HasKey : Value → Option PlainNode → Type 0
HasKey v o = IfSome o (λ n. key.Global v ≡ key_of (widget_of n))

key_by : (v : Value) (b : Bool) (n : PlainNode) (o : Option PlainNode) → has_global v n ≡ b → HasKey v o → HasKey v (cond b (Some n) o)
key_by v true n o e h = (key_eq-Decides (key.Global v) (key_of (widget_of n))).0 e
key_by v false n o e h = h

key_found : (v : Value) (ns : List PlainNode) → HasKey v (find (has_global v) ns)
key_found v [] = tt
key_found v (n ∷ ns) = key_by v (has_global v n) n (find (has_global v) ns) refl (key_found v ns)

key_held : (old : Option PlainNode) (v : Value) → HasKey v (holder_in old v)
key_held None v = tt
key_held (Some n) v = key_found v (preorder_of n)

both_hold : (x y : Bool) → x ≡ true → y ≡ true → (x && y) ≡ true
both_hold true true e f = refl
both_hold true false e f = cc
both_hold false y e f = cc

matches_if : (b : Bool) (n : PlainNode) (w : PlainWidget) → updates (widget_of n) w ≡ b → Matches w (cond b (Some n) None)
matches_if true n w e = e
matches_if false n w e = tt

matches_root : (old : Option PlainNode) (w : PlainWidget) → Matches w (beside_root old w)
matches_root None w = tt
matches_root (Some n) w = matches_if (updates (widget_of n) w) n w refl

-- this of each node of the old tree
abbrev mutual
  EachWas : (PlainNode → Type 0) → PlainNode → Type 0
  EachWas Q (node number widget fields scroll index children) = Q (node number widget fields scroll index children) × AllWere Q children

  AllWere : (PlainNode → Type 0) → PlainNodes → Type 0
  AllWere Q no_nodes = Unit {0}
  AllWere Q (more_nodes n ns) = EachWas Q n × AllWere Q ns

module _ (Q : PlainNode → Type 0) (R : ℕ → PlainWidget → List Value → ℕ → Type 0) (stand : (n : PlainNode) → Q n → StandAt (widgets_below n) (children_of n)) where
  abbrev AreGood : List PlainNode → Type 0
  AreGood [] = Unit {0}
  AreGood (n ∷ ns) = EachWas Q n × AreGood ns

  abbrev Good : Option PlainNode → Type 0
  Good o = IfSome o (EachWas Q)

  abbrev Waiting : List (Option PlainNode) → Type 0
  Waiting [] = Unit {0}
  Waiting (o ∷ os) = Good o × Waiting os

  good_append : (xs ys : List PlainNode) → AreGood xs → AreGood ys → AreGood (xs ++ ys)
  good_append [] ys h k = k
  good_append (x ∷ xs) ys h k = (h.0, good_append xs ys h.1 k)

  waiting_more : (os : List (Option PlainNode)) (o : Option PlainNode) → Waiting os → Good o → Waiting (os ++ o ∷ [])
  waiting_more [] o h g = (g, tt)
  waiting_more (x ∷ os) o h g = (h.0, waiting_more os o h.1 g)

  good_list : (ns : PlainNodes) → AllWere Q ns → AreGood (nodes_in ns)
  good_list no_nodes h = tt
  good_list (more_nodes n ns) h = (h.0, good_list ns h.1)

  -- each of these nodes is so
  abbrev AreMade : List PlainNode → Type 0
  AreMade [] = Unit {0}
  AreMade (n ∷ ns) = EachIs R n × AreMade ns

  made_nodes : (ns : List PlainNode) → AreMade ns → AllAre R (nodes_of ns)
  made_nodes [] h = tt
  made_nodes (n ∷ ns) h = (h.0, made_nodes ns h.1)

  mutual
    good_preorder : (n : PlainNode) → EachWas Q n → AreGood (preorder_of n)
    good_preorder (node number widget fields scroll index children) h = (h, good_preorders children h.1)

    good_preorders : (ns : PlainNodes) → AllWere Q ns → AreGood (preorder_in ns)
    good_preorders no_nodes h = tt
    good_preorders (more_nodes n ns) h = good_append (preorder_of n) (preorder_in ns) (good_preorder n h.0) (good_preorders ns h.1)

  kept : (b : Bool) (n : PlainNode) (o : Option PlainNode) → EachWas Q n → Good o → Good (cond b (Some n) o)
  kept true n o h g = h
  kept false n o h g = g

  good_found : (test : PlainNode → Bool) (ns : List PlainNode) → AreGood ns → Good (find test ns)
  good_found test [] h = tt
  good_found test (n ∷ ns) h = kept (test n) n (find test ns) h.0 (good_found test ns h.1)

  good_at : (ns : List PlainNode) (m : Option ℕ) → AreGood ns → Good (node_at_any ns m)
  good_at ns None h = tt
  good_at ns (Some j) h = good_found _ ns h

  -- what a widget is matched to is so, and can update to it
  abbrev Fits : Arrival → Type 0
  Fits a = Good a.beside × Matches a.widget a.beside

  abbrev Arriving : List Arrival → Type 0
  Arriving [] = Unit {0}
  Arriving (a ∷ bs) = Fits a × Arriving bs

  matches_any : (olds : List PlainWidget) (ns : List PlainNode) (w : PlainWidget) (m : Option ℕ) → StandAt olds ns → ((j : ℕ) → m ≡ Some j → CanAt olds w j) → Matches w (node_at_any ns m)
  matches_any olds ns w None h can = tt
  matches_any olds ns w (Some j) h can = matches_at olds w j ns h (can j refl)

  good_from : (olds : List PlainWidget) (ns : List PlainNode) (i : ℕ) (ws : List PlainWidget) (ms : List (Option ℕ)) → StandAt olds ns → AreGood ns
      → ((k j : ℕ) (w : PlainWidget) → slice_get ws k ≡ Some w → slice_get ms k ≡ Some (Some j) → CanAt olds w j) → Arriving (arrivals_from ns i ws ms)
  good_from olds ns i [] ms s h can = tt
  good_from olds ns i (w ∷ ws) [] s h can = ((tt, tt), good_from olds ns (suc i) ws [] s h (λ k j v at none. can (suc k) j v at none))
  good_from olds ns i (w ∷ ws) (m ∷ ms) s h can = (
    (good_at ns m h, matches_any olds ns w m s (λ j is. can 0 j w refl (ap (λ o. Some o) is))),
    good_from olds ns (suc i) ws ms s h (λ k j v at is. can (suc k) j v at is),
  )

  good_had : (o : Option PlainNode) → Good o → AreGood (nodes_had o)
  good_had None h = tt
  good_had (Some (node number widget fields scroll index children)) h = good_list children h.1

  was_own : (n : PlainNode) → EachWas Q n → Q n
  was_own (node number widget fields scroll index children) h = h.0

  stand_had : (o : Option PlainNode) → Good o → StandAt (widgets_had o) (nodes_had o)
  stand_had None h = tt
  stand_had (Some n) h = stand n (was_own n h)

  good_arrivals : (o : Option PlainNode) (ws : List PlainWidget) → Good o → Arriving (arrivals o ws)
  good_arrivals o ws h =
      let olds = widgets_had o in
      good_from olds (nodes_had o) 0 ws (matching olds ws) (stand_had o h) (good_had o h) (λ k j w at is. can_at olds ws k j w at (matched_can_update olds ws k j is))

  good_some : (test : Arrival → Bool) (b : Bool) (a : Arrival) (bs : List Arrival) → Fits a → Arriving bs → Arriving (cond b (a ∷ bs) bs)
  good_some test true a bs h k = (h, k)
  good_some test false a bs h k = k

  good_filtered : (test : Arrival → Bool) (bs : List Arrival) → Arriving bs → Arriving (filter test bs)
  good_filtered test [] h = tt
  good_filtered test (a ∷ bs) h = good_some test (test a) a (filter test bs) h.0 (good_filtered test bs h.1)

  -- a node that a widget goes on from, which has its type and its key
  abbrev Suits : PlainWidget → Option PlainNode → Type 0
  Suits w None = Unit {0}
  Suits w (Some n) = EachWas Q n × CanUpdate (widget_of n) w

  suits_by : (w : PlainWidget) (n : PlainNode) (b : Bool) → same_type (widget_of n) w ≡ b → EachWas Q n → key_of (widget_of n) ≡ key_of w → Suits w (cond b (Some n) None)
  suits_by w n true e h k = (h, (updates_mean (widget_of n) w).0 (both_hold (same_type (widget_of n) w) (key_eq (key_of (widget_of n)) (key_of w)) e ((key_eq-Decides (key_of (widget_of n)) (key_of w)).1 k)))
  suits_by w n false e h k = tt

  suits_type : (w : PlainWidget) (o : Option PlainNode) → Good o → IfSome o (λ n. key_of (widget_of n) ≡ key_of w) → Suits w (of_type w o)
  suits_type w None h k = tt
  suits_type w (Some n) h k = suits_by w n (same_type (widget_of n) w) refl h k

  matched_key : (w : PlainWidget) (o : Option PlainNode) → Matches w o → IfSome o (λ n. key_of (widget_of n) ≡ key_of w)
  matched_key w None m = tt
  matched_key w (Some n) m = ((updates_mean (widget_of n) w).0 m).key

  held_key : (w : PlainWidget) (v : Value) (o : Option PlainNode) → key_of w ≡ key.Global v → HasKey v o → IfSome o (λ n. key_of (widget_of n) ≡ key_of w)
  held_key w v None e h = tt
  held_key w v (Some n) e h = sym h ∙ sym e

  suits_candidate : (w : PlainWidget) (k : Key Value) (holder : Value → Option PlainNode) (o : Option PlainNode) → key_of w ≡ k → ((v : Value) → Good (holder v) × HasKey v (holder v))
      → Good o → Matches w o → Suits w (of_type w (candidate k holder o))
  suits_candidate w key.None holder o e h g m = suits_type w o g (matched_key w o m)
  suits_candidate w (key.Local v) holder o e h g m = suits_type w o g (matched_key w o m)
  suits_candidate w (key.Global v) holder o e h g m = let held = h v in suits_type w (holder v) held.0 (held_key w v (holder v) e held.1)

  suits_good : (w : PlainWidget) (o : Option PlainNode) → Suits w o → Good o
  suits_good w None h = tt
  suits_good w (Some n) h = h.0

  module _ (b : Blueprint) (start : ℕ) (above : (n : ℕ) (w : PlainWidget) → start ≤ n → R n w (first_fields b (build_role_of (look_of w))) 0)
      (goes : (n : PlainNode) (w : PlainWidget) → Q n → CanUpdate (widget_of n) w → R (number_of n) w (fields_of n) (scroll_of n)) where
    abbrev Fine : Progress → Type 0
    Fine s = (start ≤ s.next) × Waiting s.waiting

    fine_met : (k : Key Value) (s : Progress) → Fine s → OnGives (met_once k s) (λ x t. Fine t)
    fine_met key.None s h = h
    fine_met (key.Local v) s h = h
    fine_met (key.Global v) s h = either (s.met v) (stops (repeated_global_key v)) _ (λ x t. Fine t) tt h

    fine_state : (w : PlainWidget) (o : Option PlainNode) (s : Progress) → Fine s → Suits w o → R (number_for o s) w (fields_for b w o) (scroll_for o)
    fine_state w None s h g = above s.next w h.0
    fine_state w (Some n) s h g = goes n w (was_own n g.0) g.1

    fine_counted : (o : Option PlainNode) (s : Progress) → Fine s → Fine (counted o s)
    fine_counted None s h = (omega (arith, h.0), h.1)
    fine_counted (Some n) s h = h

    fine_given : (p : BuildRole) (values : List Value) (number : ℕ) (fields : List Value) (w : PlainWidget) (s : Progress) → Fine s → OnGives (given_by b p values number fields w s) (λ x t. Fine t)
    fine_given (composes place props) values number fields w s h = either _ (stops _) (gives _ s) (λ x t. Fine t) tt h
    fine_given (provides name value) values number fields w s h = h
    fine_given (keeps kept) values number fields w s h = h
    fine_given (lists extent) values number fields w s h = h
    fine_given holds values number fields w s h = h

    fine_apart : (o : Option (Key Value)) (ws : List PlainWidget) (s : Progress) → Fine s → OnGives (unless_repeated o ws s) (λ x t. Fine t)
    fine_apart None ws s h = h
    fine_apart (Some k) ws s h = tt

    abbrev Opened : PlainWidget → Opening → Progress → Type 0
    Opened w o t = Fine t × R o.number w o.fields (scroll_for o.partner) × Good o.partner

    module _ (holder : Value → Option PlainNode) (held : (v : Value) → Good (holder v) × HasKey v (holder v)) where
      abbrev from : Basis
      from = record { program = b; holder = holder }

      fine_opened : (values : List Value) (a : Arrival) (s : Progress) → Fine s → Fits a → OnGives (opened from values a s) (Opened a.widget)
      fine_opened values a s h g =
          let partner = partner_of from.holder a in
          let suits : Suits a.widget partner = suits_candidate a.widget (key_of a.widget) holder a.beside refl held g.0 g.1 in
          let good : Good partner = suits_good a.widget partner suits in
          let fields = fields_for from.program a.widget partner in
          either (nat_le from.program.nodes s.entered) (stops tree_too_large) _ (Opened a.widget) tt
          (then (met_once (key_of a.widget) s) _ (λ x t. Fine t) (Opened a.widget) (fine_met (key_of a.widget) s h) (λ x s1 h1.
          then (given_by from.program (build_role_of (look_of a.widget)) values (number_for partner s1) fields a.widget (counted partner s1)) _ (λ y t. Fine t) (Opened a.widget)
          (fine_given (build_role_of (look_of a.widget)) values (number_for partner s1) fields a.widget (counted partner s1) (fine_counted partner s1 h1)) (λ ws s2 h2.
          then (apart ws s2) _ (λ y t. Fine t) (Opened a.widget) (fine_apart _ ws s2 h2) (λ vs s3 h3. (h3, fine_state a.widget partner s1 h1 suits, good)))))

      fine_each : (go : Arrival → Progress → Step PlainNode) → ((a : Arrival) (s : Progress) → Fine s → Fits a → OnGives (go a s) (λ n t. EachIs R n × Fine t))
          → (bs : List Arrival) (s : Progress) → Fine s → Arriving bs → OnGives (each go bs s) (λ ns t. AreMade ns × Fine t)
      fine_each go step [] s h g = (tt, h)
      fine_each go step (a ∷ bs) s h g =
          then (go a s) _ (λ n t. EachIs R n × Fine t) (λ ns t. AreMade ns × Fine t) (step a s h g.0) (λ n s1 h1.
          then (each go bs s1) _ (λ ns t. AreMade ns × Fine t) (λ ns t. AreMade ns × Fine t) (fine_each go step bs s1 h1.1 g.1) (λ ns s2 h2. ((h1.0, h2.0), h2.1)))

      fine_enter : (phase : Phase) (left : ℕ) (values : List Value) (a : Arrival) (s : Progress) → Fine s → Fits a → OnGives (enter from phase left values a s) (λ n t. EachIs R n × Fine t)
      unfolding enter
      fine_enter phase zero values a s h g = tt
      fine_enter phase (suc left) values a s h g =
          then (opened from values a s) _ (Opened a.widget) (λ n t. EachIs R n × Fine t) (fine_opened values a s h g) (λ o s1 h1.
          then (entered_below (enter from phase left) phase values a.widget o s1) _ (λ ns t. AreMade ns × Fine t) (λ n t. EachIs R n × Fine t)
          (either (waits phase (build_role_of (look_of a.widget))) (put_off o.partner s1) _ (λ ns t. AreMade ns × Fine t)
          (tt, (h1.0.0, waiting_more s1.waiting o.partner h1.0.1 h1.2))
          (fine_each (enter from phase left (values_below a.widget values)) (λ b t f c. fine_enter phase left (values_below a.widget values) b t f c) (arrivals o.partner o.given) s1 h1.0 (good_arrivals o.partner o.given h1.2)))
          (λ ns s2 h2. ((h1.1, made_nodes ns h2.0), h2.1)))

      good_next : (os : List (Option PlainNode)) → Waiting os → Good (next_waiting os)
      good_next [] h = tt
      good_next (o ∷ os) h = h.0

      good_others : (os : List (Option PlainNode)) → Waiting os → Waiting (others_waiting os)
      good_others [] h = tt
      good_others (o ∷ os) h = h.1

      fine_items : (left : ℕ) (values : List Value) (range : ℕ → Window) (ws : List PlainWidget) (s : Progress) → Fine s → OnGives (items_entered from left values range ws s) (λ ns t. AllAre R ns × Fine t)
      fine_items left values range ws s h =
          then (each (enter from second left values) (items (range (length ws)) (arrivals (next_waiting s.waiting) ws)) (one_served s)) _ (λ ns t. AreMade ns × Fine t) (λ ns t. AllAre R ns × Fine t)
          (fine_each (enter from second left values) (λ b t f c. fine_enter second left values b t f c) (items (range (length ws)) (arrivals (next_waiting s.waiting) ws)) (one_served s) (h.0, good_others s.waiting h.1)
          (good_filtered _ (arrivals (next_waiting s.waiting) ws) (good_arrivals (next_waiting s.waiting) ws (good_next s.waiting h.1))))
          (λ ns t k. (made_nodes ns k.0, k.1))

      fine_if : (p : BuildRole) (itemized : ℕ → Progress → Step PlainNodes) (others : Progress → Step PlainNodes) (s : Progress) → ((e : ℕ) → OnGives (itemized e s) (λ ns t. AllAre R ns × Fine t)) → OnGives (others s) (λ ns t. AllAre R ns × Fine t)
          → OnGives (if_lazy p itemized others s) (λ ns t. AllAre R ns × Fine t)
      fine_if (composes place props) itemized others s h k = k
      fine_if (provides name value) itemized others s h k = k
      fine_if (keeps kept) itemized others s h k = k
      fine_if (lists extent) itemized others s h k = h extent
      fine_if holds itemized others s h k = k

      module _ (ranges : ℕ → ℕ → ℕ → Window) where
        mutual
          unfolding filled

          fine_filled : (left : ℕ) (values : List Value) (n : PlainNode) (s : Progress) → Fine s → EachIs R n → OnGives (filled from ranges left values n s) (λ m t. EachIs R m × Fine t)
          fine_filled left values (node number widget fields scroll index children) s h g =
              let below = values_below widget values in
              then (if_lazy (build_role_of (look_of widget)) (λ e s1. items_entered from (left - 1) below (ranges number e) (child_widgets widget) s1) (λ s1. all_filled from ranges (left - 1) below children s1) s) _
              (λ ns t. AllAre R ns × Fine t) (λ m t. EachIs R m × Fine t)
              (fine_if (build_role_of (look_of widget)) (λ e s1. items_entered from (left - 1) below (ranges number e) (child_widgets widget) s1) (λ s1. all_filled from ranges (left - 1) below children s1) s
              (λ e. fine_items (left - 1) below (ranges number e) (child_widgets widget) s h) (fine_all (left - 1) below children s h g.1))
              (λ ns t k. ((g.0, k.0), k.1))

          fine_all : (left : ℕ) (values : List Value) (ns : PlainNodes) (s : Progress) → Fine s → AllAre R ns → OnGives (all_filled from ranges left values ns s) (λ ms t. AllAre R ms × Fine t)
          fine_all left values no_nodes s h g = (tt, h)
          fine_all left values (more_nodes n ns) s h g =
              then (filled from ranges left values n s) _ (λ m t. EachIs R m × Fine t) (λ ms t. AllAre R ms × Fine t) (fine_filled left values n s h g.0) (λ m s1 h1.
              then (all_filled from ranges left values ns s1) _ (λ ms t. AllAre R ms × Fine t) (λ ms t. AllAre R ms × Fine t) (fine_all left values ns s1 h1.1 g.1) (λ ms s2 h2. ((h1.0, h2.0), h2.1)))

      fine_second : (ranges : PlainNode → Ranges) (tree : PlainNode) (os : List (Option PlainNode)) (s : Progress) → Fine s → EachIs R tree → OnGives (second_phase from ranges tree os s) (λ m t. EachIs R m × Fine t)
      fine_second ranges tree [] s h g = (g, h)
      fine_second ranges tree (o ∷ os) s h g = fine_filled (ranges tree) depth_limit from.program.defaults tree s h g

    on_built : (r : Step PlainNode) (tree : PlainNode) (after : ℕ) → OnGives r (λ n t. EachIs R n × Fine t) → built_by r ≡ built tree after → EachIs R tree
    on_built (stops f) tree after h e = cc
    on_built (gives n s) tree after h e =
        let same : n ≡ tree = cc in
        subst (EachIs R) same h.0

  held_by : (old : Option PlainNode) → Good old → (v : Value) → Good (holder_in old v)
  held_by None h v = tt
  held_by (Some n) h v = good_found (has_global v) (preorder_of n) (good_preorder n h)

  good_root : (old : Option PlainNode) (w : PlainWidget) → Good old → Good (beside_root old w)
  good_root None w h = tt
  good_root (Some n) w h = kept (updates (widget_of n) w) n None h tt

-- ---- each node of a tree is found by its number

at_test : (b : Bool) (n : PlainNode) (o : Option PlainNode) (m : PlainNode) (G : Type 0) → (b ≡ true → m ≡ n → G) → (o ≡ Some m → G) → cond b (Some n) o ≡ Some m → G
at_test true n o m G f g e = f refl cc
at_test false n o m G f g e = g e

at_first : (o rest : Option PlainNode) (m : PlainNode) (G : Type 0) → (o ≡ Some m → G) → (rest ≡ Some m → G) → option_or o rest ≡ Some m → G
at_first (Some x) rest m G f g e = f e
at_first None rest m G f g e = g e

mutual
  found_of : (k : ℕ) (n m : PlainNode) → node_at k n ≡ Some m → IsIn k (numbers_of n)
  found_of k (node number widget fields scroll index children) m e =
      at_test (eqb number k) (node number widget fields scroll index children) (node_in k children) m (IsIn k (number ∷ numbers_in children))
      (λ is same. inl (sym (eqb-true number k is))) (λ below. inr (found_in k children m below)) e

  found_in : (k : ℕ) (ns : PlainNodes) (m : PlainNode) → node_in k ns ≡ Some m → IsIn k (numbers_in ns)
  found_in k no_nodes m e = cc
  found_in k (more_nodes n ns) m e =
      at_first (node_at k n) (node_in k ns) m (IsIn k (numbers_of n ++ numbers_in ns))
      (λ here. in_left k (numbers_of n) (numbers_in ns) (found_of k n m here)) (λ later. in_right k (numbers_of n) (numbers_in ns) (found_in k ns m later)) e

module _ (tree : PlainNode) where
  -- a node is found by its number, and the nodes below it stand in its list of child widgets
  pub record FoundIn (n : PlainNode) : Type 0 where
    pub found : node_at (number_of n) tree ≡ Some n
    pub stand : StandAt (widgets_below n) (children_of n)

  -- what is found below is what is found in the tree
  abbrev Agree : (ℕ → Option PlainNode) → Type 0
  Agree find = (k : ℕ) (m : PlainNode) → find k ≡ Some m → node_at k tree ≡ Some m

  at_own : (number : ℕ) (b : Bool) (n : PlainNode) (o : Option PlainNode) → eqb number number ≡ b → cond b (Some n) o ≡ Some n
  at_own number true n o e = refl
  at_own number false n o e = absurd (eqb-false number number e refl)

  at_other : (number k : ℕ) (b : Bool) (n : PlainNode) (o : Option PlainNode) → eqb number k ≡ b → (number ≡ k → ⊥) → cond b (Some n) o ≡ o
  at_other number k true n o e not = absurd (not (eqb-true number k e))
  at_other number k false n o e not = refl

  missed : (k : ℕ) (n : PlainNode) (o rest : Option PlainNode) → node_at k n ≡ o → (IsIn k (numbers_of n) → ⊥) → option_or o rest ≡ rest
  missed k n None rest e not = refl
  missed k n (Some m) rest e not = absurd (not (found_of k n m e))

  mutual
    all_found : (n : PlainNode) → AllDiffer (numbers_of n) → IsInPlace n → Agree (λ k. node_at k n) → EachWas FoundIn n
    all_found (node number widget fields scroll index children) d p agree =
        let n = node number widget fields scroll index children in (
          record { found = agree number n (at_own number (eqb number number) n (node_in number children) refl); stand = p.0 },
          all_found_in children d.1 p.1 (λ k m e. agree k m (at_other number k (eqb number k) n (node_in k children) refl (differs number k (numbers_in children) d.0 (found_in k children m e)) ∙ e)),
        )

    all_found_in : (ns : PlainNodes) → AllDiffer (numbers_in ns) → AreInPlace ns → Agree (λ k. node_in k ns) → AllWere FoundIn ns
    all_found_in no_nodes d p agree = tt
    all_found_in (more_nodes n ns) d p agree = (
      all_found n (differ_left (numbers_of n) (numbers_in ns) d) p.0 (λ k m e. agree k m (ap (λ o. option_or o (node_in k ns)) e)),
      all_found_in ns (differ_right (numbers_of n) (numbers_in ns) d) p.1
          (λ k m e. agree k m (missed k n (node_at k n) (node_in k ns) refl (λ h. numbers_apart k (numbers_of n) (numbers_in ns) d h (found_in k ns m e)) ∙ e)),
    )

-- ---- so the states survive

abbrev WasIn : Option PlainNode → PlainNode → Type 0
WasIn None n = ⊥
WasIn (Some old) n = FoundIn old n

stand_in : (old : Option PlainNode) (n : PlainNode) → WasIn old n → StandAt (widgets_below n) (children_of n)
stand_in None n h = absurd h
stand_in (Some old) n h = h.stand

all_in : (old : Option PlainNode) (next : ℕ) → IfSome old (IsNumbered next) → IfSome old (EachWas (WasIn old))
all_in None next h = tt
all_in (Some t) next h = all_found t t h.differ h.placed (λ k m e. e)

goes_on : (b : Blueprint) (old : Option PlainNode) (next : ℕ) (n : PlainNode) (w : PlainWidget) → WasIn old n → CanUpdate (widget_of n) w → HadOrIsNew b old next (number_of n) w (fields_of n) (scroll_of n)
goes_on b None next n w h e = absurd h
goes_on b (Some t) next n w h e = inl (n, h.found, e, refl, refl)

is_new : (b : Blueprint) (old : Option PlainNode) (next n : ℕ) (w : PlainWidget) → next ≤ n → HadOrIsNew b old next n w (first_fields b (build_role_of (look_of w))) 0
is_new b old next n w h = inr (record { number_free = h; fields_first = refl; unscrolled = refl })

module _ (b : Blueprint) (old : Option PlainNode) (next : ℕ) (root : PlainWidget) (numbered : IfSome old (IsNumbered next)) where
  abbrev Has : ℕ → PlainWidget → List Value → ℕ → Type 0
  Has = HadOrIsNew b old next

  abbrev Came : PlainNode → Progress → Type 0
  Came n t = EachIs Has n × Fine (WasIn old) Has (stand_in old) b next (is_new b old next) (goes_on b old next) t

  holders : (v : Value) → IfSome (holder_in old v) (EachWas (WasIn old)) × HasKey v (holder_in old v)
  holders v = (held_by (WasIn old) Has (stand_in old) old (all_in old next numbered) v, key_held old v)

  entered : OnGives (first_tree b old next root) Came
  entered =
      fine_enter (WasIn old) Has (stand_in old) b next (is_new b old next) (goes_on b old next) (holder_in old) holders first depth_limit b.defaults (root_arrival old root) (started next) (omega arith, tt)
      (good_root (WasIn old) Has (stand_in old) old root (all_in old next numbered), matches_root old root)

  -- in the first phase's tree
  pub first_states : (tree : PlainNode) (s : Progress) → first_tree b old next root ≡ gives tree s → EachIs Has tree
  first_states tree s e =
      let came : OnGives (gives tree s) Came = subst (λ r. OnGives r Came) e entered in
      came.0

  -- and in the whole
  pub states_survive : (screen : Screen) (tree : PlainNode) (after : ℕ) → full_build b screen old next root ≡ built tree after → EachIs Has tree
  unfolding full_build both_phases
  states_survive screen tree after e =
      let whole = both_phases (basis b old) (live_ranges screen) (root_arrival old root) (started next) in
      on_built (WasIn old) Has (stand_in old) b next (is_new b old next) (goes_on b old next) whole tree after
      (then (first_tree b old next root) _ Came Came entered
      (λ t s1 h1. fine_second (WasIn old) Has (stand_in old) b next (is_new b old next) (goes_on b old next) (holder_in old) holders (live_ranges screen) t s1.waiting s1 h1.1 h1.0))
      (small_built (nat_lt output_limit (count_of root)) _ whole tree after e)
