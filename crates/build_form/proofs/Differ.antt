-- No number stands twice in the tree that a build gives: how often one may come, and how often it has come, add up.
use Rattle.std.proofs.Common.{◌≡◌, ℕ, zero, suc, ◌+◌, ◌-◌, ◌<◌, ◌≤◌, eqb, leb, nat_lt, nat_le, Bool, true, false, cond, ◌||◌, Option, Some, None, IfSome, List, [], ◌∷◌, ◌++◌, filter, length, refl, sym, ap, subst, inl, inr, arith}
use Rattle.std.specs.List.{find}
use Rattle.std.proofs.lemmas.Bool.{le-leb, lt-leb, cases_lt, cases_order}
use Rattle.fx_expr.specs.declared.values.Value.{Value}
use Rattle.widget_keys.specs.declared.keys.Key.{Key}
use Rattle.widget_keys.specs.declared.keys.Key.TheVariants as key
use Rattle.widget_model.specs.Plain.{PlainWidget, look_of, key_of}
use Rattle.widget_model.specs.Plain.{children_of as child_widgets}
use Rattle.widget_model.specs.Size.{count_of as widget_count}
use Rattle.widget_model.specs.Update.{same_type, updates}
use Rattle.reconcile.specs.Keys.{NoKeyRepeats}
use Rattle.reconcile.specs.Matching.{matching}
use Rattle.reconcile.proofs.Updates.{updates_key}
use Rattle.sliver_layout.specs.declared.protocol.Window.{Window}
use Rattle.layout_form.specs.SliverRule.{is_among}
use Rattle.plain_tree.specs.PlainNode.{PlainNode, node, PlainNodes, no_nodes, more_nodes, nodes_of, widget_of}
use Rattle.plain_tree.specs.PlainNode.{list_of as nodes_in}
use Rattle.plain_tree.specs.States.{preorder_of, preorder_in}
use Rattle.plain_tree.specs.At.{numbers_of}
use Rattle.plain_tree.specs.Laws.{AllDiffer}
use Rattle.build_form.specs.Step.{Progress, Step, stops, gives, each, tree_too_large, repeated_global_key}
use Rattle.build_form.specs.BuildRole.{build_role_of}
use Rattle.build_form.specs.Partner.{Arrival, node_at_any, arrivals_from, arrivals, nodes_had, widgets_had, beside_root, root_arrival, has_global, holder_in, of_type, candidate, partner_of}
use Rattle.build_form.specs.Entering.{Blueprint, Basis, Phase, first, second, depth_limit, output_limit, met_once, apart, number_for, fields_for, next_after, counted, given_by, values_below, waits, put_off, Opening, opened, entered_below, enter}
use Rattle.build_form.specs.FullBuild.{Ranges, Screen, built, built_by, live_ranges, next_waiting, one_served, others_waiting, stays, items, items_entered, if_lazy, filled, all_filled, second_phase, started, basis, first_tree, both_phases, full_build}
use Rattle.build_form.specs.Laws.{NumbersAre}
use Rattle.build_form.specs.Numbered.{IsInPlace, AreInPlace, IsNumbered}
use Rattle.build_form.proofs.Matched.{cost, costs, filtered_costs, arrivals_cost}
use Rattle.build_form.proofs.Placed.{AreApart, Follows, AllAreApart, apart_after, enter_follows, built_in_place}
use Rattle.build_form.proofs.Regions.{unless_global, nothing_unless, near, near_of, share, shares, shares_listed, held, whole_tree, met_now}
use Rattle.build_form.proofs.Stepping.{when_false, weaker, both, by_list, given_keeps}
use Rattle.build_form.proofs.OldOrNew.{OnGives, then, either, small_built}
use Rattle.build_form.proofs.Times.{one_if, one_same, none_other, times_of, times_in, times_listed, differ_times, times_differ, absent_from, from_absent}

-- ---- old nodes in place

abbrev Placed : Option PlainNode → Type 0
Placed o = IfSome o IsInPlace

abbrev ArePlaced : List PlainNode → Type 0
ArePlaced [] = Unit {0}
ArePlaced (n ∷ ns) = IsInPlace n × ArePlaced ns

abbrev PlacedBeside : List Arrival → Type 0
PlacedBeside [] = Unit {0}
PlacedBeside (a ∷ bs) = Placed a.beside × PlacedBeside bs

abbrev PlacedWaiting : List (Option PlainNode) → Type 0
PlacedWaiting [] = Unit {0}
PlacedWaiting (o ∷ os) = Placed o × PlacedWaiting os

placed_append : (us vs : List PlainNode) → ArePlaced us → ArePlaced vs → ArePlaced (us ++ vs)
placed_append [] vs h k = k
placed_append (u ∷ us) vs h k = (h.0, placed_append us vs h.1 k)

waiting_more : (os : List (Option PlainNode)) (o : Option PlainNode) → PlacedWaiting os → Placed o → PlacedWaiting (os ++ o ∷ [])
waiting_more [] o h g = (g, tt)
waiting_more (p ∷ os) o h g = (h.0, waiting_more os o h.1 g)

placed_list : (ns : PlainNodes) → AreInPlace ns → ArePlaced (nodes_in ns)
placed_list no_nodes h = tt
placed_list (more_nodes n ns) h = (h.0, placed_list ns h.1)

mutual
  placed_preorder : (n : PlainNode) → IsInPlace n → ArePlaced (preorder_of n)
  placed_preorder (node number w fs s i ns) h = (h, placed_preorders ns h.1)

  placed_preorders : (ns : PlainNodes) → AreInPlace ns → ArePlaced (preorder_in ns)
  placed_preorders no_nodes h = tt
  placed_preorders (more_nodes n ns) h = placed_append (preorder_of n) (preorder_in ns) (placed_preorder n h.0) (placed_preorders ns h.1)

placed_if : (b : Bool) (n : PlainNode) (o : Option PlainNode) → IsInPlace n → Placed o → Placed (cond b (Some n) o)
placed_if true n o h g = h
placed_if false n o h g = g

placed_found : (test : PlainNode → Bool) (ns : List PlainNode) → ArePlaced ns → Placed (find test ns)
placed_found test [] h = tt
placed_found test (n ∷ ns) h = placed_if (test n) n (find test ns) h.0 (placed_found test ns h.1)

placed_at : (ns : List PlainNode) (m : Option ℕ) → ArePlaced ns → Placed (node_at_any ns m)
placed_at ns None h = tt
placed_at ns (Some j) h = placed_found _ ns h

placed_from : (ns : List PlainNode) (i : ℕ) (ws : List PlainWidget) (ms : List (Option ℕ)) → ArePlaced ns → PlacedBeside (arrivals_from ns i ws ms)
placed_from ns i [] ms h = tt
placed_from ns i (w ∷ ws) [] h = (tt, placed_from ns (suc i) ws [] h)
placed_from ns i (w ∷ ws) (m ∷ ms) h = (placed_at ns m h, placed_from ns (suc i) ws ms h)

placed_had : (o : Option PlainNode) → Placed o → ArePlaced (nodes_had o)
placed_had None h = tt
placed_had (Some (node number w fs s i ns)) h = placed_list ns h.1

placed_arrivals : (o : Option PlainNode) (ws : List PlainWidget) → Placed o → PlacedBeside (arrivals o ws)
placed_arrivals o ws h = placed_from (nodes_had o) 0 ws (matching (widgets_had o) ws) (placed_had o h)

placed_some : (b : Bool) (a : Arrival) (bs : List Arrival) → Placed a.beside → PlacedBeside bs → PlacedBeside (cond b (a ∷ bs) bs)
placed_some true a bs h k = (h, k)
placed_some false a bs h k = k

placed_filtered : (test : Arrival → Bool) (bs : List Arrival) → PlacedBeside bs → PlacedBeside (filter test bs)
placed_filtered test [] h = tt
placed_filtered test (a ∷ bs) h = placed_some (test a) a (filter test bs) h.0 (placed_filtered test bs h.1)

placed_type : (w : PlainWidget) (o : Option PlainNode) → Placed o → Placed (of_type w o)
placed_type w None h = tt
placed_type w (Some n) h = placed_if (same_type (widget_of n) w) n None h tt

placed_candidate : (q : Key Value) (holder : Value → Option PlainNode) (o : Option PlainNode) → ((k : Value) → Placed (holder k)) → Placed o → Placed (candidate q holder o)
placed_candidate key.None holder o h g = g
placed_candidate (key.Local k) holder o h g = g
placed_candidate (key.Global k) holder o h g = h k

placed_next : (os : List (Option PlainNode)) → PlacedWaiting os → Placed (next_waiting os)
placed_next [] h = tt
placed_next (o ∷ os) h = h.0

placed_others : (os : List (Option PlainNode)) → PlacedWaiting os → PlacedWaiting (others_waiting os)
placed_others [] h = tt
placed_others (o ∷ os) h = h.1

-- ---- a number, as long as it isn't given

one_fewer : (n x : ℕ) → one_if (eqb n x) + one_if (leb (suc n) x) ≡ one_if (leb n x)
one_fewer n x =
    elim (cases_order n x) [
      | inl e ↦ (let here = one_same n x e in
          let now = ap one_if (le-leb n x (omega arith)) in
          let later = ap one_if (lt-leb (suc n) x (omega arith)) in
          omega arith)
      | inr h ↦ (elim h [
        | inl low ↦ (let here = none_other n x (λ e. absurd (omega arith)) in
            let now = ap one_if (le-leb n x (omega arith)) in
            let later = ap one_if (le-leb (suc n) x (omega arith)) in
            omega arith)
        | inr high ↦ (let here = none_other n x (λ e. absurd (omega arith)) in
            let now = ap one_if (lt-leb n x (omega arith)) in
            let later = ap one_if (lt-leb (suc n) x (omega arith)) in
            omega arith)
      ])
    ]

free_from : (n x : ℕ) → n ≤ x → one_if (leb n x) ≡ 1
free_from n x h = ap one_if (le-leb n x h)

given_below : (n x : ℕ) → x < n → one_if (leb n x) ≡ 0
given_below n x h = ap one_if (lt-leb n x h)

at_most_one : (b : Bool) → one_if b ≤ 1
at_most_one true = omega arith
at_most_one false = omega arith

module _ (x : ℕ) (hs : List PlainNode) (from : Basis) (found : (k : Value) → from.holder k ≡ find (has_global k) hs) (placed_hs : ArePlaced hs) where
  -- what comes below waiting lists
  abbrev due : List (Option PlainNode) → ℕ
  due [] = 0
  due (o ∷ os) = shares x (nodes_had o) + due os

  -- how often the number may still come: from nodes whose global keys weren't met, as a new one, and below waiting lists
  abbrev left_at : Progress → ℕ
  left_at s = held x s.met hs + (one_if (leb s.next x) + due s.waiting)

  due_more : (os : List (Option PlainNode)) (o : Option PlainNode) → due (os ++ o ∷ []) ≡ due os + shares x (nodes_had o)
  due_more [] o = omega arith
  due_more (p ∷ os) o = let rest = due_more os o in omega arith

  due_next : (os : List (Option PlainNode)) → shares x (nodes_had (next_waiting os)) + due (others_waiting os) ≡ due os
  due_next [] = omega arith
  due_next (o ∷ os) = refl

  -- ---- what a widget's node goes on from

  abbrev taken : Key Value → ℕ
  taken key.None = 0
  taken (key.Local k) = 0
  taken (key.Global k) = near_of x (from.holder k)

  placed_holder : (k : Value) → Placed (from.holder k)
  placed_holder k = subst Placed (sym (found k)) (placed_found (has_global k) hs placed_hs)

  abbrev Met : Key Value → Progress → Unit {0} → Progress → Type 0
  Met q s u t = (t.next ≡ s.next) × (t.waiting ≡ s.waiting) × (taken q + held x t.met hs ≤ held x s.met hs)

  met_pays : (q : Key Value) (s : Progress) → OnGives (met_once q s) (Met q s)
  met_pays key.None s = (refl, refl, omega arith)
  met_pays (key.Local k) s = (refl, refl, omega arith)
  met_pays (key.Global k) s =
      when_false (s.met k) (stops (repeated_global_key k)) _ (Met (key.Global k) s) tt
      (λ new.
      let h = met_now x s.met k new hs in
      let is : near_of x (from.holder k) ≡ near_of x (find (has_global k) hs) = ap (near_of x) (found k) in
      (refl, refl, omega arith))

  by_type : (b : Bool) (n : PlainNode) → near_of x (cond b (Some n) None) ≤ near x n
  by_type true n = omega arith
  by_type false n = omega arith

  type_less : (w : PlainWidget) (o : Option PlainNode) → near_of x (of_type w o) ≤ near_of x o
  type_less w None = omega arith
  type_less w (Some n) = by_type (same_type (widget_of n) w) n

  candidate_pays : (q : Key Value) (o : Option PlainNode) → near_of x (candidate q from.holder o) ≤ unless_global q (near_of x o) + taken q
  candidate_pays key.None o = omega arith
  candidate_pays (key.Local k) o = omega arith
  candidate_pays (key.Global k) o = omega arith

  number_pays : (o : Option PlainNode) (s : Progress) → one_if (eqb (number_for o s) x) + (shares x (nodes_had o) + one_if (leb (next_after o s.next) x)) ≡ near_of x o + one_if (leb s.next x)
  number_pays None s = let fewer = one_fewer s.next x in omega arith
  number_pays (Some (node number w fs sc i ns)) s = let below = shares_listed x ns in omega arith

  same_due : (s t : Progress) → s.waiting ≡ t.waiting → due s.waiting ≡ due t.waiting
  same_due s t e = ap due e

  same_free : (s t : Progress) → s.next ≡ t.next → one_if (leb s.next x) ≡ one_if (leb t.next x)
  same_free s t e = ap (λ n. one_if (leb n x)) e

  abbrev Opened : Arrival → Progress → Opening → Progress → Type 0
  Opened a s o t = (one_if (eqb o.number x) + (shares x (nodes_had o.partner) + left_at t) ≤ cost x a + left_at s) × Placed o.partner × PlacedWaiting t.waiting × NoKeyRepeats o.given

  opened_pays : (values : List Value) (a : Arrival) (s : Progress) → Placed a.beside → PlacedWaiting s.waiting → OnGives (opened from values a s) (Opened a s)
  opened_pays values a s placed waiting =
      let partner = partner_of from.holder a in
      let fields = fields_for from.program a.widget partner in
      let placed_partner : Placed partner = placed_type a.widget (candidate (key_of a.widget) from.holder a.beside) (placed_candidate (key_of a.widget) from.holder a.beside placed_holder placed) in
      let of_partner : near_of x partner ≤ cost x a + taken (key_of a.widget) =
      (let typed = type_less a.widget (candidate (key_of a.widget) from.holder a.beside) in
      let one = candidate_pays (key_of a.widget) a.beside in
      omega arith) in
      either (nat_le from.program.nodes s.entered) (stops tree_too_large) _ (Opened a s) tt
      (then (met_once (key_of a.widget) s) _ (Met (key_of a.widget) s) (Opened a s) (met_pays (key_of a.widget) s) (λ u s1 h1.
      let Q : Progress → Type 0 = λ t. (one_if (eqb (number_for partner s1) x) + (shares x (nodes_had partner) + left_at t) ≤ cost x a + left_at s) × PlacedWaiting t.waiting in
      let here : Q (counted partner s1) = (
        let number = number_pays partner s1 in
            let same_next = same_free s1 s h1.0 in
            let same_waiting = same_due s1 s h1.1 in
            let met = h1.2 in
            omega arith,
        subst PlacedWaiting (sym h1.1) waiting,
      ) in
      then (given_by from.program (build_role_of (look_of a.widget)) values (number_for partner s1) fields a.widget (counted partner s1)) _ (λ y t. Q t) (Opened a s)
      (given_keeps Q from.program (build_role_of (look_of a.widget)) values (number_for partner s1) fields a.widget (counted partner s1) here) (λ ws s2 h2.
      then (apart ws s2) _ (λ vs t. Q t × NoKeyRepeats vs) (Opened a s) (apart_after Q ws s2 h2) (λ vs s3 h3. (h3.0.0, placed_partner, h3.0.1, h3.1)))))

  -- ---- widgets are entered

  abbrev Pays : Arrival → Progress → PlainNode → Progress → Type 0
  Pays a s n t = (times_of x n + left_at t ≤ cost x a + left_at s) × PlacedWaiting t.waiting

  abbrev PayAll : ℕ → Progress → List PlainNode → Progress → Type 0
  PayAll c s ns t = (times_in x (nodes_of ns) + left_at t ≤ c + left_at s) × PlacedWaiting t.waiting

  each_pays : (go : Arrival → Progress → Step PlainNode) → ((a : Arrival) (s : Progress) → Placed a.beside → PlacedWaiting s.waiting → OnGives (go a s) (Pays a s))
      → (bs : List Arrival) (s : Progress) → PlacedBeside bs → PlacedWaiting s.waiting → OnGives (each go bs s) (PayAll (costs x bs) s)
  each_pays go step [] s placed waiting = (omega arith, waiting)
  each_pays go step (a ∷ bs) s placed waiting =
      then (go a s) _ (Pays a s) (PayAll (costs x (a ∷ bs)) s) (step a s placed.0 waiting) (λ n s1 h1.
      then (each go bs s1) _ (PayAll (costs x bs) s1) (PayAll (costs x (a ∷ bs)) s) (each_pays go step bs s1 placed.1 h1.1) (λ ns s2 h2.
      let one = h1.0 in let rest = h2.0 in (omega arith, h2.1)))

  put_off_pays : (o : Option PlainNode) (s : Progress) → Placed o → PlacedWaiting s.waiting → OnGives (put_off o s) (PayAll (shares x (nodes_had o)) s)
  put_off_pays o s placed waiting = let more = due_more s.waiting o in (omega arith, waiting_more s.waiting o waiting placed)

  pay_less : (c d : ℕ) (s : Progress) (r : Step (List PlainNode)) → c ≤ d → OnGives r (PayAll c s) → OnGives r (PayAll d s)
  pay_less c d s r low h = weaker r (PayAll c s) (PayAll d s) (λ ns t k. let all = k.0 in (omega arith, k.1)) h

  enter_pays : (phase : Phase) (left : ℕ) (values : List Value) (a : Arrival) (s : Progress) → Placed a.beside → PlacedWaiting s.waiting → OnGives (enter from phase left values a s) (Pays a s)
  unfolding enter
  enter_pays phase zero values a s placed waiting = tt
  enter_pays phase (suc left) values a s placed waiting =
      then (opened from values a s) _ (Opened a s) (Pays a s) (opened_pays values a s placed waiting) (λ o s1 h1.
      let below = values_below a.widget values in
      let bs = arrivals o.partner o.given in
      let c = shares x (nodes_had o.partner) in
      then (entered_below (enter from phase left) phase values a.widget o s1) _ (PayAll c s1) (Pays a s)
      (either (waits phase (build_role_of (look_of a.widget))) (put_off o.partner s1) _ (PayAll c s1) (put_off_pays o.partner s1 h1.1 h1.2)
      (pay_less (costs x bs) c s1 (each (enter from phase left below) bs s1) (arrivals_cost x o.partner o.given h1.1 h1.3)
      (each_pays (enter from phase left below) (λ b t f g. enter_pays phase left below b t f g) bs s1 (placed_arrivals o.partner o.given h1.1) h1.2)))
      (λ ns s2 h2. let began = h1.0 in let all = h2.0 in (omega arith, h2.1)))

  -- ---- the second phase

  abbrev Fills : ℕ → Progress → PlainNodes → Progress → Type 0
  Fills c s ms t = (times_in x ms + left_at t ≤ c + left_at s) × PlacedWaiting t.waiting

  abbrev FillsOne : ℕ → Progress → PlainNode → Progress → Type 0
  FillsOne c s m t = (times_of x m + left_at t ≤ c + left_at s) × PlacedWaiting t.waiting

  items_pay : (c left : ℕ) (values : List Value) (range : ℕ → Window) (ws : List PlainWidget) (s : Progress) → NoKeyRepeats ws → PlacedWaiting s.waiting → OnGives (items_entered from left values range ws s) (Fills c s)
  items_pay c left values range ws s apart waiting =
      let o = next_waiting s.waiting in
      let all = arrivals o ws in
      let bs = items (range (length ws)) all in
      then (each (enter from second left values) bs (one_served s)) _ (PayAll (costs x bs) (one_served s)) (Fills c s)
      (each_pays (enter from second left values) (λ b t f g. enter_pays second left values b t f g) bs (one_served s) (placed_filtered _ all (placed_arrivals o ws (placed_next s.waiting waiting))) (placed_others s.waiting waiting))
      (λ ns t h.
      let paid = h.0 in
      let fewer = filtered_costs x (λ (a : Arrival). is_among (range (length ws)) a.place || stays a) all in
      let most = arrivals_cost x o ws (placed_next s.waiting waiting) apart in
      let next = due_next s.waiting in
      (omega arith, h.1))

  module _ (ranges : ℕ → ℕ → ℕ → Window) where
    mutual
      unfolding filled

      filled_pays : (left : ℕ) (values : List Value) (n : PlainNode) (s : Progress) → AreApart n → PlacedWaiting s.waiting → OnGives (filled from ranges left values n s) (FillsOne (times_of x n) s)
      filled_pays left values (node number widget fields scroll index children) s apart waiting =
          let below = values_below widget values in
          let c = times_in x children in
          then (if_lazy (build_role_of (look_of widget)) (λ e s1. items_entered from (left - 1) below (ranges number e) (child_widgets widget) s1) (λ s1. all_filled from ranges (left - 1) below children s1) s) _
          (Fills c s) (FillsOne (one_if (eqb number x) + c) s)
          (by_list (build_role_of (look_of widget)) (λ e s1. items_entered from (left - 1) below (ranges number e) (child_widgets widget) s1) (λ s1. all_filled from ranges (left - 1) below children s1) s (λ b. Fills c s)
          (λ e lazy. items_pay c (left - 1) below (ranges number e) (child_widgets widget) s (apart.0 lazy) waiting)
          (λ not. all_pay (left - 1) below children s apart.1 waiting))
          (λ ms t h. let all = h.0 in (omega arith, h.1))

      all_pay : (left : ℕ) (values : List Value) (ns : PlainNodes) (s : Progress) → AllAreApart ns → PlacedWaiting s.waiting → OnGives (all_filled from ranges left values ns s) (Fills (times_in x ns) s)
      all_pay left values no_nodes s apart waiting = (omega arith, waiting)
      all_pay left values (more_nodes n ns) s apart waiting =
          then (filled from ranges left values n s) _ (FillsOne (times_of x n) s) (Fills (times_of x n + times_in x ns) s) (filled_pays left values n s apart.0 waiting) (λ m s1 h1.
          then (all_filled from ranges left values ns s1) _ (Fills (times_in x ns) s1) (Fills (times_of x n + times_in x ns) s) (all_pay left values ns s1 apart.1 h1.1) (λ ms s2 h2.
          let one = h1.0 in let rest = h2.0 in (omega arith, h2.1)))

  second_pays : (ranges : PlainNode → Ranges) (tree : PlainNode) (os : List (Option PlainNode)) (s : Progress) → AreApart tree → PlacedWaiting s.waiting → OnGives (second_phase from ranges tree os s) (FillsOne (times_of x tree) s)
  second_pays ranges tree [] s apart waiting = (omega arith, waiting)
  second_pays ranges tree (o ∷ os) s apart waiting = filled_pays (ranges tree) depth_limit from.program.defaults tree s apart waiting

  -- a number that may come at most once has come at most once, and may not come any more where it has
  abbrev AtMostOnce : PlainNode → Progress → Type 0
  AtMostOnce n t = times_of x n + one_if (leb t.next x) ≤ 1

  pub both_pay : (ranges : PlainNode → Ranges) (root : Arrival) (s : Progress) → Placed root.beside → PlacedWaiting s.waiting → cost x root + left_at s ≤ 1 → OnGives (both_phases from ranges root s) AtMostOnce
  unfolding both_phases
  both_pay ranges root s placed waiting once =
      let values = from.program.defaults in
      then (enter from first depth_limit values root s) _ (λ n t. Pays root s n t × AreApart n) AtMostOnce
      (both (enter from first depth_limit values root s) (Pays root s) (λ n t. AreApart n) (enter_pays first depth_limit values root s placed waiting)
      (weaker (enter from first depth_limit values root s) (λ n t. Follows root n) (λ n t. AreApart n) (λ n t h. h.apart) (enter_follows from first depth_limit values root s)))
      (λ tree s1 h1.
      weaker (second_phase from ranges tree s1.waiting s1) (FillsOne (times_of x tree) s1) AtMostOnce (λ n t h. let paid = h1.0.0 in let most = h.0 in omega arith)
      (second_pays ranges tree s1.waiting s1 h1.1 h1.0.1))

  first_pays : (root : Arrival) (s : Progress) → Placed root.beside → PlacedWaiting s.waiting → cost x root + left_at s ≤ 1
      → OnGives (enter from first depth_limit from.program.defaults root s) AtMostOnce
  first_pays root s placed waiting once =
      weaker (enter from first depth_limit from.program.defaults root s) (Pays root s) AtMostOnce (λ n t h. let most = h.0 in omega arith)
      (enter_pays first depth_limit from.program.defaults root s placed waiting)

-- ---- at the root

abbrev all_nodes : Option PlainNode → List PlainNode
all_nodes None = []
all_nodes (Some n) = preorder_of n

holder_found : (old : Option PlainNode) (k : Value) → holder_in old k ≡ find (has_global k) (all_nodes old)
holder_found None k = refl
holder_found (Some n) k = refl

placed_nodes : (old : Option PlainNode) → IfSome old IsInPlace → ArePlaced (all_nodes old)
placed_nodes None h = tt
placed_nodes (Some n) h = placed_preorder n h

placed_root : (old : Option PlainNode) (w : PlainWidget) → IfSome old IsInPlace → IfSome (beside_root old w) IsInPlace
placed_root None w h = tt
placed_root (Some n) w h = placed_if (updates (widget_of n) w) n None h tt

module _ (x next : ℕ) where
  root_by : (b : Bool) (n : PlainNode) (w : PlainWidget) → updates (widget_of n) w ≡ b → unless_global (key_of w) (near_of x (cond b (Some n) None)) ≤ share x n
  root_by true n w e =
      let same : unless_global (key_of w) (near x n) ≡ share x n = ap (λ q. unless_global q (near x n)) (sym (updates_key (widget_of n) w e)) in
      omega arith
  root_by false n w e = let none = nothing_unless (key_of w) in omega arith

  one_at_first : (n : PlainNode) → AllDiffer (numbers_of n) → NumbersAre (λ y. y < next) n → times_of x n + one_if (leb next x) ≤ 1
  one_at_first n differ below =
      elim (cases_lt x next) [
        | inl low ↦ (let given = given_below next x low in
            let listed = times_listed x n in
            let once = differ_times x (numbers_of n) differ in
            omega arith)
        | inr high ↦ (let none = absent_from next x n below high in let most = at_most_one (leb next x) in omega arith)
      ]

  once_at_first : (old : Option PlainNode) (w : PlainWidget) → IfSome old (IsNumbered next)
      → cost x (root_arrival old w) + (held x (λ k. false) (all_nodes old) + (one_if (leb next x) + 0)) ≤ 1
  once_at_first None w h = let none = nothing_unless (key_of w) in let most = at_most_one (leb next x) in omega arith
  once_at_first (Some n) w h =
      let root = root_by (updates (widget_of n) w) n w refl in
      let whole = whole_tree x n in
      let one = one_at_first n h.differ h.below in
      omega arith

in_place : (old : Option PlainNode) (next : ℕ) → IfSome old (IsNumbered next) → IfSome old IsInPlace
in_place None next h = tt
in_place (Some n) next h = h.placed

on_built : (x : ℕ) (r : Step PlainNode) (tree : PlainNode) (after : ℕ) → OnGives r (λ n t. times_of x n + one_if (leb t.next x) ≤ 1) → built_by r ≡ built tree after → times_of x tree + one_if (leb after x) ≤ 1
on_built x (stops f) tree after h e = cc
on_built x (gives n s) tree after h e =
    let same : n ≡ tree = cc in
    let next : s.next ≡ after = cc in
    let tree_same = ap (times_of x) same in
    let next_same = ap (λ m. one_if (leb m x)) next in
    omega arith

module _ (b : Blueprint) (screen : Screen) (old : Option PlainNode) (next after : ℕ) (root : PlainWidget) (tree : PlainNode) (numbered : IfSome old (IsNumbered next)) (is : full_build b screen old next root ≡ built tree after) where
  once_built : (x : ℕ) → times_of x tree + one_if (leb after x) ≤ 1
  unfolding full_build
  once_built x =
      let from = basis b old in
      on_built x (both_phases from (live_ranges screen) (root_arrival old root) (started next)) tree after
      (both_pay x (all_nodes old) from (holder_found old) (placed_nodes old (in_place old next numbered)) (live_ranges screen) (root_arrival old root) (started next)
      (placed_root old root (in_place old next numbered)) tt (once_at_first x next old root numbered))
      (small_built (nat_lt output_limit (widget_count root)) _ (both_phases from (live_ranges screen) (root_arrival old root) (started next)) tree after is)

  pub numbers_differ : IsNumbered after tree
  numbers_differ =
      record {
        differ = times_differ (numbers_of tree) (λ x. let once = once_built x in let listed = times_listed x tree in omega arith);
        below = from_absent after tree (λ x high. let once = once_built x in let free = free_from after x high in omega arith);
        placed = built_in_place b screen old next after root tree is;
      }

-- the same of the first phase's tree
module _ (b : Blueprint) (old : Option PlainNode) (next : ℕ) (root : PlainWidget) (tree : PlainNode) (s : Progress) (numbered : IfSome old (IsNumbered next)) (is : first_tree b old next root ≡ gives tree s) where
  once_entered : (x : ℕ) → times_of x tree + one_if (leb s.next x) ≤ 1
  once_entered x =
      let from = basis b old in
      subst (λ r. OnGives r (λ n t. times_of x n + one_if (leb t.next x) ≤ 1)) is
      (first_pays x (all_nodes old) from (holder_found old) (placed_nodes old (in_place old next numbered)) (root_arrival old root) (started next)
      (placed_root old root (in_place old next numbered)) tt (once_at_first x next old root numbered))

  pub first_differ : AllDiffer (numbers_of tree)
  first_differ = times_differ (numbers_of tree) (λ x. let once = once_entered x in let listed = times_listed x tree in omega arith)

  pub first_below : NumbersAre (λ number. number < s.next) tree
  first_below = from_absent s.next tree (λ x high. let once = once_entered x in let free = free_from s.next x high in omega arith)
