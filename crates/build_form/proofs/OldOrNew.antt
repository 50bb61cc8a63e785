-- Each number of a tree that a build gives was in the old tree, or is a new one.
use Rattle.std.proofs.Common.{◌≡◌, ℕ, zero, suc, ◌-◌, ◌≤◌, nat_lt, nat_le, inl, inr, Bool, true, false, cond, Option, Some, None, IfSome, List, [], ◌∷◌, ◌++◌, filter, length, refl, subst, arith}
use Rattle.std.specs.List.{find}
use Rattle.fx_expr.specs.declared.values.Value.{Value}
use Rattle.widget_keys.specs.declared.keys.Key.{Key}
use Rattle.widget_keys.specs.declared.keys.Key.TheVariants as key
use Rattle.widget_model.specs.Plain.{PlainWidget, look_of, key_of}
use Rattle.widget_model.specs.Plain.{children_of as child_widgets}
use Rattle.widget_model.specs.Size.{count_of}
use Rattle.widget_model.specs.Update.{same_type, updates}
use Rattle.reconcile.specs.Matching.{matching}
use Rattle.sliver_layout.specs.declared.protocol.Window.{Window}
use Rattle.plain_tree.specs.PlainNode.{PlainNode, node, PlainNodes, no_nodes, more_nodes, nodes_of, widget_of, number_of}
use Rattle.plain_tree.specs.PlainNode.{list_of as nodes_in}
use Rattle.plain_tree.specs.States.{preorder_of, preorder_in}
use Rattle.build_form.specs.Step.{Fault, Progress, Step, stops, gives, and_then, each, tree_too_large, repeated_global_key}
use Rattle.build_form.specs.BuildRole.{BuildRole, composes, provides, keeps, lists, holds, build_role_of}
use Rattle.build_form.specs.Partner.{Arrival, node_at_any, arrivals_from, arrivals, nodes_had, widgets_had, beside_root, root_arrival, has_global, holder_in, of_type, candidate, partner_of}
use Rattle.build_form.specs.Entering.{Blueprint, Basis, Phase, first, second, depth_limit, output_limit, met_once, unless_repeated, apart, number_for, fields_for, counted, given_by, values_below, waits, put_off, Opening, opened, entered_below, enter}
use Rattle.build_form.specs.FullBuild.{Ranges, Screen, failed, built, built_by, live_ranges, next_waiting, one_served, others_waiting, items, items_entered, if_lazy, filled, all_filled, second_phase, started, basis, first_tree, both_phases, full_build}
use Rattle.build_form.specs.Laws.{NumbersAre, AllNumbersAre, HasNumber, SomeHasNumber, IsOldOrNew}

-- this holds where a step gives something
abbrev pub OnGives : {A : Type 0} → Step A → (A → Progress → Type 0) → Type 0
OnGives (stops f) Q = Unit {0}
OnGives (gives a s) Q = Q a s

pub then : {A B : Type 0} (r : Step A) (later : A → Progress → Step B) (Q : A → Progress → Type 0) (R : B → Progress → Type 0) → OnGives r Q → ((a : A) (s : Progress) → Q a s → OnGives (later a s) R) → OnGives (and_then r later) R
then (stops f) later Q R h k = tt
then (gives a s) later Q R h k = k a s h

pub either : {A : Type 0} (b : Bool) (x y : Step A) (Q : A → Progress → Type 0) → OnGives x Q → OnGives y Q → OnGives (cond b x y) Q
either true x y Q h k = h
either false x y Q h k = k

module _ (P : ℕ → Type 0) where
  abbrev AreGood : List PlainNode → Type 0
  AreGood [] = Unit {0}
  AreGood (n ∷ ns) = NumbersAre P n × AreGood ns

  abbrev Good : Option PlainNode → Type 0
  Good o = IfSome o (NumbersAre P)

  abbrev Waiting : List (Option PlainNode) → Type 0
  Waiting [] = Unit {0}
  Waiting (o ∷ os) = Good o × Waiting os

  good_append : (xs ys : List PlainNode) → AreGood xs → AreGood ys → AreGood (xs ++ ys)
  good_append [] ys h k = k
  good_append (x ∷ xs) ys h k = (h.0, good_append xs ys h.1 k)

  waiting_more : (os : List (Option PlainNode)) (o : Option PlainNode) → Waiting os → Good o → Waiting (os ++ o ∷ [])
  waiting_more [] o h g = (g, tt)
  waiting_more (x ∷ os) o h g = (h.0, waiting_more os o h.1 g)

  good_list : (ns : PlainNodes) → AllNumbersAre P ns → AreGood (nodes_in ns)
  good_list no_nodes h = tt
  good_list (more_nodes n ns) h = (h.0, good_list ns h.1)

  good_nodes : (ns : List PlainNode) → AreGood ns → AllNumbersAre P (nodes_of ns)
  good_nodes [] h = tt
  good_nodes (n ∷ ns) h = (h.0, good_nodes ns h.1)

  mutual
    good_preorder : (n : PlainNode) → NumbersAre P n → AreGood (preorder_of n)
    good_preorder (node number widget fields scroll index children) h = (h, good_preorders children h.1)

    good_preorders : (ns : PlainNodes) → AllNumbersAre P ns → AreGood (preorder_in ns)
    good_preorders no_nodes h = tt
    good_preorders (more_nodes n ns) h = good_append (preorder_of n) (preorder_in ns) (good_preorder n h.0) (good_preorders ns h.1)

  kept : (b : Bool) (n : PlainNode) (o : Option PlainNode) → NumbersAre P n → Good o → Good (cond b (Some n) o)
  kept true n o h g = h
  kept false n o h g = g

  good_found : (test : PlainNode → Bool) (ns : List PlainNode) → AreGood ns → Good (find test ns)
  good_found test [] h = tt
  good_found test (n ∷ ns) h = kept (test n) n (find test ns) h.0 (good_found test ns h.1)

  good_at : (ns : List PlainNode) (m : Option ℕ) → AreGood ns → Good (node_at_any ns m)
  good_at ns None h = tt
  good_at ns (Some j) h = good_found _ ns h

  abbrev Arriving : List Arrival → Type 0
  Arriving [] = Unit {0}
  Arriving (a ∷ bs) = Good a.beside × Arriving bs

  good_from : (ns : List PlainNode) (i : ℕ) (ws : List PlainWidget) (ms : List (Option ℕ)) → AreGood ns → Arriving (arrivals_from ns i ws ms)
  good_from ns i [] ms h = tt
  good_from ns i (w ∷ ws) [] h = (tt, good_from ns (suc i) ws [] h)
  good_from ns i (w ∷ ws) (m ∷ ms) h = (good_at ns m h, good_from ns (suc i) ws ms h)

  good_had : (o : Option PlainNode) → Good o → AreGood (nodes_had o)
  good_had None h = tt
  good_had (Some (node number widget fields scroll index children)) h = good_list children h.1

  good_arrivals : (o : Option PlainNode) (ws : List PlainWidget) → Good o → Arriving (arrivals o ws)
  good_arrivals o ws h = good_from (nodes_had o) 0 ws (matching (widgets_had o) ws) (good_had o h)

  good_some : (test : Arrival → Bool) (b : Bool) (a : Arrival) (bs : List Arrival) → Good a.beside → Arriving bs → Arriving (cond b (a ∷ bs) bs)
  good_some test true a bs h k = (h, k)
  good_some test false a bs h k = k

  good_filtered : (test : Arrival → Bool) (bs : List Arrival) → Arriving bs → Arriving (filter test bs)
  good_filtered test [] h = tt
  good_filtered test (a ∷ bs) h = good_some test (test a) a (filter test bs) h.0 (good_filtered test bs h.1)

  good_type : (w : PlainWidget) (o : Option PlainNode) → Good o → Good (of_type w o)
  good_type w None h = tt
  good_type w (Some n) h = kept (same_type (widget_of n) w) n None h tt

  good_candidate : (k : Key Value) (holder : Value → Option PlainNode) (o : Option PlainNode) → ((v : Value) → Good (holder v)) → Good o → Good (candidate k holder o)
  good_candidate key.None holder o h g = g
  good_candidate (key.Local v) holder o h g = g
  good_candidate (key.Global v) holder o h g = h v

  good_number : (n : PlainNode) → NumbersAre P n → P (number_of n)
  good_number (node number widget fields scroll index children) h = h.0

  module _ (start : ℕ) (above : (n : ℕ) → start ≤ n → P n) where
    abbrev Fine : Progress → Type 0
    Fine s = (start ≤ s.next) × Waiting s.waiting

    fine_met : (k : Key Value) (s : Progress) → Fine s → OnGives (met_once k s) (λ x t. Fine t)
    fine_met key.None s h = h
    fine_met (key.Local v) s h = h
    fine_met (key.Global v) s h = either (s.met v) (stops (repeated_global_key v)) _ (λ x t. Fine t) tt h

    fine_number : (o : Option PlainNode) (s : Progress) → Fine s → Good o → P (number_for o s)
    fine_number None s h g = above s.next h.0
    fine_number (Some n) s h g = good_number n g

    fine_counted : (o : Option PlainNode) (s : Progress) → Fine s → Fine (counted o s)
    fine_counted None s h = (omega (arith, h.0), h.1)
    fine_counted (Some n) s h = h

    fine_given : (b : Blueprint) (p : BuildRole) (values : List Value) (number : ℕ) (fields : List Value) (w : PlainWidget) (s : Progress) → Fine s → OnGives (given_by b p values number fields w s) (λ x t. Fine t)
    fine_given b (composes place props) values number fields w s h = either _ (stops _) (gives _ s) (λ x t. Fine t) tt h
    fine_given b (provides name value) values number fields w s h = h
    fine_given b (keeps kept) values number fields w s h = h
    fine_given b (lists extent) values number fields w s h = h
    fine_given b holds values number fields w s h = h

    fine_apart : (o : Option (Key Value)) (ws : List PlainWidget) (s : Progress) → Fine s → OnGives (unless_repeated o ws s) (λ x t. Fine t)
    fine_apart None ws s h = h
    fine_apart (Some k) ws s h = tt

    abbrev Opened : Opening → Progress → Type 0
    Opened o t = Fine t × P o.number × Good o.partner

    module _ (from : Basis) (held : (v : Value) → Good (from.holder v)) where
      fine_opened : (values : List Value) (a : Arrival) (s : Progress) → Fine s → Good a.beside → OnGives (opened from values a s) Opened
      fine_opened values a s h g =
          let partner = partner_of from.holder a in
          let good : Good partner = good_type a.widget (candidate (key_of a.widget) from.holder a.beside) (good_candidate (key_of a.widget) from.holder a.beside held g) in
          let fields = fields_for from.program a.widget partner in
          either (nat_le from.program.nodes s.entered) (stops tree_too_large) _ Opened tt
          (then (met_once (key_of a.widget) s) _ (λ x t. Fine t) Opened (fine_met (key_of a.widget) s h) (λ x s1 h1.
          then (given_by from.program (build_role_of (look_of a.widget)) values (number_for partner s1) fields a.widget (counted partner s1)) _ (λ y t. Fine t) Opened
          (fine_given from.program (build_role_of (look_of a.widget)) values (number_for partner s1) fields a.widget (counted partner s1) (fine_counted partner s1 h1)) (λ ws s2 h2.
          then (apart ws s2) _ (λ y t. Fine t) Opened (fine_apart _ ws s2 h2) (λ vs s3 h3. (h3, fine_number partner s1 h1 good, good)))))

      fine_each : (go : Arrival → Progress → Step PlainNode) → ((a : Arrival) (s : Progress) → Fine s → Good a.beside → OnGives (go a s) (λ n t. NumbersAre P n × Fine t))
          → (bs : List Arrival) (s : Progress) → Fine s → Arriving bs → OnGives (each go bs s) (λ ns t. AreGood ns × Fine t)
      fine_each go step [] s h g = (tt, h)
      fine_each go step (a ∷ bs) s h g =
          then (go a s) _ (λ n t. NumbersAre P n × Fine t) (λ ns t. AreGood ns × Fine t) (step a s h g.0) (λ n s1 h1.
          then (each go bs s1) _ (λ ns t. AreGood ns × Fine t) (λ ns t. AreGood ns × Fine t) (fine_each go step bs s1 h1.1 g.1) (λ ns s2 h2. ((h1.0, h2.0), h2.1)))

      fine_enter : (phase : Phase) (left : ℕ) (values : List Value) (a : Arrival) (s : Progress) → Fine s → Good a.beside → OnGives (enter from phase left values a s) (λ n t. NumbersAre P n × Fine t)
      unfolding enter
      fine_enter phase zero values a s h g = tt
      fine_enter phase (suc left) values a s h g =
          then (opened from values a s) _ Opened (λ n t. NumbersAre P n × Fine t) (fine_opened values a s h g) (λ o s1 h1.
          then (entered_below (enter from phase left) phase values a.widget o s1) _ (λ ns t. AreGood ns × Fine t) (λ n t. NumbersAre P n × Fine t)
          (either (waits phase (build_role_of (look_of a.widget))) (put_off o.partner s1) _ (λ ns t. AreGood ns × Fine t)
          (tt, (h1.0.0, waiting_more s1.waiting o.partner h1.0.1 h1.2))
          (fine_each (enter from phase left (values_below a.widget values)) (λ b t f c. fine_enter phase left (values_below a.widget values) b t f c) (arrivals o.partner o.given) s1 h1.0 (good_arrivals o.partner o.given h1.2)))
          (λ ns s2 h2. ((h1.1, good_nodes ns h2.0), h2.1)))

      good_next : (os : List (Option PlainNode)) → Waiting os → Good (next_waiting os)
      good_next [] h = tt
      good_next (o ∷ os) h = h.0

      good_others : (os : List (Option PlainNode)) → Waiting os → Waiting (others_waiting os)
      good_others [] h = tt
      good_others (o ∷ os) h = h.1

      fine_items : (left : ℕ) (values : List Value) (range : ℕ → Window) (ws : List PlainWidget) (s : Progress) → Fine s → OnGives (items_entered from left values range ws s) (λ ns t. AllNumbersAre P ns × Fine t)
      fine_items left values range ws s h =
          then (each (enter from second left values) (items (range (length ws)) (arrivals (next_waiting s.waiting) ws)) (one_served s)) _ (λ ns t. AreGood ns × Fine t) (λ ns t. AllNumbersAre P ns × Fine t)
          (fine_each (enter from second left values) (λ b t f c. fine_enter second left values b t f c) (items (range (length ws)) (arrivals (next_waiting s.waiting) ws)) (one_served s) (h.0, good_others s.waiting h.1)
          (good_filtered _ (arrivals (next_waiting s.waiting) ws) (good_arrivals (next_waiting s.waiting) ws (good_next s.waiting h.1))))
          (λ ns t k. (good_nodes ns k.0, k.1))

      fine_if : (p : BuildRole) (itemized : ℕ → Progress → Step PlainNodes) (others : Progress → Step PlainNodes) (s : Progress) → ((e : ℕ) → OnGives (itemized e s) (λ ns t. AllNumbersAre P ns × Fine t)) → OnGives (others s) (λ ns t. AllNumbersAre P ns × Fine t)
          → OnGives (if_lazy p itemized others s) (λ ns t. AllNumbersAre P ns × Fine t)
      fine_if (composes place props) itemized others s h k = k
      fine_if (provides name value) itemized others s h k = k
      fine_if (keeps kept) itemized others s h k = k
      fine_if (lists extent) itemized others s h k = h extent
      fine_if holds itemized others s h k = k

      module _ (ranges : ℕ → ℕ → ℕ → Window) where
        mutual
          unfolding filled

          fine_filled : (left : ℕ) (values : List Value) (n : PlainNode) (s : Progress) → Fine s → NumbersAre P n → OnGives (filled from ranges left values n s) (λ m t. NumbersAre P m × Fine t)
          fine_filled left values (node number widget fields scroll index children) s h g =
              let below = values_below widget values in
              then (if_lazy (build_role_of (look_of widget)) (λ e s1. items_entered from (left - 1) below (ranges number e) (child_widgets widget) s1) (λ s1. all_filled from ranges (left - 1) below children s1) s) _
              (λ ns t. AllNumbersAre P ns × Fine t) (λ m t. NumbersAre P m × Fine t)
              (fine_if (build_role_of (look_of widget)) (λ e s1. items_entered from (left - 1) below (ranges number e) (child_widgets widget) s1) (λ s1. all_filled from ranges (left - 1) below children s1) s
              (λ e. fine_items (left - 1) below (ranges number e) (child_widgets widget) s h) (fine_all (left - 1) below children s h g.1))
              (λ ns t k. ((g.0, k.0), k.1))

          fine_all : (left : ℕ) (values : List Value) (ns : PlainNodes) (s : Progress) → Fine s → AllNumbersAre P ns → OnGives (all_filled from ranges left values ns s) (λ ms t. AllNumbersAre P ms × Fine t)
          fine_all left values no_nodes s h g = (tt, h)
          fine_all left values (more_nodes n ns) s h g =
              then (filled from ranges left values n s) _ (λ m t. NumbersAre P m × Fine t) (λ ms t. AllNumbersAre P ms × Fine t) (fine_filled left values n s h g.0) (λ m s1 h1.
              then (all_filled from ranges left values ns s1) _ (λ ms t. AllNumbersAre P ms × Fine t) (λ ms t. AllNumbersAre P ms × Fine t) (fine_all left values ns s1 h1.1 g.1) (λ ms s2 h2. ((h1.0, h2.0), h2.1)))

      fine_second : (ranges : PlainNode → Ranges) (tree : PlainNode) (os : List (Option PlainNode)) (s : Progress) → Fine s → NumbersAre P tree → OnGives (second_phase from ranges tree os s) (λ m t. NumbersAre P m × Fine t)
      fine_second ranges tree [] s h g = (g, h)
      fine_second ranges tree (o ∷ os) s h g = fine_filled (ranges tree) depth_limit from.program.defaults tree s h g

    on_built : (r : Step PlainNode) (tree : PlainNode) (after : ℕ) → OnGives r (λ n t. NumbersAre P n × Fine t) → built_by r ≡ built tree after → NumbersAre P tree × (start ≤ after)
    on_built (stops f) tree after h e = cc
    on_built (gives n s) tree after h e =
        let same : n ≡ tree = cc in
        let next : s.next ≡ after = cc in
        (subst (NumbersAre P) same h.0, subst (λ m. start ≤ m) next h.1.0)

  held_by : (old : Option PlainNode) → Good old → (v : Value) → Good (holder_in old v)
  held_by None h v = tt
  held_by (Some n) h v = good_found (has_global v) (preorder_of n) (good_preorder n h)

  good_root : (old : Option PlainNode) (w : PlainWidget) → Good old → Good (beside_root old w)
  good_root None w h = tt
  good_root (Some n) w h = kept (updates (widget_of n) w) n None h tt

pub small_built : (b : Bool) (f : Fault) (r : Step PlainNode) (tree : PlainNode) (after : ℕ) → cond b (failed f) (built_by r) ≡ built tree after → built_by r ≡ built tree after
small_built true f r tree after e = cc
small_built false f r tree after e = e

-- every number of the old tree is one of it
mutual
  own_numbers : (P : ℕ → Type 0) (n : PlainNode) → ((m : ℕ) → HasNumber m n → P m) → NumbersAre P n
  own_numbers P (node number widget fields scroll index children) h = (h number (inl refl), own_numbers_in P children (λ m k. h m (inr k)))

  own_numbers_in : (P : ℕ → Type 0) (ns : PlainNodes) → ((m : ℕ) → SomeHasNumber m ns → P m) → AllNumbersAre P ns
  own_numbers_in P no_nodes h = tt
  own_numbers_in P (more_nodes n ns) h = (own_numbers P n (λ m k. h m (inl k)), own_numbers_in P ns (λ m k. h m (inr k)))

old_numbers : (old : Option PlainNode) (next : ℕ) → IfSome old (NumbersAre (IsOldOrNew old next))
old_numbers None next = tt
old_numbers (Some n) next = own_numbers (IsOldOrNew (Some n) next) n (λ m k. inl k)

pub numbers_kept_or_new : (b : Blueprint) (screen : Screen) (old : Option PlainNode) (next after : ℕ) (root : PlainWidget) (tree : PlainNode) → full_build b screen old next root ≡ built tree after
    → NumbersAre (IsOldOrNew old next) tree × (next ≤ after)
unfolding full_build both_phases
numbers_kept_or_new b screen old next after root tree e =
    let P = IsOldOrNew old next in
    let good = old_numbers old next in
    let from = basis b old in
    let held = held_by P old good in
    let above : (n : ℕ) → next ≤ n → P n = λ n h. inr h in
    on_built P next above (both_phases from (live_ranges screen) (root_arrival old root) (started next)) tree after
    (then (enter from first depth_limit b.defaults (root_arrival old root) (started next)) _ (λ n t. NumbersAre P n × Fine P next above t) (λ n t. NumbersAre P n × Fine P next above t)
    (fine_enter P next above from held first depth_limit b.defaults (root_arrival old root) (started next) (omega arith, tt) (good_root P old root good))
    (λ t s1 h1. fine_second P next above from held (live_ranges screen) t s1.waiting s1 h1.1 h1.0))
    (small_built (nat_lt output_limit (count_of root)) _ (both_phases from (live_ranges screen) (root_arrival old root) (started next)) tree after e)

-- the same of the first phase's tree
pub first_kept_or_new : (b : Blueprint) (old : Option PlainNode) (next : ℕ) (root : PlainWidget) (tree : PlainNode) (s : Progress) → first_tree b old next root ≡ gives tree s
    → NumbersAre (IsOldOrNew old next) tree × (next ≤ s.next)
first_kept_or_new b old next root tree s e =
    let P = IsOldOrNew old next in
    let good = old_numbers old next in
    let above : (n : ℕ) → next ≤ n → P n = λ n h. inr h in
    let entered : OnGives (gives tree s) (λ n t. NumbersAre P n × Fine P next above t) =
    subst (λ r. OnGives r (λ n t. NumbersAre P n × Fine P next above t)) e
    (fine_enter P next above (basis b old) (held_by P old good) first depth_limit b.defaults (root_arrival old root) (started next) (omega arith, tt) (good_root P old root good)) in
    (entered.0, entered.1.0)
