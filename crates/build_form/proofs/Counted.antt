-- A tree has at most as many nodes as the program allows.
use Rattle.std.proofs.Common.{◌≡◌, ℕ, zero, suc, ◌+◌, ◌-◌, ◌≤◌, nat_lt, nat_le, Bool, true, false, cond, Option, Some, None, List, [], ◌∷◌, length, refl, ap, ◌∙◌, subst, arith}
use Rattle.std.proofs.lemmas.Bool.{leb-false}
use Rattle.fx_expr.specs.declared.values.Value.{Value}
use Rattle.widget_keys.specs.declared.keys.Key.{Key}
use Rattle.widget_keys.specs.declared.keys.Key.TheVariants as key
use Rattle.widget_model.specs.Plain.{PlainWidget, look_of, key_of}
use Rattle.widget_model.specs.Plain.{children_of as child_widgets}
use Rattle.widget_model.specs.Size.{count_of as widget_count}
use Rattle.sliver_layout.specs.declared.protocol.Window.{Window}
use Rattle.plain_tree.specs.PlainNode.{PlainNode, node, PlainNodes, no_nodes, more_nodes, nodes_of, count_of, counts_of}
use Rattle.build_form.specs.Step.{Progress, Step, stops, gives, each, tree_too_large, repeated_global_key}
use Rattle.build_form.specs.BuildRole.{BuildRole, composes, provides, keeps, lists, holds, build_role_of}
use Rattle.build_form.specs.Partner.{Arrival, arrivals, root_arrival, partner_of}
use Rattle.build_form.specs.Entering.{Blueprint, Basis, Phase, first, second, depth_limit, output_limit, met_once, unless_repeated, apart, number_for, fields_for, counted, given_by, values_below, waits, put_off, Opening, opened, entered_below, enter}
use Rattle.build_form.specs.FullBuild.{Ranges, Screen, built, built_by, live_ranges, next_waiting, one_served, items, items_entered, if_lazy, filled, all_filled, second_phase, started, basis, first_tree, both_phases, full_build}
use Rattle.build_form.proofs.OldOrNew.{OnGives, then, either, small_built}

when_false : {A : Type 0} (b : Bool) (x y : Step A) (Q : A → Progress → Type 0) → OnGives x Q → (b ≡ false → OnGives y Q) → OnGives (cond b x y) Q
when_false true x y Q h k = h
when_false false x y Q h k = k refl

weaker : {A : Type 0} (r : Step A) (Q R : A → Progress → Type 0) → ((a : A) (s : Progress) → Q a s → R a s) → OnGives r Q → OnGives r R
weaker (stops f) Q R k h = tt
weaker (gives a s) Q R k h = k a s h

met_same : (k : Key Value) (s : Progress) → OnGives (met_once k s) (λ x t. t.entered ≡ s.entered)
met_same key.None s = refl
met_same (key.Local v) s = refl
met_same (key.Global v) s = either (s.met v) (stops (repeated_global_key v)) _ (λ x t. t.entered ≡ s.entered) tt refl

counted_more : (o : Option PlainNode) (s : Progress) → (counted o s).entered ≡ suc s.entered
counted_more None s = refl
counted_more (Some n) s = refl

given_same : (b : Blueprint) (p : BuildRole) (values : List Value) (number : ℕ) (fields : List Value) (w : PlainWidget) (s : Progress) → OnGives (given_by b p values number fields w s) (λ x t. t.entered ≡ s.entered)
given_same b (composes place props) values number fields w s = either _ (stops _) (gives _ s) (λ x t. t.entered ≡ s.entered) tt refl
given_same b (provides name value) values number fields w s = refl
given_same b (keeps kept) values number fields w s = refl
given_same b (lists extent) values number fields w s = refl
given_same b holds values number fields w s = refl

apart_same : (o : Option (Key Value)) (ws : List PlainWidget) (s : Progress) → OnGives (unless_repeated o ws s) (λ x t. t.entered ≡ s.entered)
apart_same None ws s = refl
apart_same (Some k) ws s = tt

module _ (from : Basis) where
  abbrev OneMore : Progress → Opening → Progress → Type 0
  OneMore s o t = (t.entered ≡ suc s.entered) × (t.entered ≤ from.program.nodes)

  abbrev Counts : Progress → PlainNode → Progress → Type 0
  Counts s n t = (count_of n + s.entered ≡ t.entered) × (t.entered ≤ from.program.nodes)

  abbrev CountAll : Progress → List PlainNode → Progress → Type 0
  CountAll s ns t = (counts_of (nodes_of ns) + s.entered ≡ t.entered) × (t.entered ≤ from.program.nodes)

  opened_counts : (values : List Value) (a : Arrival) (s : Progress) → OnGives (opened from values a s) (OneMore s)
  opened_counts values a s =
      let partner = partner_of from.holder a in
      let fields = fields_for from.program a.widget partner in
      when_false (nat_le from.program.nodes s.entered) (stops tree_too_large) _ (OneMore s) tt
      (λ few.
      let low = leb-false from.program.nodes s.entered few in
      then (met_once (key_of a.widget) s) _ (λ x t. t.entered ≡ s.entered) (OneMore s) (met_same (key_of a.widget) s) (λ x s1 h1.
      let more = counted_more partner s1 in
      then (given_by from.program (build_role_of (look_of a.widget)) values (number_for partner s1) fields a.widget (counted partner s1)) _ (λ y t. t.entered ≡ (counted partner s1).entered) (OneMore s)
      (given_same from.program (build_role_of (look_of a.widget)) values (number_for partner s1) fields a.widget (counted partner s1)) (λ ws s2 h2.
      then (apart ws s2) _ (λ y t. t.entered ≡ s2.entered) (OneMore s) (apart_same _ ws s2) (λ vs s3 h3.
      let e : s3.entered ≡ suc s.entered = h3 ∙ h2 ∙ more ∙ ap suc h1 in
      (e, omega arith)))))

  each_counts : (go : Arrival → Progress → Step PlainNode) → ((a : Arrival) (s : Progress) → s.entered ≤ from.program.nodes → OnGives (go a s) (Counts s))
      → (bs : List Arrival) (s : Progress) → s.entered ≤ from.program.nodes → OnGives (each go bs s) (CountAll s)
  each_counts go step [] s low = (omega arith, low)
  each_counts go step (a ∷ bs) s low =
      then (go a s) _ (Counts s) (CountAll s) (step a s low) (λ n s1 h1.
      then (each go bs s1) _ (CountAll s1) (CountAll s) (each_counts go step bs s1 h1.1) (λ ns s2 h2.
      let one = h1.0 in let all = h2.0 in (omega arith, h2.1)))

  enter_counts : (phase : Phase) (left : ℕ) (values : List Value) (a : Arrival) (s : Progress) → s.entered ≤ from.program.nodes → OnGives (enter from phase left values a s) (Counts s)
  unfolding enter
  enter_counts phase zero values a s low = tt
  enter_counts phase (suc left) values a s low =
      then (opened from values a s) _ (OneMore s) (Counts s) (opened_counts values a s) (λ o s1 h1.
      then (entered_below (enter from phase left) phase values a.widget o s1) _ (CountAll s1) (Counts s)
      (either (waits phase (build_role_of (look_of a.widget))) (put_off o.partner s1) _ (CountAll s1) (omega arith, h1.1)
      (each_counts (enter from phase left (values_below a.widget values)) (λ b t f. enter_counts phase left (values_below a.widget values) b t f) (arrivals o.partner o.given) s1 h1.1))
      (λ ns s2 h2. let more = h1.0 in let all = h2.0 in (omega arith, h2.1)))

  abbrev Fills : PlainNode → Progress → PlainNode → Progress → Type 0
  Fills old s n t = (count_of n + s.entered ≤ t.entered + count_of old) × (t.entered ≤ from.program.nodes)

  abbrev FillAll : PlainNodes → Progress → PlainNodes → Progress → Type 0
  FillAll old s ns t = (counts_of ns + s.entered ≤ t.entered + counts_of old) × (t.entered ≤ from.program.nodes)

  items_count : (old : PlainNodes) (left : ℕ) (values : List Value) (range : ℕ → Window) (ws : List PlainWidget) (s : Progress) → s.entered ≤ from.program.nodes → OnGives (items_entered from left values range ws s) (FillAll old s)
  items_count old left values range ws s low =
      then (each (enter from second left values) (items (range (length ws)) (arrivals (next_waiting s.waiting) ws)) (one_served s)) _ (CountAll (one_served s)) (FillAll old s)
      (each_counts (enter from second left values) (λ b t f. enter_counts second left values b t f) (items (range (length ws)) (arrivals (next_waiting s.waiting) ws)) (one_served s) low)
      (λ ns t h. let all = h.0 in (omega arith, h.1))

  if_counts : (p : BuildRole) (itemized : ℕ → Progress → Step PlainNodes) (others : Progress → Step PlainNodes) (s : Progress) (Q : PlainNodes → Progress → Type 0) → ((e : ℕ) → OnGives (itemized e s) Q) → OnGives (others s) Q → OnGives (if_lazy p itemized others s) Q
  if_counts (composes place props) itemized others s Q h k = k
  if_counts (provides name value) itemized others s Q h k = k
  if_counts (keeps kept) itemized others s Q h k = k
  if_counts (lists extent) itemized others s Q h k = h extent
  if_counts holds itemized others s Q h k = k

  module _ (ranges : ℕ → ℕ → ℕ → Window) where
    mutual
      unfolding filled

      filled_counts : (left : ℕ) (values : List Value) (n : PlainNode) (s : Progress) → s.entered ≤ from.program.nodes → OnGives (filled from ranges left values n s) (Fills n s)
      filled_counts left values (node number widget fields scroll index children) s low =
          let below = values_below widget values in
          then (if_lazy (build_role_of (look_of widget)) (λ e s1. items_entered from (left - 1) below (ranges number e) (child_widgets widget) s1) (λ s1. all_filled from ranges (left - 1) below children s1) s) _
          (FillAll children s) (Fills (node number widget fields scroll index children) s)
          (if_counts (build_role_of (look_of widget)) (λ e s1. items_entered from (left - 1) below (ranges number e) (child_widgets widget) s1) (λ s1. all_filled from ranges (left - 1) below children s1) s (FillAll children s)
          (λ e. items_count children (left - 1) below (ranges number e) (child_widgets widget) s low) (all_counts (left - 1) below children s low))
          (λ ns t h. let all = h.0 in (omega arith, h.1))

      all_counts : (left : ℕ) (values : List Value) (ns : PlainNodes) (s : Progress) → s.entered ≤ from.program.nodes → OnGives (all_filled from ranges left values ns s) (FillAll ns s)
      all_counts left values no_nodes s low = (omega arith, low)
      all_counts left values (more_nodes n ns) s low =
          then (filled from ranges left values n s) _ (Fills n s) (FillAll (more_nodes n ns) s) (filled_counts left values n s low) (λ m s1 h1.
          then (all_filled from ranges left values ns s1) _ (FillAll ns s1) (FillAll (more_nodes n ns) s) (all_counts left values ns s1 h1.1) (λ ms s2 h2.
          let one = h1.0 in let rest = h2.0 in (omega arith, h2.1)))

  abbrev Within : PlainNode → Progress → Type 0
  Within n t = count_of n ≤ from.program.nodes

  second_counts : (ranges : PlainNode → Ranges) (tree : PlainNode) (os : List (Option PlainNode)) (s : Progress) → count_of tree ≡ s.entered → s.entered ≤ from.program.nodes → OnGives (second_phase from ranges tree os s) Within
  second_counts ranges tree [] s e low = omega arith
  second_counts ranges tree (o ∷ os) s e low = weaker (filled from (ranges tree) depth_limit from.program.defaults tree s) (Fills tree s) Within (λ n t h. let all = h.0 in let most = h.1 in omega arith) (filled_counts (ranges tree) depth_limit from.program.defaults tree s low)

on_built : (r : Step PlainNode) (tree : PlainNode) (after n : ℕ) → OnGives r (λ m t. count_of m ≤ n) → built_by r ≡ built tree after → count_of tree ≤ n
on_built (stops f) tree after n h e = cc
on_built (gives m s) tree after n h e = let same : m ≡ tree = cc in subst (λ x. count_of x ≤ n) same h

on_given : (r : Step PlainNode) (tree : PlainNode) (t : Progress) (Q : PlainNode → Progress → Type 0) → OnGives r Q → r ≡ gives tree t → Q tree t
on_given r tree t Q h e = subst (λ x. OnGives x Q) e h

module _ (b : Blueprint) (old : Option PlainNode) (next : ℕ) (root : PlainWidget) where
  first_counts : OnGives (first_tree b old next root) (Counts (basis b old) (started next))
  first_counts = enter_counts (basis b old) first depth_limit b.defaults (root_arrival old root) (started next) (omega arith)

  pub first_keeps_to_limit : (tree : PlainNode) (s : Progress) → first_tree b old next root ≡ gives tree s → count_of tree ≤ b.nodes
  first_keeps_to_limit tree s is =
      let h = on_given (first_tree b old next root) tree s (Counts (basis b old) (started next)) first_counts is in
      let all = h.0 in let most = h.1 in omega arith

  pub build_keeps_to_limit : (screen : Screen) (tree : PlainNode) (after : ℕ) → full_build b screen old next root ≡ built tree after → count_of tree ≤ b.nodes
  unfolding full_build both_phases
  build_keeps_to_limit screen tree after e =
      on_built (both_phases (basis b old) (live_ranges screen) (root_arrival old root) (started next)) tree after b.nodes
      (then (first_tree b old next root) _ (Counts (basis b old) (started next)) (λ m t. count_of m ≤ b.nodes) first_counts
      (λ t s1 h1. let all = h1.0 in second_counts (basis b old) (live_ranges screen) t s1.waiting s1 (omega arith) h1.1))
      (small_built (nat_lt output_limit (widget_count root)) _ (both_phases (basis b old) (live_ranges screen) (root_arrival old root) (started next)) tree after e)
