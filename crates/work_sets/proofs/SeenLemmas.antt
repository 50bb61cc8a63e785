-- What a build enters is what its tree has, where it comes to one.
use Rattle.std.proofs.Common.{◌≡◌, ℕ, zero, suc, ◌+◌, ◌-◌, nat_le, nat_lt, Bool, true, false, not, ◌&&◌, cond, Option, Some, None, List, [], ◌∷◌, ◌++◌, filter, length, refl, sym, ap, ◌∙◌, subst, arith, if◌then◌else◌}
use Rattle.std.proofs.lemmas.Bool.{false≢true}
use Rattle.std.proofs.lemmas.List.{length-append}
use Rattle.std.proofs.lemmas.List.Elements.{filter-append}
use Rattle.fx_expr.specs.declared.values.Value.{Value}
use Rattle.sliver_layout.specs.declared.protocol.Window.{Window}
use Rattle.widget_keys.specs.declared.keys.Key.{Key}
use Rattle.widget_keys.specs.declared.keys.Key.TheVariants as key
use Rattle.widget_model.specs.Plain.{PlainWidget, look_of, key_of}
use Rattle.widget_model.specs.Plain.{children_of as child_widgets}
use Rattle.widget_model.specs.Size.{count_of}
use Rattle.plain_tree.specs.PlainNode.{PlainNode, node, PlainNodes, no_nodes, more_nodes, nodes_of}
use Rattle.build_form.specs.Step.{Fault, Progress, Step, stops, gives, and_then, each, tree_too_large, output_too_large, repeated_global_key}
use Rattle.build_form.specs.BuildRole.{BuildRole, composes, provides, keeps, lists, holds, build_role_of}
use Rattle.build_form.specs.Partner.{Arrival, arrivals, partner_of, root_arrival}
use Rattle.build_form.specs.Entering.{Blueprint, Basis, Phase, first, second, depth_limit, output_limit, met_once, apart, number_for, fields_for, counted, given_by, values_below, waits, put_off, Opening, opened, entered_below, made, enter}
use Rattle.build_form.specs.FullBuild.{Ranges, Screen, failed, built, built_by, live_ranges, next_waiting, one_served, items, items_entered, if_lazy, filled, all_filled, second_phase, started, basis, both_phases, full_build}
use Rattle.work_sets.specs.Entered.{Entered, entered, entered_of, entered_in, after, seen_by_each, is_met, is_let_in, seen_below, seen_from, seen_items, items_or, seen_filling, all_seen_filling, seen_second, seen_in_both, entered_widgets}

-- this holds where a step gives something
abbrev OnGives : {A : Type 0} → Step A → (A → Progress → Type 0) → Type 0
OnGives (stops f) Q = Unit {0}
OnGives (gives a s) Q = Q a s

stepped : {A B : Type 0} (r : Step A) (later : A → Progress → Step B) (Q : A → Progress → Type 0) (R : B → Progress → Type 0) → OnGives r Q → ((a : A) (s : Progress) → Q a s → OnGives (later a s) R) → OnGives (and_then r later) R
stepped (stops f) later Q R h k = tt
stepped (gives a s) later Q R h k = k a s h

either : {A : Type 0} (b : Bool) (x y : Step A) (Q : A → Progress → Type 0) → (b ≡ true → OnGives x Q) → (b ≡ false → OnGives y Q) → OnGives (cond b x y) Q
either true x y Q h k = h refl
either false x y Q h k = k refl

weaker : {A : Type 0} (r : Step A) (Q R : A → Progress → Type 0) → ((a : A) (s : Progress) → Q a s → R a s) → OnGives r Q → OnGives r R
weaker (stops f) Q R k h = tt
weaker (gives a s) Q R k h = k a s h

-- ---- one widget

met_same : (k : Key Value) (s : Progress) → OnGives (met_once k s) (λ x t. (is_met k s ≡ false) × (t.next ≡ s.next))
met_same key.None s = (refl, refl)
met_same (key.Local v) s = (refl, refl)
met_same (key.Global v) s = either (s.met v) (stops (repeated_global_key v)) _ (λ x t. (s.met v ≡ false) × (t.next ≡ s.next)) (λ e. tt) (λ e. (e, refl))

number_same : (o : Option PlainNode) (s t : Progress) → t.next ≡ s.next → number_for o t ≡ number_for o s
number_same None s t e = e
number_same (Some n) s t e = refl

both_out : (a b : Bool) → a ≡ false → b ≡ false → (not a && not b) ≡ true
both_out true b e f = cc
both_out false true e f = cc
both_out false false e f = refl

any : {A : Type 0} (r : Step A) → OnGives r (λ x t. Unit {0})
any (stops f) = tt
any (gives a s) = tt

module _ (from : Basis) where
  abbrev Opened : Arrival → Progress → Opening → Type 0
  Opened a s o = (is_let_in from a s ≡ true) × (o.number ≡ number_for (partner_of from.holder a) s)

  opened_is : (values : List Value) (a : Arrival) (s : Progress) → OnGives (opened from values a s) (λ o t. Opened a s o)
  opened_is values a s =
      let partner = partner_of from.holder a in
      let fields = fields_for from.program a.widget partner in
      let role = build_role_of (look_of a.widget) in
      either (nat_le from.program.nodes s.entered) (stops tree_too_large) _ (λ o t. Opened a s o) (λ e. tt) (λ few.
      stepped (met_once (key_of a.widget) s) _ (λ x t. (is_met (key_of a.widget) s ≡ false) × (t.next ≡ s.next)) (λ o t. Opened a s o) (met_same (key_of a.widget) s) (λ x s1 h1.
      stepped (given_by from.program role values (number_for partner s1) fields a.widget (counted partner s1)) _ (λ y t. Unit {0}) (λ o t. Opened a s o)
      (any (given_by from.program role values (number_for partner s1) fields a.widget (counted partner s1))) (λ ws s2 h2.
      stepped (apart ws s2) _ (λ y t. Unit {0}) (λ o t. Opened a s o) (any (apart ws s2)) (λ vs s3 h3.
      (both_out (nat_le from.program.nodes s.entered) (is_met (key_of a.widget) s) few h1.0, number_same partner s s1 h1.1)))))

  -- ---- widgets one after another

  module _ (above : List ℕ) (values : List Value) (go : Arrival → Progress → Step PlainNode) (see : Arrival → Progress → List Entered) where
    abbrev IsSeen : List Entered → PlainNode → Progress → Type 0
    IsSeen l n t = l ≡ entered_of above values n

    abbrev AreSeen : List Entered → List PlainNode → Progress → Type 0
    AreSeen l ns t = l ≡ entered_in above values (nodes_of ns)

    rest_seen : (bs : List Arrival) (n : PlainNode) (l m : List Entered) (r : Step (List PlainNode)) → l ≡ entered_of above values n → OnGives r (AreSeen m)
        → OnGives (and_then r (λ ns s2. gives (n ∷ ns) s2)) (AreSeen (l ++ m))
    rest_seen bs n l m (stops f) h k = tt
    rest_seen bs n l m (gives ns s2) h k = λ i. h i ++ k i

    first_seen : (bs : List Arrival) (l : List Entered) (r : Step PlainNode) → OnGives r (IsSeen l)
        → ((s1 : Progress) → OnGives (each go bs s1) (AreSeen (seen_by_each go see bs s1)))
        → OnGives (and_then r (λ n s1. and_then (each go bs s1) (λ ns s2. gives (n ∷ ns) s2))) (AreSeen (l ++ after r (λ n s1. seen_by_each go see bs s1)))
    first_seen bs l (stops f) h k = tt
    first_seen bs l (gives n s1) h k = rest_seen bs n l (seen_by_each go see bs s1) (each go bs s1) h (k s1)

    each_seen : ((a : Arrival) (s : Progress) → OnGives (go a s) (IsSeen (see a s)))
        → (bs : List Arrival) (s : Progress) → OnGives (each go bs s) (AreSeen (seen_by_each go see bs s))
    each_seen step [] s = refl
    each_seen step (a ∷ bs) s = first_seen bs (see a s) (go a s) (step a s) (λ s1. each_seen step bs s1)

  -- ---- the walk

  module _ (above : List ℕ) (values : List Value) (a : Arrival) (s : Progress) where
    abbrev head : Entered
    head = entered (number_for (partner_of from.holder a) s) a.widget above values

    below_seen : (o : Opening) (l : List Entered) (r : Step (List PlainNode)) → Opened a s o
        → OnGives r (λ ns t. l ≡ entered_in (o.number ∷ above) (values_below a.widget values) (nodes_of ns))
        → OnGives (and_then r (λ ns s2. gives (made a o ns) s2)) (λ n t. (if is_let_in from a s then head ∷ l else []) ≡ entered_of above values n)
    below_seen o l (stops f) h k = tt
    below_seen o l (gives ns s2) h k =
        ap (λ b. if b then head ∷ l else []) h.0
        ∙ (λ i. entered (sym h.1 i) a.widget above values ∷ k i)

    opening_seen : (below : Opening → Progress → Step (List PlainNode)) (seen : Opening → Progress → List Entered) (r : Step Opening)
        → OnGives r (λ o t. Opened a s o)
        → ((o : Opening) (s1 : Progress) → OnGives (below o s1) (λ ns t. seen o s1 ≡ entered_in (o.number ∷ above) (values_below a.widget values) (nodes_of ns)))
        → OnGives (and_then r (λ o s1. and_then (below o s1) (λ ns s2. gives (made a o ns) s2)))
        (λ n t. (if is_let_in from a s then head ∷ after r seen else []) ≡ entered_of above values n)
    opening_seen below seen (stops f) h k = tt
    opening_seen below seen (gives o s1) h k = below_seen o (seen o s1) (below o s1) h (k o s1)

  waiting_seen : (b : Bool) (partner : Option PlainNode) (x : Step (List PlainNode)) (l : List Entered) (s : Progress) (above : List ℕ) (values : List Value)
      → OnGives x (λ ns t. l ≡ entered_in above values (nodes_of ns))
      → OnGives (if b then put_off partner s else x) (λ ns t. (if b then [] else l) ≡ entered_in above values (nodes_of ns))
  waiting_seen true partner x l s above values h = refl
  waiting_seen false partner x l s above values h = h

  enter_seen : (phase : Phase) (left : ℕ) (above : List ℕ) (values : List Value) (a : Arrival) (s : Progress)
      → OnGives (enter from phase left values a s) (λ n t. seen_from from phase left above values a s ≡ entered_of above values n)
  unfolding enter seen_from
  enter_seen phase zero above values a s = tt
  enter_seen phase (suc left) above values a s =
      opening_seen above values a s (λ o s1. entered_below (enter from phase left) phase values a.widget o s1)
      (λ o s1. seen_below (enter from phase left) (seen_from from phase left (o.number ∷ above)) phase values a.widget o s1)
      (opened from values a s) (opened_is values a s)
      (λ o s1. waiting_seen (waits phase (build_role_of (look_of a.widget))) o.partner
      (each (enter from phase left (values_below a.widget values)) (arrivals o.partner o.given) s1)
      (seen_by_each (enter from phase left (values_below a.widget values)) (seen_from from phase left (o.number ∷ above) (values_below a.widget values)) (arrivals o.partner o.given) s1)
      s1 (o.number ∷ above) (values_below a.widget values)
      (each_seen (o.number ∷ above) (values_below a.widget values) (enter from phase left (values_below a.widget values)) (seen_from from phase left (o.number ∷ above) (values_below a.widget values))
      (λ b t. enter_seen phase left (o.number ∷ above) (values_below a.widget values) b t) (arrivals o.partner o.given) s1))

  -- ---- the second phase: what is entered in it comes to what the first phase's tree has

  abbrev mutual
    -- no lazy list has nodes below it
    IsBare : PlainNode → Type 0
    IsBare (node number widget fields scroll index children) =
        (waits first (build_role_of (look_of widget)) ≡ true → children ≡ no_nodes) × AreBare children

    AreBare : PlainNodes → Type 0
    AreBare no_nodes = Unit {0}
    AreBare (more_nodes n ns) = IsBare n × AreBare ns

  each_bare : (go : Arrival → Progress → Step PlainNode) → ((a : Arrival) (s : Progress) → OnGives (go a s) (λ n t. IsBare n))
      → (bs : List Arrival) (s : Progress) → OnGives (each go bs s) (λ ns t. AreBare (nodes_of ns))
  each_bare go step [] s = tt
  each_bare go step (a ∷ bs) s =
      stepped (go a s) _ (λ n t. IsBare n) (λ ns t. AreBare (nodes_of ns)) (step a s) (λ n s1 h1.
      stepped (each go bs s1) _ (λ ns t. AreBare (nodes_of ns)) (λ ns t. AreBare (nodes_of ns)) (each_bare go step bs s1) (λ ns s2 h2. (h1, h2)))

  then_bare : (b : Bool) → b ≡ false → (r : Step (List PlainNode)) → OnGives r (λ ns t. AreBare (nodes_of ns))
      → OnGives r (λ ns t. (b ≡ true → nodes_of ns ≡ no_nodes) × AreBare (nodes_of ns))
  then_bare b e (stops f) h = tt
  then_bare b e (gives ns s) h = (λ w. absurd (false≢true (sym e ∙ w)), h)

  enter_bare : (left : ℕ) (values : List Value) (a : Arrival) (s : Progress) → OnGives (enter from first left values a s) (λ n t. IsBare n)
  unfolding enter
  enter_bare zero values a s = tt
  enter_bare (suc left) values a s =
      let role = build_role_of (look_of a.widget) in
      stepped (opened from values a s) _ (λ o t. Unit {0}) (λ n t. IsBare n) (any (opened from values a s)) (λ o s1 h1.
      stepped (entered_below (enter from first left) first values a.widget o s1) _
      (λ ns t. (waits first role ≡ true → nodes_of ns ≡ no_nodes) × AreBare (nodes_of ns)) (λ n t. IsBare n)
      (either (waits first role) (put_off o.partner s1) _ (λ ns t. (waits first role ≡ true → nodes_of ns ≡ no_nodes) × AreBare (nodes_of ns))
      (λ e. (λ w. refl, tt))
      (λ e.
      then_bare (waits first role) e (each (enter from first left (values_below a.widget values)) (arrivals o.partner o.given) s1)
      (each_bare (enter from first left (values_below a.widget values)) (λ b t. enter_bare left (values_below a.widget values) b t) (arrivals o.partner o.given) s1)))
      (λ ns s2 h2. h2))

  items_seen : (left : ℕ) (above : List ℕ) (values : List Value) (range : ℕ → Window) (ws : List PlainWidget) (s : Progress)
      → OnGives (items_entered from left values range ws s) (λ ns t. seen_items from left above values range ws s ≡ entered_in above values ns)
  items_seen left above values range ws s =
      stepped (each (enter from second left values) (items (range (length ws)) (arrivals (next_waiting s.waiting) ws)) (one_served s)) _
      (λ ns t. seen_items from left above values range ws s ≡ entered_in above values (nodes_of ns))
      (λ ns t. seen_items from left above values range ws s ≡ entered_in above values ns)
      (each_seen above values (enter from second left values) (seen_from from second left above values)
      (λ b t. enter_seen second left above values b t) (items (range (length ws)) (arrivals (next_waiting s.waiting) ws)) (one_served s))
      (λ ns t h. h)

  module _ (test : Entered → Bool) where
    abbrev count : List Entered → ℕ
    count es = length (filter test es)

    count_both : (xs ys : List Entered) → count (xs ++ ys) ≡ count xs + count ys
    count_both xs ys = ap length (filter-append test xs ys) ∙ length-append (filter test xs) (filter test ys)

    on_items : (r : Step PlainNodes) (l : List Entered) (above : List ℕ) (values : List Value) (children : PlainNodes) → children ≡ no_nodes
        → OnGives r (λ ns t. l ≡ entered_in above values ns) → OnGives r (λ ns t. count (entered_in above values children) + count l ≡ count (entered_in above values ns))
    on_items (stops f) l above values children e h = tt
    on_items (gives ns s) l above values children e h =
        let none : count (entered_in above values children) ≡ 0 = ap (λ cs. count (entered_in above values cs)) e in
        let all : count l ≡ count (entered_in above values ns) = ap count h in
        omega (arith, none, all)

    by_role : (role : BuildRole) (above : List ℕ) (values : List Value) (children : PlainNodes) → (waits first role ≡ true → children ≡ no_nodes)
        → (itemized : ℕ → Progress → Step PlainNodes) (others : Progress → Step PlainNodes) (s : Progress) (seen : ℕ → List Entered) (apart : List Entered)
        → ((extent : ℕ) → OnGives (itemized extent s) (λ ns t. seen extent ≡ entered_in above values ns))
        → OnGives (others s) (λ ns t. count (entered_in above values children) + count apart ≡ count (entered_in above values ns))
        → OnGives (if_lazy role itemized others s) (λ ns t. count (entered_in above values children) + count (items_or role seen apart) ≡ count (entered_in above values ns))
    by_role (composes place props) above values children bare itemized others s seen apart h k = k
    by_role (provides name value) above values children bare itemized others s seen apart h k = k
    by_role (keeps kept) above values children bare itemized others s seen apart h k = k
    by_role holds above values children bare itemized others s seen apart h k = k
    by_role (lists extent) above values children bare itemized others s seen apart h k =
        on_items (itemized extent s) (seen extent) above values children (bare refl) (h extent)

    filled_node : (e : Entered) (above : List ℕ) (values : List Value) (children : PlainNodes) (l : List Entered) (r : Step PlainNodes) (whole : PlainNodes → PlainNode)
        → (up : List ℕ) (given : List Value) → ((ns : PlainNodes) → entered_of up given (whole ns) ≡ e ∷ entered_in above values ns)
        → OnGives r (λ ns t. count (entered_in above values children) + count l ≡ count (entered_in above values ns))
        → OnGives (and_then r (λ ns s1. gives (whole ns) s1)) (λ m t. count (e ∷ entered_in above values children) + count l ≡ count (entered_of up given m))
    filled_node e above values children l (stops f) whole up given is h = tt
    filled_node e above values children l (gives ns s1) whole up given is h =
        let old = count_both (e ∷ []) (entered_in above values children) in
        let new = count_both (e ∷ []) (entered_in above values ns) in
        let at = ap count (is ns) in
        omega (arith, h, old, new, at)

    filled_list : (above : List ℕ) (values : List Value) (n : PlainNode) (ns : PlainNodes) (l : List Entered) (seen : Progress → List Entered) (r : Step PlainNode) (rest : Progress → Step PlainNodes)
        → OnGives r (λ m t. count (entered_of above values n) + count l ≡ count (entered_of above values m))
        → ((s1 : Progress) → OnGives (rest s1) (λ ms t. count (entered_in above values ns) + count (seen s1) ≡ count (entered_in above values ms)))
        → OnGives (and_then r (λ m s1. and_then (rest s1) (λ ms s2. gives (more_nodes m ms) s2)))
        (λ ms t. count (entered_of above values n ++ entered_in above values ns) + count (l ++ after r (λ m s1. seen s1)) ≡ count (entered_in above values ms))
    filled_list above values n ns l seen (stops f) rest h k = tt
    filled_list above values n ns l seen (gives m s1) rest h k =
        stepped (rest s1) _ (λ ms t. count (entered_in above values ns) + count (seen s1) ≡ count (entered_in above values ms))
        (λ ms t. count (entered_of above values n ++ entered_in above values ns) + count (l ++ seen s1) ≡ count (entered_in above values ms))
        (k s1) (λ ms s2 j.
        let a = count_both (entered_of above values n) (entered_in above values ns) in
        let b = count_both l (seen s1) in
        let c = count_both (entered_of above values m) (entered_in above values ms) in
        omega (arith, h, j, a, b, c))

    module _ (ranges : Ranges) where
      mutual
        unfolding filled seen_filling all_filled all_seen_filling

        filled_seen : (left : ℕ) (above : List ℕ) (values : List Value) (n : PlainNode) (s : Progress) → IsBare n
            → OnGives (filled from ranges left values n s) (λ m t. count (entered_of above values n) + count (seen_filling from ranges left above values n s) ≡ count (entered_of above values m))
        filled_seen left above values (node number widget fields scroll index children) s bare =
            let role = build_role_of (look_of widget) in
            let below = values_below widget values in
            filled_node (entered number widget above values) (number ∷ above) below children
            (items_or role (λ extent. seen_items from (left - 1) (number ∷ above) below (ranges number extent) (child_widgets widget) s)
            (all_seen_filling from ranges (left - 1) (number ∷ above) below children s))
            (if_lazy role (λ extent s1. items_entered from (left - 1) below (ranges number extent) (child_widgets widget) s1)
            (λ s1. all_filled from ranges (left - 1) below children s1) s)
            (λ ns. node number widget fields scroll index ns) above values (λ ns. refl)
            (by_role role (number ∷ above) below children bare.0
            (λ extent s1. items_entered from (left - 1) below (ranges number extent) (child_widgets widget) s1)
            (λ s1. all_filled from ranges (left - 1) below children s1) s
            (λ extent. seen_items from (left - 1) (number ∷ above) below (ranges number extent) (child_widgets widget) s)
            (all_seen_filling from ranges (left - 1) (number ∷ above) below children s)
            (λ extent. items_seen (left - 1) (number ∷ above) below (ranges number extent) (child_widgets widget) s)
            (all_filled_seen (left - 1) (number ∷ above) below children s bare.1))

        all_filled_seen : (left : ℕ) (above : List ℕ) (values : List Value) (ns : PlainNodes) (s : Progress) → AreBare ns
            → OnGives (all_filled from ranges left values ns s) (λ ms t. count (entered_in above values ns) + count (all_seen_filling from ranges left above values ns s) ≡ count (entered_in above values ms))
        all_filled_seen left above values no_nodes s bare = refl
        all_filled_seen left above values (more_nodes n ns) s bare =
            filled_list above values n ns (seen_filling from ranges left above values n s) (λ s1. all_seen_filling from ranges left above values ns s1)
            (filled from ranges left values n s) (λ s1. all_filled from ranges left values ns s1)
            (filled_seen left above values n s bare.0) (λ s1. all_filled_seen left above values ns s1 bare.1)

    -- ---- both phases

    second_seen : (ranges : PlainNode → Ranges) (tree : PlainNode) (waiting : List (Option PlainNode)) (s : Progress) → IsBare tree
        → OnGives (second_phase from ranges tree waiting s)
        (λ m t. count (entered_of [] from.program.defaults tree) + count (seen_second from ranges tree waiting s) ≡ count (entered_of [] from.program.defaults m))
    second_seen ranges tree [] s bare = omega arith
    second_seen ranges tree (partner ∷ others) s bare = filled_seen (ranges tree) depth_limit [] from.program.defaults tree s bare

    first_then : (ranges : PlainNode → Ranges) (l : List Entered) (r : Step PlainNode) → OnGives r (λ n t. l ≡ entered_of [] from.program.defaults n) → OnGives r (λ n t. IsBare n)
        → OnGives (and_then r (λ tree s1. second_phase from ranges tree s1.waiting s1))
        (λ m t. count (l ++ after r (λ tree s1. seen_second from ranges tree s1.waiting s1)) ≡ count (entered_of [] from.program.defaults m))
    first_then ranges l (stops f) h k = tt
    first_then ranges l (gives tree s1) h k =
        weaker (second_phase from ranges tree s1.waiting s1)
        (λ m t. count (entered_of [] from.program.defaults tree) + count (seen_second from ranges tree s1.waiting s1) ≡ count (entered_of [] from.program.defaults m))
        (λ m t. count (l ++ seen_second from ranges tree s1.waiting s1) ≡ count (entered_of [] from.program.defaults m))
        (λ m t e. count_both l (seen_second from ranges tree s1.waiting s1) ∙ ap (λ es. count es + count (seen_second from ranges tree s1.waiting s1)) h ∙ e)
        (second_seen ranges tree s1.waiting s1 k)

    both_seen : (ranges : PlainNode → Ranges) (root : Arrival) (s : Progress)
        → OnGives (both_phases from ranges root s) (λ m t. count (seen_in_both from ranges root s) ≡ count (entered_of [] from.program.defaults m))
    unfolding both_phases seen_in_both
    both_seen ranges root s =
        first_then ranges (seen_from from first depth_limit [] from.program.defaults root s) (enter from first depth_limit from.program.defaults root s)
        (enter_seen first depth_limit [] from.program.defaults root s) (enter_bare depth_limit from.program.defaults root s)

    built_seen : (r : Step PlainNode) (l : List Entered) (tree : PlainNode) (free : ℕ)
        → OnGives r (λ m t. count l ≡ count (entered_of [] from.program.defaults m)) → built_by r ≡ built tree free
        → count l ≡ count (entered_of [] from.program.defaults tree)
    built_seen (stops f) l tree free h e = cc
    built_seen (gives m s) l tree free h e =
        let same : m ≡ tree = cc in
        h ∙ ap (λ n. count (entered_of [] from.program.defaults n)) same

    sized_seen : (b : Bool) (fault : Fault) (r : Step PlainNode) (l : List Entered) (tree : PlainNode) (free : ℕ)
        → OnGives r (λ m t. count l ≡ count (entered_of [] from.program.defaults m)) → (if b then failed fault else built_by r) ≡ built tree free
        → count (if b then [] else l) ≡ count (entered_of [] from.program.defaults tree)
    sized_seen true fault r l tree free h e = cc
    sized_seen false fault r l tree free h e = built_seen r l tree free h e

-- however the widgets are counted, those that a build enters are as many as those that its tree has
pub build_seen : (test : Entered → Bool) (program : Blueprint) (screen : Screen) (old : Option PlainNode) (next : ℕ) (root : PlainWidget) (tree : PlainNode) (free : ℕ)
    → full_build program screen old next root ≡ built tree free
    → length (filter test (entered_widgets program screen old next root)) ≡ length (filter test (entered_of [] program.defaults tree))
unfolding full_build entered_widgets
build_seen test program screen old next root tree free e =
    sized_seen (basis program old) test (nat_lt output_limit (count_of root)) output_too_large
    (both_phases (basis program old) (live_ranges screen) (root_arrival old root) (started next))
    (seen_in_both (basis program old) (live_ranges screen) (root_arrival old root) (started next)) tree free
    (both_seen (basis program old) test (live_ranges screen) (root_arrival old root) (started next)) e

-- in the first phase they are the same, in the same order
pub first_seen_all : (program : Blueprint) (old : Option PlainNode) (a : Arrival) (s t : Progress) (tree : PlainNode)
    → enter (basis program old) first depth_limit program.defaults a s ≡ gives tree t
    → seen_from (basis program old) first depth_limit [] program.defaults a s ≡ entered_of [] program.defaults tree
first_seen_all program old a s t tree e =
    subst (λ r. OnGives r (λ n u. seen_from (basis program old) first depth_limit [] program.defaults a s ≡ entered_of [] program.defaults n)) e
    (enter_seen (basis program old) first depth_limit [] program.defaults a s)
