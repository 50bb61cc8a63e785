-- A build that comes to a node which took another widget goes on as it would from the old one.
use Rattle.std.proofs.Common.{◌≡◌, ℕ, zero, suc, ◌+◌, Bool, true, false, cond, Option, Some, None, option_map, List, [], ◌∷◌, ◌++◌, map, refl, sym, ap, ◌∙◌, subst, inl, inr, arith}
use Rattle.std.specs.Prelude.{nat_le, slice_get}
use Rattle.std.proofs.lemmas.Bool.{cases_Bool, and_parts, eq-eqb, ne_eqb}
use Rattle.std.proofs.lemmas.Option.{slice_get-map}
use Rattle.fx_expr.specs.declared.values.Value.{Value}
use Rattle.widget_keys.specs.declared.keys.Key.{Key}
use Rattle.widget_keys.specs.declared.keys.Key.TheVariants as key
use Rattle.widget_model.specs.Plain.{PlainWidget, look_of, key_of}
use Rattle.widget_model.specs.Plain.{children_of as child_widgets}
use Rattle.widget_model.specs.Update.{key_eq, same_type, updates}
use Rattle.reconcile.specs.Matching.{matching}
use Rattle.reconcile.proofs.Updates.{updates_itself}
use Rattle.plain_tree.specs.PlainNode.{PlainNode, node, PlainNodes, no_nodes, more_nodes, nodes_of, list_of, widget_of, index_of}
use Rattle.build_form.specs.BuildRole.{BuildRole, composes, provides, keeps, lists, holds, build_role_of, is_lazy}
use Rattle.build_form.specs.Partner.{Arrival, arrival, node_at, arrivals_from, arrivals, of_type, candidate}
use Rattle.build_form.specs.Entering.{Blueprint, Basis, Phase, first, second, met_once, unless_repeated, apart, first_repeated, number_for, fields_for, next_after, given_by, values_below, waits, put_off, Opening, opening, entered_below, made, enter}
use Rattle.build_form.specs.Step.{Progress, Step, stops, gives, and_then, each, tree_too_large}
use Rattle.build_walk.proofs.Made.{list_of-nodes_of}
use Rattle.work_sets.specs.Members.{is_same_widget}
use Rattle.settled_builds.specs.Settled.{StandInOrder, IsSettledAbove, IsSettled, AreSettled}
use Rattle.settled_builds.specs.Taken.{has_own_children}
use Rattle.settled_builds.specs.Retaken.{gathered_by, gathered, retaking, each_taking, asked_by, all_asked, can_retake, each_can}
use Rattle.settled_builds.proofs.Selves.{itself, selves, arrivals_are_selves}
use Rattle.settled_builds.proofs.Staying.{not_put_off}

-- ---- one step after another

after_alike : {A B C : Type 0} (r : Step A) (f g : A → Progress → Step B) (later : B → Progress → Step C) → ((a : A) (s : Progress) → and_then (f a s) later ≡ and_then (g a s) later) → and_then (and_then r f) later ≡ and_then (and_then r g) later
after_alike (stops fault) f g later same = refl
after_alike (gives a s) f g later same = same a s

-- ---- kinds that have their own children

pub own_waits : (phase : Phase) (p : BuildRole) → has_own_children p ≡ true → waits phase p ≡ false
own_waits first (composes place props) own = absurd (cc)
own_waits first (provides name value) own = absurd (cc)
own_waits first (keeps kept) own = refl
own_waits first (lists extent) own = absurd (cc)
own_waits first holds own = refl
own_waits second p own = refl

pub own_lazy : (p : BuildRole) → has_own_children p ≡ true → is_lazy p ≡ false
own_lazy (composes place props) own = refl
own_lazy (provides name value) own = refl
own_lazy (keeps kept) own = refl
own_lazy (lists extent) own = absurd (cc)
own_lazy holds own = refl

pub own_given : (b : Blueprint) (p : BuildRole) (values : List Value) (number : ℕ) (fields : List Value) (w : PlainWidget) (s : Progress) → has_own_children p ≡ true → given_by b p values number fields w s ≡ gives (child_widgets w) s
own_given b (composes place props) values number fields w s own = absurd (cc)
own_given b (provides name value) values number fields w s own = refl
own_given b (keeps kept) values number fields w s own = refl
own_given b (lists extent) values number fields w s own = refl
own_given b holds values number fields w s own = refl

-- ---- what is gathered of a list of nodes

abbrev pub take : PlainNode → PlainWidget → ℕ → List PlainNode
take n w place = retaking n w place ∷ []

pub each_taking_is : (ns : PlainNodes) → each_taking ns ≡ map take (list_of ns)
each_taking_is no_nodes = refl
each_taking_is (more_nodes n ns) = ap (λ ts. take n ∷ ts) (each_taking_is ns)

pub each_can_is : (ns : PlainNodes) → each_can ns ≡ map can_retake (list_of ns)
each_can_is no_nodes = refl
each_can_is (more_nodes n ns) = ap (λ ts. can_retake n ∷ ts) (each_can_is ns)

pub record Child (ns : List PlainNode) (j : ℕ) (w : PlainWidget) : Type 0 where
  pub child : PlainNode
  pub at : slice_get ns j ≡ Some child
  pub can : can_retake child w ≡ true

pub asked_child : (ns : List PlainNode) (j : ℕ) (w : PlainWidget) → asked_by (slice_get (map can_retake ns) j) w ≡ true → Child ns j w
asked_child ns j w e = by_child (slice_get ns j) refl (ap (λ o. asked_by o w) (sym (slice_get-map can_retake ns j)) ∙ e)
  where
    by_child : (o : Option PlainNode) → slice_get ns j ≡ o → asked_by (option_map can_retake o) w ≡ true → Child ns j w
    by_child None at can = absurd (cc)
    by_child (Some c) at can = record { child = c; at = at; can = can }

pub gathered_child : (ns : List PlainNode) (j : ℕ) (w : PlainWidget) (place : ℕ) (c : PlainNode) → slice_get ns j ≡ Some c → gathered_by (slice_get (map take ns) j) w place ≡ retaking c w place ∷ []
gathered_child ns j w place c at = ap (λ o. gathered_by o w place) (slice_get-map take ns j ∙ ap (option_map take) at)

-- each stands at its place
pub node_at_place : (i j : ℕ) (ns : List PlainNode) (c : PlainNode) → StandInOrder i ns → slice_get ns j ≡ Some c → node_at ns (i + j) ≡ Some c
node_at_place i j [] c order at = absurd (cc)
node_at_place i zero (n ∷ ns) c order at =
    let here : index_of n ≡ i + 0 = order.0 ∙ omega arith in
    ap (λ b. cond b (Some n) (node_at ns (i + 0))) (eq-eqb (index_of n) (i + 0) here) ∙ at
node_at_place i (suc j) (n ∷ ns) c order at =
    let apart : index_of n ≡ i + suc j → ⊥ = λ e. omega (arith, order.0) in
    let next : i + suc j ≡ suc i + j = omega arith in
    ap (λ b. cond b (Some n) (node_at ns (i + suc j))) (ne_eqb (index_of n) (i + suc j) apart) ∙ ap (node_at ns) next ∙ node_at_place (suc i) j ns c order.1 at

abbrev pub AllSettled : List PlainNode → Type 0
AllSettled ns = (j : ℕ) (c : PlainNode) → slice_get ns j ≡ Some c → IsSettled c

pub all_settled : (ns : PlainNodes) → AreSettled ns → AllSettled (list_of ns)
all_settled no_nodes h j c at = absurd (cc)
all_settled (more_nodes n ns) h zero c at = let here : n ≡ c = some_is at in subst IsSettled here h.0
  where
    some_is : Some n ≡ Some c → n ≡ c
    some_is e = cc
all_settled (more_nodes n ns) h (suc j) c at = all_settled ns h.1 j c at

module _ (equal : (a b : PlainWidget) → is_same_widget a b ≡ true → a ≡ b) where
  -- the widget and the place of a node that took a widget
  pub taken_widget : (n : PlainNode) (w : PlainWidget) (place : ℕ) → widget_of (retaking n w place) ≡ w
  taken_widget (node number widget fields scroll index children) w place =
      elim (cases_Bool (is_same_widget widget w)) [
        | inl e ↦ rw e (equal widget w e)
        | inr e ↦ rw e refl
      ]

  pub taken_place : (n : PlainNode) (w : PlainWidget) (place : ℕ) → index_of (retaking n w place) ≡ place
  taken_place (node number widget fields scroll index children) w place =
      elim (cases_Bool (is_same_widget widget w)) [
        | inl e ↦ rw e refl
        | inr e ↦ rw e refl
      ]

  -- those that are gathered have the widgets, one after another
  pub gathered_widgets : (ns : List PlainNode) (place : ℕ) (ws : List PlainWidget) (ms : List (Option ℕ)) → all_asked (map can_retake ns) ws ms ≡ true → map widget_of (gathered (map take ns) place ws ms) ≡ ws
  gathered_widgets ns place [] ms can = refl
  gathered_widgets ns place (w ∷ ws) [] can = absurd (cc)
  gathered_widgets ns place (w ∷ ws) (None ∷ ms) can = absurd (cc)
  gathered_widgets ns place (w ∷ ws) (Some j ∷ ms) can =
      let parts = and_parts (asked_by (slice_get (map can_retake ns) j) w) (all_asked (map can_retake ns) ws ms) can in
      let c = asked_child ns j w parts.0 in
      let later = gathered_widgets ns (suc place) ws ms parts.1 in
      ap (λ (xs : List PlainNode). map widget_of (xs ++ gathered (map take ns) (suc place) ws ms)) (gathered_child ns j w place c.child c.at)
      ∙ (λ i. taken_widget c.child w place i ∷ later i)

  pub gathered_order : (ns : List PlainNode) (place : ℕ) (ws : List PlainWidget) (ms : List (Option ℕ)) → all_asked (map can_retake ns) ws ms ≡ true → StandInOrder place (gathered (map take ns) place ws ms)
  gathered_order ns place [] ms can = tt
  gathered_order ns place (w ∷ ws) [] can = absurd (cc)
  gathered_order ns place (w ∷ ws) (None ∷ ms) can = absurd (cc)
  gathered_order ns place (w ∷ ws) (Some j ∷ ms) can =
      let parts = and_parts (asked_by (slice_get (map can_retake ns) j) w) (all_asked (map can_retake ns) ws ms) can in
      let c = asked_child ns j w parts.0 in
      subst (λ (xs : List PlainNode). StandInOrder place (xs ++ gathered (map take ns) (suc place) ws ms)) (sym (gathered_child ns j w place c.child c.at))
      (taken_place c.child w place, gathered_order ns (suc place) ws ms parts.1)

  -- ---- children one after another

  abbrev pub Alike : (Arrival → Progress → Step PlainNode) → Type 0
  Alike go = (n : PlainNode) (w : PlainWidget) (place other : ℕ) (s : Progress) → IsSettled n → can_retake n w ≡ true → go (arrival w place (Some n)) s ≡ go (arrival w place (Some (retaking n w other))) s

  pub arrives : (c : PlainNode) (w : PlainWidget) (place : ℕ) → arrival w place (Some (retaking c w place)) ≡ itself (retaking c w place)
  arrives c w place = λ i. arrival (sym (taken_widget c w place) i) (sym (taken_place c w place) i) (Some (retaking c w place))

  pub each_alike : (go : Arrival → Progress → Step PlainNode) → Alike go → (ns : List PlainNode) → StandInOrder 0 ns → AllSettled ns → (place : ℕ) (ws : List PlainWidget) (ms : List (Option ℕ)) (s : Progress) → all_asked (map can_retake ns) ws ms ≡ true
      → each go (arrivals_from ns place ws ms) s ≡ each go (selves (gathered (map take ns) place ws ms)) s
  each_alike go alike ns order settled place [] ms s can = refl
  each_alike go alike ns order settled place (w ∷ ws) [] s can = absurd (cc)
  each_alike go alike ns order settled place (w ∷ ws) (None ∷ ms) s can = absurd (cc)
  each_alike go alike ns order settled place (w ∷ ws) (Some j ∷ ms) s can =
      let parts = and_parts (asked_by (slice_get (map can_retake ns) j) w) (all_asked (map can_retake ns) ws ms) can in
      let c = asked_child ns j w parts.0 in
      let m = retaking c.child w place in
      let plus : j ≡ 0 + j = omega arith in
      let found : node_at ns j ≡ Some c.child = ap (node_at ns) plus ∙ node_at_place 0 j ns c.child order c.at in
      let head : go (arrival w place (node_at ns j)) s ≡ go (itself m) s =
      ap (λ (o : Option PlainNode). go (arrival w place o) s) found ∙ alike c.child w place place s (settled j c.child c.at) c.can ∙ ap (λ (a : Arrival). go a s) (arrives c.child w place) in
      let tail : (t : Progress) → each go (arrivals_from ns (suc place) ws ms) t ≡ each go (selves (gathered (map take ns) (suc place) ws ms)) t = λ t. each_alike go alike ns order settled (suc place) ws ms t parts.1 in
      (λ i. and_then (head i) (λ (y : PlainNode) (t : Progress). and_then (tail t i) (λ (ys : List PlainNode) (u : Progress). gives (y ∷ ys) u)))
      ∙ ap (λ (xs : List PlainNode). each go (selves (xs ++ gathered (map take ns) (suc place) ws ms)) s) (sym (gathered_child ns j w place c.child c.at))

  -- ---- a node

  module _ (from : Basis) (phase : Phase) where
    -- what is entered below it
    below_alike : (left : ℕ) (values : List Value) (number : ℕ) (widget w : PlainWidget) (fields : List Value) (scroll index other : ℕ) (children : PlainNodes) (s : Progress)
        → Alike (enter from phase left (values_below w values)) → IsSettled (node number widget fields scroll index children)
        → has_own_children (build_role_of (look_of widget)) ≡ true → has_own_children (build_role_of (look_of w)) ≡ true
        → all_asked (each_can children) (child_widgets w) (matching (map widget_of (list_of children)) (child_widgets w)) ≡ true
        → entered_below (enter from phase left) phase values w (opening (Some (node number widget fields scroll index children)) number fields (child_widgets w)) s
        ≡ entered_below (enter from phase left) phase values w (opening (Some (node number w fields scroll other (nodes_of (gathered (each_taking children) 0 (child_widgets w) (matching (map widget_of (list_of children)) (child_widgets w)))))) number fields (child_widgets w)) s
    below_alike left values number widget w fields scroll index other children s alike settled own own_now can =
        let ns = list_of children in
        let ws = child_widgets w in
        let ms = matching (map widget_of ns) ws in
        let go = enter from phase left (values_below w values) in
        let asked : all_asked (map can_retake ns) ws ms ≡ true = ap (λ cs. all_asked cs ws ms) (sym (each_can_is children)) ∙ can in
        let kids : gathered (each_taking children) 0 ws ms ≡ gathered (map take ns) 0 ws ms = ap (λ ts. gathered ts 0 ws ms) (each_taking_is children) in
        let now = gathered (map take ns) 0 ws ms in
        let listed : list_of (nodes_of now) ≡ now = list_of-nodes_of now in
        let order : StandInOrder 0 (list_of (nodes_of now)) = subst (StandInOrder 0) (sym listed) (gathered_order ns 0 ws ms asked) in
        let widgets : map widget_of (list_of (nodes_of now)) ≡ ws = ap (map widget_of) listed ∙ gathered_widgets ns 0 ws ms asked in
        let after : PlainNodes → Step (List PlainNode) = λ below. each go (arrivals (Some (node number w fields scroll other below)) ws) s in
        let n = node number widget fields scroll index children in
        let putting : (o : Option PlainNode) → entered_below (enter from phase left) phase values w (opening o number fields ws) s ≡ each go (arrivals o ws) s =
        λ o. ap (λ (b : Bool). cond {A = Step (List PlainNode)} b (put_off o s) (each go (arrivals o ws) s)) (own_waits phase (build_role_of (look_of w)) own_now) in
        putting (Some n)
        ∙ ap (λ (b : Bool). each go (arrivals_from ns 0 ws (matching (cond b (child_widgets widget) (map widget_of ns)) ws)) s) (own_lazy (build_role_of (look_of widget)) own)
        ∙ each_alike go alike ns settled.0.order (all_settled children settled.1) 0 ws ms s asked
        ∙ ap (λ (xs : List PlainNode). each go (selves xs) s) (sym listed)
        ∙ ap (λ (bs : List Arrival). each go bs s) (sym (arrivals_are_selves number w fields scroll other (nodes_of now) (own_lazy (build_role_of (look_of w)) own_now) order))
        ∙ ap (λ (vs : List PlainWidget). each go (arrivals (Some (node number w fields scroll other (nodes_of now))) vs) s) widgets
        ∙ ap (λ (xs : List PlainNode). after (nodes_of xs)) (sym kids)
        ∙ sym (putting (Some (node number w fields scroll other (nodes_of (gathered (each_taking children) 0 ws ms)))))

    -- where a widget is entered, from what it goes on
    abbrev pub entering : ℕ → List Value → PlainWidget → ℕ → Option PlainNode → Progress → Step PlainNode
    entering left values w place p s =
        and_then
        (cond {A = Step Opening} (nat_le from.program.nodes s.entered) (stops tree_too_large)
        (and_then (met_once (key_of w) s) (λ (x : Unit {0}) (t : Progress).
        and_then (given_by from.program (build_role_of (look_of w)) values (number_for p t) (fields_for from.program w p) w (record { entered = suc t.entered; met = t.met; next = next_after p t.next; waiting = t.waiting }))
        (λ (given : List PlainWidget) (u : Progress). and_then (apart given u) (λ (ws : List PlainWidget) (v : Progress). gives (opening p (number_for p t) (fields_for from.program w p) ws) v)))))
        (λ (o : Opening) (t : Progress). and_then (entered_below (enter from phase left) phase values w o t) (λ (ns : List PlainNode) (u : Progress). gives (made (arrival w place None) o ns) u))

    pub is_entering : (left : ℕ) (values : List Value) (w : PlainWidget) (place : ℕ) (n : PlainNode) (s : Progress)
        → enter from phase (suc left) values (arrival w place (Some n)) s ≡ entering left values w place (of_type w (candidate (key_of w) from.holder (Some n))) s
    unfolding enter
    is_entering left values w place n s = refl

    -- what is given there, and what follows
    abbrev pub begun : Progress → Progress
    begun t = record { entered = suc t.entered; met = t.met; next = t.next; waiting = t.waiting }

    abbrev pub gone : Option PlainNode → ℕ → List Value → List PlainWidget → Progress → Step Opening
    gone p number fields given u = and_then (apart given u) (λ (ws : List PlainWidget) (v : Progress). gives (opening p number fields ws) v)

    abbrev pub given_then : List Value → PlainWidget → ℕ → List Value → Option PlainNode → Progress → Step Opening
    given_then values w number fields p t = and_then (given_by from.program (build_role_of (look_of w)) values number fields w (begun t)) (gone p number fields)

    abbrev pub later : ℕ → List Value → PlainWidget → ℕ → Opening → Progress → Step PlainNode
    later left values w place o t = and_then (entered_below (enter from phase left) phase values w o t) (λ (ns : List PlainNode) (u : Progress). gives (made (arrival w place None) o ns) u)

    -- from two nodes with the same number, fields and offset, what follows is the same, where what is below them is
    abbrev pub BelowAlike : ℕ → List Value → PlainWidget → ℕ → List Value → ℕ → PlainWidget → PlainWidget → ℕ → ℕ → PlainNodes → PlainNodes → List PlainWidget → Type 0
    BelowAlike left values w number fields scroll was now index other children below given =
        (t : Progress) → entered_below (enter from phase left) phase values w (opening (Some (node number was fields scroll index children)) number fields given) t
        ≡ entered_below (enter from phase left) phase values w (opening (Some (node number now fields scroll other below)) number fields given) t

    at_end : (left : ℕ) (values : List Value) (w : PlainWidget) (place number : ℕ) (fields : List Value) (scroll : ℕ) (was now : PlainWidget) (index other : ℕ) (children below : PlainNodes) (given : List PlainWidget) (t : Progress)
        → BelowAlike left values w number fields scroll was now index other children below given
        → later left values w place (opening (Some (node number was fields scroll index children)) number fields given) t ≡ later left values w place (opening (Some (node number now fields scroll other below)) number fields given) t
    at_end left values w place number fields scroll was now index other children below given t same =
        ap (λ (r : Step (List PlainNode)). and_then r (λ (ns : List PlainNode) (u : Progress). gives (node number w fields scroll place (nodes_of ns)) u)) (same t)

    -- whatever is given, and where it is what the widget has
    pub any_given : (left : ℕ) (values : List Value) (w : PlainWidget) (place number : ℕ) (fields : List Value) (scroll : ℕ) (was now : PlainWidget) (index other : ℕ) (children below : PlainNodes) (t : Progress)
        → ((given : List PlainWidget) → BelowAlike left values w number fields scroll was now index other children below given)
        → and_then (given_then values w number fields (Some (node number was fields scroll index children)) t) (later left values w place)
        ≡ and_then (given_then values w number fields (Some (node number now fields scroll other below)) t) (later left values w place)
    any_given left values w place number fields scroll was now index other children below t same =
        let p : Option PlainNode = Some (node number was fields scroll index children) in
        let q : Option PlainNode = Some (node number now fields scroll other below) in
        after_alike (given_by from.program (build_role_of (look_of w)) values number fields w (begun t)) (gone p number fields) (gone q number fields) (later left values w place) (λ given u.
        after_alike (apart given u) (λ (ws : List PlainWidget) (v : Progress). gives (opening p number fields ws) v) (λ (ws : List PlainWidget) (v : Progress). gives (opening q number fields ws) v) (later left values w place) (λ ws v.
        at_end left values w place number fields scroll was now index other children below ws v (same ws)))

    pub repeats_alike : (left : ℕ) (values : List Value) (w : PlainWidget) (place number : ℕ) (fields : List Value) (scroll : ℕ) (was now : PlainWidget) (index other : ℕ) (children below : PlainNodes) (ws : List PlainWidget) (u : Progress) (r : Option (Key Value))
        → BelowAlike left values w number fields scroll was now index other children below ws
        → and_then (and_then (unless_repeated r ws u) (λ (vs : List PlainWidget) (v : Progress). gives (opening (Some (node number was fields scroll index children)) number fields vs) v)) (later left values w place)
        ≡ and_then (and_then (unless_repeated r ws u) (λ (vs : List PlainWidget) (v : Progress). gives (opening (Some (node number now fields scroll other below)) number fields vs) v)) (later left values w place)
    repeats_alike left values w place number fields scroll was now index other children below ws u (Some k) same = refl
    repeats_alike left values w place number fields scroll was now index other children below ws u None same = at_end left values w place number fields scroll was now index other children below ws u same

    own_given_alike : (left : ℕ) (values : List Value) (w : PlainWidget) (place number : ℕ) (fields : List Value) (scroll : ℕ) (was now : PlainWidget) (index other : ℕ) (children below : PlainNodes) (t : Progress)
        → has_own_children (build_role_of (look_of w)) ≡ true
        → BelowAlike left values w number fields scroll was now index other children below (child_widgets w)
        → and_then (given_then values w number fields (Some (node number was fields scroll index children)) t) (later left values w place)
        ≡ and_then (given_then values w number fields (Some (node number now fields scroll other below)) t) (later left values w place)
    own_given_alike left values w place number fields scroll was now index other children below t own same =
        let p : Option PlainNode = Some (node number was fields scroll index children) in
        let q : Option PlainNode = Some (node number now fields scroll other below) in
        let given = own_given from.program (build_role_of (look_of w)) values number fields w (begun t) own in
        ap (λ (r : Step (List PlainWidget)). and_then (and_then r (gone p number fields)) (later left values w place)) given
        ∙ repeats_alike left values w place number fields scroll was now index other children below (child_widgets w) (begun t) (first_repeated [] (map key_of (child_widgets w))) same
        ∙ ap (λ (r : Step (List PlainWidget)). and_then (and_then r (gone q number fields)) (later left values w place)) (sym given)

    -- so are the tests before
    pub tests_alike : (left : ℕ) (values : List Value) (w : PlainWidget) (place number : ℕ) (fields : List Value) (scroll : ℕ) (was now : PlainWidget) (index other : ℕ) (children below : PlainNodes) (s : Progress)
        → ((t : Progress) → and_then (given_then values w number fields (Some (node number was fields scroll index children)) t) (later left values w place)
        ≡ and_then (given_then values w number fields (Some (node number now fields scroll other below)) t) (later left values w place))
        → entering left values w place (Some (node number was fields scroll index children)) s ≡ entering left values w place (Some (node number now fields scroll other below)) s
    tests_alike left values w place number fields scroll was now index other children below s same = by_room (nat_le from.program.nodes s.entered)
      where
        by_room : (b : Bool) → and_then (cond {A = Step Opening} b (stops tree_too_large) (and_then (met_once (key_of w) s) (λ (x : Unit {0}) (t : Progress). given_then values w number fields (Some (node number was fields scroll index children)) t))) (later left values w place)
            ≡ and_then (cond {A = Step Opening} b (stops tree_too_large) (and_then (met_once (key_of w) s) (λ (x : Unit {0}) (t : Progress). given_then values w number fields (Some (node number now fields scroll other below)) t))) (later left values w place)
        by_room true = refl
        by_room false =
            after_alike (met_once (key_of w) s) (λ (x : Unit {0}) (t : Progress). given_then values w number fields (Some (node number was fields scroll index children)) t)
            (λ (x : Unit {0}) (t : Progress). given_then values w number fields (Some (node number now fields scroll other below)) t) (later left values w place) (λ x t. same t)

    -- what it goes on from: a global key has its own node, whatever stands beside it
    pub by_key : (left : ℕ) (values : List Value) (w : PlainWidget) (place : ℕ) (n m : PlainNode) (s : Progress) (k : Key Value) → entering left values w place (of_type w (Some n)) s ≡ entering left values w place (of_type w (Some m)) s
        → entering left values w place (of_type w (candidate k from.holder (Some n))) s ≡ entering left values w place (of_type w (candidate k from.holder (Some m))) s
    by_key left values w place n m s key.None same = same
    by_key left values w place n m s (key.Local v) same = same
    by_key left values w place n m s (key.Global v) same = refl

    pub by_type : (left : ℕ) (values : List Value) (w : PlainWidget) (place : ℕ) (n m : PlainNode) (s : Progress) (b : Bool) → entering left values w place (Some n) s ≡ entering left values w place (Some m) s
        → entering left values w place (cond {A = Option PlainNode} b (Some n) None) s ≡ entering left values w place (cond {A = Option PlainNode} b (Some m) None) s
    by_type left values w place n m s true same = same
    by_type left values w place n m s false same = refl

    pub type_itself : (w : PlainWidget) → same_type w w ≡ true
    type_itself w = (and_parts (same_type w w) (key_eq (key_of w) (key_of w)) (updates_itself w)).0

    -- the node has this widget, and stands at another place
    same_alike : (left : ℕ) (values : List Value) (w : PlainWidget) (place number : ℕ) (fields : List Value) (scroll index other : ℕ) (children : PlainNodes) (s : Progress) → IsSettledAbove w (list_of children)
        → enter from phase (suc left) values (arrival w place (Some (node number w fields scroll index children))) s ≡ enter from phase (suc left) values (arrival w place (Some (node number w fields scroll other children))) s
    same_alike left values w place number fields scroll index other children s settled =
        let n = node number w fields scroll index children in
        let m = node number w fields scroll other children in
        let putting : (o : Option PlainNode) (given : List PlainWidget) (t : Progress) → entered_below (enter from phase left) phase values w (opening o number fields given) t ≡ each (enter from phase left (values_below w values)) (arrivals o given) t =
        λ o given t. ap (λ (b : Bool). cond {A = Step (List PlainNode)} b (put_off o t) (each (enter from phase left (values_below w values)) (arrivals o given) t)) (not_put_off phase (build_role_of (look_of w)) w (map widget_of (list_of children)) settled.own) in
        is_entering left values w place n s
        ∙ by_key left values w place n m s (key_of w)
        (by_type left values w place n m s (same_type w w)
        (tests_alike left values w place number fields scroll w w index other children children s (λ t.
        any_given left values w place number fields scroll w w index other children children t (λ given u.
        putting (Some n) given u ∙ sym (putting (Some m) given u)))))
        ∙ sym (is_entering left values w place m s)

    -- it took the widget
    taken_alike : (left : ℕ) (values : List Value) (was w : PlainWidget) (place number : ℕ) (fields : List Value) (scroll index other : ℕ) (children below : PlainNodes) (s : Progress) → updates was w ≡ true
        → has_own_children (build_role_of (look_of w)) ≡ true
        → BelowAlike left values w number fields scroll was w index other children below (child_widgets w)
        → enter from phase (suc left) values (arrival w place (Some (node number was fields scroll index children))) s ≡ enter from phase (suc left) values (arrival w place (Some (node number w fields scroll other below))) s
    taken_alike left values was w place number fields scroll index other children below s update own same =
        let n = node number was fields scroll index children in
        let m = node number w fields scroll other below in
        let type = (and_parts (same_type was w) (key_eq (key_of was) (key_of w)) update).0 in
        is_entering left values w place n s
        ∙ by_key left values w place n m s (key_of w)
        (ap (λ (b : Bool). entering left values w place (cond {A = Option PlainNode} b (Some n) None) s) type
        ∙ tests_alike left values w place number fields scroll was w index other children below s (λ t. own_given_alike left values w place number fields scroll was w index other children below t own same)
        ∙ sym (ap (λ (b : Bool). entering left values w place (cond {A = Option PlainNode} b (Some m) None) s) (type_itself w)))
        ∙ sym (is_entering left values w place m s)

    pub step_alike : (left : ℕ) (values : List Value) → Alike (enter from phase left values)
    unfolding enter
    step_alike zero values n w place other s settled can = refl
    step_alike (suc left) values (node number was fields scroll index children) w place other s settled can =
        elim (cases_Bool (is_same_widget was w)) [
          | inl e ↦ rw e (
              subst (λ (v : PlainWidget). enter from phase (suc left) values (arrival w place (Some (node number v fields scroll index children))) s ≡ enter from phase (suc left) values (arrival w place (Some (node number v fields scroll other children))) s)
              (sym (equal was w e)) (same_alike left values w place number fields scroll index other children s (subst (λ (v : PlainWidget). IsSettledAbove v (list_of children)) (equal was w e) settled.0)))
          | inr e ↦
              let asked = rw e at can in
              let first_parts = and_parts (updates was w) _ asked in
              let second_parts = and_parts (has_own_children (build_role_of (look_of was))) _ first_parts.1 in
              let third_parts = and_parts (has_own_children (build_role_of (look_of w))) _ second_parts.1 in
              let fourth_parts = and_parts _ _ third_parts.1 in
              let fifth_parts = and_parts _ _ fourth_parts.1 in
              rw e (taken_alike left values was w place number fields scroll index other children (nodes_of (gathered (each_taking children) 0 (child_widgets w) (matching (map widget_of (list_of children)) (child_widgets w)))) s first_parts.0 third_parts.0
              (λ t. below_alike left values number was w fields scroll index other children t (step_alike left (values_below w values)) settled second_parts.0 third_parts.0 fifth_parts.1))
        ]
