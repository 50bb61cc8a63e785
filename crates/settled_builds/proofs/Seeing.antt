-- What a build enters from a node that took another widget is what it enters from the old one.
use Rattle.std.proofs.Common.{◌≡◌, ℕ, zero, suc, ◌+◌, Bool, true, false, cond, Option, Some, None, List, [], ◌∷◌, ◌++◌, map, refl, sym, ap, ◌∙◌, subst, inl, inr, arith}
use Rattle.std.specs.Prelude.{nat_le, slice_get}
use Rattle.std.proofs.lemmas.Bool.{cases_Bool, and_parts}
use Rattle.fx_expr.specs.declared.values.Value.{Value}
use Rattle.widget_keys.specs.declared.keys.Key.{Key}
use Rattle.widget_keys.specs.declared.keys.Key.TheVariants as key
use Rattle.widget_model.specs.Plain.{PlainWidget, look_of, key_of}
use Rattle.widget_model.specs.Plain.{children_of as child_widgets}
use Rattle.widget_model.specs.Update.{key_eq, same_type, updates}
use Rattle.reconcile.specs.Matching.{matching}
use Rattle.plain_tree.specs.PlainNode.{PlainNode, node, PlainNodes, nodes_of, list_of, widget_of}
use Rattle.build_form.specs.BuildRole.{build_role_of}
use Rattle.build_form.specs.Partner.{Arrival, arrival, node_at, arrivals_from, arrivals, of_type, candidate}
use Rattle.build_form.specs.Entering.{Basis, Phase, met_once, unless_repeated, apart, first_repeated, number_for, fields_for, next_after, given_by, values_below, Opening, opening, enter}
use Rattle.build_form.specs.Step.{Progress, Step, stops, gives, and_then, tree_too_large}
use Rattle.build_walk.proofs.Made.{list_of-nodes_of}
use Rattle.work_sets.specs.Entered.{Entered, entered, after, seen_by_each, is_let_in, seen_below, seen_from}
use Rattle.work_sets.specs.Members.{is_same_widget}
use Rattle.settled_builds.specs.Settled.{StandInOrder, IsSettledAbove, IsSettled}
use Rattle.settled_builds.specs.Taken.{has_own_children}
use Rattle.settled_builds.specs.Retaken.{asked_by, gathered, retaking, each_taking, all_asked, can_retake, each_can}
use Rattle.settled_builds.proofs.Alike.{take, each_taking_is, each_can_is, asked_child, gathered_child, node_at_place, AllSettled, all_settled, gathered_widgets, gathered_order, arrives, Alike, step_alike, own_waits, own_lazy, own_given, type_itself}
use Rattle.settled_builds.proofs.Selves.{itself, selves, arrivals_are_selves}

seen_after : {A B C : Type 0} (r : Step A) (f g : A → Progress → Step B) (later : B → Progress → List C) → ((a : A) (s : Progress) → after (f a s) later ≡ after (g a s) later) → after (and_then r f) later ≡ after (and_then r g) later
seen_after (stops fault) f g later same = refl
seen_after (gives a s) f g later same = same a s

module _ (equal : (a b : PlainWidget) → is_same_widget a b ≡ true → a ≡ b) where
  abbrev pub SeenAlike : (Arrival → Progress → List Entered) → Type 0
  SeenAlike seen = (n : PlainNode) (w : PlainWidget) (place other : ℕ) (s : Progress) → IsSettled n → can_retake n w ≡ true → seen (arrival w place (Some n)) s ≡ seen (arrival w place (Some (retaking n w other))) s

  pub each_seen_alike : (go : Arrival → Progress → Step PlainNode) (seen : Arrival → Progress → List Entered) → Alike equal go → SeenAlike seen → (ns : List PlainNode) → StandInOrder 0 ns → AllSettled ns → (place : ℕ) (ws : List PlainWidget) (ms : List (Option ℕ)) (s : Progress)
      → all_asked (map can_retake ns) ws ms ≡ true → seen_by_each go seen (arrivals_from ns place ws ms) s ≡ seen_by_each go seen (selves (gathered (map take ns) place ws ms)) s
  each_seen_alike go seen alike seen_alike ns order settled place [] ms s can = refl
  each_seen_alike go seen alike seen_alike ns order settled place (w ∷ ws) [] s can = absurd (cc)
  each_seen_alike go seen alike seen_alike ns order settled place (w ∷ ws) (None ∷ ms) s can = absurd (cc)
  each_seen_alike go seen alike seen_alike ns order settled place (w ∷ ws) (Some j ∷ ms) s can =
      let parts = and_parts (asked_by (slice_get (map can_retake ns) j) w) (all_asked (map can_retake ns) ws ms) can in
      let c = asked_child ns j w parts.0 in
      let m = retaking c.child w place in
      let plus : j ≡ 0 + j = omega arith in
      let found : node_at ns j ≡ Some c.child = ap (node_at ns) plus ∙ node_at_place 0 j ns c.child order c.at in
      let head : go (arrival w place (node_at ns j)) s ≡ go (itself m) s =
      ap (λ (o : Option PlainNode). go (arrival w place o) s) found ∙ alike c.child w place place s (settled j c.child c.at) c.can ∙ ap (λ (a : Arrival). go a s) (arrives equal c.child w place) in
      let first_seen : seen (arrival w place (node_at ns j)) s ≡ seen (itself m) s =
      ap (λ (o : Option PlainNode). seen (arrival w place o) s) found ∙ seen_alike c.child w place place s (settled j c.child c.at) c.can ∙ ap (λ (a : Arrival). seen a s) (arrives equal c.child w place) in
      let tail : (t : Progress) → seen_by_each go seen (arrivals_from ns (suc place) ws ms) t ≡ seen_by_each go seen (selves (gathered (map take ns) (suc place) ws ms)) t =
      λ t. each_seen_alike go seen alike seen_alike ns order settled (suc place) ws ms t parts.1 in
      (λ i. first_seen i ++ after (head i) (λ (y : PlainNode) (t : Progress). tail t i))
      ∙ ap (λ (xs : List PlainNode). seen_by_each go seen (selves (xs ++ gathered (map take ns) (suc place) ws ms)) s) (sym (gathered_child ns j w place c.child c.at))

  module _ (from : Basis) (phase : Phase) where
    abbrev pub seen_under : ℕ → List ℕ → List Value → PlainWidget → Opening → Progress → List Entered
    seen_under left above values w o t = seen_below (enter from phase left) (seen_from from phase left (o.number ∷ above)) phase values w o t

    abbrev pub seeing : ℕ → List ℕ → List Value → PlainWidget → Option PlainNode → Progress → List Entered
    seeing left above values w p s =
        cond {A = List Entered} (is_let_in from (arrival w 0 None) s)
        (entered (number_for p s) w above values
        ∷ after
        (cond {A = Step Opening} (nat_le from.program.nodes s.entered) (stops tree_too_large)
        (and_then (met_once (key_of w) s) (λ (x : Unit {0}) (t : Progress).
        and_then (given_by from.program (build_role_of (look_of w)) values (number_for p t) (fields_for from.program w p) w (record { entered = suc t.entered; met = t.met; next = next_after p t.next; waiting = t.waiting }))
        (λ (given : List PlainWidget) (u : Progress). and_then (apart given u) (λ (ws : List PlainWidget) (v : Progress). gives (opening p (number_for p t) (fields_for from.program w p) ws) v)))))
        (seen_under left above values w))
        []

    pub is_seeing : (left : ℕ) (above : List ℕ) (values : List Value) (w : PlainWidget) (place : ℕ) (n : PlainNode) (s : Progress)
        → seen_from from phase (suc left) above values (arrival w place (Some n)) s ≡ seeing left above values w (of_type w (candidate (key_of w) from.holder (Some n))) s
    unfolding seen_from
    is_seeing left above values w place n s = refl

    abbrev pub begun : Progress → Progress
    begun t = record { entered = suc t.entered; met = t.met; next = t.next; waiting = t.waiting }

    abbrev pub gone : Option PlainNode → ℕ → List Value → List PlainWidget → Progress → Step Opening
    gone p number fields given u = and_then (apart given u) (λ (ws : List PlainWidget) (v : Progress). gives (opening p number fields ws) v)

    abbrev pub given_then : List Value → PlainWidget → ℕ → List Value → Option PlainNode → Progress → Step Opening
    given_then values w number fields p t = and_then (given_by from.program (build_role_of (look_of w)) values number fields w (begun t)) (gone p number fields)

    -- two nodes below which the same is seen, of what is given
    abbrev pub SeenBelow : ℕ → List ℕ → List Value → PlainWidget → ℕ → List Value → Option PlainNode → Option PlainNode → List PlainWidget → Type 0
    SeenBelow left above values w number fields p q given = (t : Progress) → seen_under left above values w (opening p number fields given) t ≡ seen_under left above values w (opening q number fields given) t

    pub any_seen : (left : ℕ) (above : List ℕ) (values : List Value) (w : PlainWidget) (number : ℕ) (fields : List Value) (p q : Option PlainNode) (t : Progress) → ((given : List PlainWidget) → SeenBelow left above values w number fields p q given)
        → after (given_then values w number fields p t) (seen_under left above values w) ≡ after (given_then values w number fields q t) (seen_under left above values w)
    any_seen left above values w number fields p q t same =
        seen_after (given_by from.program (build_role_of (look_of w)) values number fields w (begun t)) (gone p number fields) (gone q number fields) (seen_under left above values w) (λ given u.
        seen_after (apart given u) (λ (ws : List PlainWidget) (v : Progress). gives (opening p number fields ws) v) (λ (ws : List PlainWidget) (v : Progress). gives (opening q number fields ws) v) (seen_under left above values w) (λ ws v. same ws v))

    repeats_seen : (left : ℕ) (above : List ℕ) (values : List Value) (w : PlainWidget) (number : ℕ) (fields : List Value) (p q : Option PlainNode) (ws : List PlainWidget) (u : Progress) (r : Option (Key Value)) → SeenBelow left above values w number fields p q ws
        → after (and_then (unless_repeated r ws u) (λ (vs : List PlainWidget) (v : Progress). gives (opening p number fields vs) v)) (seen_under left above values w)
        ≡ after (and_then (unless_repeated r ws u) (λ (vs : List PlainWidget) (v : Progress). gives (opening q number fields vs) v)) (seen_under left above values w)
    repeats_seen left above values w number fields p q ws u (Some k) same = refl
    repeats_seen left above values w number fields p q ws u None same = same u

    pub known_seen : (left : ℕ) (above : List ℕ) (values : List Value) (w : PlainWidget) (number : ℕ) (fields : List Value) (p q : Option PlainNode) (gs : List PlainWidget) (t : Progress)
        → given_by from.program (build_role_of (look_of w)) values number fields w (begun t) ≡ gives gs (begun t) → SeenBelow left above values w number fields p q gs
        → after (given_then values w number fields p t) (seen_under left above values w) ≡ after (given_then values w number fields q t) (seen_under left above values w)
    known_seen left above values w number fields p q gs t given same =
        ap (λ (r : Step (List PlainWidget)). after (and_then r (gone p number fields)) (seen_under left above values w)) given
        ∙ repeats_seen left above values w number fields p q gs (begun t) (first_repeated [] (map key_of gs)) same
        ∙ ap (λ (r : Step (List PlainWidget)). after (and_then r (gone q number fields)) (seen_under left above values w)) (sym given)

    pub tests_seen : (left : ℕ) (above : List ℕ) (values : List Value) (w : PlainWidget) (number : ℕ) (fields : List Value) (scroll : ℕ) (was now : PlainWidget) (index other : ℕ) (children below : PlainNodes) (s : Progress)
        → ((t : Progress) → after (given_then values w number fields (Some (node number was fields scroll index children)) t) (seen_under left above values w)
        ≡ after (given_then values w number fields (Some (node number now fields scroll other below)) t) (seen_under left above values w))
        → seeing left above values w (Some (node number was fields scroll index children)) s ≡ seeing left above values w (Some (node number now fields scroll other below)) s
    tests_seen left above values w number fields scroll was now index other children below s same =
        ap (λ (es : List Entered). cond {A = List Entered} (is_let_in from (arrival w 0 None) s) (entered number w above values ∷ es) []) (by_room (nat_le from.program.nodes s.entered))
      where
        by_room : (b : Bool) → after (cond {A = Step Opening} b (stops tree_too_large) (and_then (met_once (key_of w) s) (λ (x : Unit {0}) (t : Progress). given_then values w number fields (Some (node number was fields scroll index children)) t))) (seen_under left above values w)
            ≡ after (cond {A = Step Opening} b (stops tree_too_large) (and_then (met_once (key_of w) s) (λ (x : Unit {0}) (t : Progress). given_then values w number fields (Some (node number now fields scroll other below)) t))) (seen_under left above values w)
        by_room true = refl
        by_room false =
            seen_after (met_once (key_of w) s) (λ (x : Unit {0}) (t : Progress). given_then values w number fields (Some (node number was fields scroll index children)) t)
            (λ (x : Unit {0}) (t : Progress). given_then values w number fields (Some (node number now fields scroll other below)) t) (seen_under left above values w) (λ x t. same t)

    pub by_key_seen : (left : ℕ) (above : List ℕ) (values : List Value) (w : PlainWidget) (n m : PlainNode) (s : Progress) (k : Key Value) → seeing left above values w (of_type w (Some n)) s ≡ seeing left above values w (of_type w (Some m)) s
        → seeing left above values w (of_type w (candidate k from.holder (Some n))) s ≡ seeing left above values w (of_type w (candidate k from.holder (Some m))) s
    by_key_seen left above values w n m s key.None same = same
    by_key_seen left above values w n m s (key.Local v) same = same
    by_key_seen left above values w n m s (key.Global v) same = refl

    pub by_type_seen : (left : ℕ) (above : List ℕ) (values : List Value) (w : PlainWidget) (n m : PlainNode) (s : Progress) (b : Bool) → seeing left above values w (Some n) s ≡ seeing left above values w (Some m) s
        → seeing left above values w (cond {A = Option PlainNode} b (Some n) None) s ≡ seeing left above values w (cond {A = Option PlainNode} b (Some m) None) s
    by_type_seen left above values w n m s true same = same
    by_type_seen left above values w n m s false same = refl

    same_seen : (left : ℕ) (above : List ℕ) (values : List Value) (w : PlainWidget) (place number : ℕ) (fields : List Value) (scroll index other : ℕ) (children : PlainNodes) (s : Progress) → IsSettledAbove w (list_of children)
        → seen_from from phase (suc left) above values (arrival w place (Some (node number w fields scroll index children))) s ≡ seen_from from phase (suc left) above values (arrival w place (Some (node number w fields scroll other children))) s
    same_seen left above values w place number fields scroll index other children s settled =
        let n = node number w fields scroll index children in
        let m = node number w fields scroll other children in
        is_seeing left above values w place n s
        ∙ by_key_seen left above values w n m s (key_of w)
        (by_type_seen left above values w n m s (same_type w w)
        (tests_seen left above values w number fields scroll w w index other children children s (λ t. any_seen left above values w number fields (Some n) (Some m) t (λ given u. refl))))
        ∙ sym (is_seeing left above values w place m s)

    taken_seen : (left : ℕ) (above : List ℕ) (values : List Value) (was w : PlainWidget) (place number : ℕ) (fields : List Value) (scroll index other : ℕ) (children below : PlainNodes) (s : Progress) → updates was w ≡ true
        → has_own_children (build_role_of (look_of w)) ≡ true
        → SeenBelow left above values w number fields (Some (node number was fields scroll index children)) (Some (node number w fields scroll other below)) (child_widgets w)
        → seen_from from phase (suc left) above values (arrival w place (Some (node number was fields scroll index children))) s ≡ seen_from from phase (suc left) above values (arrival w place (Some (node number w fields scroll other below))) s
    taken_seen left above values was w place number fields scroll index other children below s update own same =
        let n = node number was fields scroll index children in
        let m = node number w fields scroll other below in
        let type = (and_parts (same_type was w) (key_eq (key_of was) (key_of w)) update).0 in
        is_seeing left above values w place n s
        ∙ by_key_seen left above values w n m s (key_of w)
        (ap (λ (b : Bool). seeing left above values w (cond {A = Option PlainNode} b (Some n) None) s) type
        ∙ tests_seen left above values w number fields scroll was w index other children below s (λ t.
        known_seen left above values w number fields (Some n) (Some m) (child_widgets w) t (own_given from.program (build_role_of (look_of w)) values number fields w (begun t) own) same)
        ∙ sym (ap (λ (b : Bool). seeing left above values w (cond {A = Option PlainNode} b (Some m) None) s) (type_itself equal from phase w)))
        ∙ sym (is_seeing left above values w place m s)

    -- what is seen below a node that took the widget
    below_seen : (left : ℕ) (above : List ℕ) (values : List Value) (number : ℕ) (widget w : PlainWidget) (fields : List Value) (scroll index other : ℕ) (children : PlainNodes)
        → SeenAlike (seen_from from phase left (number ∷ above) (values_below w values)) → IsSettled (node number widget fields scroll index children)
        → has_own_children (build_role_of (look_of widget)) ≡ true → has_own_children (build_role_of (look_of w)) ≡ true
        → all_asked (each_can children) (child_widgets w) (matching (map widget_of (list_of children)) (child_widgets w)) ≡ true
        → SeenBelow left above values w number fields (Some (node number widget fields scroll index children))
        (Some (node number w fields scroll other (nodes_of (gathered (each_taking children) 0 (child_widgets w) (matching (map widget_of (list_of children)) (child_widgets w)))))) (child_widgets w)
    below_seen left above values number widget w fields scroll index other children seen_alike settled own own_now can = λ t.
        let ns = list_of children in
        let ws = child_widgets w in
        let ms = matching (map widget_of ns) ws in
        let go = enter from phase left (values_below w values) in
        let seen = seen_from from phase left (number ∷ above) (values_below w values) in
        let asked : all_asked (map can_retake ns) ws ms ≡ true = ap (λ cs. all_asked cs ws ms) (sym (each_can_is children)) ∙ can in
        let kids : gathered (each_taking children) 0 ws ms ≡ gathered (map take ns) 0 ws ms = ap (λ ts. gathered ts 0 ws ms) (each_taking_is children) in
        let now = gathered (map take ns) 0 ws ms in
        let listed : list_of (nodes_of now) ≡ now = list_of-nodes_of now in
        let order : StandInOrder 0 (list_of (nodes_of now)) = subst (StandInOrder 0) (sym listed) (gathered_order equal ns 0 ws ms asked) in
        let widgets : map widget_of (list_of (nodes_of now)) ≡ ws = ap (map widget_of) listed ∙ gathered_widgets equal ns 0 ws ms asked in
        let later : PlainNodes → List Entered = λ below. seen_by_each go seen (arrivals (Some (node number w fields scroll other below)) ws) t in
        let putting : (o : Option PlainNode) → seen_under left above values w (opening o number fields ws) t ≡ seen_by_each go seen (arrivals o ws) t =
        λ o. ap (λ (b : Bool). cond {A = List Entered} b [] (seen_by_each go seen (arrivals o ws) t)) (own_waits phase (build_role_of (look_of w)) own_now) in
        putting (Some (node number widget fields scroll index children))
        ∙ ap (λ (b : Bool). seen_by_each go seen (arrivals_from ns 0 ws (matching (cond b (child_widgets widget) (map widget_of ns)) ws)) t) (own_lazy (build_role_of (look_of widget)) own)
        ∙ each_seen_alike go seen (step_alike equal from phase left (values_below w values)) seen_alike ns settled.0.order (all_settled children settled.1) 0 ws ms t asked
        ∙ ap (λ (xs : List PlainNode). seen_by_each go seen (selves xs) t) (sym listed)
        ∙ ap (λ (bs : List Arrival). seen_by_each go seen bs t) (sym (arrivals_are_selves number w fields scroll other (nodes_of now) (own_lazy (build_role_of (look_of w)) own_now) order))
        ∙ ap (λ (vs : List PlainWidget). seen_by_each go seen (arrivals (Some (node number w fields scroll other (nodes_of now))) vs) t) widgets
        ∙ ap (λ (xs : List PlainNode). later (nodes_of xs)) (sym kids)
        ∙ sym (putting (Some (node number w fields scroll other (nodes_of (gathered (each_taking children) 0 ws ms)))))

    pub seen_alike : (left : ℕ) (above : List ℕ) (values : List Value) → SeenAlike (seen_from from phase left above values)
    unfolding seen_from
    seen_alike zero above values n w place other s settled can = refl
    seen_alike (suc left) above values (node number was fields scroll index children) w place other s settled can =
        elim (cases_Bool (is_same_widget was w)) [
          | inl e ↦ rw e (
              subst (λ (v : PlainWidget). seen_from from phase (suc left) above values (arrival w place (Some (node number v fields scroll index children))) s ≡ seen_from from phase (suc left) above values (arrival w place (Some (node number v fields scroll other children))) s)
              (sym (equal was w e)) (same_seen left above values w place number fields scroll index other children s (subst (λ (v : PlainWidget). IsSettledAbove v (list_of children)) (equal was w e) settled.0)))
          | inr e ↦
              let asked = rw e at can in
              let first_parts = and_parts (updates was w) _ asked in
              let second_parts = and_parts (has_own_children (build_role_of (look_of was))) _ first_parts.1 in
              let third_parts = and_parts (has_own_children (build_role_of (look_of w))) _ second_parts.1 in
              let fourth_parts = and_parts _ _ third_parts.1 in
              let fifth_parts = and_parts _ _ fourth_parts.1 in
              rw e (taken_seen left above values was w place number fields scroll index other children (nodes_of (gathered (each_taking children) 0 (child_widgets w) (matching (map widget_of (list_of children)) (child_widgets w)))) s first_parts.0 third_parts.0
              (below_seen left above values number was w fields scroll index other children (seen_alike left (number ∷ above) (values_below w values)) settled second_parts.0 third_parts.0 fifth_parts.1))
        ]
