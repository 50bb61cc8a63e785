-- A build comes to a component, what is below which was changed, as it would from the old tree.
use Rattle.std.proofs.Common.{◌≡◌, ℕ, zero, suc, ◌+◌, Bool, true, false, eqb, cond, Option, Some, List, [], ◌∷◌, map, sym, ap, ◌∙◌}
use Rattle.fx_expr.specs.declared.values.Value.{Value}
use Rattle.widget_model.specs.Plain.{PlainWidget, look_of, key_of}
use Rattle.widget_model.specs.Update.{same_type}
use Rattle.plain_tree.specs.At.{is_there}
use Rattle.plain_tree.specs.PlainNode.{PlainNode, node, PlainNodes, no_nodes, more_nodes, list_of, widget_of, counts_of, count_of}
use Rattle.build_form.specs.BuildRole.{build_role_of, is_lazy}
use Rattle.build_form.specs.Partner.{Arrival, arrival, arrivals}
use Rattle.build_form.specs.Entering.{Basis, Phase, first_repeated, given_by, values_below, put_off, opening, entered_below, enter}
use Rattle.build_form.specs.Step.{Progress, Step, gives, and_then, each}
use Rattle.build_walk.specs.Fresh.{HasOutput, HasFreshOutputs}
use Rattle.work_sets.specs.Members.{is_same_widget}
use Rattle.settled_builds.specs.Places.{NodePlace, spot_at, spot_in}
use Rattle.settled_builds.specs.Settled.{IsSettledAbove, IsSettled, AreSettled}
use Rattle.settled_builds.specs.Taken.{AskedIf}
use Rattle.settled_builds.specs.Retaken.{over}
use Rattle.settled_builds.proofs.Alike.{BelowAlike, begun, gone, later, repeats_alike, tests_alike, by_key, by_type, is_entering}
use Rattle.settled_builds.proofs.Changed.{changed, all_changed, changed_widgets, changed_order}
use Rattle.settled_builds.proofs.Selves.{itself, selves, arrivals_are_selves}
use Rattle.settled_builds.proofs.Staying.{no_list, not_put_off, given_again}
use Rattle.settled_builds.proofs.UpTo.{IsFreshUpTo, AreFreshUpTo}

pub same_spot : (p q : NodePlace) → Some q ≡ Some p → q ≡ p
same_spot p q e = cc

module _ (equal : (a b : PlainWidget) → is_same_widget a b ≡ true → a ≡ b) (from : Basis) (phase : Phase) where
  -- where it is known what is given
  pub known_alike : (left : ℕ) (values : List Value) (w : PlainWidget) (place number : ℕ) (fields : List Value) (scroll index other : ℕ) (children below : PlainNodes) (gs : List PlainWidget) (s : Progress)
      → ((t : Progress) → given_by from.program (build_role_of (look_of w)) values number fields w t ≡ gives gs t)
      → BelowAlike equal from phase left values w number fields scroll w w index other children below gs
      → enter from phase (suc left) values (arrival w place (Some (node number w fields scroll index children))) s ≡ enter from phase (suc left) values (arrival w place (Some (node number w fields scroll other below))) s
  known_alike left values w place number fields scroll index other children below gs s given same =
      let n = node number w fields scroll index children in
      let m = node number w fields scroll other below in
      let o : Option PlainNode = Some n in
      let q : Option PlainNode = Some m in
      is_entering equal from phase left values w place n s
      ∙ by_key equal from phase left values w place n m s (key_of w)
      (by_type equal from phase left values w place n m s (same_type w w)
      (tests_alike equal from phase left values w place number fields scroll w w index other children below s (λ t.
      ap (λ (r : Step (List PlainWidget)). and_then (and_then r (gone equal from phase o number fields)) (later equal from phase left values w place)) (given (begun equal from phase t))
      ∙ repeats_alike equal from phase left values w place number fields scroll w w index other children below gs (begun equal from phase t) (first_repeated [] (map key_of gs)) same
      ∙ ap (λ (r : Step (List PlainWidget)). and_then (and_then r (gone equal from phase q number fields)) (later equal from phase left values w place)) (sym (given (begun equal from phase t))))))
      ∙ sym (is_entering equal from phase left values w place m s)

module _ (equal : (a b : PlainWidget) → is_same_widget a b ≡ true → a ≡ b) (from : Basis) (phase : Phase) (change : PlainNodes → PlainNodes) (wanted : ℕ) (p : NodePlace) where
  -- a build goes on alike at the spot itself
  abbrev pub AlikeAt : Type 0
  AlikeAt = (left : ℕ) (values : List Value) (before behind number : ℕ) (w : PlainWidget) (fields : List Value) (scroll index : ℕ) (children : PlainNodes) (s : Progress)
      → Some (record { node = node number w fields scroll index children; left = suc left; values = values; before = before; after = behind }) ≡ Some p → IsSettled (node number w fields scroll index children)
      → enter from phase (suc left) values (itself (node number w fields scroll index children)) s ≡ enter from phase (suc left) values (itself (over change (node number w fields scroll index children))) s

  -- on the way to it
  by_it : (left : ℕ) (values : List Value) (number : ℕ) (w : PlainWidget) (fields : List Value) (scroll index : ℕ) (children : PlainNodes) (s : Progress) → IsSettledAbove w (list_of children)
      → HasOutput from.program (build_role_of (look_of w)) w fields values number (map widget_of (list_of children))
      → ((t : Progress) → each (enter from phase left (values_below w values)) (selves (list_of children)) t ≡ each (enter from phase left (values_below w values)) (selves (list_of (all_changed change wanted children))) t)
      → enter from phase (suc left) values (itself (node number w fields scroll index children)) s ≡ enter from phase (suc left) values (itself (node number w fields scroll index (all_changed change wanted children))) s
  by_it left values number w fields scroll index children s settled output below =
      let gs = map widget_of (list_of children) in
      let go = enter from phase left (values_below w values) in
      let lazy : is_lazy (build_role_of (look_of w)) ≡ false = no_list (build_role_of (look_of w)) w gs settled.own in
      let putting : (o : Option PlainNode) (t : Progress) → entered_below (enter from phase left) phase values w (opening o number fields gs) t ≡ each go (arrivals o gs) t =
      λ o t. ap (λ (b : Bool). cond {A = Step (List PlainNode)} b (put_off o t) (each go (arrivals o gs) t)) (not_put_off phase (build_role_of (look_of w)) w gs settled.own) in
      let here : arrivals (Some (node number w fields scroll index children)) gs ≡ selves (list_of children) = arrivals_are_selves number w fields scroll index children lazy settled.order in
      let there : arrivals (Some (node number w fields scroll index (all_changed change wanted children))) gs ≡ selves (list_of (all_changed change wanted children)) =
      ap (λ (vs : List PlainWidget). arrivals (Some (node number w fields scroll index (all_changed change wanted children))) vs) (sym (changed_widgets change wanted children))
      ∙ arrivals_are_selves number w fields scroll index (all_changed change wanted children) lazy (changed_order change wanted 0 children settled.order) in
      known_alike equal from phase left values w index number fields scroll index index children (all_changed change wanted children) gs s
      (λ t. given_again from.program (build_role_of (look_of w)) values number fields w t gs settled.own output)
      (λ t.
      putting (Some (node number w fields scroll index children)) t ∙ ap (λ (bs : List Arrival). each go bs t) here ∙ below t
      ∙ ap (λ (bs : List Arrival). each go bs t) (sym there) ∙ sym (putting (Some (node number w fields scroll index (all_changed change wanted children))) t))

  at_node : (left : ℕ) (values : List Value) (before behind number : ℕ) (w : PlainWidget) (fields : List Value) (scroll index : ℕ) (children : PlainNodes) (s : Progress) (b : Bool)
      → cond {A = Option NodePlace} b (Some (record { node = node number w fields scroll index children; left = suc left; values = values; before = before; after = behind })) (spot_in wanted left (values_below w values) (suc before) behind children) ≡ Some p
      → AlikeAt → IsSettled (node number w fields scroll index children)
      → AskedIf b (Unit {0}) (HasOutput from.program (build_role_of (look_of w)) w fields values number (map widget_of (list_of children)) × AreFreshUpTo from.program wanted (values_below w values) children)
      → (spot_in wanted left (values_below w values) (suc before) behind children ≡ Some p → AreFreshUpTo from.program wanted (values_below w values) children → (t : Progress)
      → each (enter from phase left (values_below w values)) (selves (list_of children)) t ≡ each (enter from phase left (values_below w values)) (selves (list_of (all_changed change wanted children))) t)
      → enter from phase (suc left) values (itself (node number w fields scroll index children)) s
      ≡ enter from phase (suc left) values (itself (cond {A = PlainNode} b (over change (node number w fields scroll index children)) (node number w fields scroll index (all_changed change wanted children)))) s
  at_node left values before behind number w fields scroll index children s true at alike_at settled fresh below = alike_at left values before behind number w fields scroll index children s at settled
  at_node left values before behind number w fields scroll index children s false at alike_at settled fresh below =
      by_it left values number w fields scroll index children s settled.0 fresh.0 (below at fresh.1)

  abbrev EachAlike : ℕ → List Value → PlainNodes → PlainNodes → Progress → Type 0
  EachAlike left values ns ms t = each (enter from phase left values) (selves (list_of ns)) t ≡ each (enter from phase left values) (selves (list_of ms)) t

  at_nodes : (left : ℕ) (values : List Value) (before behind : ℕ) (n : PlainNode) (ns : PlainNodes) (s : Progress) (b : Bool)
      → cond {A = Option NodePlace} b (spot_at wanted left values before (behind + counts_of ns) n) (spot_in wanted left values (before + count_of n) behind ns) ≡ Some p
      → AskedIf b (IsFreshUpTo from.program wanted values n) (HasFreshOutputs from.program [] values n × AreFreshUpTo from.program wanted values ns)
      → (spot_at wanted left values before (behind + counts_of ns) n ≡ Some p → IsFreshUpTo from.program wanted values n → (t : Progress) → enter from phase left values (itself n) t ≡ enter from phase left values (itself (changed change wanted n)) t)
      → (spot_in wanted left values (before + count_of n) behind ns ≡ Some p → AreFreshUpTo from.program wanted values ns → (t : Progress) → EachAlike left values ns (all_changed change wanted ns) t)
      → EachAlike left values (more_nodes n ns) (cond {A = PlainNodes} b (more_nodes (changed change wanted n) ns) (more_nodes n (all_changed change wanted ns))) s
  at_nodes left values before behind n ns s true at fresh first_one others =
      ap (λ (r : Step PlainNode). and_then r (λ (y : PlainNode) (t : Progress). and_then (each (enter from phase left values) (selves (list_of ns)) t) (λ (ys : List PlainNode) (u : Progress). gives (y ∷ ys) u))) (first_one at fresh s)
  at_nodes left values before behind n ns s false at fresh first_one others =
      λ i. and_then (enter from phase left values (itself n) s) (λ (y : PlainNode) (t : Progress). and_then (others at fresh.1 t i) (λ (ys : List PlainNode) (u : Progress). gives (y ∷ ys) u))

  mutual
    pub reached : (left : ℕ) (values : List Value) (before behind : ℕ) (n : PlainNode) (s : Progress) → spot_at wanted left values before behind n ≡ Some p → AlikeAt → IsSettled n → IsFreshUpTo from.program wanted values n
        → enter from phase left values (itself n) s ≡ enter from phase left values (itself (changed change wanted n)) s
    reached zero values before behind (node number w fields scroll index children) s at alike_at settled fresh = absurd (cc)
    reached (suc left) values before behind (node number w fields scroll index children) s at alike_at settled fresh =
        at_node left values before behind number w fields scroll index children s (eqb number wanted) at alike_at settled fresh
        (λ below_at below_fresh t. all_reached left (values_below w values) (suc before) behind children t below_at alike_at settled.1 below_fresh)

    pub all_reached : (left : ℕ) (values : List Value) (before behind : ℕ) (ns : PlainNodes) (s : Progress) → spot_in wanted left values before behind ns ≡ Some p → AlikeAt → AreSettled ns → AreFreshUpTo from.program wanted values ns
        → EachAlike left values ns (all_changed change wanted ns) s
    all_reached left values before behind no_nodes s at alike_at settled fresh = absurd (cc)
    all_reached left values before behind (more_nodes n ns) s at alike_at settled fresh =
        at_nodes left values before behind n ns s (is_there wanted n) at fresh
        (λ node_at node_fresh t. reached left values before (behind + counts_of ns) n t node_at alike_at settled.0 node_fresh)
        (λ nodes_at nodes_fresh t. all_reached left values (before + count_of n) behind ns t nodes_at alike_at settled.1 nodes_fresh)
