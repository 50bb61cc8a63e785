-- On the way to a component, what is below which was changed, a build enters what it would enter from the old tree.
use Rattle.std.proofs.Common.{◌≡◌, ℕ, zero, suc, ◌+◌, Bool, true, false, eqb, cond, Option, Some, List, [], ◌∷◌, ◌++◌, map, sym, ap, ◌∙◌}
use Rattle.fx_expr.specs.declared.values.Value.{Value}
use Rattle.widget_model.specs.Plain.{PlainWidget, look_of, key_of}
use Rattle.widget_model.specs.Update.{same_type}
use Rattle.plain_tree.specs.At.{is_there}
use Rattle.plain_tree.specs.PlainNode.{PlainNode, node, PlainNodes, no_nodes, more_nodes, list_of, widget_of, counts_of, count_of}
use Rattle.build_form.specs.BuildRole.{build_role_of, is_lazy}
use Rattle.build_form.specs.Partner.{Arrival, arrival, arrivals}
use Rattle.build_form.specs.Entering.{Basis, Phase, given_by, values_below, opening, enter}
use Rattle.build_form.specs.Step.{Progress, gives}
use Rattle.build_walk.specs.Fresh.{HasOutput, HasFreshOutputs}
use Rattle.work_sets.specs.Entered.{Entered, after, seen_by_each, seen_from}
use Rattle.work_sets.specs.Members.{is_same_widget}
use Rattle.settled_builds.specs.Places.{NodePlace, spot_at, spot_in}
use Rattle.settled_builds.specs.Retaken.{over}
use Rattle.settled_builds.specs.Settled.{AreItsOwn, IsSettledAbove, IsSettled, AreSettled}
use Rattle.settled_builds.specs.Taken.{AskedIf}
use Rattle.settled_builds.proofs.Changed.{changed, all_changed, changed_widgets, changed_order}
use Rattle.settled_builds.proofs.Reaching.{AlikeAt, reached}
use Rattle.settled_builds.proofs.Seeing.{SeenBelow, seen_under, begun, known_seen, tests_seen, by_key_seen, by_type_seen, is_seeing}
use Rattle.settled_builds.proofs.Selves.{itself, selves, arrivals_are_selves}
use Rattle.settled_builds.proofs.Staying.{no_list, not_put_off, given_again}
use Rattle.settled_builds.proofs.UpTo.{IsFreshUpTo, AreFreshUpTo}

module _ (equal : (a b : PlainWidget) → is_same_widget a b ≡ true → a ≡ b) (from : Basis) (phase : Phase) where
  -- where it is known what is given
  pub known_alike : (left : ℕ) (above : List ℕ) (values : List Value) (w : PlainWidget) (place number : ℕ) (fields : List Value) (scroll index other : ℕ) (children below : PlainNodes) (gs : List PlainWidget) (s : Progress)
      → ((t : Progress) → given_by from.program (build_role_of (look_of w)) values number fields w t ≡ gives gs t)
      → SeenBelow equal from phase left above values w number fields (Some (node number w fields scroll index children)) (Some (node number w fields scroll other below)) gs
      → seen_from from phase (suc left) above values (arrival w place (Some (node number w fields scroll index children))) s ≡ seen_from from phase (suc left) above values (arrival w place (Some (node number w fields scroll other below))) s
  known_alike left above values w place number fields scroll index other children below gs s given same =
      let n = node number w fields scroll index children in
      let m = node number w fields scroll other below in
      is_seeing equal from phase left above values w place n s
      ∙ by_key_seen equal from phase left above values w n m s (key_of w)
      (by_type_seen equal from phase left above values w n m s (same_type w w)
      (tests_seen equal from phase left above values w number fields scroll w w index other children below s (λ t.
      known_seen equal from phase left above values w number fields (Some n) (Some m) gs t (given (begun equal from phase t)) same)))
      ∙ sym (is_seeing equal from phase left above values w place m s)

  -- what is seen below a component, or a node above it
  pub putting : (left : ℕ) (above : List ℕ) (values : List Value) (number : ℕ) (w : PlainWidget) (fields : List Value) (gs : List PlainWidget) → AreItsOwn (build_role_of (look_of w)) w gs → (o : Option PlainNode) (t : Progress)
      → seen_under equal from phase left above values w (opening o number fields gs) t
      ≡ seen_by_each (enter from phase left (values_below w values)) (seen_from from phase left (number ∷ above) (values_below w values)) (arrivals o gs) t
  putting left above values number w fields gs own o t =
      ap (λ (b : Bool). cond {A = List Entered} b [] (seen_by_each (enter from phase left (values_below w values)) (seen_from from phase left (number ∷ above) (values_below w values)) (arrivals o gs) t))
      (not_put_off phase (build_role_of (look_of w)) w gs own)

module _ (equal : (a b : PlainWidget) → is_same_widget a b ≡ true → a ≡ b) (from : Basis) (phase : Phase) (change : PlainNodes → PlainNodes) (wanted : ℕ) (p : NodePlace) where
  -- the same is entered at the spot itself
  abbrev pub SeenAt : Type 0
  SeenAt = (left : ℕ) (above : List ℕ) (values : List Value) (before behind number : ℕ) (w : PlainWidget) (fields : List Value) (scroll index : ℕ) (children : PlainNodes) (s : Progress)
      → Some (record { node = node number w fields scroll index children; left = suc left; values = values; before = before; after = behind }) ≡ Some p → IsSettled (node number w fields scroll index children)
      → seen_from from phase (suc left) above values (itself (node number w fields scroll index children)) s ≡ seen_from from phase (suc left) above values (itself (over change (node number w fields scroll index children))) s

  -- on the way to it
  by_it : (left : ℕ) (above : List ℕ) (values : List Value) (number : ℕ) (w : PlainWidget) (fields : List Value) (scroll index : ℕ) (children : PlainNodes) (s : Progress) → IsSettledAbove w (list_of children)
      → HasOutput from.program (build_role_of (look_of w)) w fields values number (map widget_of (list_of children))
      → ((t : Progress) → seen_by_each (enter from phase left (values_below w values)) (seen_from from phase left (number ∷ above) (values_below w values)) (selves (list_of children)) t
      ≡ seen_by_each (enter from phase left (values_below w values)) (seen_from from phase left (number ∷ above) (values_below w values)) (selves (list_of (all_changed change wanted children))) t)
      → seen_from from phase (suc left) above values (itself (node number w fields scroll index children)) s ≡ seen_from from phase (suc left) above values (itself (node number w fields scroll index (all_changed change wanted children))) s
  by_it left above values number w fields scroll index children s settled output below =
      let gs = map widget_of (list_of children) in
      let go = enter from phase left (values_below w values) in
      let seen = seen_from from phase left (number ∷ above) (values_below w values) in
      let lazy : is_lazy (build_role_of (look_of w)) ≡ false = no_list (build_role_of (look_of w)) w gs settled.own in
      let here : arrivals (Some (node number w fields scroll index children)) gs ≡ selves (list_of children) = arrivals_are_selves number w fields scroll index children lazy settled.order in
      let there : arrivals (Some (node number w fields scroll index (all_changed change wanted children))) gs ≡ selves (list_of (all_changed change wanted children)) =
      ap (λ (vs : List PlainWidget). arrivals (Some (node number w fields scroll index (all_changed change wanted children))) vs) (sym (changed_widgets change wanted children))
      ∙ arrivals_are_selves number w fields scroll index (all_changed change wanted children) lazy (changed_order change wanted 0 children settled.order) in
      known_alike equal from phase left above values w index number fields scroll index index children (all_changed change wanted children) gs s
      (λ t. given_again from.program (build_role_of (look_of w)) values number fields w t gs settled.own output)
      (λ t.
      putting equal from phase left above values number w fields gs settled.own (Some (node number w fields scroll index children)) t ∙ ap (λ (bs : List Arrival). seen_by_each go seen bs t) here ∙ below t
      ∙ ap (λ (bs : List Arrival). seen_by_each go seen bs t) (sym there) ∙ sym (putting equal from phase left above values number w fields gs settled.own (Some (node number w fields scroll index (all_changed change wanted children))) t))

  abbrev EachSeen : ℕ → List ℕ → List Value → PlainNodes → PlainNodes → Progress → Type 0
  EachSeen left above values ns ms t =
      seen_by_each (enter from phase left values) (seen_from from phase left above values) (selves (list_of ns)) t ≡ seen_by_each (enter from phase left values) (seen_from from phase left above values) (selves (list_of ms)) t

  at_node : (left : ℕ) (above : List ℕ) (values : List Value) (before behind number : ℕ) (w : PlainWidget) (fields : List Value) (scroll index : ℕ) (children : PlainNodes) (s : Progress) (b : Bool)
      → cond {A = Option NodePlace} b (Some (record { node = node number w fields scroll index children; left = suc left; values = values; before = before; after = behind })) (spot_in wanted left (values_below w values) (suc before) behind children) ≡ Some p
      → SeenAt → IsSettled (node number w fields scroll index children)
      → AskedIf b (Unit {0}) (HasOutput from.program (build_role_of (look_of w)) w fields values number (map widget_of (list_of children)) × AreFreshUpTo from.program wanted (values_below w values) children)
      → (spot_in wanted left (values_below w values) (suc before) behind children ≡ Some p → AreFreshUpTo from.program wanted (values_below w values) children → (t : Progress)
      → EachSeen left (number ∷ above) (values_below w values) children (all_changed change wanted children) t)
      → seen_from from phase (suc left) above values (itself (node number w fields scroll index children)) s
      ≡ seen_from from phase (suc left) above values (itself (cond {A = PlainNode} b (over change (node number w fields scroll index children)) (node number w fields scroll index (all_changed change wanted children)))) s
  at_node left above values before behind number w fields scroll index children s true at seen_at settled fresh below =
      seen_at left above values before behind number w fields scroll index children s at settled
  at_node left above values before behind number w fields scroll index children s false at seen_at settled fresh below =
      by_it left above values number w fields scroll index children s settled.0 fresh.0 (below at fresh.1)

  at_nodes : (left : ℕ) (above : List ℕ) (values : List Value) (before behind : ℕ) (n : PlainNode) (ns : PlainNodes) (s : Progress) (b : Bool)
      → cond {A = Option NodePlace} b (spot_at wanted left values before (behind + counts_of ns) n) (spot_in wanted left values (before + count_of n) behind ns) ≡ Some p
      → AskedIf b (IsFreshUpTo from.program wanted values n) (HasFreshOutputs from.program [] values n × AreFreshUpTo from.program wanted values ns)
      → (spot_at wanted left values before (behind + counts_of ns) n ≡ Some p → IsFreshUpTo from.program wanted values n
      → (seen_from from phase left above values (itself n) s ≡ seen_from from phase left above values (itself (changed change wanted n)) s) × (enter from phase left values (itself n) s ≡ enter from phase left values (itself (changed change wanted n)) s))
      → (spot_in wanted left values (before + count_of n) behind ns ≡ Some p → AreFreshUpTo from.program wanted values ns → (t : Progress) → EachSeen left above values ns (all_changed change wanted ns) t)
      → EachSeen left above values (more_nodes n ns) (cond {A = PlainNodes} b (more_nodes (changed change wanted n) ns) (more_nodes n (all_changed change wanted ns))) s
  at_nodes left above values before behind n ns s true at fresh first_one others =
      let h = first_one at fresh in
      λ i. h.0 i ++ after (h.1 i) (λ (y : PlainNode) (t : Progress). seen_by_each (enter from phase left values) (seen_from from phase left above values) (selves (list_of ns)) t)
  at_nodes left above values before behind n ns s false at fresh first_one others =
      λ i. seen_from from phase left above values (itself n) s ++ after (enter from phase left values (itself n) s) (λ (y : PlainNode) (t : Progress). others at fresh.1 t i)

  mutual
    pub seen_on : (left : ℕ) (above : List ℕ) (values : List Value) (before behind : ℕ) (n : PlainNode) (s : Progress) → spot_at wanted left values before behind n ≡ Some p → AlikeAt equal from phase change wanted p → SeenAt → IsSettled n → IsFreshUpTo from.program wanted values n
        → seen_from from phase left above values (itself n) s ≡ seen_from from phase left above values (itself (changed change wanted n)) s
    seen_on zero above values before behind (node number w fields scroll index children) s at alike_at seen_at settled fresh = absurd (cc)
    seen_on (suc left) above values before behind (node number w fields scroll index children) s at alike_at seen_at settled fresh =
        at_node left above values before behind number w fields scroll index children s (eqb number wanted) at seen_at settled fresh
        (λ below_at below_fresh t. all_seen_on left (number ∷ above) (values_below w values) (suc before) behind children t below_at alike_at seen_at settled.1 below_fresh)

    pub all_seen_on : (left : ℕ) (above : List ℕ) (values : List Value) (before behind : ℕ) (ns : PlainNodes) (s : Progress) → spot_in wanted left values before behind ns ≡ Some p → AlikeAt equal from phase change wanted p → SeenAt → AreSettled ns
        → AreFreshUpTo from.program wanted values ns → EachSeen left above values ns (all_changed change wanted ns) s
    all_seen_on left above values before behind no_nodes s at alike_at seen_at settled fresh = absurd (cc)
    all_seen_on left above values before behind (more_nodes n ns) s at alike_at seen_at settled fresh =
        at_nodes left above values before behind n ns s (is_there wanted n) at fresh
        (λ here_at here_fresh. (
          seen_on left above values before (behind + counts_of ns) n s here_at alike_at seen_at settled.0 here_fresh,
          reached equal from phase change wanted p left values before (behind + counts_of ns) n s here_at alike_at settled.0 here_fresh,
        ))
        (λ nodes_at nodes_fresh t. all_seen_on left above values (before + count_of n) behind ns t nodes_at alike_at seen_at settled.1 nodes_fresh)
