-- What the child widgets of a node go on from by place is no more than what stands below the node that it goes on from.
use Rattle.std.proofs.Common.{◌≡◌, ℕ, suc, ◌+◌, ◌≤◌, eqb, Bool, true, false, cond, Option, Some, None, IfSome, List, [], ◌∷◌, filter, slice_get, refl, sym, ap, ◌∙◌, subst, arith}
use Rattle.std.proofs.lemmas.Bool.{eqb-true}
use Rattle.widget_model.specs.Plain.{PlainWidget, key_of}
use Rattle.reconcile.specs.Keys.{NoKeyRepeats}
use Rattle.reconcile.specs.Laws.{CanUpdateAt}
use Rattle.reconcile.specs.Matching.{matching}
use Rattle.reconcile.proofs.LawLemmas.{matched_can_update, matched_once}
use Rattle.reconcile.proofs.Updates.{updates_key}
use Rattle.plain_tree.specs.PlainNode.{PlainNode, node, widget_of, index_of}
use Rattle.build_form.specs.Partner.{Arrival, arrivals_from, arrivals, node_at, node_at_any, nodes_had, widgets_had}
use Rattle.build_form.specs.Numbered.{StandAt, IsInPlace}
use Rattle.build_form.proofs.Regions.{unless_global, nothing_unless, near, near_of, share, shares}

-- no old place is matched twice
abbrev NoneTwice : List (Option ℕ) → Type 0
NoneTwice ms = (i k j : ℕ) → slice_get ms i ≡ Some (Some j) → slice_get ms k ≡ Some (Some j) → i ≡ k

none_twice_after : (m : Option ℕ) (ms : List (Option ℕ)) → NoneTwice (m ∷ ms) → NoneTwice ms
none_twice_after m ms h i k j at_i at_k = let same = h (suc i) (suc k) j at_i at_k in omega arith

module _ (x : ℕ) where
  -- how often a number may come from by place where a widget is entered
  abbrev pub cost : Arrival → ℕ
  cost a = unless_global (key_of a.widget) (near_of x a.beside)

  abbrev pub costs : List Arrival → ℕ
  costs [] = 0
  costs (a ∷ bs) = cost a + costs bs

  by_filter : (b : Bool) (a : Arrival) (cs bs : List Arrival) → costs cs ≤ costs bs → costs (cond b (a ∷ cs) cs) ≤ costs (a ∷ bs)
  by_filter true a cs bs h = omega arith
  by_filter false a cs bs h = omega arith

  pub filtered_costs : (test : Arrival → Bool) (bs : List Arrival) → costs (filter test bs) ≤ costs bs
  filtered_costs test [] = omega arith
  filtered_costs test (a ∷ bs) = by_filter (test a) a (filter test bs) bs (filtered_costs test bs)

  -- ---- each old node counts once

  abbrev share_of : Option PlainNode → ℕ
  share_of None = 0
  share_of (Some n) = share x n

  abbrev shares_at : List PlainNode → List (Option ℕ) → ℕ
  shares_at nodes [] = 0
  shares_at nodes (m ∷ ms) = share_of (node_at_any nodes m) + shares_at nodes ms

  module _ (c : PlainNode) where
    abbrev hit : Option ℕ → ℕ
    hit None = 0
    hit (Some j) = cond (eqb (index_of c) j) (share x c) 0

    abbrev hits : List (Option ℕ) → ℕ
    hits [] = 0
    hits (m ∷ ms) = hit m + hits ms

    hit_other : (b : Bool) (j : ℕ) → eqb (index_of c) j ≡ b → (index_of c ≡ j → ⊥) → cond b (share x c) 0 ≡ 0
    hit_other true j e other = absurd (other (eqb-true (index_of c) j e))
    hit_other false j e other = refl

    hits_other : (ms : List (Option ℕ)) → ((i : ℕ) → slice_get ms i ≡ Some (Some (index_of c)) → ⊥) → hits ms ≡ 0
    hits_other [] none = refl
    hits_other (None ∷ ms) none = let rest = hits_other ms (λ i e. none (suc i) e) in omega arith
    hits_other (Some j ∷ ms) none =
        let here = hit_other (eqb (index_of c) j) j refl (λ same. none 0 (ap (λ k. Some (Some k)) (sym same))) in
        let rest = hits_other ms (λ i e. none (suc i) e) in
        omega arith

    hits_by : (b : Bool) (j : ℕ) (ms : List (Option ℕ)) → eqb (index_of c) j ≡ b → NoneTwice (Some j ∷ ms) → hits ms ≤ share x c → cond b (share x c) 0 + hits ms ≤ share x c
    hits_by true j ms e once rest =
        let same : index_of c ≡ j = eqb-true (index_of c) j e in
        let none = hits_other ms (λ i at. let i_is = once 0 (suc i) (index_of c) (ap (λ k. Some (Some k)) (sym same)) at in absurd (omega arith)) in
        omega arith
    hits_by false j ms e once rest = omega arith

    hits_once : (ms : List (Option ℕ)) → NoneTwice ms → hits ms ≤ share x c
    hits_once [] once = omega arith
    hits_once (None ∷ ms) once = let rest = hits_once ms (none_twice_after None ms once) in omega arith
    hits_once (Some j ∷ ms) once = hits_by (eqb (index_of c) j) j ms refl once (hits_once ms (none_twice_after (Some j) ms once))

    one_more_by : (b : Bool) (o : Option PlainNode) → share_of (cond b (Some c) o) ≤ cond b (share x c) 0 + share_of o
    one_more_by true o = omega arith
    one_more_by false o = omega arith

    one_more : (nodes : List PlainNode) (m : Option ℕ) → share_of (node_at_any (c ∷ nodes) m) ≤ hit m + share_of (node_at_any nodes m)
    one_more nodes None = omega arith
    one_more nodes (Some j) = one_more_by (eqb (index_of c) j) (node_at nodes j)

    all_more : (nodes : List PlainNode) (ms : List (Option ℕ)) → shares_at (c ∷ nodes) ms ≤ hits ms + shares_at nodes ms
    all_more nodes [] = omega arith
    all_more nodes (m ∷ ms) = let here = one_more nodes m in let rest = all_more nodes ms in omega arith

  none_at_all : (ms : List (Option ℕ)) → shares_at [] ms ≡ 0
  none_at_all [] = refl
  none_at_all (None ∷ ms) = let rest = none_at_all ms in omega arith
  none_at_all (Some j ∷ ms) = let rest = none_at_all ms in omega arith

  each_once : (nodes : List PlainNode) (ms : List (Option ℕ)) → NoneTwice ms → shares_at nodes ms ≤ shares x nodes
  each_once [] ms once = let none = none_at_all ms in omega arith
  each_once (c ∷ nodes) ms once =
      let more = all_more c nodes ms in
      let own = hits_once c ms once in
      let rest = each_once nodes ms once in
      omega arith

  -- ---- a widget goes on from a node with an equal key

  module _ (olds : List PlainWidget) (a : PlainWidget) (j : ℕ) (at : slice_get olds j ≡ Some a) where
    at_place : (b : Bool) (c : PlainNode) (o : Option PlainNode) → eqb (index_of c) j ≡ b → slice_get olds (index_of c) ≡ Some (widget_of c)
        → unless_global (key_of a) (near_of x o) ≤ share_of o → unless_global (key_of a) (near_of x (cond b (Some c) o)) ≤ share_of (cond b (Some c) o)
    at_place true c o e stands rest =
        let there : Some (widget_of c) ≡ Some a = sym stands ∙ ap (slice_get olds) (eqb-true (index_of c) j e) ∙ at in
        let same : widget_of c ≡ a = cc in
        let equal : unless_global (key_of a) (near x c) ≡ share x c = ap (λ w. unless_global (key_of w) (near x c)) (sym same) in
        omega arith
    at_place false c o e stands rest = rest

    shared_at : (nodes : List PlainNode) → StandAt olds nodes → unless_global (key_of a) (near_of x (node_at nodes j)) ≤ share_of (node_at nodes j)
    shared_at [] h = let none = nothing_unless (key_of a) in omega arith
    shared_at (c ∷ nodes) h = at_place (eqb (index_of c) j) c (node_at nodes j) refl h.0 (shared_at nodes h.1)

  module _ (olds : List PlainWidget) (nodes : List PlainNode) (stand : StandAt olds nodes) where
    shared : (w : PlainWidget) (m : Option ℕ) → ((j : ℕ) → m ≡ Some j → (a : PlainWidget) × (slice_get olds j ≡ Some a) × (key_of a ≡ key_of w))
        → unless_global (key_of w) (near_of x (node_at_any nodes m)) ≤ share_of (node_at_any nodes m)
    shared w None h = let none = nothing_unless (key_of w) in omega arith
    shared w (Some j) h =
        let a = h j refl in
        subst (λ q. unless_global q (near_of x (node_at nodes j)) ≤ share_of (node_at nodes j)) a.2 (shared_at olds a.0 j a.1 nodes stand)

    shared_all : (i : ℕ) (ws : List PlainWidget) (ms : List (Option ℕ))
        → ((k j : ℕ) (w : PlainWidget) → slice_get ws k ≡ Some w → slice_get ms k ≡ Some (Some j) → (a : PlainWidget) × (slice_get olds j ≡ Some a) × (key_of a ≡ key_of w))
        → costs (arrivals_from nodes i ws ms) ≤ shares_at nodes ms
    shared_all i [] ms h = omega arith
    shared_all i (w ∷ ws) [] h =
        let here = nothing_unless (key_of w) in
        let rest = shared_all (suc i) ws [] (λ k j v at none. h (suc k) j v at none) in
        omega arith
    shared_all i (w ∷ ws) (m ∷ ms) h =
        let here = shared w m (λ j is. h 0 j w refl (ap (λ o. Some o) is)) in
        let rest = shared_all (suc i) ws ms (λ k j v at is. h (suc k) j v at is) in
        omega arith

  equal_keys : (olds ws : List PlainWidget) (k j : ℕ) (w : PlainWidget) → slice_get ws k ≡ Some w → CanUpdateAt olds ws j k → (a : PlainWidget) × (slice_get olds j ≡ Some a) × (key_of a ≡ key_of w)
  equal_keys olds ws k j w at can =
      let there : Some can.1 ≡ Some w = sym can.3 ∙ at in
      let same : can.1 ≡ w = cc in
      (can.0, can.2, updates_key can.0 can.1 can.4 ∙ ap key_of same)

  stand_had : (o : Option PlainNode) → IfSome o IsInPlace → StandAt (widgets_had o) (nodes_had o)
  stand_had None h = tt
  stand_had (Some (node number w fs s i ns)) h = h.0

  pub arrivals_cost : (o : Option PlainNode) (ws : List PlainWidget) → IfSome o IsInPlace → NoKeyRepeats ws → costs (arrivals o ws) ≤ shares x (nodes_had o)
  arrivals_cost o ws placed apart =
      let olds = widgets_had o in
      let nodes = nodes_had o in
      let ms = matching olds ws in
      let all = shared_all olds nodes (stand_had o placed) 0 ws ms (λ k j w at is. equal_keys olds ws k j w at (matched_can_update olds ws k j is)) in
      let once = each_once nodes ms (matched_once olds ws apart) in
      omega arith
