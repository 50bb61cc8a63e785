-- A component stands where it stood, in a tree in which those below another one took widgets that comes before it.
use Rattle.std.proofs.Common.{◌≡◌, ℕ, zero, suc, ◌+◌, ◌≤◌, ◌==◌, Bool, true, false, ◌&&◌, ◌||◌, cond, is_some, Option, Some, None, List, ◌∷◌, ◌++◌, map, refl, sym, ap, ◌∙◌, subst, inl, inr}
use Rattle.std.specs.Prelude.{slice_get}
use Rattle.std.specs.List.{find}
use Rattle.std.proofs.lemmas.Bool.{and_parts}
use Rattle.std.proofs.lemmas.List.Folds.{find-append}
use Rattle.fx_expr.specs.declared.values.Value.{Value}
use Rattle.widget_model.specs.Plain.{PlainWidget, look_of}
use Rattle.widget_model.specs.Plain.{children_of as child_widgets}
use Rattle.widget_model.specs.Update.{updates}
use Rattle.work_sets.specs.Due.{names_read}
use Rattle.work_sets.specs.Members.{is_same_widget}
use Rattle.plain_tree.specs.At.{is_there, numbers_of, numbers_in, changed_at, changed_in}
use Rattle.plain_tree.specs.PlainNode.{PlainNode, node, PlainNodes, no_nodes, more_nodes, list_of, number_of, widget_of, index_of, count_of, counts_of}
use Rattle.build_form.specs.BuildRole.{build_role_of}
use Rattle.build_form.specs.Entering.{Blueprint, values_below}
use Rattle.build_form.proofs.Times.{times_of}
use Rattle.build_walk.specs.Past.{is_marked}
use Rattle.settled_builds.specs.Moved.{having_index, AreSpotsAlike}
use Rattle.settled_builds.specs.Places.{NodePlace, spot_at, spot_in}
use Rattle.settled_builds.specs.Retaken.{can_follow_all, can_retake, each_can, can_retake_below, retaking, retaking_below}
use Rattle.settled_builds.specs.Settled.{IsWithin, AreComponents, AllAreComponents}
use Rattle.settled_builds.specs.Taken.{has_own_children}
use Rattle.settled_builds.proofs.Once.{IsAlone}
use Rattle.settled_builds.proofs.Own.{own_reads_nothing, own_values}
use Rattle.settled_builds.proofs.Picked.{any_picked}
use Rattle.settled_builds.proofs.Reaching.{same_spot}
use Rattle.settled_builds.proofs.Retakes.{took, kids, Follows, kids_are, picks_of}
use Rattle.settled_builds.proofs.Firsts.{later, first_there, first_later, not_above}
use Rattle.settled_builds.proofs.Telling.{component_at}
use Rattle.settled_builds.proofs.SomeSpot.{SomeSpot, SomeSpotIn, any_in, in_any, IsAt, from_spot, found, stands_once, HasNumber, has_some}

-- ---- where nodes take widgets

module _ (k : ℕ) (P Q : ℕ → List Value → PlainNode → Type 0) (number_is : (left : ℕ) (values : List Value) (n : PlainNode) → P left values n → number_of n ≡ k)
    (moved : (left : ℕ) (values : List Value) (number : ℕ) (w : PlainWidget) (fs : List Value) (s i j : ℕ) (ns : PlainNodes) → P left values (node number w fs s i ns) → Q left values (node number w fs s j ns))
    (marks : List ℕ) (marked : is_marked marks k ≡ true) where
  mutual
    as_it_is : (left : ℕ) (values : List Value) (n : PlainNode) → SomeSpot P left values n → SomeSpot Q left values n
    as_it_is zero values (node number w fs s i ns) h = h
    as_it_is (suc left) values (node number w fs s i ns) (inl h) = inl (moved (suc left) values number w fs s i i ns h)
    as_it_is (suc left) values (node number w fs s i ns) (inr h) = inr (all_as_they_are left (values_below w values) ns h)

    all_as_they_are : (left : ℕ) (values : List Value) (ns : PlainNodes) → SomeSpotIn P left values ns → SomeSpotIn Q left values ns
    all_as_they_are left values no_nodes h = h
    all_as_they_are left values (more_nodes n ns) (inl h) = inl (as_it_is left values n h)
    all_as_they_are left values (more_nodes n ns) (inr h) = inr (all_as_they_are left values ns h)

  kids_have : (left : ℕ) (values : List Value) (ns : PlainNodes) (ws : List PlainWidget) → Follows ns ws
      → ((j : ℕ) (c : PlainNode) (w : PlainWidget) (place : ℕ) → slice_get (list_of ns) j ≡ Some c → can_retake c w ≡ true → SomeSpot P left values c → SomeSpot Q left values (retaking c w place))
      → SomeSpotIn P left values ns → SomeSpotIn Q left values (kids ns ws)
  kids_have left values ns ws can step h =
      subst (SomeSpotIn Q left values) (kids_are ns ws)
      (in_any Q left values (took ns ws) (any_picked (list_of ns) (SomeSpot P left values) (SomeSpot Q left values) step ws (took ns ws) (picks_of ns ws can) (any_in P left values ns h)))

  have_by : (left : ℕ) (values : List Value) (number : ℕ) (was w : PlainWidget) (fields : List Value) (scroll index place : ℕ) (ns : PlainNodes) → (is_marked marks number ≡ true → is_some (names_read (look_of was)) ≡ true)
      → (Follows ns (child_widgets w) → SomeSpotIn P left (values_below was values) ns → SomeSpotIn Q left (values_below was values) (kids ns (child_widgets w))) → (is_same : Bool)
      → (is_same || (updates was w && (has_own_children (build_role_of (look_of was)) && (has_own_children (build_role_of (look_of w)) && can_follow_all (map widget_of (list_of ns)) (child_widgets w) (each_can ns))))) ≡ true
      → SomeSpot P (suc left) values (node number was fields scroll index ns)
      → SomeSpot Q (suc left) values (cond is_same (node number was fields scroll place ns) (node number w fields scroll place (kids ns (child_widgets w))))
  have_by left values number was w fields scroll index place ns reads step true can (inl h) = inl (moved (suc left) values number was fields scroll index place ns h)
  have_by left values number was w fields scroll index place ns reads step true can (inr h) = inr (all_as_they_are left (values_below was values) ns h)
  have_by left values number was w fields scroll index place ns reads step false can h =
      let p = and_parts (updates was w) _ can in
      let q = and_parts (has_own_children (build_role_of (look_of was))) _ p.1 in
      let r = and_parts (has_own_children (build_role_of (look_of w))) _ q.1 in
      let values_same = own_values (build_role_of (look_of was)) values q.0 ∙ sym (own_values (build_role_of (look_of w)) values r.0) in
      let none : is_some (names_read (look_of was)) ≡ false = ap (λ (o : Option (List ℕ)). is_some o) (own_reads_nothing (look_of was) q.0) in
      elim h [
        | inl x ↦ (let some : is_some (names_read (look_of was)) ≡ true = reads (ap (is_marked marks) (number_is (suc left) values (node number was fields scroll index ns) x) ∙ marked) in absurd (cc))
        | inr x ↦ inr (subst (λ vs. SomeSpotIn Q left vs (kids ns (child_widgets w))) values_same (step r.1 x))
      ]

  has : (left : ℕ) (values : List Value) (n : PlainNode) (w : PlainWidget) (place : ℕ) → AreComponents marks n → can_retake n w ≡ true → SomeSpot P left values n → SomeSpot Q left values (retaking n w place)
  has zero values (node number was fields scroll index ns) w place reads can h = absurd h
  has (suc left) values (node number was fields scroll index ns) w place reads can h =
      have_by left values number was w fields scroll index place ns reads.0
      (λ follow x. kids_have left (values_below was values) ns (child_widgets w) follow (λ j c v at_place at ok y. has left (values_below was values) c v at_place (component_at marks ns reads.1 j c at) ok y) x)
      (is_same_widget was w) can h

  -- ---- below the first one that is marked

  module _ (wanted : ℕ) (first_marked : is_marked marks wanted ≡ true) (other : k ≡ wanted → ⊥) (b : Blueprint) (ws : List PlainWidget) (p : NodePlace) (can : can_retake_below ws p.node ≡ true) where
    abbrev changed : PlainNode → PlainNode
    changed n = changed_at (retaking_below ws) wanted n

    abbrev all_changed : PlainNodes → PlainNodes
    all_changed ns = changed_in (retaking_below ws) wanted ns

    on_way : (left : ℕ) (values : List Value) (before behind number : ℕ) (w : PlainWidget) (fields : List Value) (scroll index : ℕ) (ns : PlainNodes) → AllAreComponents marks ns → find (is_marked marks) (number ∷ numbers_in ns) ≡ Some wanted
        → (spot_in wanted left (values_below w values) (suc before) behind ns ≡ Some p → find (is_marked marks) (numbers_in ns) ≡ Some wanted → SomeSpotIn P left (values_below w values) ns → SomeSpotIn Q left (values_below w values) (all_changed ns))
        → (here : Bool) → (number == wanted) ≡ here
        → cond here (Some (record { node = node number w fields scroll index ns; left = suc left; values = values; before = before; after = behind })) (spot_in wanted left (values_below w values) (suc before) behind ns) ≡ Some p
        → SomeSpot P (suc left) values (node number w fields scroll index ns) → SomeSpot Q (suc left) values (cond here (retaking_below ws (node number w fields scroll index ns)) (node number w fields scroll index (all_changed ns)))
    on_way left values before behind number w fields scroll index ns reads first step here is at (inl h) = absurd (not_above marks wanted k marked other number (numbers_in ns) first (number_is (suc left) values (node number w fields scroll index ns) h))
    on_way left values before behind number w fields scroll index ns reads first step true is at (inr h) =
        let q : NodePlace = record { node = node number w fields scroll index ns; left = suc left; values = values; before = before; after = behind } in
        let can_here : can_retake_below ws (node number w fields scroll index ns) ≡ true = ap (λ (x : NodePlace). can_retake_below ws x.node) (same_spot p q at) ∙ can in
        inr (kids_have left (values_below w values) ns ws can_here (λ j c v place there ok y. has left (values_below w values) c v place (component_at marks ns reads j c there) ok y) h)
    on_way left values before behind number w fields scroll index ns reads first step false is at (inr h) = inr (step at (later wanted number (find (is_marked marks) (numbers_in ns)) (is_marked marks number) is first) h)

    in_list : (left : ℕ) (values : List Value) (before behind : ℕ) (n : PlainNode) (ns : PlainNodes) → find (is_marked marks) (numbers_of n ++ numbers_in ns) ≡ Some wanted
        → (spot_at wanted left values before (behind + counts_of ns) n ≡ Some p → find (is_marked marks) (numbers_of n) ≡ Some wanted → SomeSpot P left values n → SomeSpot Q left values (changed n))
        → (spot_in wanted left values (before + count_of n) behind ns ≡ Some p → find (is_marked marks) (numbers_in ns) ≡ Some wanted → SomeSpotIn P left values ns → SomeSpotIn Q left values (all_changed ns)) → (there : Bool)
        → is_there wanted n ≡ there → cond there (spot_at wanted left values before (behind + counts_of ns) n) (spot_in wanted left values (before + count_of n) behind ns) ≡ Some p
        → SomeSpotIn P left values (more_nodes n ns) → SomeSpotIn Q left values (cond there (more_nodes (changed n) ns) (more_nodes n (all_changed ns)))
    in_list left values before behind n ns first one rest true is at (inl h) =
        inl (one at (first_there marks wanted first_marked n (find (is_marked marks) (numbers_in ns)) (find (is_marked marks) (numbers_of n)) refl is (sym (find-append (is_marked marks) (numbers_of n) (numbers_in ns)) ∙ first)) h)
    in_list left values before behind n ns first one rest true is at (inr h) = inr (all_as_they_are left values ns h)
    in_list left values before behind n ns first one rest false is at (inl h) = inl (as_it_is left values n h)
    in_list left values before behind n ns first one rest false is at (inr h) =
        inr (rest at (first_later marks wanted b n (find (is_marked marks) (numbers_in ns)) (find (is_marked marks) (numbers_of n)) refl is (sym (find-append (is_marked marks) (numbers_of n) (numbers_in ns)) ∙ first)) h)

    not_here : None ≡ Some p → ⊥
    not_here e = cc

    mutual
      pub tree_has : (left : ℕ) (values : List Value) (before behind : ℕ) (n : PlainNode) → spot_at wanted left values before behind n ≡ Some p → AreComponents marks n → find (is_marked marks) (numbers_of n) ≡ Some wanted → SomeSpot P left values n
          → SomeSpot Q left values (changed n)
      tree_has zero values before behind (node number w fields scroll index ns) at reads first h = absurd (not_here at)
      tree_has (suc left) values before behind (node number w fields scroll index ns) at reads first h =
          on_way left values before behind number w fields scroll index ns reads.1 first (λ a f y. list_has left (values_below w values) (suc before) behind ns a reads.1 f y) (number == wanted) refl at h

      list_has : (left : ℕ) (values : List Value) (before behind : ℕ) (ns : PlainNodes) → spot_in wanted left values before behind ns ≡ Some p → AllAreComponents marks ns → find (is_marked marks) (numbers_in ns) ≡ Some wanted → SomeSpotIn P left values ns
          → SomeSpotIn Q left values (all_changed ns)
      list_has left values before behind no_nodes at reads first h = absurd (not_here at)
      list_has left values before behind (more_nodes n ns) at reads first h =
          in_list left values before behind n ns first (λ a f y. tree_has left values before (behind + counts_of ns) n a reads.0 f y) (λ a f y. list_has left values (before + count_of n) behind ns a reads.1 f y) (is_there wanted n) refl at h

-- ---- the spots of a number in both trees

module _ (k : ℕ) (q : NodePlace) where
  pub record IsStill (left : ℕ) (values : List Value) (n : PlainNode) : Type 0 where
    pub number : number_of n ≡ k
    pub node : n ≡ having_index (index_of n) q.node
    pub left_is : left ≡ q.left
    pub values_are : values ≡ q.values

  still : (left : ℕ) (values : List Value) (number : ℕ) (w : PlainWidget) (fs : List Value) (s i j : ℕ) (ns : PlainNodes) → IsAt k q left values (node number w fs s i ns) → IsStill left values (node number w fs s j ns)
  still left values number w fs s i j ns h = record { number = h.number; node = ap (having_index j) h.node; left_is = h.left_is; values_are = h.values_are }

module _ (k : ℕ) (marks : List ℕ) (marked : is_marked marks k ≡ true) (wanted : ℕ) (first_marked : is_marked marks wanted ≡ true) (other : k ≡ wanted → ⊥) (b : Blueprint) (ws : List PlainWidget) (p : NodePlace) (can : can_retake_below ws p.node ≡ true)
    (left : ℕ) (values : List Value) (tree : PlainNode) (at : spot_at wanted left values 0 0 tree ≡ Some p) (reads : AreComponents marks tree) (first : find (is_marked marks) (numbers_of tree) ≡ Some wanted) (within : IsWithin left tree) where
  abbrev new : PlainNode
  new = changed_at (retaking_below ws) wanted tree

  stands : IsAlone k new → (q : NodePlace) → spot_at k left values 0 0 tree ≡ Some q → AreSpotsAlike (Some q) (spot_at k left values 0 0 new)
  stands alone_new q is =
      let there = tree_has k (IsAt k q) (IsStill k q) (λ l vs n h. h.number) (still k q) marks marked wanted first_marked other b ws p can left values 0 0 tree at reads first (from_spot k q left values 0 0 tree is) in
      let now = found k (IsStill k q) (λ l vs n h. h.number) left values 0 0 new alone_new there in
      subst (AreSpotsAlike (Some q)) (sym now.is) (record { node = now.so.node; left = now.so.left_is; values = now.so.values_are })

  none_stands : IsAlone k tree → ((x : ℕ) → times_of x new ≡ times_of x tree) → spot_at k left values 0 0 tree ≡ None → (o : Option NodePlace) → spot_at k left values 0 0 new ≡ o → AreSpotsAlike None o
  none_stands alone many none None is = tt
  none_stands alone many none (Some r) is =
      let once : 1 ≤ times_of k new = stands_once k (IsAt k r) (λ l vs n h. h.number) left values new (from_spot k r left values 0 0 new is) in
      let old : 1 ≤ times_of k tree = subst (λ t. 1 ≤ t) (many k) once in
      let was = found k (HasNumber k) (λ l vs n h. h) left values 0 0 tree alone (has_some k left values tree within old) in
      absurd (wrong was.spot (sym none ∙ was.is))
    where
      wrong : (s : NodePlace) → None ≡ Some s → ⊥
      wrong s e = cc

  pub spots_alike : IsAlone k tree → IsAlone k new → ((x : ℕ) → times_of x new ≡ times_of x tree) → AreSpotsAlike (spot_at k left values 0 0 tree) (spot_at k left values 0 0 new)
  spots_alike alone alone_new many = by_spot (spot_at k left values 0 0 tree) refl
    where
      by_spot : (o : Option NodePlace) → spot_at k left values 0 0 tree ≡ o → AreSpotsAlike o (spot_at k left values 0 0 new)
      by_spot (Some q) is = stands alone_new q is
      by_spot None is = none_stands alone many is (spot_at k left values 0 0 new) refl
