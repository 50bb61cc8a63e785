-- What was entered of a tree is found among what is entered of one in which nodes took other widgets, but for the widgets of these nodes.
use Rattle.std.proofs.Common.{◌≡◌, ℕ, zero, suc, ◌+◌, ◌==◌, eqb, Bool, true, false, ◌&&◌, ◌||◌, cond, Option, Some, None, List, [], ◌∷◌, ◌++◌, map, refl, sym, ap, ◌∙◌, subst, ◌⊎◌, inl, inr, arith}
use Rattle.std.specs.Prelude.{slice_get}
use Rattle.std.specs.List.{find}
use Rattle.std.specs.Option.{option_or}
use Rattle.std.proofs.lemmas.Bool.{and_parts, eqb-true, eqb-false}
use Rattle.std.proofs.lemmas.List.Folds.{find-append}
use Rattle.fx_expr.specs.declared.values.Value.{Value}
use Rattle.widget_model.specs.Plain.{PlainWidget, look_of}
use Rattle.widget_model.specs.Plain.{children_of as child_widgets}
use Rattle.widget_model.specs.Update.{updates}
use Rattle.plain_tree.specs.At.{is_there}
use Rattle.plain_tree.specs.PlainNode.{PlainNode, node, PlainNodes, no_nodes, more_nodes, nodes_of, list_of, widget_of, count_of, counts_of}
use Rattle.build_form.specs.BuildRole.{build_role_of}
use Rattle.build_form.specs.Entering.{values_below}
use Rattle.build_form.specs.Laws.{NumbersAre, AllNumbersAre}
use Rattle.build_form.proofs.Times.{one_if, times_of, times_in}
use Rattle.work_sets.specs.Due.{names_read}
use Rattle.work_sets.specs.Entered.{Entered, entered, entered_of, entered_in}
use Rattle.work_sets.specs.Members.{is_same_widget}
use Rattle.settled_builds.specs.Places.{NodePlace, spot_at, spot_in}
use Rattle.settled_builds.specs.Retaken.{over, all_retaking, can_follow_all, can_retake, each_can, can_retake_below, retaking}
use Rattle.settled_builds.specs.Settled.{IsWithin, AreWithin}
use Rattle.settled_builds.specs.Taken.{has_own_children, AskedIf}
use Rattle.settled_builds.proofs.Changed.{changed, all_changed}
use Rattle.settled_builds.proofs.Once.{Other, IsAlone, AreAlone}
use Rattle.settled_builds.proofs.Own.{own_reads_nothing, own_values}
use Rattle.settled_builds.proofs.Picked.{any_picked}
use Rattle.settled_builds.proofs.Reaching.{same_spot}
use Rattle.settled_builds.proofs.Retakes.{took, kids, Follows, kids_are, picks_of, within_at}
use Rattle.settled_builds.proofs.Shuffles.{Any}
use Rattle.settled_builds.proofs.Was.{all_so, none_found}

-- ---- some node of a tree, where the inherited names have these values above it

module _ (P : ℕ → PlainWidget → List Value → Type 0) where
  abbrev mutual
    pub SomeNode : List Value → PlainNode → Type 0
    SomeNode values (node number widget fields scroll index children) = P number widget values ⊎ SomeNodeIn (values_below widget values) children

    pub SomeNodeIn : List Value → PlainNodes → Type 0
    SomeNodeIn values no_nodes = ⊥
    SomeNodeIn values (more_nodes n ns) = SomeNode values n ⊎ SomeNodeIn values ns

  any_in : (values : List Value) (ns : PlainNodes) → SomeNodeIn values ns → Any (SomeNode values) (list_of ns)
  any_in values no_nodes h = h
  any_in values (more_nodes n ns) (inl h) = inl h
  any_in values (more_nodes n ns) (inr h) = inr (any_in values ns h)

  in_any : (values : List Value) (gs : List PlainNode) → Any (SomeNode values) gs → SomeNodeIn values (nodes_of gs)
  in_any values [] h = h
  in_any values (g ∷ gs) (inl h) = inl h
  in_any values (g ∷ gs) (inr h) = inr (in_any values gs h)

-- what holds of each number
module _ (k : ℕ) (P : PlainWidget → List Value → Type 0) where
  abbrev pub At : ℕ → PlainWidget → List Value → Type 0
  At j w vs = (j ≡ k) × P w vs

  mutual
    pub none_other : (values : List Value) (n : PlainNode) → NumbersAre (Other k) n → SomeNode At values n → ⊥
    none_other values (node number w fs s i ns) h (inl x) = h.0 x.0
    none_other values (node number w fs s i ns) h (inr x) = none_others (values_below w values) ns h.1 x

    pub none_others : (values : List Value) (ns : PlainNodes) → AllNumbersAre (Other k) ns → SomeNodeIn At values ns → ⊥
    none_others values no_nodes h x = x
    none_others values (more_nodes n ns) h (inl x) = none_other values n h.0 x
    none_others values (more_nodes n ns) h (inr x) = none_others values ns h.1 x

  -- where that number stands alone, it is what is found by it
  pub record Finds (es : List Entered) : Type 0 where
    pub entry : Entered
    pub is : find (λ e. e.number == k) es ≡ Some entry
    pub has : P entry.widget entry.values

  abbrev by_number : List Entered → Option Entered
  by_number es = find (λ e. e.number == k) es

  finds_here : (above : List ℕ) (values : List Value) (number : ℕ) (w : PlainWidget) (ns : PlainNodes)
      → (AreAlone k ns → SomeNodeIn At (values_below w values) ns → Finds (entered_in (number ∷ above) (values_below w values) ns)) → (b : Bool) → (number == k) ≡ b
      → AskedIf b (AllNumbersAre (Other k) ns) (AreAlone k ns) → At number w values ⊎ SomeNodeIn At (values_below w values) ns
      → Finds (entered number w above values ∷ entered_in (number ∷ above) (values_below w values) ns)
  finds_here above values number w ns step true is alone (inl x) =
      record {
        entry = entered number w above values;
        is = ap (λ (b : Bool). cond {A = Option Entered} b (Some (entered number w above values)) (by_number (entered_in (number ∷ above) (values_below w values) ns))) is;
        has = x.1;
      }
  finds_here above values number w ns step true is alone (inr x) = absurd (none_others (values_below w values) ns alone x)
  finds_here above values number w ns step false is alone (inl x) = absurd (eqb-false number k is x.0)
  finds_here above values number w ns step false is alone (inr x) =
      let f = step alone x in
      record {
        entry = f.entry;
        is = ap (λ (b : Bool). cond {A = Option Entered} b (Some (entered number w above values)) (by_number (entered_in (number ∷ above) (values_below w values) ns))) is ∙ f.is;
        has = f.has;
      }

  finds_two : (above : List ℕ) (values : List Value) (n : PlainNode) (ns : PlainNodes) → (IsAlone k n → SomeNode At values n → Finds (entered_of above values n))
      → (AreAlone k ns → SomeNodeIn At values ns → Finds (entered_in above values ns)) → (there : Bool) → AskedIf there (IsAlone k n × AllNumbersAre (Other k) ns) (NumbersAre (Other k) n × AreAlone k ns)
      → SomeNode At values n ⊎ SomeNodeIn At values ns → Finds (entered_of above values n ++ entered_in above values ns)
  finds_two above values n ns one rest true alone (inl x) =
      let f = one alone.0 x in
      let xs = entered_of above values n in
      let ys = entered_in above values ns in
      record { entry = f.entry; is = find-append (λ e. e.number == k) xs ys ∙ ap (λ (o : Option Entered). option_or o (by_number ys)) f.is; has = f.has }
  finds_two above values n ns one rest true alone (inr x) = absurd (none_others values ns alone.1 x)
  finds_two above values n ns one rest false alone (inl x) = absurd (none_other values n alone.0 x)
  finds_two above values n ns one rest false alone (inr x) =
      let f = rest alone.1 x in
      let xs = entered_of above values n in
      let ys = entered_in above values ns in
      record { entry = f.entry; is = find-append (λ e. e.number == k) xs ys ∙ ap (λ (o : Option Entered). option_or o (by_number ys)) (none_found k xs (all_so (Other k) above values n alone.0)) ∙ f.is; has = f.has }

  mutual
    pub finds : (above : List ℕ) (values : List Value) (n : PlainNode) → IsAlone k n → SomeNode At values n → Finds (entered_of above values n)
    finds above values (node number w fs s i ns) alone x =
        finds_here above values number w ns (λ a y. finds_in (number ∷ above) (values_below w values) ns a y) (number == k) refl alone x

    finds_in : (above : List ℕ) (values : List Value) (ns : PlainNodes) → AreAlone k ns → SomeNodeIn At values ns → Finds (entered_in above values ns)
    finds_in above values no_nodes alone x = absurd x
    finds_in above values (more_nodes n ns) alone x = finds_two above values n ns (λ a y. finds above values n a y) (λ a y. finds_in above values ns a y) (is_there k n) alone x

-- ---- what is found by a number

module _ (k : ℕ) where
  -- a number is found where it stands
  abbrev pub IfFound : Option Entered → ℕ → Type 0
  IfFound None t = t ≡ 0
  IfFound (Some f) t = t ≡ 0 → ⊥

  found_here : (b : Bool) (e : Entered) (o : Option Entered) (t : ℕ) → IfFound o t → IfFound (cond b (Some e) o) (one_if b + t)
  found_here true e o t h = λ z. omega (arith, z)
  found_here false e o t h = let same : t ≡ 0 + t = omega arith in subst (IfFound o) same h

  found_two : (o u : Option Entered) (s t : ℕ) → IfFound o s → IfFound u t → IfFound (option_or o u) (s + t)
  found_two (Some e) u s t h g = λ z. h (omega (arith, z))
  found_two None u s t h g = let same : t ≡ s + t = omega (arith, h) in subst (IfFound u) same g

  mutual
    pub found_times : (above : List ℕ) (values : List Value) (n : PlainNode) → IfFound (find (λ e. e.number == k) (entered_of above values n)) (times_of k n)
    found_times above values (node number w fs s i ns) =
        found_here (number == k) (entered number w above values) (find (λ e. e.number == k) (entered_in (number ∷ above) (values_below w values) ns)) (times_in k ns)
        (all_found_times (number ∷ above) (values_below w values) ns)

    all_found_times : (above : List ℕ) (values : List Value) (ns : PlainNodes) → IfFound (find (λ e. e.number == k) (entered_in above values ns)) (times_in k ns)
    all_found_times above values no_nodes = refl
    all_found_times above values (more_nodes n ns) =
        subst (λ o. IfFound o (times_of k n + times_in k ns)) (sym (find-append (λ e. e.number == k) (entered_of above values n) (entered_in above values ns)))
        (found_two (find (λ e. e.number == k) (entered_of above values n)) (find (λ e. e.number == k) (entered_in above values ns)) (times_of k n) (times_in k ns) (found_times above values n) (all_found_times above values ns))

  -- what is found is a node
  module _ (e : Entered) where
    abbrev pub IsEntry : ℕ → PlainWidget → List Value → Type 0
    IsEntry j v vs = (j ≡ k) × ((v ≡ e.widget) × (vs ≡ e.values))

    same_entry : (x y : Entered) → Some x ≡ Some y → x ≡ y
    same_entry x y h = cc

    node_here : (above : List ℕ) (values : List Value) (number : ℕ) (w : PlainWidget) (ns : PlainNodes) (o : Option Entered) → (o ≡ Some e → SomeNodeIn IsEntry (values_below w values) ns) → (b : Bool) → (number == k) ≡ b
        → cond b (Some (entered number w above values)) o ≡ Some e → IsEntry number w values ⊎ SomeNodeIn IsEntry (values_below w values) ns
    node_here above values number w ns o step true is h =
        let same = same_entry (entered number w above values) e h in inl (eqb-true number k is, (ap (λ (x : Entered). x.widget) same, ap (λ (x : Entered). x.values) same))
    node_here above values number w ns o step false is h = inr (step h)

    node_two : (values : List Value) (n : PlainNode) (ns : PlainNodes) (o u : Option Entered) → (o ≡ Some e → SomeNode IsEntry values n) → (u ≡ Some e → SomeNodeIn IsEntry values ns) → option_or o u ≡ Some e
        → SomeNode IsEntry values n ⊎ SomeNodeIn IsEntry values ns
    node_two values n ns (Some x) u one rest h = inl (one h)
    node_two values n ns None u one rest h = inr (rest h)

    mutual
      pub found_node : (above : List ℕ) (values : List Value) (n : PlainNode) → find (λ x. x.number == k) (entered_of above values n) ≡ Some e → SomeNode IsEntry values n
      found_node above values (node number w fs s i ns) h =
          node_here above values number w ns (find (λ x. x.number == k) (entered_in (number ∷ above) (values_below w values) ns)) (λ g. found_node_in (number ∷ above) (values_below w values) ns g) (number == k) refl h

      found_node_in : (above : List ℕ) (values : List Value) (ns : PlainNodes) → find (λ x. x.number == k) (entered_in above values ns) ≡ Some e → SomeNodeIn IsEntry values ns
      found_node_in above values no_nodes h = let wrong : None ≡ Some e = h in cc
      found_node_in above values (more_nodes n ns) h =
          node_two values n ns (find (λ x. x.number == k) (entered_of above values n)) (find (λ x. x.number == k) (entered_in above values ns)) (λ g. found_node above values n g) (λ g. found_node_in above values ns g)
          (sym (find-append (λ x. x.number == k) (entered_of above values n) (entered_in above values ns)) ∙ h)

-- ---- where nodes take widgets

module _ (P Q : ℕ → PlainWidget → List Value → Type 0) (same : (j : ℕ) (w : PlainWidget) (vs : List Value) → P j w vs → Q j w vs)
    (other : (j : ℕ) (v w : PlainWidget) (vs : List Value) → names_read (look_of v) ≡ None → names_read (look_of w) ≡ None → P j v vs → Q j w vs) where
  mutual
    pub as_it_is : (values : List Value) (n : PlainNode) → SomeNode P values n → SomeNode Q values n
    as_it_is values (node number w fs s i ns) (inl h) = inl (same number w values h)
    as_it_is values (node number w fs s i ns) (inr h) = inr (all_as_they_are (values_below w values) ns h)

    pub all_as_they_are : (values : List Value) (ns : PlainNodes) → SomeNodeIn P values ns → SomeNodeIn Q values ns
    all_as_they_are values no_nodes h = h
    all_as_they_are values (more_nodes n ns) (inl h) = inl (as_it_is values n h)
    all_as_they_are values (more_nodes n ns) (inr h) = inr (all_as_they_are values ns h)

  kids_have : (values : List Value) (ns : PlainNodes) (ws : List PlainWidget) → Follows ns ws
      → ((j : ℕ) (c : PlainNode) (w : PlainWidget) (place : ℕ) → slice_get (list_of ns) j ≡ Some c → can_retake c w ≡ true → SomeNode P values c → SomeNode Q values (retaking c w place))
      → SomeNodeIn P values ns → SomeNodeIn Q values (kids ns ws)
  kids_have values ns ws can step h =
      subst (SomeNodeIn Q values) (kids_are ns ws)
      (in_any Q values (took ns ws) (any_picked (list_of ns) (SomeNode P values) (SomeNode Q values) step ws (took ns ws) (picks_of ns ws can) (any_in P values ns h)))

  have_by : (values : List Value) (number : ℕ) (was w : PlainWidget) (fields : List Value) (scroll index place : ℕ) (ns : PlainNodes)
      → (Follows ns (child_widgets w) → SomeNodeIn P (values_below was values) ns → SomeNodeIn Q (values_below was values) (kids ns (child_widgets w))) → (is_same : Bool)
      → (is_same || (updates was w && (has_own_children (build_role_of (look_of was)) && (has_own_children (build_role_of (look_of w)) && can_follow_all (map widget_of (list_of ns)) (child_widgets w) (each_can ns))))) ≡ true
      → SomeNode P values (node number was fields scroll index ns) → SomeNode Q values (cond is_same (node number was fields scroll place ns) (node number w fields scroll place (kids ns (child_widgets w))))
  have_by values number was w fields scroll index place ns step true can (inl h) = inl (same number was values h)
  have_by values number was w fields scroll index place ns step true can (inr h) = inr (all_as_they_are (values_below was values) ns h)
  have_by values number was w fields scroll index place ns step false can h =
      let p = and_parts (updates was w) _ can in
      let q = and_parts (has_own_children (build_role_of (look_of was))) _ p.1 in
      let r = and_parts (has_own_children (build_role_of (look_of w))) _ q.1 in
      let values_same = own_values (build_role_of (look_of was)) values q.0 ∙ sym (own_values (build_role_of (look_of w)) values r.0) in
      elim h [
        | inl x ↦ inl (other number was w values (own_reads_nothing (look_of was) q.0) (own_reads_nothing (look_of w) r.0) x)
        | inr x ↦ inr (subst (λ vs. SomeNodeIn Q vs (kids ns (child_widgets w))) values_same (step r.1 x))
      ]

  has : (left : ℕ) (values : List Value) (n : PlainNode) (w : PlainWidget) (place : ℕ) → IsWithin left n → can_retake n w ≡ true → SomeNode P values n → SomeNode Q values (retaking n w place)
  has zero values (node number was fields scroll index ns) w place within can h = absurd within
  has (suc left) values (node number was fields scroll index ns) w place within can h =
      have_by values number was w fields scroll index place ns
      (λ follow x. kids_have (values_below was values) ns (child_widgets w) follow (λ j c v at_place at ok y. has left (values_below was values) c v at_place (within_at left ns within j c at) ok y) x)
      (is_same_widget was w) can h

  -- ---- below a node with a number

  module _ (wanted : ℕ) (change : PlainNodes → PlainNodes) (p : NodePlace) where
    -- it is so at the spot itself
    abbrev pub HasAt : Type 0
    HasAt = (left : ℕ) (values : List Value) (before behind number : ℕ) (w : PlainWidget) (fields : List Value) (scroll index : ℕ) (ns : PlainNodes)
        → Some (record { node = node number w fields scroll index ns; left = suc left; values = values; before = before; after = behind }) ≡ Some p → IsWithin (suc left) (node number w fields scroll index ns)
        → SomeNodeIn P (values_below w values) ns → SomeNodeIn Q (values_below w values) (change ns)

    on_way : (left : ℕ) (values : List Value) (before behind number : ℕ) (w : PlainWidget) (fields : List Value) (scroll index : ℕ) (ns : PlainNodes) → IsWithin (suc left) (node number w fields scroll index ns) → HasAt
        → (spot_in wanted left (values_below w values) (suc before) behind ns ≡ Some p → SomeNodeIn P (values_below w values) ns → SomeNodeIn Q (values_below w values) (all_changed change wanted ns)) → (here : Bool)
        → cond here (Some (record { node = node number w fields scroll index ns; left = suc left; values = values; before = before; after = behind })) (spot_in wanted left (values_below w values) (suc before) behind ns) ≡ Some p
        → SomeNode P values (node number w fields scroll index ns) → SomeNode Q values (cond here (over change (node number w fields scroll index ns)) (node number w fields scroll index (all_changed change wanted ns)))
    on_way left values before behind number w fields scroll index ns within here step true at (inl h) = inl (same number w values h)
    on_way left values before behind number w fields scroll index ns within here step true at (inr h) = inr (here left values before behind number w fields scroll index ns at within h)
    on_way left values before behind number w fields scroll index ns within here step false at (inl h) = inl (same number w values h)
    on_way left values before behind number w fields scroll index ns within here step false at (inr h) = inr (step at h)

    in_list : (left : ℕ) (values : List Value) (before behind : ℕ) (n : PlainNode) (ns : PlainNodes)
        → (spot_at wanted left values before (behind + counts_of ns) n ≡ Some p → SomeNode P values n → SomeNode Q values (changed change wanted n))
        → (spot_in wanted left values (before + count_of n) behind ns ≡ Some p → SomeNodeIn P values ns → SomeNodeIn Q values (all_changed change wanted ns)) → (there : Bool)
        → cond there (spot_at wanted left values before (behind + counts_of ns) n) (spot_in wanted left values (before + count_of n) behind ns) ≡ Some p
        → SomeNodeIn P values (more_nodes n ns) → SomeNodeIn Q values (cond there (more_nodes (changed change wanted n) ns) (more_nodes n (all_changed change wanted ns)))
    in_list left values before behind n ns one rest true at (inl h) = inl (one at h)
    in_list left values before behind n ns one rest true at (inr h) = inr (all_as_they_are values ns h)
    in_list left values before behind n ns one rest false at (inl h) = inl (as_it_is values n h)
    in_list left values before behind n ns one rest false at (inr h) = inr (rest at h)

    no_spot : None ≡ Some p → ⊥
    no_spot e = cc

    mutual
      pub tree_has : (left : ℕ) (values : List Value) (before behind : ℕ) (n : PlainNode) → spot_at wanted left values before behind n ≡ Some p → IsWithin left n → HasAt → SomeNode P values n → SomeNode Q values (changed change wanted n)
      tree_has zero values before behind (node number w fields scroll index ns) at within here h = absurd (no_spot at)
      tree_has (suc left) values before behind (node number w fields scroll index ns) at within here h =
          on_way left values before behind number w fields scroll index ns within here (λ a y. list_has left (values_below w values) (suc before) behind ns a within here y) (eqb number wanted) at h

      list_has : (left : ℕ) (values : List Value) (before behind : ℕ) (ns : PlainNodes) → spot_in wanted left values before behind ns ≡ Some p → AreWithin left ns → HasAt → SomeNodeIn P values ns → SomeNodeIn Q values (all_changed change wanted ns)
      list_has left values before behind no_nodes at within here h = absurd (no_spot at)
      list_has left values before behind (more_nodes n ns) at within here h =
          in_list left values before behind n ns (λ a y. tree_has left values before (behind + counts_of ns) n a within.0 here y) (λ a y. list_has left values (before + count_of n) behind ns a within.1 here y) (is_there wanted n) at h

  -- ---- where those below it took widgets

  module _ (wanted : ℕ) (ws : List PlainWidget) (p : NodePlace) (can : can_retake_below ws p.node ≡ true) where
    pub retaken_has : HasAt wanted (all_retaking ws) p
    retaken_has left values before behind number w fields scroll index ns at within h =
        let q : NodePlace = record { node = node number w fields scroll index ns; left = suc left; values = values; before = before; after = behind } in
        let here : can_retake_below ws (node number w fields scroll index ns) ≡ true = ap (λ (x : NodePlace). can_retake_below ws x.node) (same_spot p q at) ∙ can in
        kids_have (values_below w values) ns ws here (λ j c v place there ok y. has left (values_below w values) c v place (within_at left ns within j c there) ok y) h
