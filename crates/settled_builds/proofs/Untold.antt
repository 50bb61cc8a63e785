-- Of a marked component, and of what is below it, nothing is told where those below another one took widgets that comes before it.
use Rattle.std.proofs.Common.{◌≡◌, ℕ, zero, suc, ◌+◌, ◌==◌, Bool, true, false, ◌&&◌, ◌||◌, cond, is_some, Option, Some, None, List, [], ◌∷◌, ◌++◌, map, refl, sym, ap, ◌∙◌, subst, inl, inr}
use Rattle.std.specs.Prelude.{slice_get}
use Rattle.std.proofs.lemmas.Bool.{and_parts, cases_eq}
use Rattle.std.proofs.lemmas.List.Folds.{find-append}
use Rattle.fx_expr.specs.declared.values.Value.{Value}
use Rattle.widget_model.specs.Plain.{PlainWidget, look_of}
use Rattle.widget_model.specs.Plain.{children_of as child_widgets}
use Rattle.widget_model.specs.Update.{updates}
use Rattle.work_sets.specs.Due.{names_read}
use Rattle.work_sets.specs.Members.{is_same_widget}
use Rattle.work_sets.proofs.Found.{IsIn, differ_left, differ_right, differs_in, in_left, in_right}
use Rattle.reconcile.specs.Matching.{matching}
use Rattle.plain_tree.specs.At.{is_there, numbers_of, numbers_in}
use Rattle.plain_tree.specs.Laws.{DiffersFrom, AllDiffer}
use Rattle.plain_tree.specs.PlainNode.{PlainNode, node, PlainNodes, no_nodes, more_nodes, list_of, widget_of, count_of, counts_of}
use Rattle.build_form.specs.BuildRole.{build_role_of}
use Rattle.build_form.specs.Entering.{Blueprint, values_below}
use Rattle.build_walk.specs.Past.{is_marked}
use Rattle.settled_builds.specs.Looks.{NewLook, new_look}
use Rattle.settled_builds.specs.Places.{NodePlace, spot_at, spot_in}
use Rattle.settled_builds.specs.Rearranged.{NewOrder, TellsNothing, looks_retaken, each_looks, orders_retaken, each_order, looks_in, orders_in}
use Rattle.settled_builds.specs.Retaken.{gathered_by, gathered, asked_by, all_asked, are_apart, can_follow_all, can_retake, each_can, can_retake_below}
use Rattle.settled_builds.specs.Settled.{AreComponents, AllAreComponents}
use Rattle.settled_builds.specs.Taken.{has_own_children, nodes_below}
use Rattle.settled_builds.proofs.Alike.{each_can_is, asked_child}
use Rattle.settled_builds.proofs.DrawingOn.{below_spot, all_below_spot}
use Rattle.settled_builds.proofs.Firsts.{later, first_there, first_later, not_above}
use Rattle.settled_builds.proofs.Own.{own_reads_nothing}
use Rattle.settled_builds.proofs.Reaching.{same_spot}
use Rattle.settled_builds.proofs.Retakes.{Follows}
use Rattle.settled_builds.proofs.SomeSpot.{SomeSpot, SomeSpotIn, IsAt}
use Rattle.settled_builds.proofs.Telling.{component_at, told, told_later, none_asked, look_number, order_number, no_look, no_order, each_looks_is, each_order_is, child_at, child_is, differ_at, apart_children, not_in_both, untold_below}
use Rattle.settled_builds.proofs.UpTo.{first_in}

module _ (k : ℕ) (q : NodePlace) (x : ℕ) (inside : IsIn x (numbers_of q.node)) (marks : List ℕ) (marked : is_marked marks k ≡ true) where
  abbrev Has : ℕ → List Value → PlainNode → Type 0
  Has left values n = SomeSpot (IsAt k q) left values n

  abbrev Have : ℕ → List Value → PlainNodes → Type 0
  Have left values ns = SomeSpotIn (IsAt k q) left values ns

  abbrev Nothing : List NewLook → List NewOrder → Type 0
  Nothing looks orders = TellsNothing looks orders x

  -- the number is in each tree in which the component stands
  mutual
    in_tree : (left : ℕ) (values : List Value) (n : PlainNode) → Has left values n → IsIn x (numbers_of n)
    in_tree zero values (node number w fs s i ns) h = absurd h
    in_tree (suc left) values (node number w fs s i ns) (inl h) = subst (λ m. IsIn x (numbers_of m)) (sym h.node) inside
    in_tree (suc left) values (node number w fs s i ns) (inr h) = inr (in_trees left (values_below w values) ns h)

    in_trees : (left : ℕ) (values : List Value) (ns : PlainNodes) → Have left values ns → IsIn x (numbers_in ns)
    in_trees left values no_nodes h = absurd h
    in_trees left values (more_nodes n ns) (inl h) = in_left x (numbers_of n) (numbers_in ns) (in_tree left values n h)
    in_trees left values (more_nodes n ns) (inr h) = in_right x (numbers_of n) (numbers_in ns) (in_trees left values ns h)

  -- the child in which it stands
  record Which (left : ℕ) (values : List Value) (ns : PlainNodes) : Type 0 where
    pub place : ℕ
    pub child : PlainNode
    pub at : slice_get (list_of ns) place ≡ Some child
    pub has : Has left values child

  which : (left : ℕ) (values : List Value) (ns : PlainNodes) → Have left values ns → Which left values ns
  which left values no_nodes h = absurd h
  which left values (more_nodes n ns) (inl h) = record { place = 0; child = n; at = refl; has = h }
  which left values (more_nodes n ns) (inr h) = let r = which left values ns h in record { place = suc r.place; child = r.child; at = r.at; has = r.has }

  module _ {A : Type 0} (num : A → ℕ) (take : PlainNode → PlainWidget → List A) (each : List (PlainWidget → ℕ → List A)) (left : ℕ) (values : List Value) (ns : PlainNodes) (ws : List PlainWidget) where
    none_of_all : each ≡ map (λ n w place. take n w) (list_of ns) → ((n : PlainNode) (w : PlainWidget) → (IsIn x (numbers_of n) → ⊥) → told num x (take n w) ≡ None) → Have left values ns → AllDiffer (numbers_in ns)
        → all_asked (each_can ns) ws (matching (map widget_of (list_of ns)) ws) ≡ true
        → ((j : ℕ) (c : PlainNode) (w : PlainWidget) → slice_get (list_of ns) j ≡ Some c → can_retake c w ≡ true → Has left values c → told num x (take c w) ≡ None)
        → told num x (gathered each 0 ws (matching (map widget_of (list_of ns)) ws)) ≡ None
    none_of_all is none h differ asked step = none_asked num x each (each_can ns) entry 0 ws (matching (map widget_of (list_of ns)) ws) asked
      where
        r : Which left values ns
        r = which left values ns h

        same_child : (j : ℕ) (c : PlainNode) → slice_get (list_of ns) j ≡ Some c → j ≡ r.place → r.child ≡ c
        same_child j c at e = child_is r.child c (sym r.at ∙ ap (slice_get (list_of ns)) (sym e) ∙ at)

        entry : (j : ℕ) (w : PlainWidget) (place : ℕ) → asked_by (slice_get (each_can ns) j) w ≡ true → told num x (gathered_by (slice_get each j) w place) ≡ None
        entry j w place can =
            let c = asked_child (list_of ns) j w (ap (λ (cs : List (PlainWidget → Bool)). asked_by (slice_get cs j) w) (sym (each_can_is ns)) ∙ can) in
            ap (λ (o : Option (PlainWidget → ℕ → List A)). told num x (gathered_by o w place)) (child_at (λ n v p. take n v) each (list_of ns) j (Some c.child) is c.at)
            ∙ elim (cases_eq j r.place) [
              | inl e ↦ step j c.child w c.at c.can (subst (Has left values) (same_child j c.child c.at e) r.has)
              | inr e ↦ none c.child w (λ y. e (apart_children x j r.place ns c.child r.child differ c.at r.at y (in_tree left values r.child r.has)))
            ]

  all_untold : (left : ℕ) (values : List Value) (ns : PlainNodes) (ws : List PlainWidget) → Have left values ns → AllDiffer (numbers_in ns) → Follows ns ws
      → ((j : ℕ) (c : PlainNode) (w : PlainWidget) → slice_get (list_of ns) j ≡ Some c → can_retake c w ≡ true → Has left values c → Nothing (looks_retaken c w) (orders_retaken c w))
      → Nothing (gathered (each_looks ns) 0 ws (matching (map widget_of (list_of ns)) ws)) (gathered (each_order ns) 0 ws (matching (map widget_of (list_of ns)) ws))
  all_untold left values ns ws h differ can step =
      let long = and_parts _ (are_apart ws && all_asked (each_can ns) ws (matching (map widget_of (list_of ns)) ws)) can in
      let apart = and_parts (are_apart ws) (all_asked (each_can ns) ws (matching (map widget_of (list_of ns)) ws)) long.1 in (
        none_of_all look_number looks_retaken (each_looks ns) left values ns ws (each_looks_is ns) (no_look x) h differ apart.1 (λ j c w at ok y. (step j c w at ok y).0),
        none_of_all order_number orders_retaken (each_order ns) left values ns ws (each_order_is ns) (no_order x) h differ apart.1 (λ j c w at ok y. (step j c w at ok y).1),
      )

  untold_by : (left : ℕ) (values : List Value) (number : ℕ) (was w : PlainWidget) (fs : List Value) (s i : ℕ) (ns : PlainNodes) → (is_marked marks number ≡ true → is_some (names_read (look_of was)) ≡ true)
      → DiffersFrom number (numbers_in ns)
      → (Follows ns (child_widgets w) → Have left (values_below was values) ns
      → Nothing (gathered (each_looks ns) 0 (child_widgets w) (matching (map widget_of (list_of ns)) (child_widgets w))) (gathered (each_order ns) 0 (child_widgets w) (matching (map widget_of (list_of ns)) (child_widgets w))))
      → (same : Bool)
      → (same || (updates was w && (has_own_children (build_role_of (look_of was)) && (has_own_children (build_role_of (look_of w)) && can_follow_all (map widget_of (list_of ns)) (child_widgets w) (each_can ns))))) ≡ true
      → Has (suc left) values (node number was fs s i ns)
      → Nothing (cond same [] (new_look number (look_of w) ∷ gathered (each_looks ns) 0 (child_widgets w) (matching (map widget_of (list_of ns)) (child_widgets w))))
      (cond same [] (record { number = number; places = matching (map widget_of (list_of ns)) (child_widgets w) } ∷ gathered (each_order ns) 0 (child_widgets w) (matching (map widget_of (list_of ns)) (child_widgets w))))
  untold_by left values number was w fs s i ns reads differs step true can h = (refl, refl)
  untold_by left values number was w fs s i ns reads differs step false can (inl h) =
      let p = and_parts (updates was w) _ can in
      let own = and_parts (has_own_children (build_role_of (look_of was))) _ p.1 in
      let none : is_some (names_read (look_of was)) ≡ false = ap (λ (o : Option (List ℕ)). is_some o) (own_reads_nothing (look_of was) own.0) in
      let some : is_some (names_read (look_of was)) ≡ true = reads (ap (is_marked marks) h.number ∙ marked) in absurd (cc)
  untold_by left values number was w fs s i ns reads differs step false can (inr h) =
      let p = and_parts (updates was w) _ can in
      let own = and_parts (has_own_children (build_role_of (look_of was))) _ p.1 in
      let own_now = and_parts (has_own_children (build_role_of (look_of w))) _ own.1 in
      let ms = matching (map widget_of (list_of ns)) (child_widgets w) in
      let other : number ≡ x → ⊥ = differs_in x number (numbers_in ns) differs (in_trees left (values_below was values) ns h) in
      let rest = step own_now.1 h in (
        told_later look_number x (new_look number (look_of w)) (gathered (each_looks ns) 0 (child_widgets w) ms) other ∙ rest.0,
        told_later order_number x (record { number = number; places = ms }) (gathered (each_order ns) 0 (child_widgets w) ms) other ∙ rest.1,
      )

  untold : (left : ℕ) (values : List Value) (n : PlainNode) (w : PlainWidget) → AreComponents marks n → AllDiffer (numbers_of n) → can_retake n w ≡ true → Has left values n → Nothing (looks_retaken n w) (orders_retaken n w)
  untold zero values (node number was fs s i ns) w reads differ can h = absurd h
  untold (suc left) values (node number was fs s i ns) w reads differ can h =
      untold_by left values number was w fs s i ns reads.0 differ.0
      (λ follow y. all_untold left (values_below was values) ns (child_widgets w) y differ.1 follow (λ j c v at ok z. untold left (values_below was values) c v (component_at marks ns reads.1 j c at) (differ_at ns differ.1 j c at) ok z))
      (is_same_widget was w) can h

  -- ---- below the first one that is marked

  module _ (wanted : ℕ) (first_marked : is_marked marks wanted ≡ true) (other : k ≡ wanted → ⊥) (b : Blueprint) (ws : List PlainWidget) (p : NodePlace) (can : can_retake_below ws p.node ≡ true) where
    abbrev Quiet : Type 0
    Quiet = Nothing (looks_in ws p.node) (orders_in ws p.node)

    quiet_out : (IsIn x (numbers_in (nodes_below p.node)) → ⊥) → Quiet
    quiet_out out = untold_below x (nodes_below p.node) ws (matching (map widget_of (list_of (nodes_below p.node))) ws) out

    on_way : (left : ℕ) (values : List Value) (before behind number : ℕ) (w : PlainWidget) (fs : List Value) (s i : ℕ) (ns : PlainNodes) → AllAreComponents marks ns → AllDiffer (numbers_in ns)
        → first_in marks (number ∷ numbers_in ns) ≡ Some wanted
        → (spot_in wanted left (values_below w values) (suc before) behind ns ≡ Some p → first_in marks (numbers_in ns) ≡ Some wanted → Have left (values_below w values) ns → Quiet) → (here : Bool) → (number == wanted) ≡ here
        → cond here (Some (record { node = node number w fs s i ns; left = suc left; values = values; before = before; after = behind })) (spot_in wanted left (values_below w values) (suc before) behind ns) ≡ Some p
        → Has (suc left) values (node number w fs s i ns) → Quiet
    on_way left values before behind number w fs s i ns reads differ first step here is at (inl h) = absurd (not_above marks wanted k marked other number (numbers_in ns) first h.number)
    on_way left values before behind number w fs s i ns reads differ first step true is at (inr h) =
        let r : NodePlace = record { node = node number w fs s i ns; left = suc left; values = values; before = before; after = behind } in
        let same : r ≡ p = same_spot p r at in
        let can_here : Follows ns ws = ap (λ (y : NodePlace). can_retake_below ws y.node) same ∙ can in
        subst (λ (y : NodePlace). Nothing (looks_in ws y.node) (orders_in ws y.node)) same
        (all_untold left (values_below w values) ns ws h differ can_here (λ j c v from ok z. untold left (values_below w values) c v (component_at marks ns reads j c from) (differ_at ns differ j c from) ok z))
    on_way left values before behind number w fs s i ns reads differ first step false is at (inr h) = step at (later wanted number (first_in marks (numbers_in ns)) (is_marked marks number) is first) h

    in_list : (left : ℕ) (values : List Value) (before behind : ℕ) (n : PlainNode) (ns : PlainNodes) → AllDiffer (numbers_of n ++ numbers_in ns) → first_in marks (numbers_of n ++ numbers_in ns) ≡ Some wanted
        → (spot_at wanted left values before (behind + counts_of ns) n ≡ Some p → first_in marks (numbers_of n) ≡ Some wanted → Has left values n → Quiet)
        → (spot_in wanted left values (before + count_of n) behind ns ≡ Some p → first_in marks (numbers_in ns) ≡ Some wanted → Have left values ns → Quiet) → (there : Bool) → is_there wanted n ≡ there
        → cond there (spot_at wanted left values before (behind + counts_of ns) n) (spot_in wanted left values (before + count_of n) behind ns) ≡ Some p → Have left values (more_nodes n ns) → Quiet
    in_list left values before behind n ns differ first one rest true is at (inl h) =
        one at (first_there marks wanted first_marked n (first_in marks (numbers_in ns)) (first_in marks (numbers_of n)) refl is (sym (find-append (is_marked marks) (numbers_of n) (numbers_in ns)) ∙ first)) h
    in_list left values before behind n ns differ first one rest true is at (inr h) =
        quiet_out (λ y. not_in_both x n ns differ (below_spot wanted ws p x y left values before (behind + counts_of ns) n at) (in_trees left values ns h))
    in_list left values before behind n ns differ first one rest false is at (inl h) =
        quiet_out (λ y. not_in_both x n ns differ (in_tree left values n h) (all_below_spot wanted ws p x y left values (before + count_of n) behind ns at))
    in_list left values before behind n ns differ first one rest false is at (inr h) =
        rest at (first_later marks wanted b n (first_in marks (numbers_in ns)) (first_in marks (numbers_of n)) refl is (sym (find-append (is_marked marks) (numbers_of n) (numbers_in ns)) ∙ first)) h

    no_spot : None ≡ Some p → ⊥
    no_spot e = cc

    mutual
      pub quiet : (left : ℕ) (values : List Value) (before behind : ℕ) (n : PlainNode) → spot_at wanted left values before behind n ≡ Some p → AreComponents marks n → AllDiffer (numbers_of n) → first_in marks (numbers_of n) ≡ Some wanted
          → Has left values n → Quiet
      quiet zero values before behind (node number w fs s i ns) at reads differ first h = absurd (no_spot at)
      quiet (suc left) values before behind (node number w fs s i ns) at reads differ first h =
          on_way left values before behind number w fs s i ns reads.1 differ.1 first (λ a f y. all_quiet left (values_below w values) (suc before) behind ns a reads.1 differ.1 f y) (number == wanted) refl at h

      all_quiet : (left : ℕ) (values : List Value) (before behind : ℕ) (ns : PlainNodes) → spot_in wanted left values before behind ns ≡ Some p → AllAreComponents marks ns → AllDiffer (numbers_in ns) → first_in marks (numbers_in ns) ≡ Some wanted
          → Have left values ns → Quiet
      all_quiet left values before behind no_nodes at reads differ first h = absurd (no_spot at)
      all_quiet left values before behind (more_nodes n ns) at reads differ first h =
          in_list left values before behind n ns differ first
          (λ a f y. quiet left values before (behind + counts_of ns) n a reads.0 (differ_left (numbers_of n) (numbers_in ns) differ) f y)
          (λ a f y. all_quiet left values (before + count_of n) behind ns a reads.1 (differ_right (numbers_of n) (numbers_in ns) differ) f y) (is_there wanted n) refl at h
