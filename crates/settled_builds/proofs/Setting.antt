-- Where the fields of one component are set, the tree is stale there alone.
use Rattle.std.proofs.Common.{◌≡◌, ℕ, ◌≤◌, ◌==◌, Bool, true, false, cond, is_some, Option, Some, None, List, [], refl, sym, ap, ◌∙◌, subst}
use Rattle.std.specs.Option.{option_or}
use Rattle.fx_expr.specs.declared.values.Value.{Value}
use Rattle.widget_model.specs.Plain.{PlainWidget, look_of}
use Rattle.plain_tree.specs.At.{is_there, is_there_in, node_at, node_in, changed_at, changed_in, having_fields}
use Rattle.plain_tree.specs.PlainNode.{PlainNode, node, PlainNodes, no_nodes, more_nodes}
use Rattle.build_form.specs.BuildRole.{build_role_of}
use Rattle.build_form.specs.Entering.{Blueprint, depth_limit, values_below}
use Rattle.build_form.proofs.Alike.{IsAlike, AreAlike}
use Rattle.build_walk.specs.Fresh.{HasOutput, HasFreshOutputs, HaveFreshOutputs}
use Rattle.settled_builds.specs.Settled.{IsSettledFor}
use Rattle.settled_builds.specs.Taken.{AskedIf, IsFreshBut, AreFreshBut, IsStaleFor}
use Rattle.settled_builds.proofs.Editing.{alike_itself, alike_themselves, same_widget, same_index, same_widgets, settled_too, within_too, same_count, keys_too, alike_by, all_alike_by}

-- ---- a number is there in trees that are alike

some_by : (b : Bool) (n m : PlainNode) (x y : Option PlainNode) → is_some y ≡ is_some x → is_some (cond b (Some m) y) ≡ is_some (cond b (Some n) x)
some_by true n m x y e = refl
some_by false n m x y e = e

either_some : (x y u v : Option PlainNode) → is_some u ≡ is_some x → is_some v ≡ is_some y → is_some (option_or u v) ≡ is_some (option_or x y)
either_some (Some a) y (Some c) v e f = refl
either_some (Some a) y None v e f = cc
either_some None y (Some c) v e f = cc
either_some None y None v e f = f

mutual
  pub same_there : (wanted : ℕ) (n m : PlainNode) → IsAlike n m → is_there wanted m ≡ is_there wanted n
  same_there wanted (node number w fs s i ns) (node k v gs r j ms) h =
      ap (λ (x : ℕ). is_some (cond {A = Option PlainNode} (x == wanted) (Some (node k v gs r j ms)) (node_in wanted ms))) h.0
      ∙ some_by (number == wanted) (node number w fs s i ns) (node k v gs r j ms) (node_in wanted ns) (node_in wanted ms) (all_same_there wanted ns ms h.3)

  all_same_there : (wanted : ℕ) (ns ms : PlainNodes) → AreAlike ns ms → is_there_in wanted ms ≡ is_there_in wanted ns
  all_same_there wanted no_nodes no_nodes h = refl
  all_same_there wanted no_nodes (more_nodes m ms) h = absurd h
  all_same_there wanted (more_nodes n ns) no_nodes h = absurd h
  all_same_there wanted (more_nodes n ns) (more_nodes m ms) h =
      either_some (node_at wanted n) (node_in wanted ns) (node_at wanted m) (node_in wanted ms) (same_there wanted n m h.0) (all_same_there wanted ns ms h.1)

module _ (f : PlainNode → List Value) (wanted : ℕ) where
  abbrev pub set : PlainNode → PlainNode
  set m = having_fields (f m) m

  mutual
    pub set_alike : (n : PlainNode) → IsAlike n (changed_at set wanted n)
    set_alike (node number w fs s i ns) =
        alike_by (number == wanted) (node number w fs s i ns) (node number w (f (node number w fs s i ns)) s i ns) (node number w fs s i (changed_in set wanted ns))
        (refl, refl, refl, alike_themselves ns) (refl, refl, refl, all_set_alike ns)

    pub all_set_alike : (ns : PlainNodes) → AreAlike ns (changed_in set wanted ns)
    all_set_alike no_nodes = tt
    all_set_alike (more_nodes n ns) =
        all_alike_by (is_there wanted n) (more_nodes n ns) (more_nodes (changed_at set wanted n) ns) (more_nodes n (changed_in set wanted ns))
        (set_alike n, alike_themselves ns) (alike_itself n, all_set_alike ns)

  later_there : (there : Bool) (x y : Option PlainNode) → is_some x ≡ there → there ≡ false → is_some (option_or x y) ≡ true → is_some y ≡ true
  later_there there (Some a) y e none h = cc
  later_there there None y e none h = h

  module _ (b : Blueprint) where
    -- one of two is asked by an equation
    asked : (t u : Bool) (X Y : Type 0) → t ≡ u → AskedIf u X Y → AskedIf t X Y
    asked t u X Y e h = subst (λ v. AskedIf v X Y) (sym e) h

    fresh_by : (values : List Value) (number : ℕ) (w : PlainWidget) (fs : List Value) (s i : ℕ) (ns : PlainNodes) → HasFreshOutputs b [] values (node number w fs s i ns)
        → (is_there_in wanted ns ≡ true → AreFreshBut b wanted (values_below w values) (changed_in set wanted ns))
        → (here : Bool) → (number == wanted) ≡ here → is_some (cond {A = Option PlainNode} here (Some (node number w fs s i ns)) (node_in wanted ns)) ≡ true
        → IsFreshBut b wanted values (cond here (node number w (f (node number w fs s i ns)) s i ns) (node number w fs s i (changed_in set wanted ns)))
    fresh_by values number w fs s i ns fresh step true is there = asked (number == wanted) true _ _ is fresh.1
    fresh_by values number w fs s i ns fresh step false is there =
        asked (number == wanted) false _ _ is
        (subst (HasOutput b (build_role_of (look_of w)) w fs values number) (sym (same_widgets ns (changed_in set wanted ns) (all_set_alike ns))) (fresh.0 refl), step there)

    all_by : (values : List Value) (n : PlainNode) (ns : PlainNodes) → HasFreshOutputs b [] values n → HaveFreshOutputs b [] values ns
        → (is_there wanted n ≡ true → IsFreshBut b wanted values (changed_at set wanted n)) → (is_there_in wanted ns ≡ true → AreFreshBut b wanted values (changed_in set wanted ns))
        → (there : Bool) → is_there wanted n ≡ there → is_there_in wanted (more_nodes n ns) ≡ true
        → AreFreshBut b wanted values (cond there (more_nodes (changed_at set wanted n) ns) (more_nodes n (changed_in set wanted ns)))
    all_by values n ns one rest first later true is there =
        asked (is_there wanted (changed_at set wanted n)) true _ _ (same_there wanted n (changed_at set wanted n) (set_alike n) ∙ is) (first is, rest)
    all_by values n ns one rest first later false is there =
        asked (is_there wanted n) false _ _ is (one, later (later_there (is_there wanted n) (node_at wanted n) (node_in wanted ns) refl is there))

    mutual
      fresh_but : (values : List Value) (n : PlainNode) → HasFreshOutputs b [] values n → is_there wanted n ≡ true → IsFreshBut b wanted values (changed_at set wanted n)
      fresh_but values (node number w fs s i ns) fresh there =
          fresh_by values number w fs s i ns fresh (λ h. all_fresh_but (values_below w values) ns fresh.1 h) (number == wanted) refl there

      all_fresh_but : (values : List Value) (ns : PlainNodes) → HaveFreshOutputs b [] values ns → is_there_in wanted ns ≡ true → AreFreshBut b wanted values (changed_in set wanted ns)
      all_fresh_but values no_nodes fresh there = let wrong : false ≡ true = there in cc
      all_fresh_but values (more_nodes n ns) fresh there =
          all_by values n ns fresh.0 fresh.1 (λ h. fresh_but values n fresh.0 h) (λ h. all_fresh_but values ns fresh.1 h) (is_there wanted n) refl there

    pub set_is_stale : (marks : List ℕ) (root : PlainWidget) (tree : PlainNode) → IsSettledFor b marks root tree → is_there wanted tree ≡ true → IsStaleFor b wanted root (changed_at set wanted tree)
    set_is_stale marks root tree h there =
        let now = changed_at set wanted tree in
        let alike = set_alike tree in
        record {
          widget = same_widget tree now alike ∙ h.widget;
          place = same_index tree now alike ∙ h.place;
          small = h.small;
          settled = settled_too tree now alike h.settled;
          fresh = fresh_but b.defaults tree h.fresh there;
          within = within_too depth_limit tree now alike h.within;
          few = subst (λ (k : ℕ). k ≤ b.nodes) (sym (same_count tree now alike)) h.few;
          keys = keys_too (λ k. false) tree now alike h.keys;
        }
