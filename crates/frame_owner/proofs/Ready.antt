-- A tree of which one component alone is marked is ready for its root.
use Rattle.std.proofs.Common.{◌≡◌, ℕ, ◌==◌, Bool, true, false, cond, Option, Some, None, is_some, List, [], ◌∷◌, ◌++◌, option_map, refl, sym, ap, ◌∙◌, inl, inr}
use Rattle.std.specs.List.{find}
use Rattle.std.specs.Option.{option_or}
use Rattle.std.proofs.lemmas.Bool.{eqb-true, false≢true}
use Rattle.fx_expr.specs.declared.values.Value.{Value}
use Rattle.widget_model.specs.Look.{Look}
use Rattle.widget_model.specs.Plain.{PlainWidget, look_of}
use Rattle.plain_tree.specs.At.{numbers_of, numbers_in, node_at, node_in, is_there}
use Rattle.plain_tree.specs.PlainNode.{PlainNode, node, PlainNodes, no_nodes, more_nodes, widget_of}
use Rattle.build_form.specs.Entering.{Blueprint, values_below}
use Rattle.build_form.specs.Laws.{NumbersAre, AllNumbersAre}
use Rattle.build_form.specs.Numbered.{IsNumbered}
use Rattle.work_sets.specs.Due.{names_read}
use Rattle.build_walk.specs.Fresh.{HasFreshOutputs, HaveFreshOutputs}
use Rattle.build_walk.specs.Past.{is_marked}
use Rattle.settled_builds.specs.Places.{NodePlace}
use Rattle.settled_builds.specs.Settled.{AreComponents, AllAreComponents, IsReadyTree}
use Rattle.settled_builds.specs.Steps.{IsFirstMarked}
use Rattle.settled_builds.specs.Taken.{AskedIf, IsFreshBut, AreFreshBut, IsStaleAt}
use Rattle.frame_owner.proofs.Looks.{NodeHas, NodesHave, found_at}

module _ (marks : List ℕ) (wanted : ℕ) where
  abbrev Alone : ℕ → Type 0
  Alone k = is_marked marks k ≡ (k == wanted)

  -- ---- what bodies gave

  module _ (b : Blueprint) where
    mutual
      fresh_marked : (values : List Value) (n : PlainNode) → HasFreshOutputs b [] values n → HasFreshOutputs b marks values n
      fresh_marked values (node number w fs s i ns) fresh = (λ e. fresh.0 refl, all_fresh_marked (values_below w values) ns fresh.1)

      all_fresh_marked : (values : List Value) (ns : PlainNodes) → HaveFreshOutputs b [] values ns → HaveFreshOutputs b marks values ns
      all_fresh_marked values no_nodes fresh = tt
      all_fresh_marked values (more_nodes n ns) fresh = (fresh_marked values n fresh.0, all_fresh_marked values ns fresh.1)

    -- of the node itself, by whether it is the one
    by_own : (same : Bool) (P Q Inner Now : Type 0) (marked : Bool) → marked ≡ same → AskedIf same Inner (P × Q) → (Inner → Now) → (Q → Now) → (marked ≡ false → P) × Now
    by_own true P Q Inner Now marked is asked inner other = (λ off. absurd (false≢true (sym off ∙ is)), inner asked)
    by_own false P Q Inner Now marked is asked inner other = (λ off. asked.0, other asked.1)

    by_there : (there : Bool) (A B C D : Type 0) (Now Later : Type 0) → AskedIf there (A × B) (C × D) → (A → Now) → (B → Later) → (C → Now) → (D → Later) → Now × Later
    by_there true A B C D Now Later asked p q r s = (p asked.0, q asked.1)
    by_there false A B C D Now Later asked p q r s = (r asked.0, s asked.1)

    mutual
      but_marked : (values : List Value) (n : PlainNode) → NumbersAre Alone n → IsFreshBut b wanted values n → HasFreshOutputs b marks values n
      but_marked values (node number w fs s i ns) alone fresh =
          by_own (number == wanted) _ (AreFreshBut b wanted (values_below w values) ns) (HaveFreshOutputs b [] (values_below w values) ns) (HaveFreshOutputs b marks (values_below w values) ns) (is_marked marks number) alone.0 fresh
          (all_fresh_marked (values_below w values) ns) (all_but_marked (values_below w values) ns alone.1)

      all_but_marked : (values : List Value) (ns : PlainNodes) → AllNumbersAre Alone ns → AreFreshBut b wanted values ns → HaveFreshOutputs b marks values ns
      all_but_marked values no_nodes alone fresh = absurd fresh
      all_but_marked values (more_nodes n ns) alone fresh =
          by_there (is_there wanted n) (IsFreshBut b wanted values n) (HaveFreshOutputs b [] values ns) (HasFreshOutputs b [] values n) (AreFreshBut b wanted values ns) (HasFreshOutputs b marks values n) (HaveFreshOutputs b marks values ns)
          fresh (but_marked values n alone.0) (all_fresh_marked values ns) (fresh_marked values n) (all_but_marked values ns alone.1)

  -- ---- which node is marked

  mutual
    components : (n : PlainNode) → NumbersAre Alone n → ((look : Look) → NodeHas wanted look n → is_some (names_read look) ≡ true) → AreComponents marks n
    components (node number w fs s i ns) alone has =
        (λ on. has (look_of w) (inl (eqb-true number wanted (sym alone.0 ∙ on), refl)), all_components ns alone.1 (λ look there. has look (inr there)))

    all_components : (ns : PlainNodes) → AllNumbersAre Alone ns → ((look : Look) → NodesHave wanted look ns → is_some (names_read look) ≡ true) → AllAreComponents marks ns
    all_components no_nodes alone has = tt
    all_components (more_nodes n ns) alone has = (components n alone.0 (λ look there. has look (inl there)), all_components ns alone.1 (λ look there. has look (inr there)))

  abbrev Firsts : List ℕ → Option PlainNode → Type 0
  Firsts xs o = find (is_marked marks) xs ≡ option_map (λ (n : PlainNode). wanted) o

  first_own : (number : ℕ) (xs : List ℕ) (n : PlainNode) (o : Option PlainNode) (marked same : Bool) → marked ≡ same → same ≡ (number == wanted) → Firsts xs o
      → cond marked (Some number) (find (is_marked marks) xs) ≡ option_map (λ (n : PlainNode). wanted) (cond same (Some n) o)
  first_own number xs n o true true is at rest = ap Some (eqb-true number wanted (sym at))
  first_own number xs n o true false is at rest = cc
  first_own number xs n o false true is at rest = cc
  first_own number xs n o false false is at rest = rest

  first_some : (marked : Bool) (x k : ℕ) (r q : Option ℕ) → cond marked (Some x) r ≡ Some k → (r ≡ Some k → q ≡ Some k) → cond marked (Some x) q ≡ Some k
  first_some true x k r q e step = e
  first_some false x k r q e step = step e

  found_on : (xs ys : List ℕ) (k : ℕ) → find (is_marked marks) xs ≡ Some k → find (is_marked marks) (xs ++ ys) ≡ Some k
  found_on [] ys k e = cc
  found_on (x ∷ xs) ys k e = first_some (is_marked marks x) x k (find (is_marked marks) xs) (find (is_marked marks) (xs ++ ys)) e (found_on xs ys k)

  first_none : (marked : Bool) (x : ℕ) (r q s : Option ℕ) → cond marked (Some x) r ≡ None → (r ≡ None → q ≡ s) → cond marked (Some x) q ≡ s
  first_none true x r q s e step = cc
  first_none false x r q s e step = step e

  not_found_on : (xs ys : List ℕ) → find (is_marked marks) xs ≡ None → find (is_marked marks) (xs ++ ys) ≡ find (is_marked marks) ys
  not_found_on [] ys e = refl
  not_found_on (x ∷ xs) ys e = first_none (is_marked marks x) x (find (is_marked marks) xs) (find (is_marked marks) (xs ++ ys)) (find (is_marked marks) ys) e (not_found_on xs ys)

  first_both : (xs ys : List ℕ) (o q : Option PlainNode) → Firsts xs o → Firsts ys q → Firsts (xs ++ ys) (option_or o q)
  first_both xs ys None q p r = not_found_on xs ys p ∙ r
  first_both xs ys (Some n) q p r = found_on xs ys wanted p

  mutual
    firsts : (n : PlainNode) → NumbersAre Alone n → Firsts (numbers_of n) (node_at wanted n)
    firsts (node number w fs s i ns) alone =
        first_own number (numbers_in ns) (node number w fs s i ns) (node_in wanted ns) (is_marked marks number) (number == wanted) alone.0 refl (all_firsts ns alone.1)

    all_firsts : (ns : PlainNodes) → AllNumbersAre Alone ns → Firsts (numbers_in ns) (node_in wanted ns)
    all_firsts no_nodes alone = refl
    all_firsts (more_nodes n ns) alone = first_both (numbers_of n) (numbers_in ns) (node_at wanted n) (node_in wanted ns) (firsts n alone.0) (all_firsts ns alone.1)

-- ---- the whole tree

module _ (b : Blueprint) (marks : List ℕ) (wanted next : ℕ) (root : PlainWidget) (tree : PlainNode) (p : NodePlace) (stale : IsStaleAt b marks wanted next root tree p) (there : node_at wanted tree ≡ Some p.node) where
  is_component : (look : Look) → NodeHas wanted look tree → is_some (names_read look) ≡ true
  is_component look has =
      let x = found_at wanted look tree stale.differ has in
      ap (λ l. is_some (names_read l)) (sym x.look ∙ ap (λ n. look_of (widget_of n)) (same_one x.one p.node (sym x.is ∙ there))) ∙ ap (λ o. is_some o) stale.component
    where
      same_one : (x y : PlainNode) → Some x ≡ Some y → x ≡ y
      same_one x y e = cc

  pub ready_tree : IsNumbered next tree → IsReadyTree b marks next root tree
  ready_tree numbered = record {
    widget = stale.stale.widget;
    place = stale.stale.place;
    small = stale.stale.small;
    settled = stale.stale.settled;
    fresh = but_marked marks wanted b b.defaults tree stale.marked stale.stale.fresh;
    within = stale.stale.within;
    few = stale.stale.few;
    keyless = stale.keyless;
    numbered = numbered;
    components = components marks wanted tree stale.marked is_component;
  }

  pub first_marked : IsFirstMarked b marks wanted tree p
  first_marked = record { first = firsts marks wanted tree stale.marked ∙ ap (option_map (λ (n : PlainNode). wanted)) there; at = stale.at }
