-- Some node of a tree, and the one that stands at a spot.
use Rattle.std.proofs.Common.{◌≡◌, ℕ, zero, suc, ◌+◌, ◌≤◌, ◌==◌, eqb, Bool, true, false, cond, Option, Some, None, List, [], ◌∷◌, refl, ap, ◌⊎◌, inl, inr, arith}
use Rattle.std.proofs.lemmas.Bool.{eq-eqb, eqb-true}
use Rattle.fx_expr.specs.declared.values.Value.{Value}
use Rattle.widget_model.specs.Plain.{PlainWidget}
use Rattle.plain_tree.specs.At.{is_there}
use Rattle.plain_tree.specs.PlainNode.{PlainNode, node, PlainNodes, no_nodes, more_nodes, nodes_of, list_of, number_of, count_of, counts_of}
use Rattle.build_form.specs.Entering.{values_below}
use Rattle.build_form.specs.Laws.{NumbersAre, AllNumbersAre}
use Rattle.build_form.proofs.Times.{one_if, times_of, times_in}
use Rattle.settled_builds.specs.Places.{NodePlace, spot_at, spot_in}
use Rattle.settled_builds.specs.Settled.{IsWithin, AreWithin}
use Rattle.settled_builds.specs.Taken.{AskedIf}
use Rattle.settled_builds.proofs.Once.{Other, IsAlone, AreAlone}
use Rattle.settled_builds.proofs.Reaching.{same_spot}
use Rattle.settled_builds.proofs.Shuffles.{Any}

-- ---- some node of a tree, where so many depths are left and the inherited names have these values above it

module _ (P : ℕ → List Value → PlainNode → Type 0) where
  abbrev mutual
    pub SomeSpot : ℕ → List Value → PlainNode → Type 0
    SomeSpot zero values (node number widget fields scroll index children) = ⊥
    SomeSpot (suc left) values (node number widget fields scroll index children) =
        P (suc left) values (node number widget fields scroll index children) ⊎ SomeSpotIn left (values_below widget values) children

    pub SomeSpotIn : ℕ → List Value → PlainNodes → Type 0
    SomeSpotIn left values no_nodes = ⊥
    SomeSpotIn left values (more_nodes n ns) = SomeSpot left values n ⊎ SomeSpotIn left values ns

  pub any_in : (left : ℕ) (values : List Value) (ns : PlainNodes) → SomeSpotIn left values ns → Any (SomeSpot left values) (list_of ns)
  any_in left values no_nodes h = h
  any_in left values (more_nodes n ns) (inl h) = inl h
  any_in left values (more_nodes n ns) (inr h) = inr (any_in left values ns h)

  pub in_any : (left : ℕ) (values : List Value) (gs : List PlainNode) → Any (SomeSpot left values) gs → SomeSpotIn left values (nodes_of gs)
  in_any left values [] h = h
  in_any left values (g ∷ gs) (inl h) = inl h
  in_any left values (g ∷ gs) (inr h) = inr (in_any left values gs h)

-- ---- the one at a spot

module _ (k : ℕ) (q : NodePlace) where
  pub record IsAt (left : ℕ) (values : List Value) (n : PlainNode) : Type 0 where
    pub number : number_of n ≡ k
    pub node : n ≡ q.node
    pub left_is : left ≡ q.left
    pub values_are : values ≡ q.values

  no_spot : None ≡ Some q → ⊥
  no_spot e = cc

  here_or : (X : Type 0) (here : Bool) (left : ℕ) (values : List Value) (before behind : ℕ) (n : PlainNode) (o : Option NodePlace) → (number_of n == k) ≡ here → (o ≡ Some q → X)
      → cond here (Some (record { node = n; left = left; values = values; before = before; after = behind })) o ≡ Some q → IsAt left values n ⊎ X
  here_or X true left values before behind n o is step at =
      let r : NodePlace = record { node = n; left = left; values = values; before = before; after = behind } in
      let same = same_spot q r at in
      inl
      (record {
        number = eqb-true (number_of n) k is;
        node = ap (λ (x : NodePlace). x.node) same;
        left_is = ap (λ (x : NodePlace). x.left) same;
        values_are = ap (λ (x : NodePlace). x.values) same;
      })
  here_or X false left values before behind n o is step at = inr (step at)

  this_or : (X Y : Type 0) (there : Bool) (u v : Option NodePlace) → (u ≡ Some q → X) → (v ≡ Some q → Y) → cond there u v ≡ Some q → X ⊎ Y
  this_or X Y true u v one rest at = inl (one at)
  this_or X Y false u v one rest at = inr (rest at)

  mutual
    pub from_spot : (left : ℕ) (values : List Value) (before behind : ℕ) (n : PlainNode) → spot_at k left values before behind n ≡ Some q → SomeSpot IsAt left values n
    from_spot zero values before behind (node number w fs s i ns) at = absurd (no_spot at)
    from_spot (suc left) values before behind (node number w fs s i ns) at =
        here_or (SomeSpotIn IsAt left (values_below w values) ns) (number == k) (suc left) values before behind (node number w fs s i ns) (spot_in k left (values_below w values) (suc before) behind ns) refl
        (λ a. all_from_spot left (values_below w values) (suc before) behind ns a) at

    all_from_spot : (left : ℕ) (values : List Value) (before behind : ℕ) (ns : PlainNodes) → spot_in k left values before behind ns ≡ Some q → SomeSpotIn IsAt left values ns
    all_from_spot left values before behind no_nodes at = absurd (no_spot at)
    all_from_spot left values before behind (more_nodes n ns) at =
        this_or (SomeSpot IsAt left values n) (SomeSpotIn IsAt left values ns) (is_there k n) (spot_at k left values before (behind + counts_of ns) n) (spot_in k left values (before + count_of n) behind ns)
        (λ a. from_spot left values before (behind + counts_of ns) n a) (λ a. all_from_spot left values (before + count_of n) behind ns a) at

-- a spot at which it stands
pub record Found (Q : ℕ → List Value → PlainNode → Type 0) (o : Option NodePlace) : Type 0 where
  pub spot : NodePlace
  pub is : o ≡ Some spot
  pub so : Q spot.left spot.values spot.node

module _ (k : ℕ) (Q : ℕ → List Value → PlainNode → Type 0) (number_is : (left : ℕ) (values : List Value) (n : PlainNode) → Q left values n → number_of n ≡ k) where
  mutual
    none_other : (left : ℕ) (values : List Value) (n : PlainNode) → NumbersAre (Other k) n → SomeSpot Q left values n → ⊥
    none_other zero values (node number w fs s i ns) other h = h
    none_other (suc left) values (node number w fs s i ns) other (inl h) = other.0 (number_is (suc left) values (node number w fs s i ns) h)
    none_other (suc left) values (node number w fs s i ns) other (inr h) = none_others left (values_below w values) ns other.1 h

    none_others : (left : ℕ) (values : List Value) (ns : PlainNodes) → AllNumbersAre (Other k) ns → SomeSpotIn Q left values ns → ⊥
    none_others left values no_nodes other h = h
    none_others left values (more_nodes n ns) other (inl h) = none_other left values n other.0 h
    none_others left values (more_nodes n ns) other (inr h) = none_others left values ns other.1 h

  found_here : (left : ℕ) (values : List Value) (before behind number : ℕ) (w : PlainWidget) (fs : List Value) (s i : ℕ) (ns : PlainNodes)
      → (AreAlone k ns → SomeSpotIn Q left (values_below w values) ns → Found Q (spot_in k left (values_below w values) (suc before) behind ns)) → (here : Bool) → (number == k) ≡ here
      → AskedIf here (AllNumbersAre (Other k) ns) (AreAlone k ns) → SomeSpot Q (suc left) values (node number w fs s i ns)
      → Found Q (cond here (Some (record { node = node number w fs s i ns; left = suc left; values = values; before = before; after = behind })) (spot_in k left (values_below w values) (suc before) behind ns))
  found_here left values before behind number w fs s i ns step true is other (inl h) = record { spot = record { node = node number w fs s i ns; left = suc left; values = values; before = before; after = behind }; is = refl; so = h }
  found_here left values before behind number w fs s i ns step true is other (inr h) = absurd (none_others left (values_below w values) ns other h)
  found_here left values before behind number w fs s i ns step false is other (inl h) =
      let same : (number == k) ≡ true = eq-eqb number k (number_is (suc left) values (node number w fs s i ns) h) in absurd (cc)
  found_here left values before behind number w fs s i ns step false is other (inr h) = step other h

  found_in : (left : ℕ) (values : List Value) (before behind : ℕ) (n : PlainNode) (ns : PlainNodes) → (IsAlone k n → SomeSpot Q left values n → Found Q (spot_at k left values before (behind + counts_of ns) n))
      → (AreAlone k ns → SomeSpotIn Q left values ns → Found Q (spot_in k left values (before + count_of n) behind ns)) → (there : Bool)
      → AskedIf there (IsAlone k n × AllNumbersAre (Other k) ns) (NumbersAre (Other k) n × AreAlone k ns) → SomeSpotIn Q left values (more_nodes n ns)
      → Found Q (cond there (spot_at k left values before (behind + counts_of ns) n) (spot_in k left values (before + count_of n) behind ns))
  found_in left values before behind n ns one rest true alone (inl h) = one alone.0 h
  found_in left values before behind n ns one rest true alone (inr h) = absurd (none_others left values ns alone.1 h)
  found_in left values before behind n ns one rest false alone (inl h) = absurd (none_other left values n alone.0 h)
  found_in left values before behind n ns one rest false alone (inr h) = rest alone.1 h

  mutual
    pub found : (left : ℕ) (values : List Value) (before behind : ℕ) (n : PlainNode) → IsAlone k n → SomeSpot Q left values n → Found Q (spot_at k left values before behind n)
    found zero values before behind (node number w fs s i ns) alone h = absurd h
    found (suc left) values before behind (node number w fs s i ns) alone h =
        found_here left values before behind number w fs s i ns (λ a x. all_found left (values_below w values) (suc before) behind ns a x) (number == k) refl alone h

    all_found : (left : ℕ) (values : List Value) (before behind : ℕ) (ns : PlainNodes) → AreAlone k ns → SomeSpotIn Q left values ns → Found Q (spot_in k left values before behind ns)
    all_found left values before behind no_nodes alone h = absurd h
    all_found left values before behind (more_nodes n ns) alone h =
        found_in left values before behind n ns (λ a x. found left values before (behind + counts_of ns) n a x) (λ a x. all_found left values (before + count_of n) behind ns a x) (is_there k n) alone h

  -- it stands as often as there are nodes with that number
  mutual
    pub stands_once : (left : ℕ) (values : List Value) (n : PlainNode) → SomeSpot Q left values n → 1 ≤ times_of k n
    stands_once zero values (node number w fs s i ns) h = absurd h
    stands_once (suc left) values (node number w fs s i ns) (inl h) =
        let one : one_if (eqb number k) ≡ 1 = ap one_if (eq-eqb number k (number_is (suc left) values (node number w fs s i ns) h)) in omega arith
    stands_once (suc left) values (node number w fs s i ns) (inr h) = let rest = all_stand_once left (values_below w values) ns h in omega arith

    all_stand_once : (left : ℕ) (values : List Value) (ns : PlainNodes) → SomeSpotIn Q left values ns → 1 ≤ times_in k ns
    all_stand_once left values no_nodes h = absurd h
    all_stand_once left values (more_nodes n ns) (inl h) = let one = stands_once left values n h in omega arith
    all_stand_once left values (more_nodes n ns) (inr h) = let rest = all_stand_once left values ns h in omega arith

module _ (k : ℕ) where
  abbrev pub HasNumber : ℕ → List Value → PlainNode → Type 0
  HasNumber left values n = number_of n ≡ k

  stands_here : (number t : ℕ) (X : Type 0) → (1 ≤ t → X) → (here : Bool) → (number == k) ≡ here → 1 ≤ one_if here + t → (number ≡ k) ⊎ X
  stands_here number t X step true is once = inl (eqb-true number k is)
  stands_here number t X step false is once = inr (step (omega arith))

  stands_there : (u t : ℕ) (X Y : Type 0) → (1 ≤ u → X) → (1 ≤ t → Y) → 1 ≤ u + t → X ⊎ Y
  stands_there zero t X Y one rest once = inr (rest (omega arith))
  stands_there (suc u) t X Y one rest once = inl (one (omega arith))

  mutual
    pub has_some : (left : ℕ) (values : List Value) (n : PlainNode) → IsWithin left n → 1 ≤ times_of k n → SomeSpot HasNumber left values n
    has_some zero values (node number w fs s i ns) within once = absurd within
    has_some (suc left) values (node number w fs s i ns) within once =
        stands_here number (times_in k ns) (SomeSpotIn HasNumber left (values_below w values) ns) (λ x. all_have_some left (values_below w values) ns within x) (number == k) refl once

    all_have_some : (left : ℕ) (values : List Value) (ns : PlainNodes) → AreWithin left ns → 1 ≤ times_in k ns → SomeSpotIn HasNumber left values ns
    all_have_some left values no_nodes within once = absurd (omega arith)
    all_have_some left values (more_nodes n ns) within once =
        stands_there (times_of k n) (times_in k ns) (SomeSpot HasNumber left values n) (SomeSpotIn HasNumber left values ns) (λ x. has_some left values n within.0 x) (λ x. all_have_some left values ns within.1 x) once
