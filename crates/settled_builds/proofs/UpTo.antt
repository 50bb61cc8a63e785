-- Up to the first node that is marked there is nothing to be built anew, and that node has a spot.
use Rattle.std.proofs.Common.{◌≡◌, ℕ, zero, suc, ◌+◌, ◌≤◌, ◌==◌, nat_lt, Bool, true, false, cond, is_some, Option, Some, None, List, [], ◌∷◌, ◌++◌, map, refl, sym, ◌∙◌, subst}
use Rattle.std.specs.List.{find}
use Rattle.std.specs.Option.{option_or}
use Rattle.std.proofs.lemmas.Bool.{eq-eqb}
use Rattle.std.proofs.lemmas.List.Folds.{find-append}
use Rattle.fx_expr.specs.declared.values.Value.{Value}
use Rattle.widget_model.specs.Plain.{PlainWidget, look_of}
use Rattle.widget_model.specs.Size.{count_of as widget_count}
use Rattle.plain_tree.specs.At.{numbers_of, numbers_in, is_there, is_there_in, node_at, node_in}
use Rattle.plain_tree.specs.PlainNode.{PlainNode, node, PlainNodes, no_nodes, more_nodes, list_of, widget_of, index_of, count_of, counts_of}
use Rattle.build_form.specs.BuildRole.{build_role_of}
use Rattle.build_form.specs.Entering.{Blueprint, depth_limit, output_limit, values_below}
use Rattle.build_form.specs.Laws.{NumbersAre, AllNumbersAre}
use Rattle.build_walk.specs.Fresh.{HasOutput, HasFreshOutputs, HaveFreshOutputs}
use Rattle.build_walk.specs.Past.{is_marked}
use Rattle.settled_builds.specs.Places.{spot_at, spot_in}
use Rattle.settled_builds.specs.Settled.{IsSettled, IsWithin, AreWithin, IsReadyTree}
use Rattle.settled_builds.specs.Taken.{AskedIf, IsFreshBut, AreFreshBut, IsStaleFor}
use Rattle.settled_builds.proofs.Spots.{Stands, stands_here, stands_in}

-- each component of a tree that comes before the first node with a number has below it what its body gives, and there is that node
abbrev mutual
  pub IsFreshUpTo : Blueprint → ℕ → List Value → PlainNode → Type 0
  IsFreshUpTo b wanted values (node number widget fields scroll index children) =
      AskedIf (number == wanted) (Unit {0})
      (HasOutput b (build_role_of (look_of widget)) widget fields values number (map widget_of (list_of children)) × AreFreshUpTo b wanted (values_below widget values) children)

  pub AreFreshUpTo : Blueprint → ℕ → List Value → PlainNodes → Type 0
  AreFreshUpTo b wanted values no_nodes = ⊥
  AreFreshUpTo b wanted values (more_nodes n ns) =
      AskedIf (is_there wanted n) (IsFreshUpTo b wanted values n) (HasFreshOutputs b [] values n × AreFreshUpTo b wanted values ns)

-- a build of a root comes to that node as the tree stands
pub record ComesTo (b : Blueprint) (wanted : ℕ) (root : PlainWidget) (tree : PlainNode) : Type 0 where
  pub widget : widget_of tree ≡ root
  pub place : index_of tree ≡ 0
  pub small : nat_lt output_limit (widget_count root) ≡ false
  pub settled : IsSettled tree
  pub fresh : IsFreshUpTo b wanted b.defaults tree
  pub within : IsWithin depth_limit tree
  pub few : count_of tree ≤ b.nodes

-- ---- where it alone is stale

asked_too : (t : Bool) (X Y U V : Type 0) → (X → U) → (Y → V) → AskedIf t X Y → AskedIf t U V
asked_too true X Y U V f g h = f h
asked_too false X Y U V f g h = g h

module _ (b : Blueprint) (wanted : ℕ) where
  mutual
    stale_up_to : (values : List Value) (n : PlainNode) → IsFreshBut b wanted values n → IsFreshUpTo b wanted values n
    stale_up_to values (node number w fs s i ns) fresh =
        asked_too (number == wanted) _ _ _ _ (λ x. tt) (λ x. (x.0, all_stale_up_to (values_below w values) ns x.1)) fresh

    all_stale_up_to : (values : List Value) (ns : PlainNodes) → AreFreshBut b wanted values ns → AreFreshUpTo b wanted values ns
    all_stale_up_to values no_nodes fresh = absurd fresh
    all_stale_up_to values (more_nodes n ns) fresh =
        asked_too (is_there wanted n) _ _ _ _ (λ x. stale_up_to values n x.0) (λ x. (x.0, all_stale_up_to values ns x.1)) fresh

  pub stale_comes : (root : PlainWidget) (tree : PlainNode) → IsStaleFor b wanted root tree → ComesTo b wanted root tree
  stale_comes root tree h =
      record { widget = h.widget; place = h.place; small = h.small; settled = h.settled; fresh = stale_up_to b.defaults tree h.fresh; within = h.within; few = h.few }

-- ---- where it is the first one that is marked

some_is : (a b : ℕ) → Some a ≡ Some b → a ≡ b
some_is a b e = cc

neither : (a b : Option ℕ) → option_or a b ≡ None → (a ≡ None) × (b ≡ None)
neither (Some a) b e = cc
neither None b e = (refl, e)

not_first : (marked : Bool) (k : ℕ) (rest : Option ℕ) → cond marked (Some k) rest ≡ None → (marked ≡ false) × (rest ≡ None)
not_first true k rest e = cc
not_first false k rest e = (refl, e)

module _ (marks : List ℕ) where
  abbrev pub first_in : List ℕ → Option ℕ
  first_in ks = find (is_marked marks) ks

  in_two : (xs ys : List ℕ) → first_in (xs ++ ys) ≡ option_or (first_in xs) (first_in ys)
  in_two xs ys = find-append (is_marked marks) xs ys

  -- what holds of all numbers of a tree holds of it
  module _ (P : ℕ → Type 0) (k : ℕ) where
    either_so : (x y : Option ℕ) → (x ≡ Some k → P k) → (y ≡ Some k → P k) → option_or x y ≡ Some k → P k
    either_so (Some a) y one rest e = one e
    either_so None y one rest e = rest e

    here_so : (marked : Bool) (a : ℕ) (rest : Option ℕ) → P a → (rest ≡ Some k → P k) → cond marked (Some a) rest ≡ Some k → P k
    here_so true a rest h step e = subst P (some_is a k e) h
    here_so false a rest h step e = step e

    mutual
      pub first_so : (n : PlainNode) → NumbersAre P n → first_in (numbers_of n) ≡ Some k → P k
      first_so (node number w fs s i ns) h e = here_so (is_marked marks number) number (first_in (numbers_in ns)) h.0 (λ x. all_first_so ns h.1 x) e

      all_first_so : (ns : PlainNodes) → AllNumbersAre P ns → first_in (numbers_in ns) ≡ Some k → P k
      all_first_so no_nodes h e = let wrong : None ≡ Some k = e in cc
      all_first_so (more_nodes n ns) h e =
          either_so (first_in (numbers_of n)) (first_in (numbers_in ns)) (λ x. first_so n h.0 x) (λ x. all_first_so ns h.1 x) (sym (in_two (numbers_of n) (numbers_in ns)) ∙ e)

  -- it is marked
  marked_here : (k x : ℕ) (rest : Option ℕ) → (rest ≡ Some k → is_marked marks k ≡ true) → (m : Bool) → is_marked marks x ≡ m → cond m (Some x) rest ≡ Some k → is_marked marks k ≡ true
  marked_here k x rest step true is e = subst (λ z. is_marked marks z ≡ true) (some_is x k e) is
  marked_here k x rest step false is e = step e

  marked_by : (k : ℕ) (xs : List ℕ) → first_in xs ≡ Some k → is_marked marks k ≡ true
  marked_by k [] e = let wrong : None ≡ Some k = e in cc
  marked_by k (x ∷ xs) e = marked_here k x (first_in xs) (λ h. marked_by k xs h) (is_marked marks x) refl e

  pub first_is_marked : (n : PlainNode) (k : ℕ) → first_in (numbers_of n) ≡ Some k → is_marked marks k ≡ true
  first_is_marked n k e = marked_by k (numbers_of n) e

  module _ (b : Blueprint) where
    -- where none is marked
    mutual
      pub fresh_none : (values : List Value) (n : PlainNode) → first_in (numbers_of n) ≡ None → HasFreshOutputs b marks values n → HasFreshOutputs b [] values n
      fresh_none values (node number w fs s i ns) none fresh =
          let h = not_first (is_marked marks number) number (first_in (numbers_in ns)) none in (λ e. fresh.0 h.0, all_fresh_none (values_below w values) ns h.1 fresh.1)

      all_fresh_none : (values : List Value) (ns : PlainNodes) → first_in (numbers_in ns) ≡ None → HaveFreshOutputs b marks values ns → HaveFreshOutputs b [] values ns
      all_fresh_none values no_nodes none fresh = tt
      all_fresh_none values (more_nodes n ns) none fresh =
          let h = neither (first_in (numbers_of n)) (first_in (numbers_in ns)) (sym (in_two (numbers_of n) (numbers_in ns)) ∙ none) in
          (fresh_none values n h.0 fresh.0, all_fresh_none values ns h.1 fresh.1)

    module _ (wanted : ℕ) where
      -- a tree that is fresh as a whole is so up to any node
      later_there : (x y : Option PlainNode) → is_some x ≡ false → is_some (option_or x y) ≡ true → is_some y ≡ true
      later_there (Some a) y none e = cc
      later_there None y none e = e

      whole_by : (here : Bool) (n : PlainNode) (o : Option PlainNode) (Y : Type 0) → (is_some o ≡ true → Y) → is_some (cond {A = Option PlainNode} here (Some n) o) ≡ true → AskedIf here (Unit {0}) Y
      whole_by true n o Y step there = tt
      whole_by false n o Y step there = step there

      whole_in : (there : Bool) (X Y : Type 0) → (there ≡ true → X) → (there ≡ false → Y) → AskedIf there X Y
      whole_in true X Y one rest = one refl
      whole_in false X Y one rest = rest refl

      mutual
        whole_up_to : (values : List Value) (n : PlainNode) → is_there wanted n ≡ true → HasFreshOutputs b [] values n → IsFreshUpTo b wanted values n
        whole_up_to values (node number w fs s i ns) there fresh =
            whole_by (number == wanted) (node number w fs s i ns) (node_in wanted ns) _ (λ h. (fresh.0 refl, all_whole_up_to (values_below w values) ns h fresh.1)) there

        all_whole_up_to : (values : List Value) (ns : PlainNodes) → is_there_in wanted ns ≡ true → HaveFreshOutputs b [] values ns → AreFreshUpTo b wanted values ns
        all_whole_up_to values no_nodes there fresh = let wrong : false ≡ true = there in cc
        all_whole_up_to values (more_nodes n ns) there fresh =
            whole_in (is_there wanted n) _ _ (λ h. whole_up_to values n h fresh.0)
            (λ h. (fresh.0, all_whole_up_to values ns (later_there (node_at wanted n) (node_in wanted ns) h there) fresh.1))

      -- there it is
      number_here : (n : PlainNode) (number : ℕ) (o : Option PlainNode) (rest : Option ℕ) → (rest ≡ Some wanted → is_some o ≡ true) → (m here : Bool) → (number == wanted) ≡ here → cond m (Some number) rest ≡ Some wanted
          → is_some (cond {A = Option PlainNode} here (Some n) o) ≡ true
      number_here n number o rest step m true is e = refl
      number_here n number o rest step true false is e = let same : (number == wanted) ≡ true = eq-eqb number wanted (some_is number wanted e) in cc
      number_here n number o rest step false false is e = step e

      some_left : (x y : Option PlainNode) → is_some x ≡ true → is_some (option_or x y) ≡ true
      some_left (Some a) y h = refl
      some_left None y h = cc

      some_right : (x y : Option PlainNode) → is_some y ≡ true → is_some (option_or x y) ≡ true
      some_right (Some a) y h = refl
      some_right None y h = h

      number_in : (o rest : Option ℕ) (x y : Option PlainNode) → (o ≡ Some wanted → is_some x ≡ true) → (rest ≡ Some wanted → is_some y ≡ true) → option_or o rest ≡ Some wanted → is_some (option_or x y) ≡ true
      number_in (Some k) rest x y one step e = some_left x y (one e)
      number_in None rest x y one step e = some_right x y (step e)

      mutual
        pub has_number : (n : PlainNode) → first_in (numbers_of n) ≡ Some wanted → is_there wanted n ≡ true
        has_number (node number w fs s i ns) e =
            number_here (node number w fs s i ns) number (node_in wanted ns) (first_in (numbers_in ns)) (λ h. have_number ns h) (is_marked marks number) (number == wanted) refl e

        have_number : (ns : PlainNodes) → first_in (numbers_in ns) ≡ Some wanted → is_there_in wanted ns ≡ true
        have_number no_nodes e = let wrong : None ≡ Some wanted = e in cc
        have_number (more_nodes n ns) e =
            number_in (first_in (numbers_of n)) (first_in (numbers_in ns)) (node_at wanted n) (node_in wanted ns) (λ h. has_number n h) (λ h. have_number ns h) (sym (in_two (numbers_of n) (numbers_in ns)) ∙ e)

      here_up_to : (values : List Value) (number : ℕ) (w : PlainWidget) (fs : List Value) (ns : PlainNodes)
          → (is_marked marks number ≡ false → HasOutput b (build_role_of (look_of w)) w fs values number (map widget_of (list_of ns)))
          → (first_in (numbers_in ns) ≡ Some wanted → AreFreshUpTo b wanted (values_below w values) ns)
          → (m : Bool) → is_marked marks number ≡ m → (here : Bool) → (number == wanted) ≡ here → cond m (Some number) (first_in (numbers_in ns)) ≡ Some wanted
          → AskedIf here (Unit {0}) (HasOutput b (build_role_of (look_of w)) w fs values number (map widget_of (list_of ns)) × AreFreshUpTo b wanted (values_below w values) ns)
      here_up_to values number w fs ns own step m marked true is e = tt
      here_up_to values number w fs ns own step true marked false is e = let same : (number == wanted) ≡ true = eq-eqb number wanted (some_is number wanted e) in cc
      here_up_to values number w fs ns own step false marked false is e = (own marked, step e)

      list_up_to : (values : List Value) (n : PlainNode) (ns : PlainNodes) → HasFreshOutputs b marks values n
          → (first_in (numbers_of n) ≡ Some wanted → IsFreshUpTo b wanted values n) → (first_in (numbers_in ns) ≡ Some wanted → AreFreshUpTo b wanted values ns)
          → (o : Option ℕ) → first_in (numbers_of n) ≡ o → (there : Bool) → is_there wanted n ≡ there → option_or o (first_in (numbers_in ns)) ≡ Some wanted
          → AskedIf there (IsFreshUpTo b wanted values n) (HasFreshOutputs b [] values n × AreFreshUpTo b wanted values ns)
      list_up_to values n ns fresh one rest (Some k) found true there e = one (found ∙ e)
      list_up_to values n ns fresh one rest (Some k) found false there e = let is : is_there wanted n ≡ true = has_number n (found ∙ e) in cc
      list_up_to values n ns fresh one rest None found true there e = whole_up_to values n there (fresh_none values n found fresh)
      list_up_to values n ns fresh one rest None found false there e = (fresh_none values n found fresh, rest e)

      mutual
        up_to : (values : List Value) (n : PlainNode) → first_in (numbers_of n) ≡ Some wanted → HasFreshOutputs b marks values n → IsFreshUpTo b wanted values n
        up_to values (node number w fs s i ns) e fresh =
            here_up_to values number w fs ns fresh.0 (λ h. all_up_to (values_below w values) ns h fresh.1) (is_marked marks number) refl (number == wanted) refl e

        all_up_to : (values : List Value) (ns : PlainNodes) → first_in (numbers_in ns) ≡ Some wanted → HaveFreshOutputs b marks values ns → AreFreshUpTo b wanted values ns
        all_up_to values no_nodes e fresh = let wrong : None ≡ Some wanted = e in cc
        all_up_to values (more_nodes n ns) e fresh =
            list_up_to values n ns fresh.0 (λ h. up_to values n h fresh.0) (λ h. all_up_to values ns h fresh.1) (first_in (numbers_of n)) refl (is_there wanted n) refl (sym (in_two (numbers_of n) (numbers_in ns)) ∙ e)

      pub ready_comes : (next : ℕ) (root : PlainWidget) (tree : PlainNode) → IsReadyTree b marks next root tree → first_in (numbers_of tree) ≡ Some wanted → ComesTo b wanted root tree
      ready_comes next root tree h first =
          record { widget = h.widget; place = h.place; small = h.small; settled = h.settled; fresh = up_to b.defaults tree first h.fresh; within = h.within; few = h.few }

-- ---- its spot

module _ (b : Blueprint) (wanted : ℕ) where
  mutual
    pub has_spot : (left : ℕ) (values : List Value) (before behind : ℕ) (n : PlainNode) → IsFreshUpTo b wanted values n → IsWithin left n → Stands (spot_at wanted left values before behind n)
    has_spot zero values before behind (node number w fs s i ns) fresh within = absurd within
    has_spot (suc left) values before behind (node number w fs s i ns) fresh within =
        stands_here (number == wanted) _ _ (record { node = node number w fs s i ns; left = suc left; values = values; before = before; after = behind }) (spot_in wanted left (values_below w values) (suc before) behind ns) fresh (λ h. have_spot left (values_below w values) (suc before) behind ns h.1 within)

    have_spot : (left : ℕ) (values : List Value) (before behind : ℕ) (ns : PlainNodes) → AreFreshUpTo b wanted values ns → AreWithin left ns → Stands (spot_in wanted left values before behind ns)
    have_spot left values before behind no_nodes fresh within = absurd fresh
    have_spot left values before behind (more_nodes n ns) fresh within =
        stands_in (is_there wanted n) _ _ (spot_at wanted left values before (behind + counts_of ns) n) (spot_in wanted left values (before + count_of n) behind ns) fresh
        (λ h. has_spot left values before (behind + counts_of ns) n h within.0) (λ h. have_spot left values (before + count_of n) behind ns h.1 within.1)
