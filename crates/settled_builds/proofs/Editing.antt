-- A settled tree stays settled where its nodes are scrolled, and where a number is marked that it doesn't have.
use Rattle.std.proofs.Common.{◌≡◌, ℕ, zero, suc, ◌+◌, ◌≤◌, ◌==◌, Bool, true, false, cond, ◌||◌, Option, Some, None, List, [], ◌∷◌, ◌++◌, map, refl, sym, ap, ◌∙◌, subst}
use Rattle.std.specs.Cmp.{unsigned_Decides}
use Rattle.std.specs.List.{list_any}
use Rattle.std.specs.Option.{option_or}
use borrow.Author.Tests.{eqb-true}
use Rattle.fx_expr.specs.declared.values.Value.{Value}
use Rattle.widget_model.specs.Plain.{PlainWidget, look_of, key_of}
use Rattle.plain_tree.specs.At.{is_there, node_at, node_in, changed_at, changed_in, having_scroll}
use Rattle.plain_tree.specs.Offsets.{scrolled_by, all_scrolled_by}
use Rattle.plain_tree.specs.PlainNode.{PlainNode, node, PlainNodes, no_nodes, more_nodes, list_of, widget_of, index_of, count_of, counts_of}
use Rattle.build_form.specs.BuildRole.{build_role_of}
use Rattle.build_form.specs.Entering.{Blueprint, depth_limit, first_repeated}
use Rattle.build_form.specs.Laws.{NumbersAre, AllNumbersAre}
use Rattle.build_form.proofs.Alike.{IsAlike, AreAlike}
use Rattle.build_walk.specs.Fresh.{HasFreshOutputs}
use Rattle.build_walk.specs.Past.{is_marked}
use Rattle.settled_builds.specs.Settled.{AreItsOwn, StandInOrder, IsSettledAbove, IsSettled, AreSettled, IsWithin, AreWithin, met_by, met_after, all_met_after, IsNewKey, AreNewKeys, AllAreNewKeys, IsSettledFor}

-- ---- what trees share that have the same numbers, widgets and places

mutual
  pub alike_itself : (n : PlainNode) → IsAlike n n
  alike_itself (node number w fs s i ns) = (refl, refl, refl, alike_themselves ns)

  pub alike_themselves : (ns : PlainNodes) → AreAlike ns ns
  alike_themselves no_nodes = tt
  alike_themselves (more_nodes n ns) = (alike_itself n, alike_themselves ns)

pub same_widget : (n m : PlainNode) → IsAlike n m → widget_of m ≡ widget_of n
same_widget (node number w fs s i ns) (node k v gs r j ms) h = h.1

pub same_index : (n m : PlainNode) → IsAlike n m → index_of m ≡ index_of n
same_index (node number w fs s i ns) (node k v gs r j ms) h = h.2

pub same_widgets : (ns ms : PlainNodes) → AreAlike ns ms → map widget_of (list_of ms) ≡ map widget_of (list_of ns)
same_widgets no_nodes no_nodes h = refl
same_widgets no_nodes (more_nodes m ms) h = absurd h
same_widgets (more_nodes n ns) no_nodes h = absurd h
same_widgets (more_nodes n ns) (more_nodes m ms) h = λ at. same_widget n m h.0 at ∷ same_widgets ns ms h.1 at

order_too : (place : ℕ) (ns ms : PlainNodes) → AreAlike ns ms → StandInOrder place (list_of ns) → StandInOrder place (list_of ms)
order_too place no_nodes no_nodes h g = tt
order_too place no_nodes (more_nodes m ms) h g = absurd h
order_too place (more_nodes n ns) no_nodes h g = absurd h
order_too place (more_nodes n ns) (more_nodes m ms) h g = (same_index n m h.0 ∙ g.0, order_too (suc place) ns ms h.1 g.1)

abbrev IsOwn : PlainWidget → List PlainWidget → Type 0
IsOwn w ws = AreItsOwn (build_role_of (look_of w)) w ws

above_too : (w v : PlainWidget) (ns ms : PlainNodes) → v ≡ w → AreAlike ns ms → IsSettledAbove w (list_of ns) → IsSettledAbove v (list_of ms)
above_too w v ns ms e h g =
    let widgets = sym (same_widgets ns ms h) in
    record {
      own = subst (IsOwn v) widgets (subst (λ u. IsOwn u (map widget_of (list_of ns))) (sym e) g.own);
      order = order_too 0 ns ms h g.order;
      apart = subst (λ ws. first_repeated [] (map key_of ws) ≡ None) widgets g.apart;
    }

mutual
  pub settled_too : (n m : PlainNode) → IsAlike n m → IsSettled n → IsSettled m
  settled_too (node number w fs s i ns) (node k v gs r j ms) h g = (above_too w v ns ms h.1 h.3 g.0, all_settled_too ns ms h.3 g.1)

  all_settled_too : (ns ms : PlainNodes) → AreAlike ns ms → AreSettled ns → AreSettled ms
  all_settled_too no_nodes no_nodes h g = tt
  all_settled_too no_nodes (more_nodes m ms) h g = absurd h
  all_settled_too (more_nodes n ns) no_nodes h g = absurd h
  all_settled_too (more_nodes n ns) (more_nodes m ms) h g = (settled_too n m h.0 g.0, all_settled_too ns ms h.1 g.1)

mutual
  pub within_too : (left : ℕ) (n m : PlainNode) → IsAlike n m → IsWithin left n → IsWithin left m
  within_too zero (node number w fs s i ns) (node k v gs r j ms) h g = absurd g
  within_too (suc left) (node number w fs s i ns) (node k v gs r j ms) h g = all_within_too left ns ms h.3 g

  all_within_too : (left : ℕ) (ns ms : PlainNodes) → AreAlike ns ms → AreWithin left ns → AreWithin left ms
  all_within_too left no_nodes no_nodes h g = tt
  all_within_too left no_nodes (more_nodes m ms) h g = absurd h
  all_within_too left (more_nodes n ns) no_nodes h g = absurd h
  all_within_too left (more_nodes n ns) (more_nodes m ms) h g = (within_too left n m h.0 g.0, all_within_too left ns ms h.1 g.1)

mutual
  pub same_count : (n m : PlainNode) → IsAlike n m → count_of m ≡ count_of n
  same_count (node number w fs s i ns) (node k v gs r j ms) h = ap suc (same_counts ns ms h.3)

  same_counts : (ns ms : PlainNodes) → AreAlike ns ms → counts_of ms ≡ counts_of ns
  same_counts no_nodes no_nodes h = refl
  same_counts no_nodes (more_nodes m ms) h = absurd h
  same_counts (more_nodes n ns) no_nodes h = absurd h
  same_counts (more_nodes n ns) (more_nodes m ms) h = λ at. same_count n m h.0 at + same_counts ns ms h.1 at

mutual
  same_met : (n m : PlainNode) → IsAlike n m → (met : Value → Bool) → met_after m met ≡ met_after n met
  same_met (node number w fs s i ns) (node k v gs r j ms) h met =
      ap (λ (u : PlainWidget). all_met_after ms (met_by (key_of u) met)) h.1 ∙ all_same_met ns ms h.3 (met_by (key_of w) met)

  all_same_met : (ns ms : PlainNodes) → AreAlike ns ms → (met : Value → Bool) → all_met_after ms met ≡ all_met_after ns met
  all_same_met no_nodes no_nodes h met = refl
  all_same_met no_nodes (more_nodes m ms) h met = absurd h
  all_same_met (more_nodes n ns) no_nodes h met = absurd h
  all_same_met (more_nodes n ns) (more_nodes m ms) h met = all_same_met ns ms h.1 (met_after m met) ∙ ap (all_met_after ns) (same_met n m h.0 met)

mutual
  pub keys_too : (met : Value → Bool) (n m : PlainNode) → IsAlike n m → AreNewKeys met n → AreNewKeys met m
  keys_too met (node number w fs s i ns) (node k v gs r j ms) h g = (
    subst (λ u. IsNewKey met (key_of u)) (sym h.1) g.0,
    all_keys_too (met_by (key_of v) met) ns ms h.3 (subst (λ u. AllAreNewKeys (met_by (key_of u) met) ns) (sym h.1) g.1),
  )

  all_keys_too : (met : Value → Bool) (ns ms : PlainNodes) → AreAlike ns ms → AllAreNewKeys met ns → AllAreNewKeys met ms
  all_keys_too met no_nodes no_nodes h g = tt
  all_keys_too met no_nodes (more_nodes m ms) h g = absurd h
  all_keys_too met (more_nodes n ns) no_nodes h g = absurd h
  all_keys_too met (more_nodes n ns) (more_nodes m ms) h g =
      (keys_too met n m h.0 g.0, all_keys_too (met_after m met) ns ms h.1 (subst (λ f. AllAreNewKeys f ns) (sym (same_met n m h.0 met)) g.1))

mutual
  pub numbers_too : (P : ℕ → Type 0) (n m : PlainNode) → IsAlike n m → NumbersAre P n → NumbersAre P m
  numbers_too P (node number w fs s i ns) (node k v gs r j ms) h g = (subst P (sym h.0) g.0, all_numbers_too P ns ms h.3 g.1)

  all_numbers_too : (P : ℕ → Type 0) (ns ms : PlainNodes) → AreAlike ns ms → AllNumbersAre P ns → AllNumbersAre P ms
  all_numbers_too P no_nodes no_nodes h g = tt
  all_numbers_too P no_nodes (more_nodes m ms) h g = absurd h
  all_numbers_too P (more_nodes n ns) no_nodes h g = absurd h
  all_numbers_too P (more_nodes n ns) (more_nodes m ms) h g = (numbers_too P n m h.0 g.0, all_numbers_too P ns ms h.1 g.1)

pub alike_settled : (b : Blueprint) (marks : List ℕ) (root : PlainWidget) (n m : PlainNode) → IsAlike n m → HasFreshOutputs b [] b.defaults m → IsSettledFor b marks root n → IsSettledFor b marks root m
alike_settled b marks root n m alike fresh h =
    record {
      widget = same_widget n m alike ∙ h.widget;
      place = same_index n m alike ∙ h.place;
      small = h.small;
      settled = settled_too n m alike h.settled;
      fresh = fresh;
      within = within_too depth_limit n m alike h.within;
      few = subst (λ k. k ≤ b.nodes) (sym (same_count n m alike)) h.few;
      keys = keys_too (λ k. false) n m alike h.keys;
      unmarked = numbers_too (λ number. is_marked marks number ≡ false) n m alike h.unmarked;
    }

-- ---- nodes that are scrolled

pub alike_by : (b : Bool) (n k m : PlainNode) → IsAlike n k → IsAlike n m → IsAlike n (cond b k m)
alike_by true n k m h g = h
alike_by false n k m h g = g

pub all_alike_by : (b : Bool) (ns ks ms : PlainNodes) → AreAlike ns ks → AreAlike ns ms → AreAlike ns (cond b ks ms)
all_alike_by true ns ks ms h g = h
all_alike_by false ns ks ms h g = g

module _ (scroll wanted : ℕ) where
  mutual
    pub scroll_alike : (n : PlainNode) → IsAlike n (changed_at (having_scroll scroll) wanted n)
    scroll_alike (node number w fs s i ns) =
        alike_by (number == wanted) (node number w fs s i ns) (node number w fs scroll i ns) (node number w fs s i (changed_in (having_scroll scroll) wanted ns))
        (refl, refl, refl, alike_themselves ns) (refl, refl, refl, all_scroll_alike ns)

    all_scroll_alike : (ns : PlainNodes) → AreAlike ns (changed_in (having_scroll scroll) wanted ns)
    all_scroll_alike no_nodes = tt
    all_scroll_alike (more_nodes n ns) =
        all_alike_by (is_there wanted n) (more_nodes n ns) (more_nodes (changed_at (having_scroll scroll) wanted n) ns) (more_nodes n (changed_in (having_scroll scroll) wanted ns))
        (scroll_alike n, alike_themselves ns) (alike_itself n, all_scroll_alike ns)

mutual
  pub offsets_alike : (offset : ℕ → Option ℕ) (n : PlainNode) → IsAlike n (scrolled_by offset n)
  offsets_alike offset (node number w fs s i ns) = (refl, refl, refl, all_offsets_alike offset ns)

  all_offsets_alike : (offset : ℕ → Option ℕ) (ns : PlainNodes) → AreAlike ns (all_scrolled_by offset ns)
  all_offsets_alike offset no_nodes = tt
  all_offsets_alike offset (more_nodes n ns) = (offsets_alike offset n, all_offsets_alike offset ns)

-- ---- one mark more

neither : (a b : Option PlainNode) → option_or a b ≡ None → (a ≡ None) × (b ≡ None)
neither (Some a) b e = cc
neither None b e = (refl, e)

another : (own : Bool) (n : PlainNode) (below : Option PlainNode) → cond own (Some n) below ≡ None → (own ≡ false) × (below ≡ None)
another true n below e = cc
another false n below e = (refl, e)

no_more : (p : ℕ → Bool) (xs : List ℕ) (x : ℕ) → list_any p xs ≡ false → p x ≡ false → list_any p (xs ++ x ∷ []) ≡ false
no_more p [] x none here = ap (λ b. b || false) here
no_more p (y ∷ xs) x none here = first_not (p y) (list_any p xs) (list_any p (xs ++ x ∷ [])) none (λ e. no_more p xs x e here) where
  first_not : (a b c : Bool) → (a || b) ≡ false → (b ≡ false → c ≡ false) → (a || c) ≡ false
  first_not true b c e k = e
  first_not false b c e k = k e

apart_by : (b : Bool) (k wanted : ℕ) → (k == wanted) ≡ false → (wanted == k) ≡ b → b ≡ false
apart_by false k wanted e f = refl
apart_by true k wanted e f =
    let same : wanted ≡ k = eqb-true wanted k f in
    let is : (k == wanted) ≡ true = ap (λ i. i == wanted) (sym same) ∙ (unsigned_Decides wanted wanted).1 refl in
    cc

module _ (marks : List ℕ) (wanted : ℕ) where
  abbrev IsClear : ℕ → Type 0
  IsClear number = is_marked marks number ≡ false

  abbrev StaysClear : ℕ → Type 0
  StaysClear number = is_marked (marks ++ wanted ∷ []) number ≡ false

  mutual
    pub stay_clear : (n : PlainNode) → node_at wanted n ≡ None → NumbersAre IsClear n → NumbersAre StaysClear n
    stay_clear (node number w fs s i ns) e h =
        let two = another (number == wanted) (node number w fs s i ns) (node_in wanted ns) e in
        (no_more (λ n. n == number) marks wanted h.0 (apart_by (wanted == number) number wanted two.0 refl), all_stay_clear ns two.1 h.1)

    all_stay_clear : (ns : PlainNodes) → node_in wanted ns ≡ None → AllNumbersAre IsClear ns → AllNumbersAre StaysClear ns
    all_stay_clear no_nodes e h = tt
    all_stay_clear (more_nodes n ns) e h = let two = neither (node_at wanted n) (node_in wanted ns) e in (stay_clear n two.0 h.0, all_stay_clear ns two.1 h.1)

pub marked_settled : (b : Blueprint) (marks : List ℕ) (root : PlainWidget) (tree : PlainNode) (number : ℕ) → node_at number tree ≡ None → IsSettledFor b marks root tree → IsSettledFor b (marks ++ number ∷ []) root tree
marked_settled b marks root tree number e h =
    record {
      widget = h.widget;
      place = h.place;
      small = h.small;
      settled = h.settled;
      fresh = h.fresh;
      within = h.within;
      few = h.few;
      keys = h.keys;
      unmarked = stay_clear marks number tree e h.unmarked;
    }
