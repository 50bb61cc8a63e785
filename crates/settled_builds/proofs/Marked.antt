-- Trees of which the number of the stale component alone is marked: lines leave such trees, and that component has a spot.
use Rattle.std.proofs.Common.{◌≡◌, ℕ, ◌<◌, ◌==◌, Bool, true, false, ◌||◌, cond, is_some, Option, Some, None, option_map, List, [], ◌∷◌, ◌++◌, refl, sym, ap, ◌∙◌, subst}
use Rattle.std.specs.List.{list_any}
use Rattle.std.specs.Option.{option_or}
use Rattle.std.proofs.lemmas.Bool.{eqb-true, eq-eqb, ne_eqb}
use Rattle.fx_expr.specs.declared.values.Value.{Value}
use Rattle.widget_model.specs.Plain.{PlainWidget, look_of}
use Rattle.plain_tree.specs.At.{is_there, node_at, node_in, changed_at, having_scroll}
use Rattle.plain_tree.specs.Offsets.{scrolled_by}
use Rattle.plain_tree.specs.PlainNode.{PlainNode, node, PlainNodes, no_nodes, more_nodes, widget_of}
use Rattle.build_form.specs.Entering.{Blueprint, depth_limit}
use Rattle.build_form.specs.Laws.{NumbersAre, AllNumbersAre}
use Rattle.build_form.specs.Numbered.{IsNumbered}
use Rattle.build_form.proofs.Alike.{IsAlike, AreAlike}
use Rattle.build_walk.specs.Past.{is_marked}
use Rattle.work_sets.specs.Due.{names_read}
use Rattle.settled_builds.specs.Places.{NodePlace, HasNoGlobals}
use Rattle.settled_builds.specs.Settled.{IsSettledFor}
use Rattle.settled_builds.specs.Taken.{IsStaleFor, IsMarkedFor, IsStaleAt}
use Rattle.settled_builds.proofs.Editing.{numbers_too, scroll_alike, offsets_alike}
use Rattle.settled_builds.proofs.Numbers.{all_so, both_so}
use Rattle.settled_builds.proofs.Once.{Other, not_there}
use Rattle.settled_builds.proofs.Setting.{set, set_alike, set_is_stale}
use Rattle.settled_builds.proofs.Spots.{spot_is_there}
use Rattle.settled_builds.proofs.Stale.{scroll_stale, offsets_stale, again_stale}
use Rattle.settled_builds.proofs.UpTo.{stale_comes, has_spot}

-- ---- nodes with a number in trees that are alike

-- the inherited names in the body of a node's component
abbrev reads : PlainNode → Option (List ℕ)
reads n = names_read (look_of (widget_of n))

reads_by : (here : Bool) (n m : PlainNode) (x y : Option PlainNode) → reads m ≡ reads n → option_map reads y ≡ option_map reads x → option_map reads (cond here (Some m) y) ≡ option_map reads (cond here (Some n) x)
reads_by true n m x y e h = ap (λ (r : Option (List ℕ)). Some r) e
reads_by false n m x y e h = h

reads_either : (x y u v : Option PlainNode) → option_map reads u ≡ option_map reads x → option_map reads v ≡ option_map reads y → option_map reads (option_or u v) ≡ option_map reads (option_or x y)
reads_either (Some a) y (Some c) v e f = e
reads_either (Some a) y None v e f = cc
reads_either None y (Some c) v e f = cc
reads_either None y None v e f = f

mutual
  reads_too : (wanted : ℕ) (n m : PlainNode) → IsAlike n m → option_map reads (node_at wanted m) ≡ option_map reads (node_at wanted n)
  reads_too wanted (node number w fs s i ns) (node k v gs r j ms) h =
      ap (λ (x : ℕ). option_map reads (cond {A = Option PlainNode} (x == wanted) (Some (node k v gs r j ms)) (node_in wanted ms))) h.0
      ∙ reads_by (number == wanted) (node number w fs s i ns) (node k v gs r j ms) (node_in wanted ns) (node_in wanted ms) (ap (λ (u : PlainWidget). names_read (look_of u)) h.1) (all_read_too wanted ns ms h.3)

  all_read_too : (wanted : ℕ) (ns ms : PlainNodes) → AreAlike ns ms → option_map reads (node_in wanted ms) ≡ option_map reads (node_in wanted ns)
  all_read_too wanted no_nodes no_nodes h = refl
  all_read_too wanted no_nodes (more_nodes m ms) h = absurd h
  all_read_too wanted (more_nodes n ns) no_nodes h = absurd h
  all_read_too wanted (more_nodes n ns) (more_nodes m ms) h =
      reads_either (node_at wanted n) (node_in wanted ns) (node_at wanted m) (node_in wanted ms) (reads_too wanted n m h.0) (all_read_too wanted ns ms h.1)

-- ---- one mark more

never : (b : Bool) → b ≡ true → b ≡ false → ⊥
never b e f = cc

turned_by : (b : Bool) (k x : ℕ) → (k == x) ≡ b → (x == k) ≡ b
turned_by true k x e = eq-eqb x k (sym (eqb-true k x e))
turned_by false k x e = ne_eqb x k (λ same. never (k == x) (ap (λ (y : ℕ). k == y) same ∙ eq-eqb k k refl) e)

turned : (k x : ℕ) → (x == k) ≡ (k == x)
turned k x = turned_by (k == x) k x refl

or_none : (a : Bool) → (a || false) ≡ a
or_none true = refl
or_none false = refl

or_same : (a : Bool) → (a || a) ≡ a
or_same true = refl
or_same false = refl

or_again : (a b c : Bool) → (a || (b || c)) ≡ ((a || b) || c)
or_again true b c = refl
or_again false b c = refl

any_more : (p : ℕ → Bool) (xs : List ℕ) (x : ℕ) → list_any p (xs ++ x ∷ []) ≡ (list_any p xs || p x)
any_more p [] x = or_none (p x)
any_more p (y ∷ xs) x = ap (λ (b : Bool). p y || b) (any_more p xs x) ∙ or_again (p y) (list_any p xs) (p x)

module _ (marks : List ℕ) (wanted : ℕ) where
  abbrev Alone : ℕ → Type 0
  Alone k = is_marked marks k ≡ (k == wanted)

  -- where none was marked, and where that number was
  first_mark : (k : ℕ) → is_marked marks k ≡ false → is_marked (marks ++ wanted ∷ []) k ≡ (k == wanted)
  first_mark k none = any_more (λ n. n == k) marks wanted ∙ ap (λ (b : Bool). b || (wanted == k)) none ∙ turned k wanted

  same_mark : (k : ℕ) → Alone k → is_marked (marks ++ wanted ∷ []) k ≡ (k == wanted)
  same_mark k one =
      any_more (λ n. n == k) marks wanted ∙ ap (λ (b : Bool). b || (wanted == k)) one ∙ ap (λ (b : Bool). (k == wanted) || b) (turned k wanted) ∙ or_same (k == wanted)

  -- a mark of a number that isn't one of the tree's
  other_mark : (number k : ℕ) → Other number k → Alone k → is_marked (marks ++ number ∷ []) k ≡ (k == wanted)
  other_mark number k other one =
      any_more (λ n. n == k) marks number ∙ ap (λ (b : Bool). is_marked marks k || b) (ne_eqb number k (λ e. other (sym e))) ∙ or_none (is_marked marks k) ∙ one

-- ---- what lines leave

module _ (b : Blueprint) (wanted : ℕ) (root : PlainWidget) where
  alike_marked : (marks : List ℕ) (n m : PlainNode) → IsAlike n m → IsStaleFor b wanted root m → IsMarkedFor b marks wanted root n → IsMarkedFor b marks wanted root m
  alike_marked marks n m alike stale h =
      record {
        stale = stale;
        names = h.names;
        component = reads_too wanted n m alike ∙ h.component;
        marked = numbers_too (Alone marks wanted) n m alike h.marked;
      }

  pub scroll_marked : (marks : List ℕ) (tree : PlainNode) (scroll place : ℕ) → IsMarkedFor b marks wanted root tree → IsMarkedFor b marks wanted root (changed_at (having_scroll scroll) place tree)
  scroll_marked marks tree scroll place h =
      alike_marked marks tree (changed_at (having_scroll scroll) place tree) (scroll_alike scroll place tree) (scroll_stale b wanted root tree scroll place h.stale) h

  pub offsets_marked : (marks : List ℕ) (tree : PlainNode) (offset : ℕ → Option ℕ) → IsMarkedFor b marks wanted root tree → IsMarkedFor b marks wanted root (scrolled_by offset tree)
  offsets_marked marks tree offset h = alike_marked marks tree (scrolled_by offset tree) (offsets_alike offset tree) (offsets_stale b wanted root tree offset h.stale) h

  pub other_marked : (marks : List ℕ) (number : ℕ) (tree : PlainNode) → node_at number tree ≡ None → IsMarkedFor b marks wanted root tree → IsMarkedFor b (marks ++ number ∷ []) wanted root tree
  other_marked marks number tree none h =
      record {
        stale = h.stale;
        names = h.names;
        component = h.component;
        marked = both_so (Other number) (Alone marks wanted) (Alone (marks ++ number ∷ []) wanted) (other_mark marks wanted number) tree (not_there number tree (ap (λ (o : Option PlainNode). is_some o) none)) h.marked;
      }

  pub again_marked : (marks : List ℕ) (f : PlainNode → List Value) (tree : PlainNode) → IsMarkedFor b marks wanted root tree → IsMarkedFor b (marks ++ wanted ∷ []) wanted root (changed_at (set f wanted) wanted tree)
  again_marked marks f tree h =
      let now = changed_at (set f wanted) wanted tree in
      let alike = set_alike f wanted tree in
      record {
        stale = again_stale b wanted f root tree h.stale;
        names = h.names;
        component = reads_too wanted tree now alike ∙ h.component;
        marked = numbers_too (Alone (marks ++ wanted ∷ []) wanted) tree now alike (all_so (Alone marks wanted) (Alone (marks ++ wanted ∷ []) wanted) (same_mark marks wanted) tree h.marked);
      }

  pub set_marked : (marks : List ℕ) (f : PlainNode → List Value) (tree n : PlainNode) (names : List ℕ) → IsSettledFor b marks root tree → node_at wanted tree ≡ Some n → names_read (look_of (widget_of n)) ≡ Some names
      → IsMarkedFor b (marks ++ wanted ∷ []) wanted root (changed_at (set f wanted) wanted tree)
  set_marked marks f tree n names h there component =
      let now = changed_at (set f wanted) wanted tree in
      let alike = set_alike f wanted tree in
      record {
        stale = set_is_stale f wanted b marks root tree h (ap (λ (o : Option PlainNode). is_some o) there);
        names = names;
        component = reads_too wanted tree now alike ∙ ap (option_map reads) there ∙ ap (λ (r : Option (List ℕ)). Some r) component;
        marked = numbers_too (Alone (marks ++ wanted ∷ []) wanted) tree now alike (all_so (λ k. is_marked marks k ≡ false) (Alone (marks ++ wanted ∷ []) wanted) (first_mark marks wanted) tree h.unmarked);
      }

-- ---- what is due of it

some_is : (x y : Option (List ℕ)) → Some x ≡ Some y → x ≡ y
some_is x y e = cc

below_by : (wanted next number : ℕ) (n : PlainNode) (x : Option PlainNode) (here : Bool) → (number == wanted) ≡ here → number < next → (is_some x ≡ true → wanted < next) → is_some (cond {A = Option PlainNode} here (Some n) x) ≡ true → wanted < next
below_by wanted next number n x true is low step there = subst (λ (k : ℕ). k < next) (eqb-true number wanted is) low
below_by wanted next number n x false is low step there = step there

below_in : (wanted next : ℕ) (x y : Option PlainNode) → (is_some x ≡ true → wanted < next) → (is_some y ≡ true → wanted < next) → is_some (option_or x y) ≡ true → wanted < next
below_in wanted next (Some n) y one rest there = one refl
below_in wanted next None y one rest there = rest there

mutual
  below_there : (wanted next : ℕ) (n : PlainNode) → NumbersAre (λ k. k < next) n → is_there wanted n ≡ true → wanted < next
  below_there wanted next (node number w fs s i ns) low there = below_by wanted next number (node number w fs s i ns) (node_in wanted ns) (number == wanted) refl low.0 (λ h. all_below_there wanted next ns low.1 h) there

  all_below_there : (wanted next : ℕ) (ns : PlainNodes) → AllNumbersAre (λ k. k < next) ns → is_some (node_in wanted ns) ≡ true → wanted < next
  all_below_there wanted next no_nodes low there = let wrong : false ≡ true = there in cc
  all_below_there wanted next (more_nodes n ns) low there =
      below_in wanted next (node_at wanted n) (node_in wanted ns) (λ h. below_there wanted next n low.0 h) (λ h. all_below_there wanted next ns low.1 h) there

pub marked_is_stale : (b : Blueprint) (marks : List ℕ) (wanted next : ℕ) (root : PlainWidget) (tree : PlainNode) → IsMarkedFor b marks wanted root tree → HasNoGlobals tree → IsNumbered next tree
    → (p : NodePlace) × IsStaleAt b marks wanted next root tree p
marked_is_stale b marks wanted next root tree h keyless numbered =
    let spot = has_spot b wanted depth_limit b.defaults 0 0 tree (stale_comes b wanted root tree h.stale).fresh h.stale.within in
    let there = spot_is_there wanted spot.0 depth_limit b.defaults 0 0 tree spot.1 in (
      spot.0,
      record {
        stale = h.stale;
        at = spot.1;
        names = h.names;
        component = some_is (reads spot.0.node) (Some h.names) (sym (ap (option_map reads) there) ∙ h.component);
        marked = h.marked;
        keyless = keyless;
        differ = numbered.differ;
        old = below_there wanted next tree numbered.below (ap (λ (o : Option PlainNode). is_some o) there);
      },
    )
