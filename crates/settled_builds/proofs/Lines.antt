-- What lines leave of a tree of which some components are to be built anew.
use Rattle.std.proofs.Common.{◌≡◌, ℕ, ◌≤◌, ◌==◌, Bool, true, false, ◌||◌, cond, is_some, Option, Some, None, List, [], ◌∷◌, ◌++◌, refl, sym, ap, ◌∙◌, subst}
use Rattle.std.specs.List.{find, list_any}
use Rattle.std.specs.Option.{option_or}
use Rattle.std.proofs.lemmas.Bool.{eqb-false, ne_eqb}
use Rattle.std.proofs.lemmas.List.Folds.{find-append}
use Rattle.fx_expr.specs.declared.values.Value.{Value}
use Rattle.widget_model.specs.Plain.{PlainWidget, look_of, key_of}
use Rattle.plain_tree.specs.At.{node_at, node_in, changed_at, having_scroll, numbers_of, numbers_in}
use Rattle.plain_tree.specs.Laws.{AllDiffer}
use Rattle.plain_tree.specs.Offsets.{scrolled_by}
use Rattle.plain_tree.specs.PlainNode.{PlainNode, node, PlainNodes, no_nodes, more_nodes, widget_of}
use Rattle.build_form.specs.Entering.{Blueprint, depth_limit, values_below}
use Rattle.build_form.specs.Laws.{NumbersAre, AllNumbersAre}
use Rattle.build_form.specs.Numbered.{IsNumbered}
use Rattle.build_form.proofs.Alike.{IsAlike, AreAlike}
use Rattle.build_walk.specs.Fresh.{HasFreshOutputs, HaveFreshOutputs}
use Rattle.build_walk.specs.Past.{is_marked}
use Rattle.work_sets.specs.Due.{names_read}
use Rattle.settled_builds.specs.Places.{IsNoGlobal, HasNoGlobals, HaveNoGlobals}
use Rattle.settled_builds.specs.Settled.{AreComponents, AllAreComponents, IsReadyTree, IsSettledFor}
use Rattle.settled_builds.specs.Taken.{AskedIf}
use Rattle.settled_builds.proofs.Editing.{same_widget, same_index, settled_too, within_too, same_count, numbers_too, scroll_alike, offsets_alike}
use Rattle.settled_builds.proofs.Keyless.{keys_none}
use Rattle.settled_builds.proofs.Once.{Other, IsAlone, AreAlone, alone, not_there}
use Rattle.settled_builds.proofs.Readied.{in_place}
use Rattle.settled_builds.proofs.Setting.{set, set_alike}
use Rattle.settled_builds.proofs.UpTo.{first_in, fresh_none}

-- ---- trees with the same numbers, widgets and places

mutual
  keyless_too : (n m : PlainNode) → IsAlike n m → HasNoGlobals n → HasNoGlobals m
  keyless_too (node number w fs s i ns) (node k v gs r j ms) h g = (subst (λ (u : PlainWidget). IsNoGlobal (key_of u)) (sym h.1) g.0, all_keyless_too ns ms h.3 g.1)

  all_keyless_too : (ns ms : PlainNodes) → AreAlike ns ms → HaveNoGlobals ns → HaveNoGlobals ms
  all_keyless_too no_nodes no_nodes h g = tt
  all_keyless_too no_nodes (more_nodes m ms) h g = absurd h
  all_keyless_too (more_nodes n ns) no_nodes h g = absurd h
  all_keyless_too (more_nodes n ns) (more_nodes m ms) h g = (keyless_too n m h.0 g.0, all_keyless_too ns ms h.1 g.1)

mutual
  same_numbers : (n m : PlainNode) → IsAlike n m → numbers_of m ≡ numbers_of n
  same_numbers (node number w fs s i ns) (node k v gs r j ms) h = λ at. h.0 at ∷ all_same_numbers ns ms h.3 at

  all_same_numbers : (ns ms : PlainNodes) → AreAlike ns ms → numbers_in ms ≡ numbers_in ns
  all_same_numbers no_nodes no_nodes h = refl
  all_same_numbers no_nodes (more_nodes m ms) h = absurd h
  all_same_numbers (more_nodes n ns) no_nodes h = absurd h
  all_same_numbers (more_nodes n ns) (more_nodes m ms) h = λ at. same_numbers n m h.0 at ++ all_same_numbers ns ms h.1 at

-- a widget is that of a component
abbrev Reads : PlainWidget → Type 0
Reads w = is_some (names_read (look_of w)) ≡ true

module _ (marks : List ℕ) where
  mutual
    components_too : (n m : PlainNode) → IsAlike n m → AreComponents marks n → AreComponents marks m
    components_too (node number w fs s i ns) (node k v gs r j ms) h g =
        (λ e. subst Reads (sym h.1) (g.0 (subst (λ (x : ℕ). is_marked marks x ≡ true) h.0 e)), all_components_too ns ms h.3 g.1)

    all_components_too : (ns ms : PlainNodes) → AreAlike ns ms → AllAreComponents marks ns → AllAreComponents marks ms
    all_components_too no_nodes no_nodes h g = tt
    all_components_too no_nodes (more_nodes m ms) h g = absurd h
    all_components_too (more_nodes n ns) no_nodes h g = absurd h
    all_components_too (more_nodes n ns) (more_nodes m ms) h g = (components_too n m h.0 g.0, all_components_too ns ms h.1 g.1)

-- ---- one mark more

or_none : (a : Bool) → (a || false) ≡ a
or_none true = refl
or_none false = refl

or_again : (a b c : Bool) → (a || (b || c)) ≡ ((a || b) || c)
or_again true b c = refl
or_again false b c = refl

any_more : (p : ℕ → Bool) (xs : List ℕ) (x : ℕ) → list_any p (xs ++ x ∷ []) ≡ (list_any p xs || p x)
any_more p [] x = or_none (p x)
any_more p (y ∷ xs) x = ap (λ (b : Bool). p y || b) (any_more p xs x) ∙ or_again (p y) (list_any p xs) (p x)

module _ (marks : List ℕ) (wanted : ℕ) where
  -- of another number
  other_mark : (k : ℕ) → Other wanted k → is_marked (marks ++ wanted ∷ []) k ≡ is_marked marks k
  other_mark k other =
      any_more (λ n. n == k) marks wanted ∙ ap (λ (b : Bool). is_marked marks k || b) (ne_eqb wanted k (λ e. other (sym e))) ∙ or_none (is_marked marks k)

  mutual
    components_beside : (n : PlainNode) → NumbersAre (Other wanted) n → AreComponents marks n → AreComponents (marks ++ wanted ∷ []) n
    components_beside (node number w fs s i ns) other h = (λ e. h.0 (sym (other_mark number other.0) ∙ e), all_components_beside ns other.1 h.1)

    all_components_beside : (ns : PlainNodes) → AllNumbersAre (Other wanted) ns → AllAreComponents marks ns → AllAreComponents (marks ++ wanted ∷ []) ns
    all_components_beside no_nodes other h = tt
    all_components_beside (more_nodes n ns) other h = (components_beside n other.0 h.0, all_components_beside ns other.1 h.1)

  -- where the node with that number is a component
  module _ (m : PlainNode) (reads : Reads (widget_of m)) where
    some_is : (n : PlainNode) → Some n ≡ Some m → n ≡ m
    some_is n e = cc

    marked_here : (number : ℕ) (w : PlainWidget) (fs : List Value) (s i : ℕ) (ns : PlainNodes) → (AreAlone wanted ns → node_in wanted ns ≡ Some m → AllAreComponents (marks ++ wanted ∷ []) ns) → (here : Bool) → (number == wanted) ≡ here
        → AskedIf here (AllNumbersAre (Other wanted) ns) (AreAlone wanted ns) → cond {A = Option PlainNode} here (Some (node number w fs s i ns)) (node_in wanted ns) ≡ Some m → AreComponents marks (node number w fs s i ns)
        → AreComponents (marks ++ wanted ∷ []) (node number w fs s i ns)
    marked_here number w fs s i ns step true is other at h = (λ e. subst (λ (n : PlainNode). Reads (widget_of n)) (sym (some_is (node number w fs s i ns) at)) reads, all_components_beside ns other h.1)
    marked_here number w fs s i ns step false is other at h = (λ e. h.0 (sym (other_mark number (eqb-false number wanted is)) ∙ e), step other at)

    found_first : (x y : Option PlainNode) → is_some x ≡ true → option_or x y ≡ Some m → x ≡ Some m
    found_first (Some a) y there e = e
    found_first None y there e = cc

    found_later : (x y : Option PlainNode) → is_some x ≡ false → option_or x y ≡ Some m → y ≡ Some m
    found_later (Some a) y there e = cc
    found_later None y there e = e

    marked_in : (n : PlainNode) (ns : PlainNodes) → (IsAlone wanted n → node_at wanted n ≡ Some m → AreComponents (marks ++ wanted ∷ []) n) → (AreAlone wanted ns → node_in wanted ns ≡ Some m → AllAreComponents (marks ++ wanted ∷ []) ns)
        → (there : Bool) → is_some (node_at wanted n) ≡ there → AskedIf there (IsAlone wanted n × AllNumbersAre (Other wanted) ns) (NumbersAre (Other wanted) n × AreAlone wanted ns) → option_or (node_at wanted n) (node_in wanted ns) ≡ Some m
        → AllAreComponents marks (more_nodes n ns) → AllAreComponents (marks ++ wanted ∷ []) (more_nodes n ns)
    marked_in n ns one rest true is other at h = (one other.0 (found_first (node_at wanted n) (node_in wanted ns) is at), all_components_beside ns other.1 h.1)
    marked_in n ns one rest false is other at h = (components_beside n other.0 h.0, rest other.1 (found_later (node_at wanted n) (node_in wanted ns) is at))

    mutual
      components_marked : (n : PlainNode) → IsAlone wanted n → node_at wanted n ≡ Some m → AreComponents marks n → AreComponents (marks ++ wanted ∷ []) n
      components_marked (node number w fs s i ns) other at h = marked_here number w fs s i ns (λ o a. all_components_marked ns o a h.1) (number == wanted) refl other at h

      all_components_marked : (ns : PlainNodes) → AreAlone wanted ns → node_in wanted ns ≡ Some m → AllAreComponents marks ns → AllAreComponents (marks ++ wanted ∷ []) ns
      all_components_marked no_nodes other at h = tt
      all_components_marked (more_nodes n ns) other at h = marked_in n ns (λ o a. components_marked n o a h.0) (λ o a. all_components_marked ns o a h.1) (is_some (node_at wanted n)) refl other at h

-- ---- lines

module _ (b : Blueprint) (marks : List ℕ) (next : ℕ) (root : PlainWidget) where
  alike_ready : (left : List ℕ) (n m : PlainNode) → IsAlike n m → HasFreshOutputs b left b.defaults m → AreComponents left n → IsReadyTree b marks next root n → IsReadyTree b left next root m
  alike_ready left n m alike fresh components h =
      record {
        widget = same_widget n m alike ∙ h.widget;
        place = same_index n m alike ∙ h.place;
        small = h.small;
        settled = settled_too n m alike h.settled;
        fresh = fresh;
        within = within_too depth_limit n m alike h.within;
        few = subst (λ (k : ℕ). k ≤ b.nodes) (sym (same_count n m alike)) h.few;
        keyless = keyless_too n m alike h.keyless;
        numbered = record {
          differ = subst AllDiffer (sym (same_numbers n m alike)) h.numbered.differ;
          below = numbers_too _ n m alike h.numbered.below;
          placed = in_place m (settled_too n m alike h.settled);
        };
        components = components_too left n m alike components;
      }

  pub scroll_ready : (tree : PlainNode) (scroll at : ℕ) → HasFreshOutputs b marks b.defaults (changed_at (having_scroll scroll) at tree) → IsReadyTree b marks next root tree → IsReadyTree b marks next root (changed_at (having_scroll scroll) at tree)
  scroll_ready tree scroll at fresh h = alike_ready marks tree (changed_at (having_scroll scroll) at tree) (scroll_alike scroll at tree) fresh h.components h

  pub offsets_ready : (tree : PlainNode) (offset : ℕ → Option ℕ) → HasFreshOutputs b marks b.defaults (scrolled_by offset tree) → IsReadyTree b marks next root tree → IsReadyTree b marks next root (scrolled_by offset tree)
  offsets_ready tree offset fresh h = alike_ready marks tree (scrolled_by offset tree) (offsets_alike offset tree) fresh h.components h

  pub set_ready : (tree n : PlainNode) (f : PlainNode → List Value) (wanted : ℕ) (names : List ℕ) → HasFreshOutputs b (marks ++ wanted ∷ []) b.defaults (changed_at (set f wanted) wanted tree) → node_at wanted tree ≡ Some n
      → names_read (look_of (widget_of n)) ≡ Some names → IsReadyTree b marks next root tree → IsReadyTree b (marks ++ wanted ∷ []) next root (changed_at (set f wanted) wanted tree)
  set_ready tree n f wanted names fresh at reads h =
      alike_ready (marks ++ wanted ∷ []) tree (changed_at (set f wanted) wanted tree) (set_alike f wanted tree) fresh
      (components_marked marks wanted n (ap (λ (r : Option (List ℕ)). is_some r) reads) tree (alone wanted tree h.numbered.differ) at h.components) h

  pub marked_ready : (tree : PlainNode) (number : ℕ) → HasFreshOutputs b (marks ++ number ∷ []) b.defaults tree → node_at number tree ≡ None → IsReadyTree b marks next root tree → IsReadyTree b (marks ++ number ∷ []) next root tree
  marked_ready tree number fresh none h =
      record {
        widget = h.widget;
        place = h.place;
        small = h.small;
        settled = h.settled;
        fresh = fresh;
        within = h.within;
        few = h.few;
        keyless = h.keyless;
        numbered = h.numbered;
        components = components_beside marks number tree (not_there number tree (ap (λ (o : Option PlainNode). is_some o) none)) h.components;
      }

-- ---- where none is marked

module _ (b : Blueprint) (marks : List ℕ) where
  mutual
    fresh_any : (values : List Value) (n : PlainNode) → HasFreshOutputs b [] values n → HasFreshOutputs b marks values n
    fresh_any values (node number w fs s i ns) h = (λ e. h.0 refl, all_fresh_any (values_below w values) ns h.1)

    all_fresh_any : (values : List Value) (ns : PlainNodes) → HaveFreshOutputs b [] values ns → HaveFreshOutputs b marks values ns
    all_fresh_any values no_nodes h = tt
    all_fresh_any values (more_nodes n ns) h = (fresh_any values n h.0, all_fresh_any values ns h.1)

mutual
  no_components : (marks : List ℕ) (n : PlainNode) → NumbersAre (λ number. is_marked marks number ≡ false) n → AreComponents marks n
  no_components marks (node number w fs s i ns) h = (λ e. (let wrong : false ≡ true = sym h.0 ∙ e in cc), all_no_components marks ns h.1)

  all_no_components : (marks : List ℕ) (ns : PlainNodes) → AllNumbersAre (λ number. is_marked marks number ≡ false) ns → AllAreComponents marks ns
  all_no_components marks no_nodes h = tt
  all_no_components marks (more_nodes n ns) h = (no_components marks n h.0, all_no_components marks ns h.1)

not_first : (marked : Bool) (k : ℕ) (rest : Option ℕ) → cond marked (Some k) rest ≡ None → (marked ≡ false) × (rest ≡ None)
not_first true k rest e = cc
not_first false k rest e = (refl, e)

neither : (a b : Option ℕ) → option_or a b ≡ None → (a ≡ None) × (b ≡ None)
neither (Some a) b e = cc
neither None b e = (refl, e)

mutual
  none_marked : (marks : List ℕ) (n : PlainNode) → first_in marks (numbers_of n) ≡ None → NumbersAre (λ number. is_marked marks number ≡ false) n
  none_marked marks (node number w fs s i ns) e = let h = not_first (is_marked marks number) number (first_in marks (numbers_in ns)) e in (h.0, all_none_marked marks ns h.1)

  all_none_marked : (marks : List ℕ) (ns : PlainNodes) → first_in marks (numbers_in ns) ≡ None → AllNumbersAre (λ number. is_marked marks number ≡ false) ns
  all_none_marked marks no_nodes e = tt
  all_none_marked marks (more_nodes n ns) e =
      let h = neither (first_in marks (numbers_of n)) (first_in marks (numbers_in ns)) (sym (find-append (is_marked marks) (numbers_of n) (numbers_in ns)) ∙ e) in (none_marked marks n h.0, all_none_marked marks ns h.1)

pub settled_is_ready : (b : Blueprint) (marks : List ℕ) (next : ℕ) (root : PlainWidget) (tree : PlainNode) → IsSettledFor b marks root tree → HasNoGlobals tree → IsNumbered next tree → IsReadyTree b marks next root tree
settled_is_ready b marks next root tree h keyless numbered =
    record {
      widget = h.widget;
      place = h.place;
      small = h.small;
      settled = h.settled;
      fresh = fresh_any b marks b.defaults tree h.fresh;
      within = h.within;
      few = h.few;
      keyless = keyless;
      numbered = numbered;
      components = no_components marks tree h.unmarked;
    }

pub ready_is_settled : (b : Blueprint) (marks : List ℕ) (next : ℕ) (root : PlainWidget) (tree : PlainNode) → IsReadyTree b marks next root tree → find (is_marked marks) (numbers_of tree) ≡ None → IsSettledFor b marks root tree
ready_is_settled b marks next root tree h none =
    record {
      widget = h.widget;
      place = h.place;
      small = h.small;
      settled = h.settled;
      fresh = fresh_none marks b b.defaults tree none h.fresh;
      within = h.within;
      few = h.few;
      keys = keys_none tree (λ k. false) h.keyless;
      unmarked = none_marked marks tree none;
    }
