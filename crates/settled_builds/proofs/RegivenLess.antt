-- Once an Inherit gives the value that the first marked component gives it, and the readers of its name are marked, a build counts one component less.
use Rattle.std.proofs.Common.{◌≡◌, ℕ, ◌==◌, Bool, true, false, not, ◌||◌, cond, is_some, Option, Some, None, List, [], ◌∷◌, ◌++◌, refl, sym, ap, ◌∙◌, subst, ◌⊎◌, inl, inr}
use Rattle.std.specs.List.{list_any}
use Rattle.std.proofs.lemmas.Bool.{eqb-true, eqb-false, eq-eqb}
use Rattle.fx_expr.specs.declared.values.Value.{Value}
use Rattle.fx_expr.specs.Scope.{value_at}
use Rattle.fx_expr.specs.Value.{value_eq}
use Rattle.widget_model.specs.Plain.{PlainWidget, look_of}
use Rattle.plain_tree.specs.PlainNode.{PlainNode, node, PlainNodes, no_nodes, more_nodes}
use Rattle.build_form.specs.BuildRole.{BuildRole, composes, provides, keeps, lists, holds, build_role_of}
use Rattle.build_form.specs.Entering.{values_by, values_below}
use Rattle.build_walk.specs.Counting.{is_built_reader}
use Rattle.build_walk.specs.Past.{is_marked}
use Rattle.work_sets.specs.Due.{names_read, has_other_value}
use Rattle.work_sets.specs.Entered.{Entered}
use Rattle.work_sets.specs.Members.{is_same_widget}
use Rattle.settled_builds.specs.Regiven.{is_read, is_given, readers_of, readers_in}
use Rattle.settled_builds.proofs.Entries.{SomeNode, SomeNodeIn, At, IsEntry, all_as_they_are}
use Rattle.settled_builds.proofs.Less.{IsLike, AreRelated, like_built}
use Rattle.settled_builds.proofs.Regived.{marked_neither, marked_either, differ_below, same_below}
use Rattle.settled_builds.proofs.Values.{DifferAt, differ_other, set_there}

-- ---- a reader was entered with the value that the Inherit gave

module _ (k name : ℕ) (was : Value) where
  abbrev pub ReadIt : PlainWidget → List Value → Type 0
  ReadIt w vs = (is_read name (names_read (look_of w)) ≡ true) × (value_at vs name ≡ was)

  stays : (p : BuildRole) (vs : List Value) → is_given name p ≡ false → value_at vs name ≡ was → value_at (values_by p vs) name ≡ was
  stays (composes i ps) vs g e = e
  stays (provides j v) vs g e = set_there name j vs v _ (eqb-false j name g) ∙ e
  stays (keeps kept) vs g e = e
  stays (lists extent) vs g e = e
  stays holds vs g e = e

  none_marked : {X : Type 0} → is_marked [] k ≡ true → X
  none_marked e = cc

  under : (g : Bool) (w : PlainWidget) (values : List Value) (ns : PlainNodes) → is_given name (build_role_of (look_of w)) ≡ g → value_at values name ≡ was
      → (value_at (values_below w values) name ≡ was → is_marked (readers_in name ns) k ≡ true → SomeNodeIn (At k ReadIt) (values_below w values) ns)
      → is_marked (cond g [] (readers_in name ns)) k ≡ true → SomeNodeIn (At k ReadIt) (values_below w values) ns
  under true w values ns is e step m = none_marked m
  under false w values ns is e step m = step (stays (build_role_of (look_of w)) values is e) m

  read_by : (number : ℕ) (w : PlainWidget) (values : List Value) (ns : PlainNodes) → value_at values name ≡ was → (g : Bool) → is_given name (build_role_of (look_of w)) ≡ g
      → (value_at (values_below w values) name ≡ was → is_marked (readers_in name ns) k ≡ true → SomeNodeIn (At k ReadIt) (values_below w values) ns)
      → (r : Bool) → is_read name (names_read (look_of w)) ≡ r → (is_marked (cond r (number ∷ []) []) k ≡ true) ⊎ (is_marked (cond g [] (readers_in name ns)) k ≡ true)
      → At k ReadIt number w values ⊎ SomeNodeIn (At k ReadIt) (values_below w values) ns
  read_by number w values ns e g given step true is (inl m) = inl (eqb-true number k (or_false (number == k) m), (is, e))
    where
      or_false : (b : Bool) → (b || false) ≡ true → b ≡ true
      or_false true m = refl
      or_false false m = cc
  read_by number w values ns e g given step false is (inl m) = none_marked m
  read_by number w values ns e g given step r is (inr m) = inr (under g w values ns given e step m)

  mutual
    read_there : (values : List Value) (n : PlainNode) → value_at values name ≡ was → is_marked (readers_of name n) k ≡ true → SomeNode (At k ReadIt) values n
    read_there values (node number w fs s i ns) e m =
        read_by number w values ns e (is_given name (build_role_of (look_of w))) refl (λ f x. all_read_there (values_below w values) ns f x) (is_read name (names_read (look_of w))) refl
        (marked_either k (cond (is_read name (names_read (look_of w))) (number ∷ []) []) (cond (is_given name (build_role_of (look_of w))) [] (readers_in name ns)) m)

    pub all_read_there : (values : List Value) (ns : PlainNodes) → value_at values name ≡ was → is_marked (readers_in name ns) k ≡ true → SomeNodeIn (At k ReadIt) values ns
    all_read_there values no_nodes e m = none_marked m
    all_read_there values (more_nodes n ns) e m = elim (marked_either k (readers_of name n) (readers_in name ns) m) [
      | inl x ↦ inl (read_there values n e x)
      | inr x ↦ inr (all_read_there values ns e x)
    ]

-- ---- what is no reader was entered with the same values but for that name

-- it has the same widget and the same values, or others but for a component; or values that differ in a name that it doesn't read
abbrev pub IsNear : ℕ → Entered → PlainWidget → List Value → Type 0
IsNear name x w vs = IsLike x w vs ⊎ ((w ≡ x.widget) × DifferAt name x.values vs × (is_read name (names_read (look_of x.widget)) ≡ false))

module _ (k name : ℕ) (x : Entered) where
  pub near_same : (j : ℕ) (v : PlainWidget) (vs : List Value) → IsEntry k x j v vs → At k (IsNear name x) j v vs
  near_same j v vs h = (h.0, inl (inl h.1))

  pub near_other : (j : ℕ) (v u : PlainWidget) (vs : List Value) → names_read (look_of v) ≡ None → names_read (look_of u) ≡ None → IsEntry k x j v vs → At k (IsNear name x) j u vs
  near_other j v u vs was is h = (h.0, inl (inr (subst (λ (y : PlainWidget). names_read (look_of y) ≡ None) h.1.0 was, is)))

  unread : (number : ℕ) (r : Bool) (rs : List ℕ) → number ≡ k → is_marked (cond r (number ∷ []) [] ++ rs) k ≡ false → r ≡ false
  unread number true rs e m = wrong (number == k) (is_marked rs k) (eq-eqb number k e) m
    where
      wrong : (a b : Bool) → a ≡ true → (a || b) ≡ false → true ≡ false
      wrong true b e f = f
      wrong false b e f = cc
  unread number false rs e m = refl

  near_by : (vs ws : List Value) (number : ℕ) (w : PlainWidget) (ns : PlainNodes) → DifferAt name vs ws
      → (DifferAt name (values_below w vs) (values_below w ws) → is_marked (readers_in name ns) k ≡ false → SomeNodeIn (IsEntry k x) (values_below w vs) ns → SomeNodeIn (At k (IsNear name x)) (values_below w ws) ns)
      → (g : Bool) → is_given name (build_role_of (look_of w)) ≡ g → is_marked (cond (is_read name (names_read (look_of w))) (number ∷ []) [] ++ cond g [] (readers_in name ns)) k ≡ false
      → IsEntry k x number w vs ⊎ SomeNodeIn (IsEntry k x) (values_below w vs) ns → At k (IsNear name x) number w ws ⊎ SomeNodeIn (At k (IsNear name x)) (values_below w ws) ns
  near_by vs ws number w ns d step g given m (inl h) =
      let none = unread number (is_read name (names_read (look_of w))) (cond g [] (readers_in name ns)) h.0 m in
      inl (h.0, inr (h.1.0, subst (λ us. DifferAt name us ws) h.1.1 d, ap (λ (y : PlainWidget). is_read name (names_read (look_of y))) (sym h.1.0) ∙ none))
  near_by vs ws number w ns d step true given m (inr h) =
      inr (subst (λ us. SomeNodeIn (At k (IsNear name x)) us ns) (same_below (build_role_of (look_of w)) name vs ws given d) (all_as_they_are (IsEntry k x) (At k (IsNear name x)) near_same near_other (values_below w vs) ns h))
  near_by vs ws number w ns d step false given m (inr h) =
      inr (step (differ_below (build_role_of (look_of w)) name vs ws d) (marked_neither k (cond (is_read name (names_read (look_of w))) (number ∷ []) []) (readers_in name ns) m).1 h)

  mutual
    near : (vs ws : List Value) (n : PlainNode) → DifferAt name vs ws → is_marked (readers_of name n) k ≡ false → SomeNode (IsEntry k x) vs n → SomeNode (At k (IsNear name x)) ws n
    near vs ws (node number w fs s i ns) d m h =
        near_by vs ws number w ns d (λ e f y. all_near (values_below w vs) (values_below w ws) ns e f y) (is_given name (build_role_of (look_of w))) refl m h

    pub all_near : (vs ws : List Value) (ns : PlainNodes) → DifferAt name vs ws → is_marked (readers_in name ns) k ≡ false → SomeNodeIn (IsEntry k x) vs ns → SomeNodeIn (At k (IsNear name x)) ws ns
    all_near vs ws no_nodes d m h = absurd h
    all_near vs ws (more_nodes n ns) d m (inl h) = inl (near vs ws n d (marked_neither k (readers_of name n) (readers_in name ns) m).0 h)
    all_near vs ws (more_nodes n ns) d m (inr h) = inr (all_near vs ws ns d (marked_neither k (readers_of name n) (readers_in name ns) m).1 h)

-- ---- whether they are built

module _ (equal : (v w : PlainWidget) → is_same_widget v w ≡ true → v ≡ w) (name : ℕ) where
  abbrev pub NearOptions : Option Entered → Option Entered → Type 0
  NearOptions o u = AreRelated (IsNear name) o u

  or_none : (a b : Bool) → (a || b) ≡ false → (a ≡ false) × (b ≡ false)
  or_none true b e = cc
  or_none false b e = (refl, e)

  never : (b : Bool) → b ≡ true → b ≡ false → ⊥
  never b t f = cc

  -- names that aren't that one have the same values
  same_others : (x y e : Entered) (names : List ℕ) → DifferAt name x.values y.values → list_any (λ j. j == name) names ≡ false → list_any (has_other_value x e) names ≡ list_any (has_other_value y e) names
  same_others x y e [] d n = refl
  same_others x y e (j ∷ names) d n =
      let parts = or_none (j == name) (list_any (λ i. i == name) names) n in
      let here = differ_other name j x.values y.values _ d (λ is. never (j == name) (eq-eqb j name is) parts.0) in
      (λ i. not (value_eq (here i) (value_at e.values j)) || same_others x y e names d parts.1 i)

  either_same : (a b c d e : Bool) → a ≡ b → (c ≡ false → d ≡ e) → (a || (c || d)) ≡ (b || (c || e))
  either_same a b true d e h g = ap (λ z. z || true) h
  either_same a b false d e h g = λ i. h i || g refl i

  same_not : (b : Bool) → not b ≡ false → b ≡ true
  same_not true e = refl
  same_not false e = cc

  pub near_built : (r : Option (List ℕ)) (o u : Option Entered) (marks left : List ℕ) (e : Entered) → names_read (look_of e.widget) ≡ r → NearOptions o u → is_marked marks e.number ≡ is_marked left e.number → is_built_reader r o marks e ≡ is_built_reader r u left e
  near_built r None None marks left e is near same = like_built equal r None None marks left e is tt same
  near_built r None (Some y) marks left e is near same = absurd near
  near_built r (Some x) None marks left e is near same = absurd near
  near_built r (Some x) (Some y) marks left e is (inl like) same = like_built equal r (Some x) (Some y) marks left e is like same
  near_built None (Some x) (Some y) marks left e is (inr h) same = refl
  near_built (Some names) (Some x) (Some y) marks left e is (inr h) same =
      either_same (is_marked marks e.number) (is_marked left e.number) (not (is_same_widget x.widget e.widget)) (list_any (has_other_value x e) names) (list_any (has_other_value y e) names) same (λ n.
      let widget : x.widget ≡ e.widget = equal x.widget e.widget (same_not (is_same_widget x.widget e.widget) n) in
      let reads : names_read (look_of x.widget) ≡ Some names = ap (λ (v : PlainWidget). names_read (look_of v)) widget ∙ is in
      same_others x y e names h.1 (sym (ap (is_read name) reads) ∙ h.2))
      ∙ ap (λ (v : PlainWidget). is_marked left e.number || (not (is_same_widget v e.widget) || list_any (has_other_value y e) names)) (sym h.0)

  -- a reader is built, since the name has another value
  or_true : (p q : Bool) → p ≡ true → (p || q) ≡ true
  or_true true q e = refl
  or_true false q e = cc

  or_later : (p q : Bool) → q ≡ true → (p || q) ≡ true
  or_later true q e = refl
  or_later false q e = e

  other_here : (x e : Entered) (was now : Value) (j : ℕ) (names : List ℕ) → value_at x.values name ≡ was → value_at e.values name ≡ now → value_eq was now ≡ false
      → (list_any (λ i. i == name) names ≡ true → list_any (has_other_value x e) names ≡ true) → (h : Bool) → (j == name) ≡ h → (h || list_any (λ i. i == name) names) ≡ true → list_any (has_other_value x e) (j ∷ names) ≡ true
  other_here x e was now j names a b c step true is m =
      or_true (has_other_value x e j) (list_any (has_other_value x e) names)
      (ap (λ (i : ℕ). not (value_eq (value_at x.values i) (value_at e.values i))) (eqb-true j name is) ∙ (λ i. not (value_eq (a i) (b i))) ∙ ap not c)
  other_here x e was now j names a b c step false is m = or_later (has_other_value x e j) (list_any (has_other_value x e) names) (step m)

  other_there : (x e : Entered) (was now : Value) (names : List ℕ) → value_at x.values name ≡ was → value_at e.values name ≡ now → value_eq was now ≡ false → list_any (λ j. j == name) names ≡ true → list_any (has_other_value x e) names ≡ true
  other_there x e was now [] a b c n = n
  other_there x e was now (j ∷ names) a b c n = other_here x e was now j names a b c (λ m. other_there x e was now names a b c m) (j == name) refl n

  pub reader_built : (r : Option (List ℕ)) (x e : Entered) (was now : Value) (marks : List ℕ) → names_read (look_of e.widget) ≡ r → is_read name (names_read (look_of x.widget)) ≡ true → value_at x.values name ≡ was → value_at e.values name ≡ now
      → value_eq was now ≡ false → is_built_reader r (Some x) marks e ≡ is_some r
  reader_built None x e was now marks is reads a b c = refl
  reader_built (Some names) x e was now marks is reads a b c = or_later (is_marked marks e.number) _ (by_same (is_same_widget x.widget e.widget) refl)
    where
      by_same : (s : Bool) → is_same_widget x.widget e.widget ≡ s → (not s || list_any (has_other_value x e) names) ≡ true
      by_same true same =
          other_there x e was now names a b c (sym (ap (is_read name) (ap (λ (v : PlainWidget). names_read (look_of v)) (equal x.widget e.widget same) ∙ is)) ∙ reads)
      by_same false same = refl

  pub some_built : (r : Option (List ℕ)) (u : Option Entered) (left : List ℕ) (e : Entered) → is_marked left e.number ≡ true → is_built_reader r u left e ≡ is_some r
  some_built None u left e m = refl
  some_built (Some names) None left e m = refl
  some_built (Some names) (Some y) left e m = or_true (is_marked left e.number) _ m
