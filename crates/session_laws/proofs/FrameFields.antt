-- The fields of a node that is still there after a frame are those that the frame was built from.
use Rattle.std.proofs.Common.{◌≡◌, ℕ, ◌<◌, ◌==◌, eqb, Bool, true, false, inl, inr, Option, Some, None, IfSome, option_map, option_and_then, List, [], ◌∷◌, ◌++◌, slice_get, refl, sym, ap, subst, ◌∙◌, if◌then◌else◌, arith}
use Rattle.std.specs.Prelude.{Contains}
use Rattle.std.specs.Option.{option_or}
use borrow.Author.Tests.{eqb-true, eqb-false}
use Rattle.std.proofs.lemmas.List.Elements.{Contains-append_left, Contains-append_right, Contains-append_cases, All-contains}
use Rattle.fx_expr.specs.declared.values.Ty.{Ty}
use Rattle.fx_expr.specs.declared.values.Value.{Value}
use Rattle.expr_check.specs.Names.{place_of}
use Rattle.widget_model.specs.declared.decl.Decl.{Decl}
use Rattle.widget_model.specs.Look.{Look, viewport, component}
use Rattle.widget_model.specs.Plain.{PlainWidget, plain, Widgets, look_of}
use Rattle.widget_keys.specs.declared.keys.Key.{Key}
use Rattle.widget_model.specs.Typed.{Declarations, IsUse, sorts_of, IsTypedWidget}
use Rattle.widget_model.specs.UpdateLaws.{type_eq-Decides}
use Rattle.widget_model.specs.WidgetType.{type_of, type_eq}
use Rattle.template_build.specs.Program.{declarations_of}
use Rattle.template_build.specs.Scene.{declaration_in, declaration_at}
use Rattle.plain_tree.specs.At.{node_at, node_in, numbers_of, numbers_in}
use Rattle.plain_tree.specs.Offsets.{offset_at, scrolled_by, all_scrolled_by}
use Rattle.plain_tree.specs.PlainNode.{PlainNode, node, PlainNodes, no_nodes, more_nodes, widget_of, fields_of, number_of, scroll_of}
use Rattle.plain_tree.specs.States.{declared_state, state_of, own_state}
use Rattle.build_form.specs.WellBuilt.{IsWellBuilt}
use Rattle.session_form.specs.Framing.{screen_of, laid_of, framed}
use Rattle.session_form.specs.Handlers.{node_in as node_of}
use Rattle.session_form.specs.State.{SessionState}
use Rattle.session_form.proofs.SetLemmas.{number_found, built_found}
use Rattle.frame_session.proofs.LikeLemmas.{like_scrolled}
use Rattle.live_session.specs.Fields.{field_of, field_at, field_in}
use Rattle.session_laws.specs.Focus.{IsThere}
use Rattle.session_laws.specs.Numbers.{TellApart, HasNumbers}
use Rattle.session_laws.specs.Sound.{IsSoundState}
use Rattle.build_form.specs.Program.{blueprint_of}
use Rattle.build_form.specs.Entering.{Blueprint}
use Rattle.build_form.specs.KeptStates.{HadState, HadOrIsNew, EachIs, AllAre}
use Rattle.session_laws.proofs.Lists.{like_numbers}
use Rattle.session_laws.proofs.WayLemmas.{first_in, cons_cases, later_in, none_in}

-- ---- a field, by the type of the widget and the program's declarations

abbrev place_used : Look → Option ℕ
place_used (component place props d) = Some place
place_used _ = None

-- kinds of one type use one component, or none
the_use : (a : Look) (p : ℕ) → place_used a ≡ Some p → (v : List Value) × (d : Decl) × (a ≡ component p v d)
the_use (component q v d) p e = (v, d, cc)
the_use _ p e = cc

no_use : (a : Look) (q : ℕ) (v : List Value) (d : Decl) → place_used a ≡ None → type_eq (type_of a) (type_of (component q v d)) ≡ true → ⊥
no_use (component p u e) q v d none same = cc
no_use _ q v d none same = cc

no_use_after : (b : Look) (q : ℕ) (v : List Value) (d : Decl) → place_used b ≡ None → type_eq (type_of (component q v d)) (type_of b) ≡ true → ⊥
no_use_after (component p u e) q v d none same = cc
no_use_after _ q v d none same = cc

same_use : (a b : Look) (x y : Option ℕ) → place_used a ≡ x → place_used b ≡ y → type_eq (type_of a) (type_of b) ≡ true → x ≡ y
same_use a b None None of_a of_b same = refl
same_use a b None (Some q) of_a of_b same =
    let u = the_use b q of_b in absurd (no_use a q u.0 u.1 of_a (subst (λ l. type_eq (type_of a) (type_of l) ≡ true) u.2 same))
same_use a b (Some p) None of_a of_b same =
    let u = the_use a p of_a in absurd (no_use_after b p u.0 u.1 of_b (subst (λ l. type_eq (type_of l) (type_of b) ≡ true) u.2 same))
same_use a b (Some p) (Some q) of_a of_b same =
    let u = the_use a p of_a in
    let v = the_use b q of_b in
    let here : eqb p q ≡ true = subst (λ l. type_eq (type_of (component p u.0 u.1)) (type_of l) ≡ true) v.2 (subst (λ l. type_eq (type_of l) (type_of b) ≡ true) u.2 same) in
    ap Some (eqb-true p q here)

abbrev field_with : Declarations → Option ℕ → List Value → List ℕ → Option Value
field_with d None fields name = None
field_with d (Some place) fields name = field_of (declared_state 0 (declaration_at d place) fields) name

declared_field : (number : ℕ) (a b : Decl) (fields : List Value) (name : List ℕ) → a ≡ b → field_of (declared_state number a fields) name ≡ field_of (declared_state 0 b fields) name
declared_field number a b [] name e = refl
declared_field number a b (v ∷ vs) name e = ap (λ (d : Decl). option_and_then (λ (place : ℕ × Ty). slice_get (v ∷ vs) place.0) (place_of d.fields name)) e

typed_field : (D : Declarations) (look : Look) (k : Key Value) (slots ch : Widgets) (number scroll : ℕ) (fields : List Value) (name : List ℕ) → IsTypedWidget D (plain look k slots ch)
    → field_of (state_of look number fields scroll) name ≡ field_with D (place_used look) fields name
typed_field D (component place props d) k slots ch number scroll fields name t =
    let used : IsUse D place props d (sorts_of D slots) = t.filled in
    declared_field number d (declaration_at D place) fields name (used.declared ∙ sym (ap (λ o. declaration_in o) used.named))
typed_field D (viewport axis) k slots ch number scroll fields name t = refl
typed_field D _ k slots ch number scroll fields name t = refl

node_field : (D : Declarations) (m : PlainNode) (name : List ℕ) → IsWellBuilt D m → field_of (own_state m) name ≡ field_with D (place_used (look_of (widget_of m))) (fields_of m) name
node_field D (node number (plain look k slots ch) fields scroll index ns) name h = typed_field D look k slots ch number scroll fields name h.0.typed

-- ---- of a node that survived

module _ (R : ℕ → PlainWidget → List Value → ℕ → Type 0) (k : ℕ) where
  each_by : (b : Bool) (n m : PlainNode) (o : Option PlainNode) → EachIs R n → (o ≡ Some m → R (number_of m) (widget_of m) (fields_of m) (scroll_of m)) → (if b then Some n else o) ≡ Some m
      → R (number_of m) (widget_of m) (fields_of m) (scroll_of m)
  each_by true (node number w fs s i ns) m o h below e = let same : node number w fs s i ns ≡ m = cc in subst (λ (x : PlainNode). R (number_of x) (widget_of x) (fields_of x) (scroll_of x)) same h.0
  each_by false n m o h below e = below e

  first_by : (o rest : Option PlainNode) (m : PlainNode) → (o ≡ Some m → R (number_of m) (widget_of m) (fields_of m) (scroll_of m)) → (rest ≡ Some m → R (number_of m) (widget_of m) (fields_of m) (scroll_of m))
      → option_or o rest ≡ Some m → R (number_of m) (widget_of m) (fields_of m) (scroll_of m)
  first_by None rest m here later e = later e
  first_by (Some n) rest m here later e = here e

  mutual
    each_found : (t m : PlainNode) → EachIs R t → node_at k t ≡ Some m → R (number_of m) (widget_of m) (fields_of m) (scroll_of m)
    each_found (node number w fs s i ns) m h e = each_by (number == k) (node number w fs s i ns) m (node_in k ns) h (each_found_in ns m h.1) e

    each_found_in : (ns : PlainNodes) (m : PlainNode) → AllAre R ns → node_in k ns ≡ Some m → R (number_of m) (widget_of m) (fields_of m) (scroll_of m)
    each_found_in no_nodes m h e = cc
    each_found_in (more_nodes n ns) m h e = first_by (node_at k n) (node_in k ns) m (each_found n m h.0) (each_found_in ns m h.1) e

surviving : (D : Declarations) (s : SessionState) (k : ℕ) (m : PlainNode) (name : List ℕ) (old : Option PlainNode) → IfSome old (IsWellBuilt D) → IsWellBuilt D m
    → HadState old k (widget_of m) (fields_of m) (scroll_of m) → field_of (own_state m) name ≡ field_at (node_of old k) name
surviving D s k m name None was well had = absurd had
surviving D s k m name (Some t) was well had =
    let before = had.0 in
    let types = same_use (look_of (widget_of before)) (look_of (widget_of m)) (place_used (look_of (widget_of before))) (place_used (look_of (widget_of m))) refl refl ((type_eq-Decides (type_of (look_of (widget_of before))) (type_of (look_of (widget_of m)))).1 had.2.type) in
    node_field D m name well
    ∙ ap (λ u. field_with D u (fields_of m) name) (sym types)
    ∙ ap (λ fs. field_with D (place_used (look_of (widget_of before))) fs name) had.3
    ∙ sym (node_field D before name (built_found D k t before was had.1))
    ∙ sym (ap (λ o. field_at o name) had.1)

old_state : (b : Blueprint) (old : Option PlainNode) (next k : ℕ) (w : PlainWidget) (fields : List Value) (scroll : ℕ) → k < next → HadOrIsNew b old next k w fields scroll
    → HadState old k w fields scroll
old_state b old next k w fields scroll low (inl had) = had
old_state b old next k w fields scroll low (inr new) = let high = new.number_free in absurd (omega arith)

-- of the tree that a build gives
pub built_field : (s : SessionState) (tree m : PlainNode) (k : ℕ) (name : List ℕ) → IsSoundState s → IsWellBuilt (declarations_of s.program) tree → EachIs (HadOrIsNew (blueprint_of s.program) s.tree s.next) tree
    → k < s.next → node_at k tree ≡ Some m → field_at (Some m) name ≡ field_in s k name
built_field s tree m k name sound well states low found =
    let D = declarations_of s.program in
    let number : number_of m ≡ k = number_found k tree m found in
    let state = subst (λ n. HadOrIsNew (blueprint_of s.program) s.tree s.next n (widget_of m) (fields_of m) (scroll_of m)) number (each_found (HadOrIsNew (blueprint_of s.program) s.tree s.next) k tree m states found) in
    surviving D s k m name s.tree sound.tree (built_found D k tree m well found) (old_state (blueprint_of s.program) s.tree s.next k (widget_of m) (fields_of m) (scroll_of m) low state)

-- ---- offsets leave fields

scroll_free : (look : Look) (number scroll other : ℕ) (fields : List Value) (name : List ℕ) → field_of (state_of look number fields scroll) name ≡ field_of (state_of look number fields other) name
scroll_free (viewport axis) number scroll other fields name = refl
scroll_free (component place props d) number scroll other [] name = refl
scroll_free (component place props d) number scroll other (v ∷ vs) name = refl
scroll_free _ number scroll other fields name = refl

module _ (name : List ℕ) (k : ℕ) (o : ℕ → Option ℕ) where
  abbrev seen : Option PlainNode → Option (Option Value)
  seen p = option_map (λ n. field_of (own_state n) name) p

  seen_by : (b : Bool) (x y : PlainNode) (p q : Option PlainNode) → field_of (own_state x) name ≡ field_of (own_state y) name → seen p ≡ seen q → seen (if b then Some x else p) ≡ seen (if b then Some y else q)
  seen_by true x y p q e h = ap Some e
  seen_by false x y p q e h = h

  seen_or : (a b c d : Option PlainNode) → seen a ≡ seen b → seen c ≡ seen d → seen (option_or a c) ≡ seen (option_or b d)
  seen_or None None c d e h = h
  seen_or None (Some y) c d e h = cc
  seen_or (Some x) None c d e h = cc
  seen_or (Some x) (Some y) c d e h = e

  mutual
    seen_scrolled : (t : PlainNode) → seen (node_at k (scrolled_by o t)) ≡ seen (node_at k t)
    seen_scrolled (node number w fs s i ns) =
        seen_by (number == k) (scrolled_by o (node number w fs s i ns)) (node number w fs s i ns) (node_in k (all_scrolled_by o ns)) (node_in k ns)
        (scroll_free (look_of w) number _ s fs name) (seen_scrolled_in ns)

    seen_scrolled_in : (ns : PlainNodes) → seen (node_in k (all_scrolled_by o ns)) ≡ seen (node_in k ns)
    seen_scrolled_in no_nodes = refl
    seen_scrolled_in (more_nodes n ns) =
        seen_or (node_at k (scrolled_by o n)) (node_at k n) (node_in k (all_scrolled_by o ns)) (node_in k ns) (seen_scrolled n) (seen_scrolled_in ns)

some_of : {A : Type 0} {x y : A} → Some x ≡ Some y → x ≡ y
some_of e = cc

seen_field : (name : List ℕ) (k : ℕ) (o : ℕ → Option ℕ) (a b : Option PlainNode) → seen name k o a ≡ seen name k o b → field_at a name ≡ field_at b name
seen_field name k o None None e = refl
seen_field name k o None (Some y) e = cc
seen_field name k o (Some x) None e = cc
seen_field name k o (Some x) (Some y) e = some_of e

-- ---- a number of a tree is found there

by_own : (b : Bool) (n : PlainNode) (o : Option PlainNode) → (b ≡ false → (m : PlainNode) × (o ≡ Some m)) → (m : PlainNode) × ((if b then Some n else o) ≡ Some m)
by_own true n o h = (n, refl)
by_own false n o h = h refl

by_first : (o rest : Option PlainNode) → ((m : PlainNode) × (rest ≡ Some m)) → (m : PlainNode) × (option_or o rest ≡ Some m)
by_first None rest h = h
by_first (Some n) rest h = (n, refl)

mutual
  pub there_found : (k : ℕ) (t : PlainNode) → Contains (numbers_of t) k → (m : PlainNode) × (node_at k t ≡ Some m)
  there_found k (node number w fs s i ns) h =
      by_own (number == k) (node number w fs s i ns) (node_in k ns)
      (λ other. elim (cons_cases number (numbers_in ns) k h) [ inl here ↦ absurd (eqb-false number k other here) | inr below ↦ there_found_in k ns below ])

  there_found_in : (k : ℕ) (ns : PlainNodes) → Contains (numbers_in ns) k → (m : PlainNode) × (node_in k ns ≡ Some m)
  there_found_in k no_nodes h = absurd (none_in k h)
  there_found_in k (more_nodes n ns) h =
      elim (Contains-append_cases (numbers_of n) (numbers_in ns) k h) [
        | inl here ↦ (let f = there_found k n here in (f.0, ap (λ o. option_or o (node_in k ns)) f.1))
        | inr later ↦ by_first (node_at k n) (node_in k ns) (there_found_in k ns later)
      ]

-- ---- and one that is found is a number of it

in_by : (b : Bool) (number k : ℕ) (n m : PlainNode) (ns : PlainNodes) → (number == k) ≡ b → (node_in k ns ≡ Some m → Contains (numbers_in ns) k) → (if b then Some n else node_in k ns) ≡ Some m
    → Contains (number ∷ numbers_in ns) k
in_by true number k n m ns test below e = subst (Contains (number ∷ numbers_in ns)) (eqb-true number k test) (first_in number (numbers_in ns))
in_by false number k n m ns test below e = later_in number (numbers_in ns) k (below e)

in_first : (o rest : Option PlainNode) (m : PlainNode) (G : Type 0) → (o ≡ Some m → G) → (rest ≡ Some m → G) → option_or o rest ≡ Some m → G
in_first None rest m G here later e = later e
in_first (Some n) rest m G here later e = here e

mutual
  pub found_there : (k : ℕ) (t m : PlainNode) → node_at k t ≡ Some m → Contains (numbers_of t) k
  found_there k (node number w fs s i ns) m e = in_by (number == k) number k (node number w fs s i ns) m ns refl (found_there_in k ns m) e

  found_there_in : (k : ℕ) (ns : PlainNodes) (m : PlainNode) → node_in k ns ≡ Some m → Contains (numbers_in ns) k
  found_there_in k no_nodes m e = cc
  found_there_in k (more_nodes n ns) m e =
      in_first (node_at k n) (node_in k ns) m (Contains (numbers_of n ++ numbers_in ns) k)
      (λ here. Contains-append_left (numbers_of n) (numbers_in ns) k (found_there k n m here)) (λ later. Contains-append_right (numbers_of n) (numbers_in ns) k (found_there_in k ns m later)) e

-- so its number is below the next free one
below_of : (o : Option PlainNode) (next k : ℕ) (m : PlainNode) → IfSome o (λ t. TellApart next (numbers_of t)) → node_of o k ≡ Some m → k < next
below_of None next k m h e = cc
below_of (Some t) next k m h e = All-contains (λ n. n < next) (numbers_of t) k h.below (found_there k t m e)

field_there : (o : Option PlainNode) (name : List ℕ) (v : Value) → field_at o name ≡ Some v → (m : PlainNode) × (o ≡ Some m)
field_there None name v e = cc
field_there (Some m) name v e = (m, refl)

pub field_below : (s : SessionState) (k : ℕ) (name : List ℕ) (v : Value) → HasNumbers s → field_in s k name ≡ Some v → k < s.next
field_below s k name v h e = let at = field_there (node_of s.tree k) name v e in below_of s.tree s.next k at.0 h.tree at.1

scrolled_numbers : (o : ℕ → Option ℕ) (t : PlainNode) → numbers_of (scrolled_by o t) ≡ numbers_of t
scrolled_numbers o t = like_numbers t (scrolled_by o t) (like_scrolled o t)

-- ---- after a frame

pub framed_field : (s : SessionState) (tree : PlainNode) (next k : ℕ) (name : List ℕ) → IsSoundState s → IsWellBuilt (declarations_of s.program) tree → EachIs (HadOrIsNew (blueprint_of s.program) s.tree s.next) tree
    → k < s.next → IsThere (framed s tree next).tree k → field_in (framed s tree next) k name ≡ field_in s k name
framed_field s tree next k name sound well states low there =
    let offsets : ℕ → Option ℕ = λ number. offset_at number (laid_of (screen_of s) tree) in
    let now = scrolled_by offsets tree in
    let after : field_at (node_at k now) name ≡ field_at (node_at k tree) name = seen_field name k offsets (node_at k now) (node_at k tree) (seen_scrolled name k offsets tree) in
    let found = there_found k tree (subst (λ l. Contains l k) (scrolled_numbers offsets tree) there) in
    after ∙ ap (λ o. field_at o name) found.1 ∙ built_field s tree found.0 k name sound well states low found.1

-- and the node was there before
had_node : (old : Option PlainNode) (k : ℕ) (w : PlainWidget) (fields : List Value) (scroll : ℕ) → HadState old k w fields scroll → (was : PlainNode) × (node_of old k ≡ Some was)
had_node None k w fields scroll had = absurd had
had_node (Some t) k w fields scroll had = (had.0, had.1)

pub still_there : (s : SessionState) (tree : PlainNode) (next k : ℕ) → EachIs (HadOrIsNew (blueprint_of s.program) s.tree s.next) tree → k < s.next → IsThere (framed s tree next).tree k
    → (was : PlainNode) × (node_of s.tree k ≡ Some was)
still_there s tree next k states low there =
    let offsets : ℕ → Option ℕ = λ number. offset_at number (laid_of (screen_of s) tree) in
    let found = there_found k tree (subst (λ l. Contains l k) (scrolled_numbers offsets tree) there) in
    let m = found.0 in
    let number : number_of m ≡ k = number_found k tree m found.1 in
    let state = subst (λ n. HadOrIsNew (blueprint_of s.program) s.tree s.next n (widget_of m) (fields_of m) (scroll_of m)) number (each_found (HadOrIsNew (blueprint_of s.program) s.tree s.next) k tree m states found.1) in
    had_node s.tree k (widget_of m) (fields_of m) (scroll_of m) (old_state (blueprint_of s.program) s.tree s.next k (widget_of m) (fields_of m) (scroll_of m) low state)
