-- What comes of a widget that is entered.
use Rattle.std.proofs.Common.{◌≡◌, ℕ, zero, suc, eqb, nat_le, Bool, true, false, cond, Option, Some, None, IfSome, List, [], ◌∷◌, ◌++◌, map, refl, sym, ap, ◌∙◌, subst, arith}
use Rattle.std.specs.List.{All, find}
use Rattle.fx_expr.specs.declared.values.Value.{Value}
use Rattle.widget_keys.specs.declared.keys.Key.{Key}
use Rattle.widget_model.specs.Look.{Look}
use Rattle.widget_model.specs.Plain.{PlainWidget, widgets_of, look_of, key_of}
use Rattle.widget_model.specs.Plain.{children_of as child_widgets}
use Rattle.widget_model.specs.Typed.{Declarations, IsTypedWidget, AreTypedWidgets, sort_of, sorts_of}
use Rattle.reconcile.specs.Keys.{NoKeyRepeats}
use Rattle.reconcile.specs.Matching.{matching}
use Rattle.plain_tree.specs.PlainNode.{PlainNode, node, PlainNodes, no_nodes, more_nodes, nodes_of, widget_of, index_of}
use Rattle.plain_tree.specs.PlainNode.{list_of as nodes_in}
use Rattle.build_form.specs.Step.{Fault, Progress, Step, stops, gives, and_then, tree_too_large}
use Rattle.build_form.specs.BuildRole.{BuildRole, composes, provides, keeps, lists, holds, build_role_of, is_lazy}
use Rattle.build_form.specs.Partner.{Arrival, arrival, partner_of, arrivals_from, arrivals, node_at_any, nodes_had, widgets_had, widgets_below}
use Rattle.build_form.specs.Entering.{Blueprint, Basis, Phase, first, second, met_once, number_for, fields_for, counted, given_by, first_repeated, unless_repeated, apart, waits, Opening, opening, opened, entered_below, made, enter}
use Rattle.build_form.specs.WellBuilt.{FitFields, FitBelow, sorts_in, IsWellBuilt, AreWellBuilt, IsTypedArrival, AreBelow}
use Rattle.build_form.proofs.Below.{list_of-nodes_of}
use Rattle.build_form.proofs.Typing.{sorts_listed}

-- ---- the steps of the definition

module _ (from : Basis) (phase : Phase) (left k : ℕ) (values : List Value) (a : Arrival) (s : Progress) where
  pub enter_no_deeper : left ≡ 0 → enter from phase left values a s ≡ stops tree_too_large
  unfolding enter
  enter_no_deeper e = rw e refl

  pub enter_not_opened : (f : Fault) → left ≡ suc k → opened from values a s ≡ stops f → enter from phase left values a s ≡ stops f
  unfolding enter
  enter_not_opened f e stopped =
      ap (λ l. enter from phase l values a s) e
      ∙ ap (λ r. and_then r (λ o s1. and_then (entered_below (enter from phase k) phase values a.widget o s1) (λ ns s2. gives (made a o ns) s2))) stopped

  module _ (o : Opening) (t : Progress) (is : left ≡ suc k) (was : opened from values a s ≡ gives o t) where
    pub enter_not_below : (f : Fault) → entered_below (enter from phase k) phase values a.widget o t ≡ stops f → enter from phase left values a s ≡ stops f
    unfolding enter
    enter_not_below f stopped =
        ap (λ l. enter from phase l values a s) is
        ∙ ap (λ r. and_then r (λ o1 s1. and_then (entered_below (enter from phase k) phase values a.widget o1 s1) (λ ns s2. gives (made a o1 ns) s2))) was
        ∙ ap (λ r. and_then r (λ ns s2. gives (made a o ns) s2)) stopped

    pub enter_all_done : (ns : List PlainNode) (u : Progress) → entered_below (enter from phase k) phase values a.widget o t ≡ gives ns u → enter from phase left values a s ≡ gives (made a o ns) u
    unfolding enter
    enter_all_done ns u done =
        ap (λ l. enter from phase l values a s) is
        ∙ ap (λ r. and_then r (λ o1 s1. and_then (entered_below (enter from phase k) phase values a.widget o1 s1) (λ ms s2. gives (made a o1 ms) s2))) was
        ∙ ap (λ r. and_then r (λ ms s2. gives (made a o ms) s2)) done

-- ---- a lazy list has its own children

lists_given : (b : Blueprint) (p : BuildRole) (values : List Value) (number : ℕ) (fields : List Value) (w : PlainWidget) (s t : Progress) (ws : List PlainWidget)
    → is_lazy p ≡ true → given_by b p values number fields w s ≡ gives ws t → ws ≡ child_widgets w
lists_given b (composes place props) values number fields w s t ws lazy e = cc
lists_given b (provides name value) values number fields w s t ws lazy e = cc
lists_given b (keeps kept) values number fields w s t ws lazy e = cc
lists_given b (lists extent) values number fields w s t ws lazy e = cc
lists_given b holds values number fields w s t ws lazy e = cc

unless_many : (b : Bool) (r : Step Opening) (o : Opening) (t : Progress) → cond b (stops tree_too_large) r ≡ gives o t → r ≡ gives o t
unless_many true r o t e = cc
unless_many false r o t e = e

opening_same : (p o : Opening) (s t : Progress) → gives p s ≡ gives o t → o ≡ p
opening_same p o s t e = cc

module _ (partner : Option PlainNode) (number : ℕ) (fields : List Value) (o : Opening) (t : Progress) where
  kept_given : (r : Option (Key Value)) (given : List PlainWidget) (s : Progress)
      → and_then (unless_repeated r given s) (λ ws s1. gives (opening partner number fields ws) s1) ≡ gives o t → o.given ≡ given
  kept_given None given s e = ap (λ (x : Opening). x.given) (opening_same (opening partner number fields given) o s t e)
  kept_given (Some k) given s e = cc

  lazy_given : (w : PlainWidget) (r : Step (List PlainWidget)) → ((ws : List PlainWidget) (s : Progress) → r ≡ gives ws s → ws ≡ child_widgets w)
      → and_then r (λ given s. and_then (apart given s) (λ ws s1. gives (opening partner number fields ws) s1)) ≡ gives o t → o.given ≡ child_widgets w
  lazy_given w (stops f) own e = cc
  lazy_given w (gives ws s) own e = kept_given (first_repeated [] (map key_of ws)) ws s e ∙ own ws s refl

lazy_met : (r : Step (Unit {0})) (later : Progress → Step Opening) (o : Opening) (t : Progress) {P : Type 0} → ((s : Progress) → later s ≡ gives o t → P) → and_then r (λ _ s. later s) ≡ gives o t → P
lazy_met (stops f) later o t own e = cc
lazy_met (gives x s) later o t own e = own s e

pub lazy_opened : (from : Basis) (values : List Value) (a : Arrival) (s : Progress) (o : Opening) (t : Progress) → opened from values a s ≡ gives o t
    → is_lazy (build_role_of (look_of a.widget)) ≡ true → o.given ≡ child_widgets a.widget
lazy_opened from values a s o t e lazy =
    let partner = partner_of from.holder a in
    let fields = fields_for from.program a.widget partner in
    let part = build_role_of (look_of a.widget) in
    let given = λ (s1 : Progress). given_by from.program part values (number_for partner s1) fields a.widget (counted partner s1) in
    let later = λ (s1 : Progress). and_then (given s1) (λ vs s2. and_then (apart vs s2) (λ ws s3. gives (opening partner (number_for partner s1) fields ws) s3)) in
    lazy_met (met_once (key_of a.widget) s) later o t
    (λ s1 e1. lazy_given partner (number_for partner s1) fields o t a.widget (given s1)
    (λ ws s2 e2. lists_given from.program part values (number_for partner s1) fields a.widget (counted partner s1) s2 ws lazy e2) e1)
    (unless_many (nat_le from.program.nodes s.entered) (and_then (met_once (key_of a.widget) s) (λ _ s1. later s1)) o t e)

-- ---- a node is well built

pub all_built : (d : Declarations) (ns : List PlainNode) → All (IsWellBuilt d) ns → AreWellBuilt d (nodes_of ns)
all_built d [] h = tt
all_built d (n ∷ ns) h = (h 0 n (omega arith), all_built d ns (λ i m low. h (suc i) m (omega arith)))

pub sorts_same : (d : Declarations) (ns : List PlainNode) → map (λ n. sort_of d (widget_of n)) ns ≡ map (sort_of d) (map widget_of ns)
sorts_same d [] = refl
sorts_same d (n ∷ ns) = ap (λ l. sort_of d (widget_of n) ∷ l) (sorts_same d ns)

module _ (d : Declarations) (look : Look) (ws : List PlainWidget) (ns : List PlainNode) where
  same_sorts : map widget_of ns ≡ ws → sorts_of d (widgets_of ws) ≡ sorts_in d ns
  same_sorts e = sorts_listed d ws ∙ ap (map (sort_of d)) (sym e) ∙ sym (sorts_same d ns)

  below_fits : (phase : Phase) (p : BuildRole) → AreBelow (waits phase p) ws ns → FitBelow d look p (sorts_of d (widgets_of ws)) → FitBelow d look p (sorts_in d ns)
  below_fits first (composes place props) below fit = subst (FitBelow d look (composes place props)) (same_sorts below) fit
  below_fits first (provides name value) below fit = subst (FitBelow d look (provides name value)) (same_sorts below) fit
  below_fits first (keeps kept) below fit = subst (FitBelow d look (keeps kept)) (same_sorts below) fit
  below_fits first (lists extent) below fit = subst (λ ms. FitBelow d look (lists extent) (sorts_in d ms)) (sym below) tt
  below_fits first holds below fit = subst (FitBelow d look holds) (same_sorts below) fit
  below_fits second p below fit = subst (FitBelow d look p) (same_sorts below) fit

not_put_off : (phase : Phase) (p : BuildRole) → is_lazy p ≡ false → waits phase p ≡ false
not_put_off first (composes place props) e = refl
not_put_off first (provides name value) e = refl
not_put_off first (keeps kept) e = refl
not_put_off first (lists extent) e = cc
not_put_off first holds e = refl
not_put_off second p e = refl

module _ (number : ℕ) (w : PlainWidget) (fields : List Value) (scroll index : ℕ) (ns : List PlainNode) (ws : List PlainWidget) (phase : Phase) where
  siblings_are : (b : Bool) → is_lazy (build_role_of (look_of w)) ≡ b → (is_lazy (build_role_of (look_of w)) ≡ true → ws ≡ child_widgets w) → AreBelow (waits phase (build_role_of (look_of w))) ws ns
      → ws ≡ widgets_below (node number w fields scroll index (nodes_of ns))
  siblings_are true e lazy below = rw e (lazy e)
  siblings_are false e lazy below =
      let all : map widget_of ns ≡ ws = subst (λ x. AreBelow x ws ns) (not_put_off phase (build_role_of (look_of w)) e) below in
      rw e (sym all ∙ ap (map widget_of) (sym (list_of-nodes_of ns)))

  pub well_built : (d : Declarations) → IsTypedWidget d w → FitFields d (build_role_of (look_of w)) fields → NoKeyRepeats ws → (is_lazy (build_role_of (look_of w)) ≡ true → ws ≡ child_widgets w)
      → FitBelow d (look_of w) (build_role_of (look_of w)) (sorts_of d (widgets_of ws)) → AreBelow (waits phase (build_role_of (look_of w))) ws ns → All (IsWellBuilt d) ns
      → IsWellBuilt d (node number w fields scroll index (nodes_of ns))
  well_built d typed suited keys lazy fit below all = (
    record {
      typed = typed;
      suited = suited;
      apart = subst NoKeyRepeats (siblings_are (is_lazy (build_role_of (look_of w))) refl lazy below) keys;
      fits = subst (λ ms. FitBelow d (look_of w) (build_role_of (look_of w)) (sorts_in d ms)) (sym (list_of-nodes_of ns)) (below_fits d (look_of w) ws ns phase (build_role_of (look_of w)) below fit);
    },
    all_built d ns all,
  )

-- ---- child widgets are typed arrivals

found_when : (d : Declarations) (n : PlainNode) (b : Bool) (rest : Option PlainNode) → IsWellBuilt d n → IfSome rest (IsWellBuilt d) → IfSome (cond b (Some n) rest) (IsWellBuilt d)
found_when d n true rest h r = h
found_when d n false rest h r = r

pub found_built : (d : Declarations) (ns : List PlainNode) (test : PlainNode → Bool) → AreWellBuilt d (nodes_of ns) → IfSome (find test ns) (IsWellBuilt d)
found_built d [] test h = tt
found_built d (n ∷ ns) test h = found_when d n (test n) (find test ns) h.0 (found_built d ns test h.1)

beside_built : (d : Declarations) (ns : List PlainNode) (m : Option ℕ) → AreWellBuilt d (nodes_of ns) → IfSome (node_at_any ns m) (IsWellBuilt d)
beside_built d ns None h = tt
beside_built d ns (Some j) h = found_built d ns (λ n. eqb (index_of n) j) h

pub all_cons : {A : Type 0} (P : A → Type 0) (x : A) (xs : List A) → P x → All P xs → All P (x ∷ xs)
all_cons P x xs h t zero d low = h
all_cons P x xs h t (suc k) d low = t k d (omega arith)

arrivals_typed_from : (d : Declarations) (ns : List PlainNode) (i : ℕ) (ws : List PlainWidget) (ms : List (Option ℕ)) → AreWellBuilt d (nodes_of ns) → AreTypedWidgets d (widgets_of ws)
    → All (IsTypedArrival d) (arrivals_from ns i ws ms)
arrivals_typed_from d ns i [] ms built typed = λ k e low. absurd (omega arith)
arrivals_typed_from d ns i (w ∷ ws) [] built typed =
    all_cons (IsTypedArrival d) (arrival w i None) (arrivals_from ns (suc i) ws []) (record { widget = typed.0; beside = tt }) (arrivals_typed_from d ns (suc i) ws [] built typed.1)
arrivals_typed_from d ns i (w ∷ ws) (m ∷ ms) built typed =
    all_cons (IsTypedArrival d) (arrival w i (node_at_any ns m)) (arrivals_from ns (suc i) ws ms) (record { widget = typed.0; beside = beside_built d ns m built }) (arrivals_typed_from d ns (suc i) ws ms built typed.1)

pub nodes_of-list_of : (ns : PlainNodes) → nodes_of (nodes_in ns) ≡ ns
nodes_of-list_of no_nodes = refl
nodes_of-list_of (more_nodes n ns) = ap (more_nodes n) (nodes_of-list_of ns)

had_built : (d : Declarations) (o : Option PlainNode) → IfSome o (IsWellBuilt d) → AreWellBuilt d (nodes_of (nodes_had o))
had_built d None h = tt
had_built d (Some (node number widget fields scroll index children)) h = subst (AreWellBuilt d) (sym (nodes_of-list_of children)) h.1

pub arrivals_typed : (d : Declarations) (o : Option PlainNode) (ws : List PlainWidget) → IfSome o (IsWellBuilt d) → AreTypedWidgets d (widgets_of ws) → All (IsTypedArrival d) (arrivals o ws)
arrivals_typed d o ws built typed = arrivals_typed_from d (nodes_had o) 0 ws (matching (widgets_had o) ws) (had_built d o built) typed

-- they are those widgets
pub widgets_from : (ns : List PlainNode) (i : ℕ) (ws : List PlainWidget) (ms : List (Option ℕ)) → map (λ (a : Arrival). a.widget) (arrivals_from ns i ws ms) ≡ ws
widgets_from ns i [] ms = refl
widgets_from ns i (w ∷ ws) [] = ap (λ l. w ∷ l) (widgets_from ns (suc i) ws [])
widgets_from ns i (w ∷ ws) (m ∷ ms) = ap (λ l. w ∷ l) (widgets_from ns (suc i) ws ms)

-- ---- the same as the code says it

pub below_same : (from : Basis) (phase : Phase) (k : ℕ) (values : List Value) (v w : PlainWidget) (o : Option PlainNode) (n : ℕ) (fields : List Value) (us ws : List PlainWidget) (s : Progress) (r : Step (List PlainNode))
    → v ≡ w → us ≡ ws → entered_below (enter from phase k) phase values v (opening o n fields us) s ≡ r → entered_below (enter from phase k) phase values w (opening o n fields ws) s ≡ r
below_same from phase k values v w o n fields us ws s r e f h =
    sym (ap (λ x. entered_below (enter from phase k) phase values x (opening o n fields us) s) e ∙ ap (λ x. entered_below (enter from phase k) phase values w (opening o n fields x) s) f) ∙ h

pub made_same : (number : ℕ) (v w : PlainWidget) (fields : List Value) (x y index : ℕ) (ns : List PlainNode) (s : Progress) → v ≡ w → x ≡ y
    → gives (node number w fields y index (nodes_of ns)) s ≡ gives (node number v fields x index (nodes_of ns)) s
made_same number v w fields x y index ns s e f =
    ap (λ u. gives (node number u fields y index (nodes_of ns)) s) (sym e) ∙ ap (λ z. gives (node number v fields z index (nodes_of ns)) s) (sym f)

all_append : {A : Type 0} (P : A → Type 0) (xs : List A) (x : A) → All P xs → P x → All P (xs ++ x ∷ [])
all_append P [] x h p = all_cons P x [] p (λ k d low. absurd (omega arith))
all_append P (y ∷ xs) x h p = all_cons P y (xs ++ x ∷ []) (h 0 y (omega arith)) (all_append P xs x (λ k d low. h (suc k) d (omega arith)) p)

pub all_pushed : {A : Type 0} (P : A → Type 0) (xs : List A) (x : A) (ys : List A) → ys ≡ xs ++ x ∷ [] → All P xs → P x → All P ys
all_pushed P xs x ys e h p = subst (All P) (sym e) (all_append P xs x h p)
