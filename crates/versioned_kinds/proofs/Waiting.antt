-- Where lazy lists wait after the first phase of a build, the whole tree has one; and where none waits it has none.
use Rattle.std.proofs.Common.{◌≡◌, ℕ, zero, suc, ◌-◌, nat_lt, nat_le, Bool, true, false, Option, Some, None, List, [], ◌∷◌, ◌++◌, map, refl, sym, subst, ◌∙◌}
use Rattle.fx_expr.specs.declared.values.Value.{Value}
use Rattle.widget_keys.specs.declared.keys.Key.{Key}
use Rattle.widget_keys.specs.declared.keys.Key.TheVariants as key
use Rattle.widget_model.specs.Plain.{PlainWidget, look_of, key_of}
use Rattle.widget_model.specs.Plain.{children_of as child_widgets}
use Rattle.widget_model.specs.Size.{count_of}
use Rattle.plain_tree.specs.PlainNode.{PlainNode, node, PlainNodes, no_nodes, more_nodes, nodes_of}
use Rattle.build_form.specs.KeptStates.{AllAre}
use Rattle.build_form.specs.Step.{Progress, Step, stops, gives, and_then, each, tree_too_large, repeated_global_key}
use Rattle.build_form.specs.BuildRole.{BuildRole, composes, provides, keeps, lists, holds, build_role_of, is_lazy}
use Rattle.build_form.specs.Partner.{Arrival, arrivals, root_arrival, partner_of}
use Rattle.build_form.specs.Entering.{Blueprint, Basis, first, depth_limit, output_limit, met_once, unless_repeated, first_repeated, apart, number_for, fields_for, counted, given_by, values_below, waits, put_off, opened, entered_below, enter}
use Rattle.build_form.specs.FullBuild.{Ranges, Screen, built, live_ranges, items_entered, filled, all_filled, if_lazy, second_phase, started, basis, both_phases, first_tree, full_build}
use Rattle.build_form.proofs.OldOrNew.{OnGives, then, either, small_built}
use Rattle.versioned_kinds.specs.Lists.{IsNoList, HasNoLists}
use Rattle.versioned_kinds.proofs.Built.{of_gives, on_built}
use Rattle.versioned_kinds.proofs.Steps.{whatever, follows, by_test, by_role, widgets_found}

abbrev NoneBelow : PlainNodes → Type 0
NoneBelow ns = AllAre (λ number widget fields scroll. IsNoList (look_of widget)) ns

true≢false : {A : Type 0} → true ≡ false → A
true≢false e = cc

-- the first phase puts off what is a lazy list
waits_where_lazy : (p : BuildRole) → waits first p ≡ is_lazy p
waits_where_lazy (composes place props) = refl
waits_where_lazy (provides name value) = refl
waits_where_lazy (keeps kept) = refl
waits_where_lazy (lists extent) = refl
waits_where_lazy holds = refl

-- ---- a step that leaves what waits as it was

abbrev Same : List (Option PlainNode) → Progress → Type 0
Same was t = t.waiting ≡ was

met_same : (was : List (Option PlainNode)) (k : Key Value) (s : Progress) → Same was s → OnGives (met_once k s) (λ x t. Same was t)
met_same was key.None s h = h
met_same was (key.Local k) s h = h
met_same was (key.Global k) s h = either (s.met k) (stops (repeated_global_key k)) _ (λ x t. Same was t) tt h

unless_same : (was : List (Option PlainNode)) (o : Option (Key Value)) (ws : List PlainWidget) (s : Progress) → Same was s → OnGives (unless_repeated o ws s) (λ vs t. Same was t)
unless_same was None ws s h = h
unless_same was (Some k) ws s h = tt

module _ (from : Basis) where
  opens_same : (values : List Value) (a : Arrival) (s : Progress) → OnGives (opened from values a s) (λ o t. Same s.waiting t)
  opens_same values a s =
      let w = a.widget in
      let partner = partner_of from.holder a in
      let fields = fields_for from.program w partner in
      let Q : Progress → Type 0 = Same s.waiting in
      either (nat_le from.program.nodes s.entered) (stops tree_too_large) _ (λ o t. Q t) tt
      (then (met_once (key_of w) s) _ (λ x t. Q t) (λ o t. Q t) (met_same s.waiting (key_of w) s refl) (λ x s1 h1.
      then (given_by from.program (build_role_of (look_of w)) values (number_for partner s1) fields w (counted partner s1)) _ (λ ws t. Q t) (λ o t. Q t)
      (widgets_found Q from.program (build_role_of (look_of w)) values (number_for partner s1) fields w (counted partner s1) h1) (λ ws s2 h2.
      then (apart ws s2) _ (λ vs t. Q t) (λ o t. Q t) (unless_same s.waiting (first_repeated [] (map key_of ws)) ws s2 h2) (λ vs s3 h3. h3))))

  -- ---- the first phase

  abbrev One : List (Option PlainNode) → PlainNode → Progress → Type 0
  One was n t = HasNoLists n → Same was t

  abbrev Each : List (Option PlainNode) → List PlainNode → Progress → Type 0
  Each was ns t = NoneBelow (nodes_of ns) → Same was t

  each_same : (go : Arrival → Progress → Step PlainNode) → ((a : Arrival) (s : Progress) → OnGives (go a s) (One s.waiting)) → (bs : List Arrival) (s : Progress) → OnGives (each go bs s) (Each s.waiting)
  each_same go step [] s = λ h. refl
  each_same go step (a ∷ bs) s =
      then (go a s) _ (One s.waiting) (Each s.waiting) (step a s) (λ n s1 h1.
      then (each go bs s1) _ (Each s1.waiting) (Each s.waiting) (each_same go step bs s1) (λ ns s2 h2 none. h2 none.1 ∙ h1 none.0))

  enter_same : (left : ℕ) (values : List Value) (a : Arrival) (s : Progress) → OnGives (enter from first left values a s) (One s.waiting)
  unfolding enter
  enter_same zero values a s = tt
  enter_same (suc left) values a s =
      let w = a.widget in
      let p = build_role_of (look_of w) in
      let below = values_below w values in
      let Below : List PlainNode → Progress → Type 0 = λ ns t. is_lazy p ≡ false → Each s.waiting ns t in
      then (opened from values a s) _ (λ o t. Same s.waiting t) (One s.waiting) (opens_same values a s) (λ o s1 h1.
      then (entered_below (enter from first left) first values w o s1) _ Below (One s.waiting)
      (by_test (waits first p) (put_off o.partner s1) _ Below (λ lazy none k. true≢false (sym lazy ∙ (waits_where_lazy p ∙ none)))
      (λ e. follows (each (enter from first left below) (arrivals o.partner o.given) s1) (Each s1.waiting) Below (λ ns t h none k. h k ∙ h1)
      (each_same (enter from first left below) (λ b t. enter_same left below b t) (arrivals o.partner o.given) s1)))
      (λ ns s2 h2 none. h2 none.0 none.1))

  -- ---- and where nothing waits after it

  -- nothing waited before, and there is no list
  abbrev Free : Progress → PlainNode → Progress → Type 0
  Free s n t = t.waiting ≡ [] → HasNoLists n × (s.waiting ≡ [])

  abbrev AreFree : Progress → List PlainNode → Progress → Type 0
  AreFree s ns t = t.waiting ≡ [] → NoneBelow (nodes_of ns) × (s.waiting ≡ [])

  each_free : (go : Arrival → Progress → Step PlainNode) → ((a : Arrival) (s : Progress) → OnGives (go a s) (Free s)) → (bs : List Arrival) (s : Progress) → OnGives (each go bs s) (AreFree s)
  each_free go step [] s = λ e. (tt, e)
  each_free go step (a ∷ bs) s =
      then (go a s) _ (Free s) (AreFree s) (step a s) (λ n s1 h1.
      then (each go bs s1) _ (AreFree s1) (AreFree s) (each_free go step bs s1) (λ ns s2 h2 e. let later = h2 e in let own = h1 later.1 in ((own.0, later.0), own.1)))

  one_waits : (ps : List (Option PlainNode)) (p : Option PlainNode) → ps ++ p ∷ [] ≡ [] → ⊥
  one_waits [] p e = cc
  one_waits (q ∷ ps) p e = cc

  enter_free : (left : ℕ) (values : List Value) (a : Arrival) (s : Progress) → OnGives (enter from first left values a s) (Free s)
  unfolding enter
  enter_free zero values a s = tt
  enter_free (suc left) values a s =
      let w = a.widget in
      let p = build_role_of (look_of w) in
      let below = values_below w values in
      then (opened from values a s) _ (λ o t. Same s.waiting t) (Free s) (opens_same values a s) (λ o s1 h1.
      let Below : List PlainNode → Progress → Type 0 = λ ns t. t.waiting ≡ [] → (is_lazy p ≡ false) × (NoneBelow (nodes_of ns) × (s1.waiting ≡ [])) in
      then (entered_below (enter from first left) first values w o s1) _ Below (Free s)
      (by_test (waits first p) (put_off o.partner s1) _ Below (λ lazy e. absurd (one_waits s1.waiting o.partner e))
      (λ e. follows (each (enter from first left below) (arrivals o.partner o.given) s1) (AreFree s1) Below (λ ns t h none. (sym (waits_where_lazy p) ∙ e, h none))
      (each_free (enter from first left below) (λ b t. enter_free left below b t) (arrivals o.partner o.given) s1)))
      (λ ns s2 h2 e. let b = h2 e in ((b.0, b.1.0), sym h1 ∙ b.1.1)))

  -- ---- the second phase

  module _ (ranges : Ranges) where
    mutual
      unfolding filled

      fill_same : (left : ℕ) (values : List Value) (n : PlainNode) (s : Progress) → OnGives (filled from ranges left values n s) (λ m t. HasNoLists m → HasNoLists n)
      fill_same left values (node number widget fields scroll index children) s =
          let p = build_role_of (look_of widget) in
          let below = values_below widget values in
          let itemized = λ (e : ℕ) (s1 : Progress). items_entered from (left - 1) below (ranges number e) (child_widgets widget) s1 in
          let others = λ (s1 : Progress). all_filled from ranges (left - 1) below children s1 in
          let Q : Bool → PlainNodes → Progress → Type 0 = λ b ns t. b ≡ false → NoneBelow ns → NoneBelow children in
          then (if_lazy p itemized others s) _ (Q (is_lazy p)) (λ m t. HasNoLists m → HasNoLists (node number widget fields scroll index children))
          (by_role p itemized others s Q
          (λ e. follows (itemized e s) (λ ns t. Unit {0}) (Q true) (λ ns t h none. true≢false none) (whatever (itemized e s)))
          (follows (others s) (λ ns t. NoneBelow ns → NoneBelow children) (Q false) (λ ns t h none. h) (all_fill_same (left - 1) below children s)))
          (λ ns t h none. (none.0, h none.0 none.1))

      all_fill_same : (left : ℕ) (values : List Value) (ns : PlainNodes) (s : Progress) → OnGives (all_filled from ranges left values ns s) (λ ms t. NoneBelow ms → NoneBelow ns)
      all_fill_same left values no_nodes s = λ h. h
      all_fill_same left values (more_nodes n ns) s =
          let R : PlainNodes → Progress → Type 0 = λ ms t. NoneBelow ms → NoneBelow (more_nodes n ns) in
          then (filled from ranges left values n s) _ (λ m t. HasNoLists m → HasNoLists n) R (fill_same left values n s) (λ m s1 h1.
          then (all_filled from ranges left values ns s1) _ (λ ms t. NoneBelow ms → NoneBelow ns) R (all_fill_same left values ns s1) (λ ms s2 h2 none. (h1 none.0, h2 none.1)))

  second_same : (ranges : PlainNode → Ranges) (tree : PlainNode) (os : List (Option PlainNode)) (s : Progress) → OnGives (second_phase from ranges tree os s) (λ m t. HasNoLists m → HasNoLists tree)
  second_same ranges tree [] s = λ h. h
  second_same ranges tree (o ∷ os) s = fill_same (ranges tree) depth_limit from.program.defaults tree s

-- ---- both phases

pub none_waits : (b : Blueprint) (old : Option PlainNode) (next : ℕ) (root : PlainWidget) (tree : PlainNode) (s : Progress) → first_tree b old next root ≡ gives tree s → HasNoLists tree → s.waiting ≡ []
none_waits b old next root tree s e h =
    of_gives (first_tree b old next root) (One (basis b old) []) tree s (enter_same (basis b old) depth_limit b.defaults (root_arrival old root) (started next)) e h

pub none_there : (b : Blueprint) (old : Option PlainNode) (next : ℕ) (root : PlainWidget) (tree : PlainNode) (s : Progress) → first_tree b old next root ≡ gives tree s → s.waiting ≡ [] → HasNoLists tree
none_there b old next root tree s e none =
    (of_gives (first_tree b old next root) (Free (basis b old) (started next)) tree s (enter_free (basis b old) depth_limit b.defaults (root_arrival old root) (started next)) e none).0

pub whole_none_waits : (b : Blueprint) (screen : Screen) (old : Option PlainNode) (next after : ℕ) (root : PlainWidget) (mid tree : PlainNode) (s : Progress)
    → first_tree b old next root ≡ gives mid s → full_build b screen old next root ≡ built tree after → HasNoLists tree → s.waiting ≡ []
unfolding full_build both_phases
whole_none_waits b screen old next after root mid tree s e f none =
    let from = basis b old in
    let a = root_arrival old root in
    let go = λ (t : PlainNode) (u : Progress). second_phase from (live_ranges screen) t u.waiting u in
    let whole = both_phases from (live_ranges screen) a (started next) in
    let done : OnGives whole (λ n t. HasNoLists n → s.waiting ≡ []) =
    subst (λ r. OnGives (and_then r go) (λ n t. HasNoLists n → s.waiting ≡ [])) (sym e)
    (follows (go mid s) (λ m t. HasNoLists m → HasNoLists mid) (λ m t. HasNoLists m → s.waiting ≡ []) (λ m t h none. none_waits b old next root mid s e (h none)) (second_same from (live_ranges screen) mid s.waiting s)) in
    on_built (λ n. HasNoLists n → s.waiting ≡ []) whole tree after done (small_built (nat_lt output_limit (count_of root)) _ whole tree after f) none
