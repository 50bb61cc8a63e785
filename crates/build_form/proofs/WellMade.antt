-- Each tree that a build gives is well built, where the old tree is and the root is typed.
use Rattle.std.proofs.Common.{◌≡◌, ℕ, zero, suc, ◌-◌, nat_lt, nat_le, Bool, true, false, cond, Option, Some, None, IfSome, List, [], ◌∷◌, ◌++◌, filter, length, map, refl, sym, ap, ◌∙◌, subst, arith}
use Rattle.std.specs.List.{All}
use Rattle.std.proofs.lemmas.List.Elements.{All-tail}
use Rattle.fx_expr.specs.declared.values.Value.{Value}
use Rattle.fx_expr.specs.Value.{type_of}
use Rattle.widget_keys.specs.declared.keys.Key.{Key}
use Rattle.widget_keys.specs.declared.keys.Key.TheVariants as key
use Rattle.widget_model.specs.Look.{Look}
use Rattle.widget_model.specs.Plain.{PlainWidget, plain, widgets_of, list_of, look_of, key_of, slots_of}
use Rattle.widget_model.specs.Plain.{children_of as child_widgets}
use Rattle.widget_model.specs.Size.{count_in, count_of}
use Rattle.widget_model.specs.Typed.{Sort, box, Declarations, AllAre, body_of, sort_of, sorts_of, IsTypedWidget, AreTypedWidgets}
use Rattle.widget_model.specs.Update.{same_type}
use Rattle.reconcile.specs.Keys.{NoKeyRepeats}
use Rattle.reconcile.specs.Matching.{matching}
use Rattle.sliver_layout.specs.declared.protocol.Window.{Window}
use Rattle.program_check.specs.Checked.{PlainChecked, PlainCheckedComponent}
use Rattle.program_check.specs.TypedChecked.{IsTypedChecked}
use Rattle.expr_check.specs.Names.{types_in}
use Rattle.template_build.specs.Program.{widget_sort, output_in_body, component_output, declarations_of, scene_in}
use Rattle.template_build.specs.Scene.{body_sort_at}
use Rattle.template_build.proofs.CallLemmas.{IsOneFine, component_fine, begin_typed, initial_is}
use Rattle.plain_tree.specs.PlainNode.{PlainNode, node, PlainNodes, no_nodes, more_nodes, nodes_of, widget_of, fields_of}
use Rattle.plain_tree.specs.PlainNode.{list_of as nodes_in}
use Rattle.build_form.specs.Step.{Progress, Step, stops, gives, each, tree_too_large, output_too_large, repeated_global_key}
use Rattle.build_form.specs.BuildRole.{BuildRole, composes, provides, keeps, lists, holds, build_role_of, is_lazy}
use Rattle.build_form.specs.Partner.{Arrival, nodes_had, widgets_had, arrivals, root_arrival, of_type, candidate, partner_of}
use Rattle.build_form.specs.Entering.{Basis, Phase, first, second, depth_limit, output_limit, met_once, unless_repeated, first_repeated, apart, number_for, first_fields, fields_for, scroll_for, counted, given_by, values_below, waits, put_off, Opening, opened, entered_below, enter}
use Rattle.build_form.specs.FullBuild.{Ranges, Screen, built, built_by, live_ranges, next_waiting, one_served, others_waiting, items, items_entered, if_lazy, filled, all_filled, second_phase, started, basis, first_tree, both_phases, full_build}
use Rattle.build_form.specs.Program.{names_in, default_values, blueprint_of}
use Rattle.build_form.specs.Filling.{AreBoxes}
use Rattle.build_form.specs.WellBuilt.{FitFields, FitBelow, IsWellBuilt, AreWellBuilt, IsTypedArrival, AreBelow, AreWaiting}
use Rattle.build_form.proofs.Apart.{none_repeats}
use Rattle.build_form.proofs.Entered.{sorts_same, well_built, all_cons, arrivals_typed, widgets_from, all_pushed, nodes_of-list_of}
use Rattle.build_form.proofs.Filled.{lazy_built, other_built}
use Rattle.build_form.proofs.Owning.{typed_below, widgets_again}
use Rattle.build_form.proofs.Started.{holders_built, root_typed}
use Rattle.build_form.proofs.Stepping.{by_wait}
use Rattle.build_form.proofs.OldOrNew.{OnGives, then, either, small_built}
use Rattle.build_form.proofs.Typing.{sorts_listed, used_by, may_begin, may_build, other_fits, kept_fit, values_typed}

-- ---- lists

nothing_in : {A : Type 0} (P : A → Type 0) → All P []
nothing_in P k d low = absurd (omega arith)

kept_some : {A : Type 0} (P : A → Type 0) (b : Bool) (x : A) (xs : List A) → P x → All P xs → All P (cond b (x ∷ xs) xs)
kept_some P true x xs h g = all_cons P x xs h g
kept_some P false x xs h g = g

filtered_all : {A : Type 0} (P : A → Type 0) (test : A → Bool) (xs : List A) → All P xs → All P (filter test xs)
filtered_all P test [] h = h
filtered_all P test (x ∷ xs) h = kept_some P (test x) x (filter test xs) (h 0 x (omega arith)) (filtered_all P test xs (All-tail P x xs h))

-- keys of siblings are tested
apart_gives : (o : Option (Key Value)) (ws : List PlainWidget) (s : Progress) (Q : List PlainWidget → Progress → Type 0) → first_repeated [] (map key_of ws) ≡ o
    → (NoKeyRepeats ws → Q ws s) → OnGives (unless_repeated o ws s) Q
apart_gives None ws s Q e h = h (none_repeats ws e)
apart_gives (Some k) ws s Q e h = tt

-- ---- what a build enters

module _ (c : PlainChecked) (checked : IsTypedChecked c) (old : Option PlainNode) (was : IfSome old (IsWellBuilt (declarations_of c))) where
  abbrev D : Declarations
  D = declarations_of c

  abbrev from : Basis
  from = basis (blueprint_of c) old

  abbrev Inherits : List Value → Type 0
  Inherits values = map type_of values ≡ D.inherited

  abbrev Good : Option PlainNode → Type 0
  Good o = IfSome o (IsWellBuilt D)

  abbrev Fine : Progress → Type 0
  Fine s = AreWaiting D s.waiting

  -- ---- the node that a widget's node goes on from

  good_candidate : (q : Key Value) (o : Option PlainNode) → Good o → Good (candidate q from.holder o)
  good_candidate key.None o h = h
  good_candidate (key.Local k) o h = h
  good_candidate (key.Global k) o h = holders_built D old from.holder was (λ v. refl) k

  -- it is well built, and has fields for the widget
  abbrev Suits : PlainWidget → Option PlainNode → Type 0
  Suits w o = Good o × IfSome o (λ n. FitFields D (build_role_of (look_of w)) (fields_of n))

  suits_by : (w : PlainWidget) (n : PlainNode) (b : Bool) → same_type (widget_of n) w ≡ b → IsWellBuilt D n → Suits w (cond b (Some n) None)
  suits_by w n true e h = (h, kept_fit D n w h e)
  suits_by w n false e h = (tt, tt)

  suits_type : (w : PlainWidget) (o : Option PlainNode) → Good o → Suits w (of_type w o)
  suits_type w None h = (tt, tt)
  suits_type w (Some n) h = suits_by w n (same_type (widget_of n) w) refl h

  -- ---- fields

  first_fit : (w : PlainWidget) (p : BuildRole) → build_role_of (look_of w) ≡ p → IsTypedWidget D w → FitFields D p (first_fields (blueprint_of c) p)
  first_fit (plain look k slots children) (composes place props) is t =
      let again = subst (λ xs. IsTypedWidget D (plain look k xs (widgets_of (list_of children)))) (sym (widgets_again slots)) (subst (λ ys. IsTypedWidget D (plain look k slots ys)) (sym (widgets_again children)) t) in
      let may = may_begin c k (list_of slots) (list_of children) place props look again is in
      subst (FitFields D (composes place props)) (sym (initial_is c place props may)) (begin_typed c place props checked may)
  first_fit w (provides name value) is t = refl
  first_fit w (keeps kept) is t = refl
  first_fit w (lists extent) is t = refl
  first_fit w holds is t = refl

  fields_fit : (w : PlainWidget) (o : Option PlainNode) → IsTypedWidget D w → Suits w o → FitFields D (build_role_of (look_of w)) (fields_for (blueprint_of c) w o)
  fields_fit w None t h = first_fit w (build_role_of (look_of w)) refl t
  fields_fit w (Some n) t h = h.1

  -- ---- the child widgets of a node

  record Given (w : PlainWidget) (ws : List PlainWidget) : Type 0 where
    pub typed : AreTypedWidgets D (widgets_of ws)
    pub fits : FitBelow D (look_of w) (build_role_of (look_of w)) (sorts_of D (widgets_of ws))
    pub lazy : is_lazy (build_role_of (look_of w)) ≡ true → ws ≡ child_widgets w

  only : (s : Sort) (ss : List Sort) → length ss ≡ 1 → AllAre s ss → ss ≡ s ∷ []
  only s [] one h = absurd (omega (arith, one))
  only s (t ∷ []) one h = ap (λ x. x ∷ []) h.0
  only s (t ∷ (u ∷ us)) one h = absurd (omega (arith, one))

  same_some : (x y : PlainCheckedComponent) → Some x ≡ Some y → x ≡ y
  same_some x y e = cc

  length_of : (ws : List PlainWidget) → length (map (sort_of D) ws) ≡ length ws
  length_of [] = refl
  length_of (w ∷ ws) = ap suc (length_of ws)

  not_lazy : (p : BuildRole) (place : ℕ) (props : List Value) → p ≡ composes place props → is_lazy p ≡ true → ⊥
  not_lazy p place props is lazy = let no : is_lazy p ≡ false = ap is_lazy is in cc

  composed : (w : PlainWidget) (values : List Value) (number : ℕ) (fields : List Value) (place : ℕ) (props : List Value) → build_role_of (look_of w) ≡ composes place props
      → Inherits values → IsTypedWidget D w → FitFields D (build_role_of (look_of w)) fields → Given w (component_output c place (names_in props fields values) (slots_of w) number)
  composed (plain look k slots children) values number fields place props is e t fit =
      let again = subst (λ xs. IsTypedWidget D (plain look k xs (widgets_of (list_of children)))) (sym (widgets_again slots)) (subst (λ ys. IsTypedWidget D (plain look k slots ys)) (sym (widgets_again children)) t) in
      let may = may_build c k (list_of slots) (list_of children) place props look again is fields values (subst (λ p. FitFields D p fields) is fit) e in
      let at = used_by c k (list_of slots) (list_of children) place props look again is in
      let there = scene_in c (names_in props fields values) (list_of slots) number in
      let fine = component_fine c place number (names_in props fields values) (list_of slots) checked may in
      let ws = component_output c place (names_in props fields values) (list_of slots) number in
      let here : IsOneFine (widget_sort may.component.sort) there ws = subst (λ x. IsOneFine (widget_sort may.component.sort) there (output_in_body x there)) (sym may.found) fine in
      let same : at.checked ≡ may.component = same_some at.checked may.component (sym at.found ∙ may.found) in
      let declared : body_sort_at D place ≡ widget_sort may.component.sort = ap body_of at.known ∙ ap (λ (x : PlainCheckedComponent). widget_sort x.sort) same in
      let sorts : sorts_of D (widgets_of ws) ≡ body_sort_at D place ∷ [] =
      sorts_listed D ws ∙ only (widget_sort may.component.sort) (map (sort_of D) ws) (length_of ws ∙ here.one) here.sorts ∙ ap (λ s. s ∷ []) (sym declared) in
      record {
        typed = here.good (subst (AreTypedWidgets D) (sym (widgets_again slots)) t.in_slots);
        fits = subst (λ p. FitBelow D look p (sorts_of D (widgets_of ws))) (sym is) sorts;
        lazy = λ l. absurd (not_lazy (build_role_of look) place props is l);
      }

  held : (w : PlainWidget) → ((place : ℕ) (props : List Value) → build_role_of (look_of w) ≡ composes place props → ⊥) → IsTypedWidget D w → Given w (child_widgets w)
  held (plain look k slots children) not t = record {
    typed = subst (AreTypedWidgets D) (sym (widgets_again children)) t.below;
    fits = subst (λ ws. FitBelow D look (build_role_of look) (sorts_of D ws)) (sym (widgets_again children)) (other_fits D look (sorts_of D children) not t.held);
    lazy = λ l. refl;
  }

  given : (p : BuildRole) (w : PlainWidget) (values : List Value) (number : ℕ) (fields : List Value) (s : Progress) → build_role_of (look_of w) ≡ p → Fine s
      → Inherits values → IsTypedWidget D w → FitFields D (build_role_of (look_of w)) fields
      → OnGives (given_by (blueprint_of c) p values number fields w s) (λ ws t. Given w ws × Fine t)
  given (composes place props) w values number fields s is h e t fit =
      let ws = component_output c place (names_in props fields values) (slots_of w) number in
      either (nat_lt output_limit (count_in ws)) (stops output_too_large) (gives ws s) (λ ws t. Given w ws × Fine t) tt (composed w values number fields place props is e t fit, h)
  given (provides name value) w values number fields s is h e t fit = (held w (λ q v g. let no : provides name value ≡ composes q v = sym is ∙ g in cc) t, h)
  given (keeps kept) w values number fields s is h e t fit = (held w (λ q v g. let no : keeps kept ≡ composes q v = sym is ∙ g in cc) t, h)
  given (lists extent) w values number fields s is h e t fit = (held w (λ q v g. let no : lists extent ≡ composes q v = sym is ∙ g in cc) t, h)
  given holds w values number fields s is h e t fit = (held w (λ q v g. let no : holds ≡ composes q v = sym is ∙ g in cc) t, h)

  -- ---- a widget is entered

  record Opened (w : PlainWidget) (o : Opening) (t : Progress) : Type 0 where
    pub fine : Fine t
    pub partner : Good o.partner
    pub fields : FitFields D (build_role_of (look_of w)) o.fields
    pub apart : NoKeyRepeats o.given
    pub given : Given w o.given

  fine_met : (q : Key Value) (s : Progress) → Fine s → OnGives (met_once q s) (λ x t. Fine t)
  fine_met key.None s h = h
  fine_met (key.Local v) s h = h
  fine_met (key.Global v) s h = either (s.met v) (stops (repeated_global_key v)) _ (λ x t. Fine t) tt h

  opens : (values : List Value) (a : Arrival) (s : Progress) → Fine s → Inherits values → IsTypedArrival D a → OnGives (opened from values a s) (Opened a.widget)
  opens values a s h e typed =
      let w = a.widget in
      let partner = partner_of from.holder a in
      let suits : Suits w partner = suits_type w (candidate (key_of w) from.holder a.beside) (good_candidate (key_of w) a.beside typed.beside) in
      let fields = fields_for from.program w partner in
      let fit : FitFields D (build_role_of (look_of w)) fields = fields_fit w partner typed.widget suits in
      either (nat_le from.program.nodes s.entered) (stops tree_too_large) _ (Opened w) tt
      (then (met_once (key_of w) s) _ (λ x t. Fine t) (Opened w) (fine_met (key_of w) s h) (λ x s1 h1.
      then (given_by from.program (build_role_of (look_of w)) values (number_for partner s1) fields w (counted partner s1)) _ (λ ws t. Given w ws × Fine t) (Opened w)
      (given (build_role_of (look_of w)) w values (number_for partner s1) fields (counted partner s1) refl h1 e typed.widget fit) (λ ws s2 h2.
      then (apart ws s2) _ (λ vs t. NoKeyRepeats vs × Given w vs × Fine t) (Opened w)
      (apart_gives (first_repeated [] (map key_of ws)) ws s2 (λ vs t. NoKeyRepeats vs × Given w vs × Fine t) refl (λ k. (k, h2.0, h2.1)))
      (λ vs s3 h3. record { fine = h3.2; partner = suits.0; fields = fit; apart = h3.0; given = h3.1 }))))

  abbrev Enters : Arrival → PlainNode → Progress → Type 0
  Enters a n t = IsWellBuilt D n × (widget_of n ≡ a.widget) × Fine t

  abbrev widgets_in : List Arrival → List PlainWidget
  widgets_in bs = map (λ (a : Arrival). a.widget) bs

  abbrev AllEnter : List Arrival → List PlainNode → Progress → Type 0
  AllEnter bs ns t = All (IsWellBuilt D) ns × (map widget_of ns ≡ widgets_in bs) × Fine t

  each_enters : (go : Arrival → Progress → Step PlainNode) → ((a : Arrival) (s : Progress) → Fine s → IsTypedArrival D a → OnGives (go a s) (Enters a))
      → (bs : List Arrival) (s : Progress) → Fine s → All (IsTypedArrival D) bs → OnGives (each go bs s) (AllEnter bs)
  each_enters go step [] s h typed = (nothing_in (IsWellBuilt D), refl, h)
  each_enters go step (a ∷ bs) s h typed =
      then (go a s) _ (Enters a) (AllEnter (a ∷ bs)) (step a s h (typed 0 a (omega arith))) (λ n s1 h1.
      then (each go bs s1) _ (AllEnter bs) (AllEnter (a ∷ bs)) (each_enters go step bs s1 h1.2 (All-tail (IsTypedArrival D) a bs typed)) (λ ns s2 h2.
      (all_cons (IsWellBuilt D) n ns h1.0 h2.0, (λ i. h1.1 i ∷ h2.1 i), h2.2)))

  -- the nodes below, none of them yet where they wait
  abbrev Below : List PlainWidget → Bool → List PlainNode → Progress → Type 0
  Below ws wait ns t = AreBelow wait ws ns × All (IsWellBuilt D) ns × Fine t

  arrived_widgets : (o : Option PlainNode) (ws : List PlainWidget) → widgets_in (arrivals o ws) ≡ ws
  arrived_widgets o ws = widgets_from (nodes_had o) 0 ws (matching (widgets_had o) ws)

  then_same : (o : Option PlainNode) (ws : List PlainWidget) (r : Step (List PlainNode)) → OnGives r (AllEnter (arrivals o ws)) → OnGives r (Below ws false)
  then_same o ws (stops f) h = tt
  then_same o ws (gives ns s) h = (h.1 ∙ arrived_widgets o ws, h.0, h.2)

  enter_well : (phase : Phase) (left : ℕ) (values : List Value) (a : Arrival) (s : Progress) → Fine s → Inherits values → IsTypedArrival D a → OnGives (enter from phase left values a s) (Enters a)
  unfolding enter
  enter_well phase zero values a s h e typed = tt
  enter_well phase (suc left) values a s h e typed =
      let w = a.widget in
      let below = values_below w values in
      let inherits : Inherits below = typed_below D w values e typed.widget in
      then (opened from values a s) _ (Opened w) (Enters a) (opens values a s h e typed) (λ o s1 h1.
      then (entered_below (enter from phase left) phase values w o s1) _ (Below o.given (waits phase (build_role_of (look_of w)))) (Enters a)
      (by_wait (waits phase (build_role_of (look_of w))) (put_off o.partner s1) (each (enter from phase left below) (arrivals o.partner o.given) s1) (Below o.given)
      (refl, nothing_in (IsWellBuilt D), all_pushed Good s1.waiting o.partner (s1.waiting ++ o.partner ∷ []) refl h1.fine h1.partner)
      (then_same o.partner o.given (each (enter from phase left below) (arrivals o.partner o.given) s1)
      (each_enters (enter from phase left below) (λ b t f g. enter_well phase left below b t f inherits g) (arrivals o.partner o.given) s1 h1.fine
      (arrivals_typed D o.partner o.given h1.partner h1.given.typed))))
      (λ ns s2 h2. (
        well_built o.number w o.fields (scroll_for o.partner) a.place ns o.given phase D typed.widget h1.fields h1.apart h1.given.lazy h1.given.fits h2.0 h2.1,
        refl,
        h2.2,
      )))

  -- ---- the second phase

  good_next : (os : List (Option PlainNode)) → AreWaiting D os → Good (next_waiting os)
  good_next [] h = tt
  good_next (o ∷ os) h = h 0 o (omega arith)

  good_others : (os : List (Option PlainNode)) → AreWaiting D os → AreWaiting D (others_waiting os)
  good_others [] h = h
  good_others (o ∷ os) h = All-tail Good o os h

  -- the widgets of arrivals are boxes
  abbrev Boxes : List PlainWidget → Type 0
  Boxes ws = AllAre box (map (sort_of D) ws)

  box_some : (b : Bool) (a : Arrival) (bs : List Arrival) → sort_of D a.widget ≡ box → Boxes (widgets_in bs) → Boxes (widgets_in (cond b (a ∷ bs) bs))
  box_some true a bs h g = (h, g)
  box_some false a bs h g = g

  boxes_filtered : (test : Arrival → Bool) (bs : List Arrival) → Boxes (widgets_in bs) → Boxes (widgets_in (filter test bs))
  boxes_filtered test [] h = tt
  boxes_filtered test (a ∷ bs) h = box_some (test a) a (filter test bs) h.0 (boxes_filtered test bs h.1)

  abbrev Items : PlainNodes → Progress → Type 0
  Items ns t = (ms : List PlainNode) × (ns ≡ nodes_of ms) × All (IsWellBuilt D) ms × AreBoxes D ms × Fine t

  items_well : (left : ℕ) (values : List Value) (range : ℕ → Window) (ws : List PlainWidget) (s : Progress) → Fine s → Inherits values → AreTypedWidgets D (widgets_of ws) → Boxes ws
      → OnGives (items_entered from left values range ws s) Items
  items_well left values range ws s h e typed boxes =
      let o = next_waiting s.waiting in
      let all = arrivals o ws in
      let bs = items (range (length ws)) all in
      let these : Boxes (widgets_in bs) = boxes_filtered _ all (subst Boxes (sym (arrived_widgets o ws)) boxes) in
      then (each (enter from second left values) bs (one_served s)) _ (AllEnter bs) Items
      (each_enters (enter from second left values) (λ b t f g. enter_well second left values b t f e g) bs (one_served s) (good_others s.waiting h)
      (filtered_all (IsTypedArrival D) _ all (arrivals_typed D o ws (good_next s.waiting h) typed)))
      (λ ns t k. (ns, refl, k.0, subst (AllAre box) (sym (sorts_same D ns ∙ ap (map (sort_of D)) k.1)) these, k.2))

  abbrev Fills : PlainNode → PlainNode → Progress → Type 0
  Fills n m t = IsWellBuilt D m × (widget_of m ≡ widget_of n) × Fine t

  abbrev FillAll : PlainNodes → PlainNodes → Progress → Type 0
  FillAll ns ms t = AreWellBuilt D ms × (map widget_of (nodes_in ms) ≡ map widget_of (nodes_in ns)) × Fine t

  -- by what a node is to a build
  if_role : (p q : BuildRole) (itemized : ℕ → Progress → Step PlainNodes) (others : Progress → Step PlainNodes) (s : Progress) (Q : PlainNodes → Progress → Type 0) → q ≡ p
      → ((e : ℕ) → q ≡ lists e → OnGives (itemized e s) Q) → OnGives (others s) Q → OnGives (if_lazy p itemized others s) Q
  if_role (composes place props) q itemized others s Q is h k = k
  if_role (provides name value) q itemized others s Q is h k = k
  if_role (keeps kept) q itemized others s Q is h k = k
  if_role (lists extent) q itemized others s Q is h k = h extent is
  if_role holds q itemized others s Q is h k = k

  boxes_of : (look : Look) (sorts : List Sort) (extent : ℕ) → build_role_of look ≡ lists extent → FitBelow D look (build_role_of look) sorts → AllAre box sorts
  boxes_of look sorts extent is h = subst (λ p. FitBelow D look p sorts) is h

  typed_children : (w : PlainWidget) → IsTypedWidget D w → AreTypedWidgets D (widgets_of (child_widgets w))
  typed_children (plain look k slots children) t = subst (AreTypedWidgets D) (sym (widgets_again children)) t.below

  child_boxes : (w : PlainWidget) (extent : ℕ) → build_role_of (look_of w) ≡ lists extent → IsTypedWidget D w → Boxes (child_widgets w)
  child_boxes (plain look k slots children) extent is t =
      let g = held (plain look k slots children) (λ q v e. let no : lists extent ≡ composes q v = sym is ∙ e in cc) t in
      subst (AllAre box) (sorts_listed D (list_of children)) (boxes_of look (sorts_of D (widgets_of (list_of children))) extent is g.fits)

  -- a node whose children are filled
  lazily : (number : ℕ) (w : PlainWidget) (fields : List Value) (scroll index : ℕ) (ch : PlainNodes) → IsWellBuilt D (node number w fields scroll index ch) → (extent : ℕ) → build_role_of (look_of w) ≡ lists extent
      → (r : Step PlainNodes) → OnGives r Items → OnGives r (λ ns t. IsWellBuilt D (node number w fields scroll index ns) × Fine t)
  lazily number w fields scroll index ch well extent is (stops f) h = tt
  lazily number w fields scroll index ch well extent is (gives ns s) h =
      (subst (λ ms. IsWellBuilt D (node number w fields scroll index ms)) (sym h.1) (lazy_built D number w fields scroll index ch well extent h.0 is h.2 h.3), h.4)

  others_well : (number : ℕ) (w : PlainWidget) (fields : List Value) (scroll index : ℕ) (ch : PlainNodes) → IsWellBuilt D (node number w fields scroll index ch)
      → (r : Step PlainNodes) → OnGives r (FillAll ch) → OnGives r (λ ns t. IsWellBuilt D (node number w fields scroll index ns) × Fine t)
  others_well number w fields scroll index ch well (stops f) h = tt
  others_well number w fields scroll index ch well (gives ns s) h = (
    subst (λ ms. IsWellBuilt D (node number w fields scroll index ms)) (nodes_of-list_of ns)
        (other_built D number w fields scroll index ch well (nodes_in ch) (nodes_in ns) (sym (nodes_of-list_of ch)) h.1 (subst (AreWellBuilt D) (sym (nodes_of-list_of ns)) h.0)),
    h.2,
  )

  defaults_fit : Inherits (default_values c)
  defaults_fit = values_typed (types_in c.inherited.names) c.inherited.values checked.inherited

  only_well : (n : PlainNode) (r : Step PlainNode) → OnGives r (Fills n) → OnGives r (λ m t. IsWellBuilt D m)
  only_well n (stops f) h = tt
  only_well n (gives m s) h = h.0

  module _ (ranges : ℕ → ℕ → ℕ → Window) where
    mutual
      unfolding filled

      filled_well : (left : ℕ) (values : List Value) (n : PlainNode) (s : Progress) → Fine s → Inherits values → IsWellBuilt D n → OnGives (filled from ranges left values n s) (Fills n)
      filled_well left values (node number widget fields scroll index children) s h e well =
          let below = values_below widget values in
          let inherits : Inherits below = typed_below D widget values e well.0.typed in
          let Q : PlainNodes → Progress → Type 0 = λ ns t. IsWellBuilt D (node number widget fields scroll index ns) × Fine t in
          then (if_lazy (build_role_of (look_of widget)) (λ x s1. items_entered from (left - 1) below (ranges number x) (child_widgets widget) s1) (λ s1. all_filled from ranges (left - 1) below children s1) s) _
          Q (Fills (node number widget fields scroll index children))
          (if_role (build_role_of (look_of widget)) (build_role_of (look_of widget)) (λ x s1. items_entered from (left - 1) below (ranges number x) (child_widgets widget) s1) (λ s1. all_filled from ranges (left - 1) below children s1) s Q refl
          (λ x is. lazily number widget fields scroll index children well x is (items_entered from (left - 1) below (ranges number x) (child_widgets widget) s)
          (items_well (left - 1) below (ranges number x) (child_widgets widget) s h inherits (typed_children widget well.0.typed) (child_boxes widget x is well.0.typed)))
          (others_well number widget fields scroll index children well (all_filled from ranges (left - 1) below children s) (all_well (left - 1) below children s h inherits well.1)))
          (λ ns t k. (k.0, refl, k.1))

      all_well : (left : ℕ) (values : List Value) (ns : PlainNodes) (s : Progress) → Fine s → Inherits values → AreWellBuilt D ns → OnGives (all_filled from ranges left values ns s) (FillAll ns)
      all_well left values no_nodes s h e well = (tt, refl, h)
      all_well left values (more_nodes n ns) s h e well =
          then (filled from ranges left values n s) _ (Fills n) (FillAll (more_nodes n ns)) (filled_well left values n s h e well.0) (λ m s1 h1.
          then (all_filled from ranges left values ns s1) _ (FillAll ns) (FillAll (more_nodes n ns)) (all_well left values ns s1 h1.2 e well.1) (λ ms s2 h2.
          ((h1.0, h2.0), (λ i. h1.1 i ∷ h2.1 i), h2.2)))

  second_well : (ranges : PlainNode → Ranges) (tree : PlainNode) (os : List (Option PlainNode)) (s : Progress) → Fine s → IsWellBuilt D tree → OnGives (second_phase from ranges tree os s) (λ m t. IsWellBuilt D m)
  second_well ranges tree [] s h well = well
  second_well ranges tree (o ∷ os) s h well =
      only_well tree (filled from (ranges tree) depth_limit from.program.defaults tree s) (filled_well (ranges tree) depth_limit from.program.defaults tree s h defaults_fit well)

on_built : (d : Declarations) (r : Step PlainNode) (tree : PlainNode) (after : ℕ) → OnGives r (λ n t. IsWellBuilt d n) → built_by r ≡ built tree after → IsWellBuilt d tree
on_built d (stops f) tree after h e = cc
on_built d (gives n s) tree after h e = let same : n ≡ tree = cc in subst (IsWellBuilt d) same h

-- of the first phase's tree
pub first_well : (c : PlainChecked) (old : Option PlainNode) (next : ℕ) (root : PlainWidget) (tree : PlainNode) (s : Progress) → IsTypedChecked c → IfSome old (IsWellBuilt (declarations_of c))
    → IsTypedWidget (declarations_of c) root → first_tree (blueprint_of c) old next root ≡ gives tree s → IsWellBuilt (declarations_of c) tree
first_well c old next root tree s checked was typed is =
    let b = blueprint_of c in
    let entered : OnGives (gives tree s) (Enters c checked old was (root_arrival old root)) =
    subst (λ r. OnGives r (Enters c checked old was (root_arrival old root))) is
    (enter_well c checked old was first depth_limit b.defaults (root_arrival old root) (started next) (nothing_in (λ o. IfSome o (IsWellBuilt (declarations_of c)))) (defaults_fit c checked old was) (root_typed (declarations_of c) old root was typed)) in
    entered.0

-- of the whole build's
pub built_well : (c : PlainChecked) (screen : Screen) (old : Option PlainNode) (next after : ℕ) (root : PlainWidget) (tree : PlainNode) → IsTypedChecked c → IfSome old (IsWellBuilt (declarations_of c))
    → IsTypedWidget (declarations_of c) root → full_build (blueprint_of c) screen old next root ≡ built tree after → IsWellBuilt (declarations_of c) tree
unfolding full_build both_phases
built_well c screen old next after root tree checked was typed e =
    let b = blueprint_of c in
    let D = declarations_of c in
    let here = basis b old in
    let a = root_arrival old root in
    on_built D (both_phases here (live_ranges screen) a (started next)) tree after
    (then (enter here first depth_limit b.defaults a (started next)) _ (Enters c checked old was a) (λ n t. IsWellBuilt D n)
    (enter_well c checked old was first depth_limit b.defaults a (started next) (nothing_in (λ o. IfSome o (IsWellBuilt D))) (defaults_fit c checked old was) (root_typed D old root was typed))
    (λ t s1 h1. second_well c checked old was (live_ranges screen) t s1.waiting s1 h1.2 h1.0))
    (small_built (nat_lt output_limit (count_of root)) _ (both_phases here (live_ranges screen) a (started next)) tree after e)
