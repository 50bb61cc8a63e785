-- What a build gives keeps to what its root widget and the outputs of components keep to.
use Rattle.std.proofs.Common.{◌≡◌, ℕ, zero, suc, ◌-◌, nat_lt, nat_le, Bool, true, false, cond, Option, Some, None, List, [], ◌∷◌, filter, length, map, sym, subst}
use Rattle.fx_expr.specs.declared.values.Value.{Value}
use Rattle.widget_keys.specs.declared.keys.Key.{Key}
use Rattle.widget_model.specs.Look.{Look}
use Rattle.widget_model.specs.Plain.{PlainWidget, plain, Widgets, widgets_of, list_of, look_of, key_of, slots_of}
use Rattle.widget_model.specs.Plain.{children_of as child_widgets}
use Rattle.widget_model.specs.Size.{count_in, count_of}
use Rattle.reconcile.specs.Matching.{matching}
use Rattle.sliver_layout.specs.declared.protocol.Window.{Window}
use Rattle.plain_tree.specs.PlainNode.{PlainNode, node, PlainNodes, no_nodes, more_nodes, nodes_of}
use Rattle.build_form.specs.KeptStates.{AllAre}
use Rattle.build_form.specs.Step.{Progress, Step, stops, gives, each, tree_too_large, output_too_large}
use Rattle.build_form.specs.BuildRole.{BuildRole, composes, provides, keeps, lists, holds, build_role_of}
use Rattle.build_form.specs.Partner.{Arrival, arrivals_from, arrivals, nodes_had, widgets_had, root_arrival, partner_of}
use Rattle.build_form.specs.Entering.{Blueprint, Basis, Phase, first, second, depth_limit, output_limit, met_once, unless_repeated, first_repeated, apart, number_for, fields_for, counted, given_by, values_below, waits, put_off, Opening, opened, entered_below, enter}
use Rattle.build_form.specs.FullBuild.{Ranges, Screen, built, built_by, live_ranges, next_waiting, one_served, items, items_entered, if_lazy, filled, all_filled, second_phase, started, basis, both_phases, first_tree, full_build}
use Rattle.build_form.proofs.OldOrNew.{OnGives, then, either, small_built}
use Rattle.build_form.proofs.Owning.{widgets_again}
use Rattle.versioned_kinds.specs.Widgets.{LooksMeet, AllLooksMeet, WidgetsMeet}
use Rattle.versioned_kinds.proofs.Steps.{whatever, by_role}

-- ---- what comes of steps

unless : (o : Option (Key Value)) (ws : List PlainWidget) (s : Progress) (Q : List PlainWidget → Type 0) → Q ws → OnGives (unless_repeated o ws s) (λ vs t. Q vs)
unless None ws s Q h = h
unless (Some k) ws s Q h = tt

pub of_gives : {A : Type 0} (r : Step A) (Q : A → Progress → Type 0) (a : A) (s : Progress) → OnGives r Q → r ≡ gives a s → Q a s
of_gives r Q a s h e = subst (λ r. OnGives r Q) e h

pub on_built : (Q : PlainNode → Type 0) (r : Step PlainNode) (tree : PlainNode) (after : ℕ) → OnGives r (λ n t. Q n) → built_by r ≡ built tree after → Q tree
on_built Q (stops f) tree after h e = cc
on_built Q (gives n s) tree after h e = let same : n ≡ tree = cc in subst Q same h

-- ---- widgets

module _ (P : Look → Type 0) where
  abbrev pub Meet : List PlainWidget → Type 0
  Meet ws = AllLooksMeet P (widgets_of ws)

  pub listed : (ws : Widgets) → AllLooksMeet P ws → Meet (list_of ws)
  listed ws h = subst (AllLooksMeet P) (sym (widgets_again ws)) h

  slots_meet : (w : PlainWidget) → LooksMeet P w → Meet (slots_of w)
  slots_meet (plain look key slots children) h = listed slots h.1

  children_meet : (w : PlainWidget) → LooksMeet P w → Meet (child_widgets w)
  children_meet (plain look key slots children) h = listed children h.2

-- what the body of each component gives keeps to what the contents of its slots keep to
abbrev pub OutputsMeet : (Look → Type 0) → Blueprint → Type 0
OutputsMeet P b =
    (place : ℕ) (props : List Value) (slots : List PlainWidget) (fields values : List Value) (number : ℕ) → Meet P slots → Meet P (b.output place props slots fields values number)

module _ (P : Look → Type 0) (b : Blueprint) (old : Option PlainNode) (outputs : OutputsMeet P b) where
  abbrev from : Basis
  from = basis b old

  abbrev NodeMeets : PlainNode → Type 0
  NodeMeets n = WidgetsMeet (LooksMeet P) n

  abbrev NodesMeet : PlainNodes → Type 0
  NodesMeet ns = AllAre (λ number widget fields scroll. LooksMeet P widget) ns

  -- ---- the child widgets of a node

  given : (p : BuildRole) (w : PlainWidget) (values : List Value) (number : ℕ) (fields : List Value) (s : Progress) → LooksMeet P w
      → OnGives (given_by b p values number fields w s) (λ ws t. Meet P ws)
  given (composes place props) w values number fields s h =
      let ws = b.output place props (slots_of w) fields values number in
      either (nat_lt output_limit (count_in ws)) (stops output_too_large) (gives ws s) (λ ws t. Meet P ws) tt (outputs place props (slots_of w) fields values number (slots_meet P w h))
  given (provides name value) w values number fields s h = children_meet P w h
  given (keeps kept) w values number fields s h = children_meet P w h
  given (lists extent) w values number fields s h = children_meet P w h
  given holds w values number fields s h = children_meet P w h

  abbrev Opened : Opening → Progress → Type 0
  Opened o s = Meet P o.given

  opens : (values : List Value) (a : Arrival) (s : Progress) → LooksMeet P a.widget → OnGives (opened from values a s) Opened
  opens values a s h =
      let w = a.widget in
      let partner = partner_of from.holder a in
      let fields = fields_for from.program w partner in
      either (nat_le from.program.nodes s.entered) (stops tree_too_large) _ Opened tt
      (then (met_once (key_of w) s) _ (λ x t. Unit {0}) Opened (whatever (met_once (key_of w) s)) (λ x s1 h1.
      then (given_by from.program (build_role_of (look_of w)) values (number_for partner s1) fields w (counted partner s1)) _ (λ ws t. Meet P ws) Opened
      (given (build_role_of (look_of w)) w values (number_for partner s1) fields (counted partner s1) h) (λ ws s2 h2.
      then (apart ws s2) _ (λ vs t. Meet P vs) Opened
      (unless (first_repeated [] (map key_of ws)) ws s2 (Meet P) h2) (λ vs s3 h3. h3))))

  -- ---- what is entered

  abbrev Arriving : List Arrival → Type 0
  Arriving [] = Unit {0}
  Arriving (a ∷ bs) = LooksMeet P a.widget × Arriving bs

  arrive_from : (ns : List PlainNode) (i : ℕ) (ws : List PlainWidget) (ms : List (Option ℕ)) → Meet P ws → Arriving (arrivals_from ns i ws ms)
  arrive_from ns i [] ms h = tt
  arrive_from ns i (w ∷ ws) [] h = (h.0, arrive_from ns (suc i) ws [] h.1)
  arrive_from ns i (w ∷ ws) (m ∷ ms) h = (h.0, arrive_from ns (suc i) ws ms h.1)

  arrive : (o : Option PlainNode) (ws : List PlainWidget) → Meet P ws → Arriving (arrivals o ws)
  arrive o ws h = arrive_from (nodes_had o) 0 ws (matching (widgets_had o) ws) h

  some_arrive : (t : Bool) (a : Arrival) (bs : List Arrival) → LooksMeet P a.widget → Arriving bs → Arriving (cond t (a ∷ bs) bs)
  some_arrive true a bs h k = (h, k)
  some_arrive false a bs h k = k

  filtered : (test : Arrival → Bool) (bs : List Arrival) → Arriving bs → Arriving (filter test bs)
  filtered test [] h = tt
  filtered test (a ∷ bs) h = some_arrive (test a) a (filter test bs) h.0 (filtered test bs h.1)

  abbrev GivesOne : PlainNode → Progress → Type 0
  GivesOne n s = NodeMeets n

  abbrev GivesEach : List PlainNode → Progress → Type 0
  GivesEach ns s = NodesMeet (nodes_of ns)

  abbrev GivesAll : PlainNodes → Progress → Type 0
  GivesAll ns s = NodesMeet ns

  each_meets : (go : Arrival → Progress → Step PlainNode) → ((a : Arrival) (s : Progress) → LooksMeet P a.widget → OnGives (go a s) GivesOne)
      → (bs : List Arrival) (s : Progress) → Arriving bs → OnGives (each go bs s) GivesEach
  each_meets go step [] s h = tt
  each_meets go step (a ∷ bs) s h =
      then (go a s) _ GivesOne GivesEach (step a s h.0) (λ n s1 h1.
      then (each go bs s1) _ GivesEach GivesEach (each_meets go step bs s1 h.1) (λ ns s2 h2. (h1, h2)))

  enter_meets : (phase : Phase) (left : ℕ) (values : List Value) (a : Arrival) (s : Progress) → LooksMeet P a.widget → OnGives (enter from phase left values a s) GivesOne
  unfolding enter
  enter_meets phase zero values a s h = tt
  enter_meets phase (suc left) values a s h =
      let w = a.widget in
      let below = values_below w values in
      then (opened from values a s) _ Opened GivesOne (opens values a s h) (λ o s1 h1.
      then (entered_below (enter from phase left) phase values w o s1) _ GivesEach GivesOne
      (either (waits phase (build_role_of (look_of w))) (put_off o.partner s1) _ GivesEach tt
      (each_meets (enter from phase left below) (λ b t k. enter_meets phase left below b t k) (arrivals o.partner o.given) s1 (arrive o.partner o.given h1)))
      (λ ns s2 h2. (h, h2)))

  -- ---- the second phase

  items_meet : (left : ℕ) (values : List Value) (range : ℕ → Window) (ws : List PlainWidget) (s : Progress) → Meet P ws → OnGives (items_entered from left values range ws s) GivesAll
  items_meet left values range ws s h =
      let others = arrivals (next_waiting s.waiting) ws in
      let bs = items (range (length ws)) others in
      then (each (enter from second left values) bs (one_served s)) _ GivesEach GivesAll
      (each_meets (enter from second left values) (λ b t k. enter_meets second left values b t k) bs (one_served s) (filtered _ others (arrive (next_waiting s.waiting) ws h)))
      (λ ns t k. k)

  module _ (ranges : Ranges) where
    mutual
      unfolding filled

      fill_meets : (left : ℕ) (values : List Value) (n : PlainNode) (s : Progress) → NodeMeets n → OnGives (filled from ranges left values n s) GivesOne
      fill_meets left values (node number widget fields scroll index children) s h =
          let below = values_below widget values in
          let itemized = λ (e : ℕ) (s1 : Progress). items_entered from (left - 1) below (ranges number e) (child_widgets widget) s1 in
          let others = λ (s1 : Progress). all_filled from ranges (left - 1) below children s1 in
          then (if_lazy (build_role_of (look_of widget)) itemized others s) _ GivesAll GivesOne
          (by_role (build_role_of (look_of widget)) itemized others s (λ b ns t. NodesMeet ns)
          (λ e. items_meet (left - 1) below (ranges number e) (child_widgets widget) s (children_meet P widget h.0))
          (all_fill_meet (left - 1) below children s h.1))
          (λ ns t k. (h.0, k))

      all_fill_meet : (left : ℕ) (values : List Value) (ns : PlainNodes) (s : Progress) → NodesMeet ns → OnGives (all_filled from ranges left values ns s) GivesAll
      all_fill_meet left values no_nodes s h = tt
      all_fill_meet left values (more_nodes n ns) s h =
          then (filled from ranges left values n s) _ GivesOne GivesAll (fill_meets left values n s h.0) (λ m s1 h1.
          then (all_filled from ranges left values ns s1) _ GivesAll GivesAll (all_fill_meet left values ns s1 h.1) (λ ms s2 h2. (h1, h2)))

  second_meets : (ranges : PlainNode → Ranges) (tree : PlainNode) (os : List (Option PlainNode)) (s : Progress) → NodeMeets tree
      → OnGives (second_phase from ranges tree os s) GivesOne
  second_meets ranges tree [] s h = h
  second_meets ranges tree (o ∷ os) s h = fill_meets (ranges tree) depth_limit from.program.defaults tree s h

  -- ---- both phases

  pub first_meets : (next : ℕ) (root : PlainWidget) (tree : PlainNode) (s : Progress) → LooksMeet P root → first_tree b old next root ≡ gives tree s → WidgetsMeet (LooksMeet P) tree
  first_meets next root tree s h e =
      let a = root_arrival old root in
      of_gives (first_tree b old next root) GivesOne tree s (enter_meets first depth_limit b.defaults a (started next) h) e

  pub built_meets : (screen : Screen) (next after : ℕ) (root : PlainWidget) (tree : PlainNode) → LooksMeet P root → full_build b screen old next root ≡ built tree after → WidgetsMeet (LooksMeet P) tree
  unfolding full_build both_phases
  built_meets screen next after root tree h e =
      let a = root_arrival old root in
      let whole = both_phases from (live_ranges screen) a (started next) in
      on_built NodeMeets whole tree after
      (then (enter from first depth_limit b.defaults a (started next)) _ GivesOne GivesOne (enter_meets first depth_limit b.defaults a (started next) h)
      (λ t s1 h1. second_meets (live_ranges screen) t s1.waiting s1 h1))
      (small_built (nat_lt output_limit (count_of root)) _ whole tree after e)
