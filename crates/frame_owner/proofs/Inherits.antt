-- Below an Inherit of a tree that a build gives stands what its widget has.
use Rattle.std.proofs.Common.{◌≡◌, ℕ, zero, suc, ◌-◌, nat_le, Bool, true, false, cond, Option, Some, None, List, [], ◌∷◌, map, length, refl, sym, ◌∙◌, subst}
use Rattle.fx_expr.specs.declared.values.Value.{Value}
use Rattle.widget_keys.specs.declared.keys.Key.{Key}
use Rattle.widget_model.specs.Plain.{PlainWidget, look_of, key_of}
use Rattle.widget_model.specs.Plain.{children_of as child_widgets}
use Rattle.reconcile.specs.Matching.{matching}
use Rattle.sliver_layout.specs.declared.protocol.Window.{Window}
use Rattle.plain_tree.specs.PlainNode.{PlainNode, node, PlainNodes, no_nodes, more_nodes, nodes_of, list_of, widget_of}
use Rattle.build_form.specs.Step.{Fault, Progress, Step, stops, gives, each, tree_too_large}
use Rattle.build_form.specs.BuildRole.{BuildRole, composes, provides, keeps, lists, holds, build_role_of}
use Rattle.build_form.specs.Partner.{Arrival, nodes_had, widgets_had, arrivals, root_arrival, partner_of}
use Rattle.build_form.specs.Entering.{Blueprint, Basis, Phase, first, second, depth_limit, met_once, number_for, fields_for, counted, given_by, first_repeated, unless_repeated, apart, values_below, waits, put_off, Opening, opened, entered_below, made, enter}
use Rattle.build_form.specs.FullBuild.{Screen, Ranges, failed, built, built_by, live_ranges, items, next_waiting, one_served, items_entered, if_lazy, filled, all_filled, second_phase, started, basis, first_tree, both_phases, full_build}
use Rattle.build_form.specs.WellBuilt.{AreBelow}
use Rattle.build_walk.proofs.Stepping.{Ends, ends_then, ends_more, ends_unless, AllOf, each_ends}
use Rattle.build_walk.proofs.Made.{list_of-nodes_of, widgets_from}

abbrev pub is_provider : BuildRole → Bool
is_provider (composes place props) = false
is_provider (provides name value) = true
is_provider (keeps kept) = false
is_provider (lists extent) = false
is_provider holds = false

abbrev mutual
  pub OwnBelow : PlainNode → Type 0
  OwnBelow (node number widget fields scroll index children) =
      (is_provider (build_role_of (look_of widget)) ≡ true → map widget_of (list_of children) ≡ child_widgets widget) × AllOwnBelow children

  pub AllOwnBelow : PlainNodes → Type 0
  AllOwnBelow no_nodes = Unit {0}
  AllOwnBelow (more_nodes n ns) = OwnBelow n × AllOwnBelow ns

-- ---- what is given

anything : {A : Type 0} (r : Step A) → Ends (λ x t. Unit {0}) r
anything (stops f) = tt
anything (gives x t) = tt

-- an Inherit is given its own children
abbrev Given : PlainWidget → List PlainWidget → Type 0
Given w ws = is_provider (build_role_of (look_of w)) ≡ true → ws ≡ child_widgets w

given_own : (b : Blueprint) (r : BuildRole) (values : List Value) (number : ℕ) (fields : List Value) (w : PlainWidget) (s : Progress)
    → Ends (λ ws t. is_provider r ≡ true → ws ≡ child_widgets w) (given_by b r values number fields w s)
given_own b (composes place props) values number fields w s =
    ends_more (λ ws t. Unit {0}) (λ ws t. false ≡ true → ws ≡ child_widgets w) (given_by b (composes place props) values number fields w s) (λ ws t h e. absurd (cc))
    (anything (given_by b (composes place props) values number fields w s))
given_own b (provides name value) values number fields w s = λ e. refl
given_own b (keeps kept) values number fields w s = λ e. refl
given_own b (lists extent) values number fields w s = λ e. refl
given_own b holds values number fields w s = λ e. refl

apart_own : (r : Option (Key Value)) (w : PlainWidget) (ws : List PlainWidget) (s : Progress) → Given w ws → Ends (λ vs t. Given w vs) (unless_repeated r ws s)
apart_own None w ws s h = h
apart_own (Some k) w ws s h = tt

opened_own : (from : Basis) (values : List Value) (a : Arrival) (s : Progress) → Ends (λ o t. Given a.widget o.given) (opened from values a s)
opened_own from values a s =
    let partner = partner_of from.holder a in
    let fields = fields_for from.program a.widget partner in
    let role = build_role_of (look_of a.widget) in
    ends_unless (λ o t. Given a.widget o.given) (nat_le from.program.nodes s.entered) tree_too_large _
    (ends_then (λ x t. Unit {0}) (λ o t. Given a.widget o.given) (met_once (key_of a.widget) s) _ (anything (met_once (key_of a.widget) s))
    (λ x s1 e1. ends_then (λ ws t. Given a.widget ws) (λ o t. Given a.widget o.given)
    (given_by from.program role values (number_for partner s1) fields a.widget (counted partner s1)) _
    (given_own from.program role values (number_for partner s1) fields a.widget (counted partner s1))
    (λ ws s2 h2. ends_then (λ vs t. Given a.widget vs) (λ o t. Given a.widget o.given) (apart ws s2) _ (apart_own (first_repeated [] (map key_of ws)) a.widget ws s2 h2)
    (λ vs s3 h3. h3))))

-- ---- a widget is entered

abbrev Came : List Arrival → List PlainNode → Type 0
Came arriving ns = (map widget_of ns ≡ map (λ (a : Arrival). a.widget) arriving) × AllOwnBelow (nodes_of ns)

abbrev IsMade : Arrival → PlainNode → Type 0
IsMade a n = (widget_of n ≡ a.widget) × OwnBelow n

came_more : (a : Arrival) (n : PlainNode) (arriving : List Arrival) (ns : List PlainNode) → IsMade a n → Came arriving ns → Came (a ∷ arriving) (n ∷ ns)
came_more a n arriving ns h k = (λ i. h.0 i ∷ k.0 i, (h.1, k.1))

any : (arriving : List Arrival) → AllOf (λ a. Unit {0}) arriving
any [] = tt
any (a ∷ arriving) = (tt, any arriving)

each_came : (go : Arrival → Progress → Step PlainNode) → ((a : Arrival) (s : Progress) → Ends (λ n t. IsMade a n) (go a s)) → (arriving : List Arrival) (s : Progress)
    → Ends (λ ns t. Came arriving ns) (each go arriving s)
each_came go step arriving s =
    ends_more (λ ns t. Unit {0} × Came arriving ns) (λ ns t. Came arriving ns) (each go arriving s) (λ ns t h. h.1)
    (each_ends (λ a. Unit {0}) (λ t. Unit {0}) IsMade Came go (refl, tt) came_more
    (λ a t k q. ends_more (λ n u. IsMade a n) (λ n u. Unit {0} × IsMade a n) (go a t) (λ n u h. (tt, h)) (step a t)) arriving s (any arriving) tt)

abbrev Below : Bool → List PlainWidget → List PlainNode → Type 0
Below t given ns = AreBelow t given ns × AllOwnBelow (nodes_of ns)

below_made : (go : Arrival → Progress → Step PlainNode) (o : Opening) (s : Progress) (t : Bool) → ((a : Arrival) (s : Progress) → Ends (λ n t. IsMade a n) (go a s))
    → Ends (λ ns u. Below t o.given ns) (cond t (put_off o.partner s) (each go (arrivals o.partner o.given) s))
below_made go o s true step = (refl, tt)
below_made go o s false step =
    ends_more (λ ns t. Came (arrivals o.partner o.given) ns) (λ ns t. Below false o.given ns) (each go (arrivals o.partner o.given) s)
    (λ ns t h. (h.0 ∙ widgets_from (nodes_had o.partner) 0 o.given (matching (widgets_had o.partner) o.given), h.1))
    (each_came go step (arrivals o.partner o.given) s)

-- an Inherit's child waits in no phase
own_below : (phase : Phase) (r : BuildRole) (w : PlainWidget) (given : List PlainWidget) (ns : List PlainNode) → (is_provider r ≡ true → given ≡ child_widgets w) → AreBelow (waits phase r) given ns
    → is_provider r ≡ true → map widget_of ns ≡ child_widgets w
own_below first (provides name value) w given ns own below e = below ∙ own e
own_below second (provides name value) w given ns own below e = below ∙ own e
own_below phase (composes place props) w given ns own below e = absurd (cc)
own_below phase (keeps kept) w given ns own below e = absurd (cc)
own_below phase (lists extent) w given ns own below e = absurd (cc)
own_below phase holds w given ns own below e = absurd (cc)

made_own : (phase : Phase) (a : Arrival) (o : Opening) (ns : List PlainNode) → Given a.widget o.given → Below (waits phase (build_role_of (look_of a.widget))) o.given ns → IsMade a (made a o ns)
made_own phase a o ns own below = (
  refl,
  (
    λ e. subst (λ ms. map widget_of ms ≡ child_widgets a.widget) (sym (list_of-nodes_of ns)) (own_below phase (build_role_of (look_of a.widget)) a.widget o.given ns own below.0 e),
    below.1,
  ),
)

module _ (from : Basis) where
  pub enter_own : (phase : Phase) (left : ℕ) (values : List Value) (a : Arrival) (s : Progress) → Ends (λ n t. IsMade a n) (enter from phase left values a s)
  unfolding enter
  enter_own phase zero values a s = tt
  enter_own phase (suc left) values a s =
      ends_then (λ o t. Given a.widget o.given) (λ n t. IsMade a n) (opened from values a s) _ (opened_own from values a s) (λ o t is.
      ends_then (λ ns u. Below (waits phase (build_role_of (look_of a.widget))) o.given ns) (λ n u. IsMade a n)
      (entered_below (enter from phase left) phase values a.widget o t) _
      (below_made (enter from phase left (values_below a.widget values)) o t (waits phase (build_role_of (look_of a.widget)))
      (λ x u. enter_own phase left (values_below a.widget values) x u))
      (λ ns u below. made_own phase a o ns is below))

  -- ---- the second phase

  items_own : (left : ℕ) (values : List Value) (range : ℕ → Window) (ws : List PlainWidget) (s : Progress) → Ends (λ ns t. AllOwnBelow ns) (items_entered from left values range ws s)
  items_own left values range ws s =
      let there = items (range (length ws)) (arrivals (next_waiting s.waiting) ws) in
      ends_then (λ ns t. Came there ns) (λ ns t. AllOwnBelow ns) (each (enter from second left values) there (one_served s)) _
      (each_came (enter from second left values) (λ a t. enter_own second left values a t) there (one_served s))
      (λ ns t h. h.1)

  -- the nodes below one, where those that were there before had these widgets
  abbrev Stay : PlainNodes → PlainNodes → Type 0
  Stay old ns = (map widget_of (list_of ns) ≡ map widget_of (list_of old)) × AllOwnBelow ns

  abbrev Refilled : BuildRole → PlainNodes → PlainNodes → Type 0
  Refilled r old ns = (is_provider r ≡ true → map widget_of (list_of ns) ≡ map widget_of (list_of old)) × AllOwnBelow ns

  lazy_own : (r : BuildRole) (itemized : ℕ → Progress → Step PlainNodes) (others : Progress → Step PlainNodes) (old : PlainNodes) (s : Progress)
      → ((extent : ℕ) → Ends (λ ns t. AllOwnBelow ns) (itemized extent s)) → Ends (λ ns t. Stay old ns) (others s) → Ends (λ ns t. Refilled r old ns) (if_lazy r itemized others s)
  lazy_own (composes place props) itemized others old s h k = ends_more (λ ns t. Stay old ns) (λ ns t. Refilled (composes place props) old ns) (others s) (λ ns t x. ((λ e. x.0), x.1)) k
  lazy_own (provides name value) itemized others old s h k = ends_more (λ ns t. Stay old ns) (λ ns t. Refilled (provides name value) old ns) (others s) (λ ns t x. ((λ e. x.0), x.1)) k
  lazy_own (keeps kept) itemized others old s h k = ends_more (λ ns t. Stay old ns) (λ ns t. Refilled (keeps kept) old ns) (others s) (λ ns t x. ((λ e. x.0), x.1)) k
  lazy_own (lists extent) itemized others old s h k = ends_more (λ ns t. AllOwnBelow ns) (λ ns t. Refilled (lists extent) old ns) (itemized extent s) (λ ns t x. ((λ e. absurd (cc)), x)) (h extent)
  lazy_own holds itemized others old s h k = ends_more (λ ns t. Stay old ns) (λ ns t. Refilled holds old ns) (others s) (λ ns t x. ((λ e. x.0), x.1)) k

  abbrev Filled : PlainNode → PlainNode → Type 0
  Filled n m = (widget_of m ≡ widget_of n) × OwnBelow m

  mutual
    unfolding filled all_filled

    filled_own : (ranges : Ranges) (left : ℕ) (values : List Value) (n : PlainNode) (s : Progress) → OwnBelow n → Ends (λ m t. Filled n m) (filled from ranges left values n s)
    filled_own ranges left values (node number widget fields scroll index children) s own =
        let role = build_role_of (look_of widget) in
        let below = values_below widget values in
        ends_then (λ ns t. Refilled role children ns) (λ m t. Filled (node number widget fields scroll index children) m)
        (if_lazy role
        (λ extent s1. items_entered from (left - 1) below (ranges number extent) (child_widgets widget) s1)
        (λ s1. all_filled from ranges (left - 1) below children s1) s) _
        (lazy_own role _ _ children s (λ extent. items_own (left - 1) below (ranges number extent) (child_widgets widget) s) (all_filled_own ranges (left - 1) below children s own.1))
        (λ ns t h. (refl, ((λ e. h.0 e ∙ own.0 e), h.1)))

    all_filled_own : (ranges : Ranges) (left : ℕ) (values : List Value) (ns : PlainNodes) (s : Progress) → AllOwnBelow ns → Ends (λ ms t. Stay ns ms) (all_filled from ranges left values ns s)
    all_filled_own ranges left values no_nodes s own = (refl, tt)
    all_filled_own ranges left values (more_nodes n ns) s own =
        ends_then (λ m t. Filled n m) (λ ms t. Stay (more_nodes n ns) ms) (filled from ranges left values n s) _ (filled_own ranges left values n s own.0) (λ m t h.
        ends_then (λ ms u. Stay ns ms) (λ ms u. Stay (more_nodes n ns) ms) (all_filled from ranges left values ns t) _ (all_filled_own ranges left values ns t own.1)
        (λ ms u k. (λ i. h.0 i ∷ k.0 i, (h.1, k.1))))

  second_own : (ranges : PlainNode → Ranges) (tree : PlainNode) (waiting : List (Option PlainNode)) (s : Progress) → OwnBelow tree → Ends (λ n t. OwnBelow n) (second_phase from ranges tree waiting s)
  second_own ranges tree [] s own = own
  second_own ranges tree (partner ∷ others) s own =
      ends_more (λ m t. Filled tree m) (λ n t. OwnBelow n) (filled from (ranges tree) depth_limit from.program.defaults tree s) (λ m t h. h.1)
      (filled_own (ranges tree) depth_limit from.program.defaults tree s own)

  both_own : (ranges : PlainNode → Ranges) (root : Arrival) (s : Progress) → Ends (λ n t. OwnBelow n) (both_phases from ranges root s)
  unfolding both_phases
  both_own ranges root s =
      ends_then (λ n t. IsMade root n) (λ n t. OwnBelow n) (enter from first depth_limit from.program.defaults root s) _
      (enter_own first depth_limit from.program.defaults root s) (λ tree s1 h. second_own ranges tree s1.waiting s1 h.1)

-- ---- what a build gives

ended : (r : Step PlainNode) (tree : PlainNode) (next : ℕ) → Ends (λ n t. OwnBelow n) r → built_by r ≡ built tree next → OwnBelow tree
ended (stops f) tree next h e = absurd (cc)
ended (gives n t) tree next h e = let same : n ≡ tree = cc in subst OwnBelow same h

ended_when : (b : Bool) (f : Fault) (r : Step PlainNode) (tree : PlainNode) (next : ℕ) → Ends (λ n t. OwnBelow n) r → cond b (failed f) (built_by r) ≡ built tree next → OwnBelow tree
ended_when true f r tree next h e = absurd (cc)
ended_when false f r tree next h e = ended r tree next h e

pub build_own : (b : Blueprint) (screen : Screen) (old : Option PlainNode) (next after : ℕ) (root : PlainWidget) (tree : PlainNode) → full_build b screen old next root ≡ built tree after → OwnBelow tree
unfolding full_build
build_own b screen old next after root tree e = ended_when _ _ _ tree after (both_own (basis b old) (live_ranges screen) _ (started next)) e

pub first_own : (b : Blueprint) (old : Option PlainNode) (next : ℕ) (root : PlainWidget) (tree : PlainNode) (s : Progress) → first_tree b old next root ≡ gives tree s → OwnBelow tree
first_own b old next root tree s e =
    (subst (Ends (λ n t. IsMade (root_arrival old root) n)) e (enter_own (basis b old) first depth_limit b.defaults (root_arrival old root) (started next))).1
