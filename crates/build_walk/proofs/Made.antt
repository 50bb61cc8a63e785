-- In a tree that a build makes each component has below it what its body gives.
use Rattle.std.proofs.Common.{◌≡◌, ℕ, zero, suc, ◌-◌, Bool, true, false, cond, Option, List, [], ◌∷◌, map, length, refl, sym, ap, ◌∙◌, subst}
use Rattle.fx_expr.specs.declared.values.Value.{Value}
use Rattle.sliver_layout.specs.declared.protocol.Window.{Window}
use Rattle.widget_model.specs.Plain.{PlainWidget, look_of}
use Rattle.widget_model.specs.Plain.{children_of as child_widgets}
use Rattle.reconcile.specs.Matching.{matching}
use Rattle.plain_tree.specs.PlainNode.{PlainNode, node, PlainNodes, no_nodes, more_nodes, nodes_of, list_of, widget_of}
use Rattle.build_form.specs.Step.{Fault, Progress, Step, stops, gives, each}
use Rattle.build_form.specs.BuildRole.{BuildRole, composes, provides, keeps, lists, holds, build_role_of}
use Rattle.build_form.specs.Partner.{Arrival, arrivals_from, nodes_had, widgets_had, arrivals, root_arrival}
use Rattle.build_form.specs.Entering.{Blueprint, Basis, Phase, first, second, depth_limit, values_below, waits, put_off, Opening, opened, entered_below, made, enter}
use Rattle.build_form.specs.FullBuild.{Screen, Ranges, failed, built, built_by, live_ranges, items, next_waiting, one_served, items_entered, if_lazy, filled, all_filled, second_phase, started, basis, first_tree, both_phases, full_build}
use Rattle.build_form.specs.WellBuilt.{AreBelow}
use Rattle.build_walk.specs.Fresh.{HasOutput, HasFreshOutputs, HaveFreshOutputs}
use Rattle.build_walk.proofs.Stepping.{Ends, ends_then, ends_more, AllOf, each_ends}
use Rattle.build_walk.proofs.Opened.{IsOpened, opened_ends}

pub list_of-nodes_of : (ns : List PlainNode) → list_of (nodes_of ns) ≡ ns
list_of-nodes_of [] = refl
list_of-nodes_of (n ∷ ns) = ap (λ ms. n ∷ ms) (list_of-nodes_of ns)

pub widgets_from : (ns : List PlainNode) (i : ℕ) (ws : List PlainWidget) (ms : List (Option ℕ)) → map (λ (a : Arrival). a.widget) (arrivals_from ns i ws ms) ≡ ws
widgets_from ns i [] ms = refl
widgets_from ns i (w ∷ ws) [] = ap (λ l. w ∷ l) (widgets_from ns (suc i) ws [])
widgets_from ns i (w ∷ ws) (m ∷ ms) = ap (λ l. w ∷ l) (widgets_from ns (suc i) ws ms)

-- a component's child is entered in both phases
has_below : (b : Blueprint) (phase : Phase) (r : BuildRole) (w : PlainWidget) (fields values : List Value) (number : ℕ) (given : List PlainWidget) (ns : List PlainNode)
    → HasOutput b r w fields values number given → AreBelow (waits phase r) given ns → HasOutput b r w fields values number (map widget_of ns)
has_below b first (composes place props) w fields values number given ns h below = subst (HasOutput b (composes place props) w fields values number) (sym below) h
has_below b second (composes place props) w fields values number given ns h below = subst (HasOutput b (composes place props) w fields values number) (sym below) h
has_below b phase (provides name value) w fields values number given ns h below = tt
has_below b phase (keeps kept) w fields values number given ns h below = tt
has_below b phase (lists extent) w fields values number given ns h below = tt
has_below b phase holds w fields values number given ns h below = tt

module _ (from : Basis) where
  -- what came of some arrivals
  abbrev Came : List Value → List Arrival → List PlainNode → Type 0
  Came values arriving ns = (map widget_of ns ≡ map (λ (a : Arrival). a.widget) arriving) × HaveFreshOutputs from.program [] values (nodes_of ns)

  abbrev IsMade : List Value → Arrival → PlainNode → Type 0
  IsMade values a n = (widget_of n ≡ a.widget) × HasFreshOutputs from.program [] values n

  came_more : (values : List Value) (a : Arrival) (n : PlainNode) (arriving : List Arrival) (ns : List PlainNode) → IsMade values a n → Came values arriving ns → Came values (a ∷ arriving) (n ∷ ns)
  came_more values a n arriving ns h k = (λ i. h.0 i ∷ k.0 i, (h.1, k.1))

  any : (arriving : List Arrival) → AllOf (λ a. Unit {0}) arriving
  any [] = tt
  any (a ∷ arriving) = (tt, any arriving)

  pub each_came : (go : Arrival → Progress → Step PlainNode) (values : List Value) → ((a : Arrival) (s : Progress) → Ends (λ n t. IsMade values a n) (go a s)) → (arriving : List Arrival) (s : Progress)
      → Ends (λ ns t. Came values arriving ns) (each go arriving s)
  each_came go values step arriving s =
      ends_more (λ ns t. Unit {0} × Came values arriving ns) (λ ns t. Came values arriving ns) (each go arriving s) (λ ns t h. h.1)
      (each_ends (λ a. Unit {0}) (λ t. Unit {0}) (IsMade values) (Came values) go (refl, tt) (came_more values)
      (λ a t k q. ends_more (λ n u. IsMade values a n) (λ n u. Unit {0} × IsMade values a n) (go a t) (λ n u h. (tt, h)) (step a t)) arriving s (any arriving) tt)

  abbrev Below : List Value → Bool → List PlainWidget → List PlainNode → Type 0
  Below values t given ns = AreBelow t given ns × HaveFreshOutputs from.program [] values (nodes_of ns)

  below_made : (go : Arrival → Progress → Step PlainNode) (values : List Value) (o : Opening) (s : Progress) (t : Bool)
      → ((a : Arrival) (s : Progress) → Ends (λ n t. IsMade values a n) (go a s))
      → Ends (λ ns u. Below values t o.given ns) (cond t (put_off o.partner s) (each go (arrivals o.partner o.given) s))
  below_made go values o s true step = (refl, tt)
  below_made go values o s false step =
      ends_more (λ ns t. Came values (arrivals o.partner o.given) ns) (λ ns t. Below values false o.given ns) (each go (arrivals o.partner o.given) s)
      (λ ns t h. (h.0 ∙ widgets_from (nodes_had o.partner) 0 o.given (matching (widgets_had o.partner) o.given), h.1))
      (each_came go values step (arrivals o.partner o.given) s)

  made_fresh : (phase : Phase) (values : List Value) (a : Arrival) (s : Progress) (o : Opening) (t : Progress) (ns : List PlainNode)
      → IsOpened from values a s o t → Below (values_below a.widget values) (waits phase (build_role_of (look_of a.widget))) o.given ns → IsMade values a (made a o ns)
  made_fresh phase values a s o t ns is below = (
    refl,
    (
      λ e. subst (λ ms. HasOutput from.program (build_role_of (look_of a.widget)) a.widget o.fields values o.number (map widget_of ms)) (sym (list_of-nodes_of ns))
          (has_below from.program phase (build_role_of (look_of a.widget)) a.widget o.fields values o.number o.given ns is.output below.0),
      below.1,
    ),
  )

  pub enter_made : (phase : Phase) (left : ℕ) (values : List Value) (a : Arrival) (s : Progress) → Ends (λ n t. IsMade values a n) (enter from phase left values a s)
  unfolding enter
  enter_made phase zero values a s = tt
  enter_made phase (suc left) values a s =
      ends_then (IsOpened from values a s) (λ n t. IsMade values a n) (opened from values a s) _ (opened_ends from values a s) (λ o t is.
      ends_then (λ ns u. Below (values_below a.widget values) (waits phase (build_role_of (look_of a.widget))) o.given ns) (λ n u. IsMade values a n)
      (entered_below (enter from phase left) phase values a.widget o t) _
      (below_made (enter from phase left (values_below a.widget values)) (values_below a.widget values) o t (waits phase (build_role_of (look_of a.widget)))
      (λ x u. enter_made phase left (values_below a.widget values) x u))
      (λ ns u below. made_fresh phase values a s o t ns is below))

  -- ---- the second phase

  pub items_made : (left : ℕ) (values : List Value) (range : ℕ → Window) (ws : List PlainWidget) (s : Progress) → Ends (λ ns t. HaveFreshOutputs from.program [] values ns) (items_entered from left values range ws s)
  items_made left values range ws s =
      let there = items (range (length ws)) (arrivals (next_waiting s.waiting) ws) in
      ends_then (λ ns t. Came values there ns) (λ ns t. HaveFreshOutputs from.program [] values ns) (each (enter from second left values) there (one_served s)) _
      (each_came (enter from second left values) values (λ a t. enter_made second left values a t) there (one_served s))
      (λ ns t h. h.1)

  -- the nodes below a node, where those that were there before had these widgets
  abbrev Refilled : List Value → BuildRole → PlainNodes → PlainNodes → Type 0
  Refilled values (lists extent) old ns = HaveFreshOutputs from.program [] values ns
  Refilled values r old ns = (map widget_of (list_of ns) ≡ map widget_of (list_of old)) × HaveFreshOutputs from.program [] values ns

  abbrev All : List Value → PlainNodes → PlainNodes → Type 0
  All values old ns = (map widget_of (list_of ns) ≡ map widget_of (list_of old)) × HaveFreshOutputs from.program [] values ns

  lazy_made : (values : List Value) (r : BuildRole) (itemized : ℕ → Progress → Step PlainNodes) (others : Progress → Step PlainNodes) (old : PlainNodes) (s : Progress)
      → ((extent : ℕ) → Ends (λ ns t. HaveFreshOutputs from.program [] values ns) (itemized extent s)) → Ends (λ ns t. All values old ns) (others s)
      → Ends (λ ns t. Refilled values r old ns) (if_lazy r itemized others s)
  lazy_made values (composes place props) itemized others old s h k = k
  lazy_made values (provides name value) itemized others old s h k = k
  lazy_made values (keeps kept) itemized others old s h k = k
  lazy_made values (lists extent) itemized others old s h k = h extent
  lazy_made values holds itemized others old s h k = k

  output_stays : (r : BuildRole) (w : PlainWidget) (fields values below : List Value) (number : ℕ) (old ns : PlainNodes) → Refilled below r old ns
      → HasOutput from.program r w fields values number (map widget_of (list_of old)) → HasOutput from.program r w fields values number (map widget_of (list_of ns))
  output_stays (composes place props) w fields values below number old ns h k = subst (HasOutput from.program (composes place props) w fields values number) (sym h.0) k
  output_stays (provides name value) w fields values below number old ns h k = tt
  output_stays (keeps kept) w fields values below number old ns h k = tt
  output_stays (lists extent) w fields values below number old ns h k = tt
  output_stays holds w fields values below number old ns h k = tt

  below_fresh : (r : BuildRole) (values : List Value) (old ns : PlainNodes) → Refilled values r old ns → HaveFreshOutputs from.program [] values ns
  below_fresh (composes place props) values old ns h = h.1
  below_fresh (provides name value) values old ns h = h.1
  below_fresh (keeps kept) values old ns h = h.1
  below_fresh (lists extent) values old ns h = h
  below_fresh holds values old ns h = h.1

  abbrev Filled : List Value → PlainNode → PlainNode → Type 0
  Filled values n m = (widget_of m ≡ widget_of n) × HasFreshOutputs from.program [] values m

  mutual
    unfolding filled all_filled

    pub filled_made : (ranges : Ranges) (left : ℕ) (values : List Value) (n : PlainNode) (s : Progress) → HasFreshOutputs from.program [] values n → Ends (λ m t. Filled values n m) (filled from ranges left values n s)
    filled_made ranges left values (node number widget fields scroll index children) s fresh =
        let role = build_role_of (look_of widget) in
        let below = values_below widget values in
        ends_then (λ ns t. Refilled below role children ns) (λ m t. Filled values (node number widget fields scroll index children) m)
        (if_lazy role
        (λ extent s1. items_entered from (left - 1) below (ranges number extent) (child_widgets widget) s1)
        (λ s1. all_filled from ranges (left - 1) below children s1) s) _
        (lazy_made below role _ _ children s
        (λ extent. items_made (left - 1) below (ranges number extent) (child_widgets widget) s)
        (all_filled_made ranges (left - 1) below children s fresh.1))
        (λ ns t h. (refl, (λ e. output_stays role widget fields values below number children ns h (fresh.0 e), below_fresh role below children ns h)))

    pub all_filled_made : (ranges : Ranges) (left : ℕ) (values : List Value) (ns : PlainNodes) (s : Progress) → HaveFreshOutputs from.program [] values ns → Ends (λ ms t. All values ns ms) (all_filled from ranges left values ns s)
    all_filled_made ranges left values no_nodes s fresh = (refl, tt)
    all_filled_made ranges left values (more_nodes n ns) s fresh =
        ends_then (λ m t. Filled values n m) (λ ms t. All values (more_nodes n ns) ms) (filled from ranges left values n s) _ (filled_made ranges left values n s fresh.0) (λ m t h.
        ends_then (λ ms u. All values ns ms) (λ ms u. All values (more_nodes n ns) ms) (all_filled from ranges left values ns t) _ (all_filled_made ranges left values ns t fresh.1)
        (λ ms u k. (λ i. h.0 i ∷ k.0 i, (h.1, k.1))))

  second_made : (ranges : PlainNode → Ranges) (tree : PlainNode) (waiting : List (Option PlainNode)) (s : Progress) → HasFreshOutputs from.program [] from.program.defaults tree
      → Ends (λ n t. HasFreshOutputs from.program [] from.program.defaults n) (second_phase from ranges tree waiting s)
  second_made ranges tree [] s fresh = fresh
  second_made ranges tree (partner ∷ others) s fresh =
      ends_more (λ m t. Filled from.program.defaults tree m) (λ n t. HasFreshOutputs from.program [] from.program.defaults n) (filled from (ranges tree) depth_limit from.program.defaults tree s)
      (λ m t h. h.1) (filled_made (ranges tree) depth_limit from.program.defaults tree s fresh)

  pub both_made : (ranges : PlainNode → Ranges) (root : Arrival) (s : Progress) → Ends (λ n t. HasFreshOutputs from.program [] from.program.defaults n) (both_phases from ranges root s)
  unfolding both_phases
  both_made ranges root s =
      ends_then (λ n t. IsMade from.program.defaults root n) (λ n t. HasFreshOutputs from.program [] from.program.defaults n) (enter from first depth_limit from.program.defaults root s) _
      (enter_made first depth_limit from.program.defaults root s) (λ tree s1 h. second_made ranges tree s1.waiting s1 h.1)

-- ---- what a build gives

ended : (P : PlainNode → Type 0) (r : Step PlainNode) (tree : PlainNode) (next : ℕ) → Ends (λ n t. P n) r → built_by r ≡ built tree next → P tree
ended P (stops f) tree next h e = cc
ended P (gives n t) tree next h e = let same : n ≡ tree = cc in subst P same h

ended_when : (P : PlainNode → Type 0) (b : Bool) (f : Fault) (r : Step PlainNode) (tree : PlainNode) (next : ℕ) → Ends (λ n t. P n) r → cond b (failed f) (built_by r) ≡ built tree next → P tree
ended_when P true f r tree next h e = cc
ended_when P false f r tree next h e = ended P r tree next h e

pub build_fresh : (b : Blueprint) (screen : Screen) (old : Option PlainNode) (next after : ℕ) (root : PlainWidget) (tree : PlainNode)
    → full_build b screen old next root ≡ built tree after → HasFreshOutputs b [] b.defaults tree
unfolding full_build
build_fresh b screen old next after root tree e =
    ended_when (HasFreshOutputs b [] b.defaults) _ _ _ tree after (both_made (basis b old) (live_ranges screen) _ (started next)) e

pub first_fresh : (b : Blueprint) (old : Option PlainNode) (next : ℕ) (root : PlainWidget) (tree : PlainNode) (s : Progress)
    → first_tree b old next root ≡ gives tree s → HasFreshOutputs b [] b.defaults tree
first_fresh b old next root tree s e =
    (subst (Ends (λ n t. IsMade (basis b old) b.defaults (root_arrival old root) n)) e (enter_made (basis b old) first depth_limit b.defaults (root_arrival old root) (started next))).1
