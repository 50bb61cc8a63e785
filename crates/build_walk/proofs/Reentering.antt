-- A walk that keeps what is right comes to what the build comes to.
use Rattle.std.proofs.Common.{◌≡◌, ℕ, zero, suc, ◌-◌, nat_le, Bool, true, false, ◌||◌, cond, length, Option, IfSome, List, [], ◌∷◌, ◌++◌, refl, sym, ap, ◌∙◌, subst, Decides, ◌≤◌, arith}
use Rattle.std.specs.Prelude.{if◌then◌else◌}
use Rattle.std.proofs.lemmas.List.{length-set}
use Rattle.fx_expr.specs.declared.values.Value.{Value}
use Rattle.sliver_layout.specs.declared.protocol.Window.{Window}
use Rattle.widget_model.specs.Plain.{PlainWidget, look_of, key_of}
use Rattle.widget_model.specs.Plain.{children_of as child_widgets}
use Rattle.layout_form.specs.SliverRule.{is_among}
use Rattle.plain_tree.specs.PlainNode.{PlainNode, node, PlainNodes, no_nodes, more_nodes, nodes_of}
use Rattle.build_form.specs.Step.{tree_too_large, Progress, Step, stops, gives, and_then, each}
use Rattle.build_form.specs.BuildRole.{BuildRole, composes, provides, keeps, lists, holds, build_role_of}
use Rattle.build_form.specs.Partner.{Arrival, partner_of, arrivals}
use Rattle.build_form.specs.Entering.{Blueprint, Basis, Phase, second, depth_limit, met_once, number_for, fields_for, apart, values_by, values_below, waits, put_off, Opening, opening, opened, entered_below, made, enter}
use Rattle.build_form.specs.FullBuild.{Ranges, stays, items, next_waiting, others_waiting, one_served, items_entered, if_lazy, filled, all_filled, second_phase}
use Rattle.work_sets.specs.Members.{is_same_widget}
use Rattle.build_walk.specs.Past.{Pasts}
use Rattle.build_walk.specs.Fresh.{IsKnown, WaitKnown}
use Rattle.build_walk.specs.Keeping.{reopened, reenter, items_reentered, refilled, all_refilled, second_again}
use Rattle.build_walk.proofs.Stepping.{Ends, ends_then, ends_more, same_then, AllOf, each_same, each_ends}
use Rattle.build_walk.proofs.Keeping.{kept_same}
use Rattle.build_walk.proofs.Arriving.{IsKnownArrival, AreKnownHolders, arrivals_known, partner_known, tops, filtered}
use Rattle.build_walk.proofs.Opened.{IsOpened, opened_ends}

pub long_by : (r : BuildRole) (values : List Value) → length (values_by r values) ≡ length values
long_by (composes place props) values = refl
long_by (provides name value) values = length-set values name value
long_by (keeps kept) values = refl
long_by (lists extent) values = refl
long_by holds values = refl

pub waiting_more : (b : Blueprint) (pasts : Pasts) (xs : List (Option PlainNode)) (partner : Option PlainNode) → WaitKnown b pasts xs → IfSome partner (IsKnown b pasts) → WaitKnown b pasts (xs ++ partner ∷ [])
waiting_more b pasts [] partner h k = (k, tt)
waiting_more b pasts (x ∷ xs) partner h k = (h.0, waiting_more b pasts xs partner h.1 k)

pub next_known : (b : Blueprint) (pasts : Pasts) (xs : List (Option PlainNode)) → WaitKnown b pasts xs → IfSome (next_waiting xs) (IsKnown b pasts)
next_known b pasts [] h = tt
next_known b pasts (x ∷ xs) h = h.0

others_known : (b : Blueprint) (pasts : Pasts) (xs : List (Option PlainNode)) → WaitKnown b pasts xs → WaitKnown b pasts (others_waiting xs)
others_known b pasts [] h = tt
others_known b pasts (x ∷ xs) h = h.1

module _ (from : Basis) (pasts : Pasts) (exact : (v w : PlainWidget) → Decides (is_same_widget v w) (v ≡ w)) (holders : AreKnownHolders from.program pasts from.holder) (start : ℕ) where
  -- what waits is known, and the numbers from some one on are free
  abbrev pub Calm : Progress → Type 0
  Calm s = WaitKnown from.program pasts s.waiting × (start ≤ s.next)

  abbrev pub IsLong : List Value → Type 0
  IsLong values = length values ≡ length from.program.defaults

  abbrev pub Known : Arrival → Type 0
  Known a = IsKnownArrival from.program pasts a

  pub opened_same : (values : List Value) (a : Arrival) (s : Progress) → IsLong values → Known a → reopened from pasts values a s ≡ opened from values a s
  opened_same values a s long known =
      let partner = partner_of from.holder a in
      let fields = fields_for from.program a.widget partner in
      let tops_known = tops from.program pasts partner (partner_known from.program pasts from.holder a holders known) in
      λ j. if nat_le from.program.nodes s.entered then stops tree_too_large else
      and_then (met_once (key_of a.widget) s) (λ _ s1.
      and_then (kept_same from.program pasts exact a.widget values long partner s1 tops_known j) (λ given s2.
      and_then (apart given s2) (λ ws s3. gives (opening partner (number_for partner s1) fields ws) s3)))

  -- ---- what waits stays known

  below_calm : (go : List Value → Arrival → Progress → Step PlainNode) (phase : Phase) (values : List Value) (w : PlainWidget) (o : Opening) (s : Progress) (t : Bool)
      → ((a : Arrival) (s : Progress) → Known a → Calm s → Ends (λ n t. Calm t) (go (values_below w values) a s))
      → IfSome o.partner (IsKnown from.program pasts) → Calm s
      → Ends (λ ns t. Calm t) (cond t (put_off o.partner s) (each (go (values_below w values)) (arrivals o.partner o.given) s))
  below_calm go phase values w o s true leaves known calm = (waiting_more from.program pasts s.waiting o.partner calm.0 known, calm.1)
  below_calm go phase values w o s false leaves known calm =
      ends_more (λ ns t. Calm t × Unit {0}) (λ ns t. Calm t) (each (go (values_below w values)) (arrivals o.partner o.given) s) (λ ns t h. h.0)
      (each_ends Known Calm (λ x y. Unit {0}) (λ xs ys. Unit {0}) (go (values_below w values)) tt (λ x y xs ys h k. tt)
      (λ x t k q. ends_more (λ n u. Calm u) (λ n u. Calm u × Unit {0}) (go (values_below w values) x t) (λ n u c. (c, tt)) (leaves x t k q))
      (arrivals o.partner o.given) s (arrivals_known from.program pasts o.partner o.given known) calm)

  pub known_opened : (values : List Value) (a : Arrival) (s : Progress) (o : Opening) (t : Progress) → Known a → IsOpened from values a s o t → IfSome o.partner (IsKnown from.program pasts)
  known_opened values a s o t known is = subst (λ p. IfSome p (IsKnown from.program pasts)) (sym is.partner) (partner_known from.program pasts from.holder a holders known)

  pub calm_opened : (values : List Value) (a : Arrival) (s : Progress) (o : Opening) (t : Progress) → Calm s → IsOpened from values a s o t → Calm t
  calm_opened values a s o t calm is = (subst (WaitKnown from.program pasts) (sym is.waiting) calm.0, let low = calm.1 in let more = is.grows in omega arith)

  pub enter_calm : (phase : Phase) (left : ℕ) (values : List Value) (a : Arrival) (s : Progress) → Known a → Calm s → Ends (λ n t. Calm t) (enter from phase left values a s)
  unfolding enter
  enter_calm phase zero values a s known calm = tt
  enter_calm phase (suc left) values a s known calm =
      ends_then (IsOpened from values a s) (λ n t. Calm t) (opened from values a s) _ (opened_ends from values a s) (λ o t is.
      ends_then (λ ns u. Calm u) (λ n u. Calm u) (entered_below (enter from phase left) phase values a.widget o t) _
      (below_calm (enter from phase left) phase values a.widget o t (waits phase (build_role_of (look_of a.widget)))
      (λ x u k q. enter_calm phase left (values_below a.widget values) x u k q) (known_opened values a s o t known is) (calm_opened values a s o t calm is))
      (λ ns u c. c))

  -- ---- the first phase

  below_same : (phase : Phase) (left : ℕ) (values : List Value) (w : PlainWidget) (o : Opening) (s : Progress) (t : Bool)
      → ((a : Arrival) (s : Progress) → Known a → Calm s → reenter from pasts phase left (values_below w values) a s ≡ enter from phase left (values_below w values) a s)
      → IfSome o.partner (IsKnown from.program pasts) → Calm s
      → cond t (put_off o.partner s) (each (reenter from pasts phase left (values_below w values)) (arrivals o.partner o.given) s)
      ≡ cond t (put_off o.partner s) (each (enter from phase left (values_below w values)) (arrivals o.partner o.given) s)
  below_same phase left values w o s true same known calm = refl
  below_same phase left values w o s false same known calm =
      each_same Known Calm (enter from phase left (values_below w values)) (reenter from pasts phase left (values_below w values)) same
      (λ x t k q. enter_calm phase left (values_below w values) x t k q) (arrivals o.partner o.given) s (arrivals_known from.program pasts o.partner o.given known) calm

  pub enter_same : (phase : Phase) (left : ℕ) (values : List Value) (a : Arrival) (s : Progress) → IsLong values → Known a → Calm s
      → reenter from pasts phase left values a s ≡ enter from phase left values a s
  unfolding enter reenter
  enter_same phase zero values a s long known calm = refl
  enter_same phase (suc left) values a s long known calm =
      ap (λ r. and_then r (λ o s1. and_then (entered_below (reenter from pasts phase left) phase values a.widget o s1) (λ ns s2. gives (made a o ns) s2)))
      (opened_same values a s long known)
      ∙ same_then (IsOpened from values a s) (opened from values a s) _ _ (opened_ends from values a s) (λ o t is.
      ap (λ r. and_then r (λ ns s2. gives (made a o ns) s2))
      (below_same phase left values a.widget o t (waits phase (build_role_of (look_of a.widget)))
      (λ x u k q. enter_same phase left (values_below a.widget values) x u (long_by (build_role_of (look_of a.widget)) values ∙ long) k q)
      (known_opened values a s o t known is) (calm_opened values a s o t calm is)))

  -- ---- the second phase

  module _ (left : ℕ) (values : List Value) (long : IsLong values) (range : ℕ → Window) (ws : List PlainWidget) (s : Progress) (calm : Calm s) where
    abbrev pub there : List Arrival
    there = items (range (length ws)) (arrivals (next_waiting s.waiting) ws)

    pub there_known : AllOf Known there
    there_known =
        filtered from.program pasts (λ a. is_among (range (length ws)) a.place || stays a) (arrivals (next_waiting s.waiting) ws)
        (arrivals_known from.program pasts (next_waiting s.waiting) ws (next_known from.program pasts s.waiting calm.0))

    pub served_calm : Calm (one_served s)
    served_calm = (others_known from.program pasts s.waiting calm.0, calm.1)

    pub items_calm : Ends (λ ns t. Calm t) (items_entered from left values range ws s)
    items_calm =
        ends_then (λ ns t. Calm t × Unit {0}) (λ ns t. Calm t) (each (enter from second left values) there (one_served s)) _
        (each_ends Known Calm (λ x y. Unit {0}) (λ xs ys. Unit {0}) (enter from second left values) tt (λ x y xs ys h k. tt)
        (λ x t k q. ends_more (λ n u. Calm u) (λ n u. Calm u × Unit {0}) (enter from second left values x t) (λ n u c. (c, tt)) (enter_calm second left values x t k q))
        there (one_served s) there_known served_calm)
        (λ ns t h. h.0)

    pub items_same : items_reentered from pasts left values range ws s ≡ items_entered from left values range ws s
    items_same =
        ap (λ r. and_then r (λ ns s1. gives (nodes_of ns) s1))
        (each_same Known Calm (enter from second left values) (reenter from pasts second left values)
        (λ x t k q. enter_same second left values x t long k q) (λ x t k q. enter_calm second left values x t k q) there (one_served s) there_known served_calm)

  -- of a lazy list its items, of another node what is below it
  lazy_calm : (r : BuildRole) (itemized : ℕ → Progress → Step PlainNodes) (others : Progress → Step PlainNodes) (s : Progress)
      → ((extent : ℕ) → Ends (λ ns t. Calm t) (itemized extent s)) → Ends (λ ns t. Calm t) (others s) → Ends (λ ns t. Calm t) (if_lazy r itemized others s)
  lazy_calm (composes place props) itemized others s h k = k
  lazy_calm (provides name value) itemized others s h k = k
  lazy_calm (keeps kept) itemized others s h k = k
  lazy_calm (lists extent) itemized others s h k = h extent
  lazy_calm holds itemized others s h k = k

  lazy_same : (r : BuildRole) (itemized also : ℕ → Progress → Step PlainNodes) (others too : Progress → Step PlainNodes) (s : Progress)
      → ((extent : ℕ) → also extent s ≡ itemized extent s) → too s ≡ others s → if_lazy r also too s ≡ if_lazy r itemized others s
  lazy_same (composes place props) itemized also others too s h k = k
  lazy_same (provides name value) itemized also others too s h k = k
  lazy_same (keeps kept) itemized also others too s h k = k
  lazy_same (lists extent) itemized also others too s h k = h extent
  lazy_same holds itemized also others too s h k = k

  mutual
    unfolding filled all_filled

    pub filled_calm : (ranges : Ranges) (left : ℕ) (values : List Value) (n : PlainNode) (s : Progress) → IsLong values → Calm s → Ends (λ m t. Calm t) (filled from ranges left values n s)
    filled_calm ranges left values (node number widget fields scroll index children) s long calm =
        let below = values_below widget values in
        let long_below = long_by (build_role_of (look_of widget)) values ∙ long in
        ends_then (λ ns t. Calm t) (λ m t. Calm t) (if_lazy (build_role_of (look_of widget))
        (λ extent s1. items_entered from (left - 1) below (ranges number extent) (child_widgets widget) s1)
        (λ s1. all_filled from ranges (left - 1) below children s1) s) _
        (lazy_calm (build_role_of (look_of widget)) _ _ s
        (λ extent. items_calm (left - 1) below long_below (ranges number extent) (child_widgets widget) s calm)
        (all_filled_calm ranges (left - 1) below children s long_below calm))
        (λ ns t c. c)

    pub all_filled_calm : (ranges : Ranges) (left : ℕ) (values : List Value) (ns : PlainNodes) (s : Progress) → IsLong values → Calm s → Ends (λ ms t. Calm t) (all_filled from ranges left values ns s)
    all_filled_calm ranges left values no_nodes s long calm = calm
    all_filled_calm ranges left values (more_nodes n ns) s long calm =
        ends_then (λ m t. Calm t) (λ ms t. Calm t) (filled from ranges left values n s) _ (filled_calm ranges left values n s long calm) (λ m t c.
        ends_then (λ ms u. Calm u) (λ ms u. Calm u) (all_filled from ranges left values ns t) _ (all_filled_calm ranges left values ns t long c) (λ ms u d. d))

  mutual
    unfolding filled all_filled refilled all_refilled

    pub filled_same : (ranges : Ranges) (left : ℕ) (values : List Value) (n : PlainNode) (s : Progress) → IsLong values → Calm s
        → refilled from pasts ranges left values n s ≡ filled from ranges left values n s
    filled_same ranges left values (node number widget fields scroll index children) s long calm =
        let below = values_below widget values in
        let long_below = long_by (build_role_of (look_of widget)) values ∙ long in
        ap (λ r. and_then r (λ ns s1. gives (node number widget fields scroll index ns) s1))
        (lazy_same (build_role_of (look_of widget))
        (λ extent s1. items_entered from (left - 1) below (ranges number extent) (child_widgets widget) s1)
        (λ extent s1. items_reentered from pasts (left - 1) below (ranges number extent) (child_widgets widget) s1)
        (λ s1. all_filled from ranges (left - 1) below children s1)
        (λ s1. all_refilled from pasts ranges (left - 1) below children s1) s
        (λ extent. items_same (left - 1) below long_below (ranges number extent) (child_widgets widget) s calm)
        (all_filled_same ranges (left - 1) below children s long_below calm))

    pub all_filled_same : (ranges : Ranges) (left : ℕ) (values : List Value) (ns : PlainNodes) (s : Progress) → IsLong values → Calm s
        → all_refilled from pasts ranges left values ns s ≡ all_filled from ranges left values ns s
    all_filled_same ranges left values no_nodes s long calm = refl
    all_filled_same ranges left values (more_nodes n ns) s long calm =
        ap (λ r. and_then r (λ m s1. and_then (all_refilled from pasts ranges left values ns s1) (λ ms s2. gives (more_nodes m ms) s2)))
        (filled_same ranges left values n s long calm)
        ∙ same_then (λ m t. Calm t) (filled from ranges left values n s) _ _ (filled_calm ranges left values n s long calm) (λ m t c.
        ap (λ r. and_then r (λ ms s2. gives (more_nodes m ms) s2)) (all_filled_same ranges left values ns t long c))

  pub second_same : (ranges : PlainNode → Ranges) (tree : PlainNode) (waiting : List (Option PlainNode)) (s : Progress) → Calm s
      → second_again from pasts ranges tree waiting s ≡ second_phase from ranges tree waiting s
  second_same ranges tree [] s calm = refl
  second_same ranges tree (partner ∷ others) s calm = filled_same (ranges tree) depth_limit from.program.defaults tree s refl calm
