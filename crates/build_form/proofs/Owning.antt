-- Each handler in the tree that a build gives belongs to a node above it.
use Rattle.std.proofs.Common.{◌≡◌, ℕ, zero, suc, ◌-◌, nat_lt, nat_le, Bool, true, false, cond, Option, Some, None, IfSome, List, [], ◌∷◌, filter, length, map, slice_get, refl, sym, ap, ◌∙◌, subst}
use Rattle.fx_expr.specs.declared.handlers.Handler.{Handler}
use Rattle.fx_expr.specs.declared.values.Value.{Value}
use Rattle.fx_expr.specs.Sets as sets
use Rattle.fx_expr.specs.Value.{type_of}
use Rattle.widget_keys.specs.declared.keys.Key.{Key}
use Rattle.widget_model.specs.Look.{Look, detector, inherit}
use Rattle.widget_model.specs.Plain.{PlainWidget, plain, Widgets, no_widgets, more, widgets_of, list_of, look_of, key_of, slots_of}
use Rattle.widget_model.specs.Plain.{children_of as child_widgets}
use Rattle.widget_model.specs.Size.{count_in, count_of}
use Rattle.widget_model.specs.Typed.{Declarations, FitMembers, IsTypedWidget}
use Rattle.reconcile.specs.Matching.{matching}
use Rattle.sliver_layout.specs.declared.protocol.Window.{Window}
use Rattle.program_check.specs.Checked.{PlainChecked}
use Rattle.program_check.specs.TypedChecked.{IsTypedChecked}
use Rattle.expr_check.specs.Names.{types_in}
use Rattle.template_build.specs.HandlersIn.{InLook, HandlersMeet, AllHandlersMeet, Owner, IsOwned, SetsNothing}
use Rattle.template_build.specs.Program.{component_output, declarations_of}
use Rattle.template_build.proofs.HandlerLaws.{component_handlers}
use Rattle.plain_tree.specs.PlainNode.{PlainNode, node, PlainNodes, no_nodes, more_nodes, nodes_of}
use Rattle.build_form.specs.Step.{Progress, Step, stops, gives, each, tree_too_large, output_too_large}
use Rattle.build_form.specs.BuildRole.{BuildRole, composes, provides, keeps, lists, holds, build_role_of}
use Rattle.build_form.specs.Partner.{Arrival, arrivals_from, arrivals, nodes_had, widgets_had, root_arrival, partner_of}
use Rattle.build_form.specs.Entering.{Basis, Phase, first, second, depth_limit, output_limit, met_once, unless_repeated, first_repeated, apart, number_for, fields_for, counted, given_by, values_by, values_below, waits, put_off, Opening, opened, entered_below, enter}
use Rattle.build_form.specs.FullBuild.{Ranges, Screen, built, built_by, live_ranges, next_waiting, one_served, items, items_entered, if_lazy, filled, all_filled, second_phase, started, basis, both_phases, full_build}
use Rattle.build_form.specs.Program.{names_in, default_values, blueprint_of}
use Rattle.build_form.specs.WellBuilt.{FitFields, IsWellBuilt, AreWellBuilt}
use Rattle.build_form.specs.Owned.{AreOwned, AllAreOwned}
use Rattle.build_form.proofs.Provided.{types_kept}
use Rattle.build_form.proofs.OldOrNew.{OnGives, then, either, small_built}
use Rattle.build_form.proofs.Typing.{may_build, values_typed}

-- ---- handlers that meet one thing meet another that follows

module _ (P Q : Handler → Type 0) (f : (h : Handler) → P h → Q h) where
  if_some : (o : Option Handler) → IfSome o P → IfSome o Q
  if_some None h = tt
  if_some (Some x) h = f x h

  look_more : (l : Look) → InLook P l → InLook Q l
  look_more (detector behavior tap long vertical horizontal pan) h = (if_some tap h.0, if_some long h.1, if_some vertical h.2, if_some horizontal h.3, if_some pan h.4)
  look_more l h = tt

  mutual
    pub meet_more : (w : PlainWidget) → HandlersMeet P w → HandlersMeet Q w
    meet_more (plain l k slots children) h = (look_more l h.0, all_more slots h.1, all_more children h.2)

    all_more : (ws : Widgets) → AllHandlersMeet P ws → AllHandlersMeet Q ws
    all_more no_widgets h = tt
    all_more (more w ws) h = (meet_more w h.0, all_more ws h.1)

-- an owner more
one_more : (o : Owner) (owners : List Owner) (h : Handler) → IsOwned owners h → IsOwned (o ∷ owners) h
one_more o owners h k = record { place = suc k.place; types = k.types; found = k.found; fits = k.fits }

-- what sets nothing belongs to nobody
pub nobodys : (h : Handler) → SetsNothing h → IsOwned ((0, []) ∷ []) h
nobodys h k = record {
  place = zero;
  types = [];
  found = ap (λ n. Some (n, [])) (sym k.owner);
  fits = subst (sets.FitFields []) (sym k.sets) tt;
}

-- ---- lists of widgets

pub widgets_again : (ws : Widgets) → widgets_of (list_of ws) ≡ ws
widgets_again no_widgets = refl
widgets_again (more w ws) = ap (more w) (widgets_again ws)

abbrev Meet : List Owner → List PlainWidget → Type 0
Meet owners ws = AllHandlersMeet (IsOwned owners) (widgets_of ws)

-- what is below a widget belongs to its node, or to whom the widget's handlers belong
handed_on : (o : Owner) (owners : List Owner) (ws : Widgets) → AllHandlersMeet (IsOwned owners) ws → Meet (o ∷ owners) (list_of ws)
handed_on o owners ws h =
    subst (AllHandlersMeet (IsOwned (o ∷ owners))) (sym (widgets_again ws)) (all_more (IsOwned owners) (IsOwned (o ∷ owners)) (one_more o owners) ws h)

-- ---- what comes of steps

weaker : {A : Type 0} (r : Step A) (Q R : A → Progress → Type 0) → OnGives r Q → ((a : A) (s : Progress) → Q a s → R a s) → OnGives r R
weaker (stops f) Q R h k = tt
weaker (gives a s) Q R h k = k a s h

anything : {A : Type 0} (r : Step A) → OnGives r (λ a s. Unit {0})
anything (stops f) = tt
anything (gives a s) = tt

unless : (o : Option (Key Value)) (ws : List PlainWidget) (s : Progress) (Q : List PlainWidget → Type 0) → Q ws → OnGives (unless_repeated o ws s) (λ vs t. Q vs)
unless None ws s Q h = h
unless (Some k) ws s Q h = tt

-- ---- values of inherited names

by_look : (d : Declarations) (look : Look) (values : List Value) → map type_of values ≡ d.inherited → FitMembers d look → map type_of (values_by (build_role_of look) values) ≡ d.inherited
by_look d (inherit name value) values e m = types_kept values name value value refl (subst (λ ts. slice_get ts name ≡ Some (type_of value)) (sym e) m) ∙ e
by_look d _ values e m = e

pub typed_below : (d : Declarations) (w : PlainWidget) (values : List Value) → map type_of values ≡ d.inherited → IsTypedWidget d w → map type_of (values_below w values) ≡ d.inherited
typed_below d (plain look k slots children) values e t = by_look d look values e t.members

module _ (c : PlainChecked) (checked : IsTypedChecked c) (old : Option PlainNode) where
  abbrev D : Declarations
  D = declarations_of c

  abbrev from : Basis
  from = basis (blueprint_of c) old

  -- the handlers of a node's widget are owned, and, where the node is well built, those below it
  abbrev mutual
    Owning : List Owner → List Value → PlainNode → Type 0
    Owning owners values (node number widget fields scroll index children) =
        HandlersMeet (IsOwned owners) widget
        × (map type_of values ≡ D.inherited → IsTypedWidget D widget → FitFields D (build_role_of (look_of widget)) fields
        → AllOwning ((number, map type_of fields) ∷ owners) (values_below widget values) children)

    AllOwning : List Owner → List Value → PlainNodes → Type 0
    AllOwning owners values no_nodes = Unit {0}
    AllOwning owners values (more_nodes n ns) = Owning owners values n × AllOwning owners values ns

  mutual
    well_owned : (owners : List Owner) (values : List Value) (n : PlainNode) → map type_of values ≡ D.inherited → IsWellBuilt D n → Owning owners values n → AreOwned owners n
    well_owned owners values (node number widget fields scroll index children) e t h =
        (h.0, all_owned ((number, map type_of fields) ∷ owners) (values_below widget values) children (typed_below D widget values e t.0.typed) t.1 (h.1 e t.0.typed t.0.suited))

    all_owned : (owners : List Owner) (values : List Value) (ns : PlainNodes) → map type_of values ≡ D.inherited → AreWellBuilt D ns → AllOwning owners values ns → AllAreOwned owners ns
    all_owned owners values no_nodes e t h = tt
    all_owned owners values (more_nodes n ns) e t h = (well_owned owners values n e t.0 h.0, all_owned owners values ns e t.1 h.1)

  -- ---- the child widgets of a node

  abbrev Given : PlainWidget → List Value → ℕ → List Value → List PlainWidget → Type 0
  Given w values number fields ws =
      (owners : List Owner) → HandlersMeet (IsOwned owners) w → map type_of values ≡ D.inherited → IsTypedWidget D w → FitFields D (build_role_of (look_of w)) fields
      → Meet ((number, map type_of fields) ∷ owners) ws

  composed : (w : PlainWidget) (values : List Value) (number : ℕ) (fields : List Value) (place : ℕ) (props : List Value) → build_role_of (look_of w) ≡ composes place props
      → Given w values number fields (component_output c place (names_in props fields values) (slots_of w) number)
  composed (plain look k slots children) values number fields place props is owners h e t fit =
      let again = subst (λ xs. IsTypedWidget D (plain look k xs (widgets_of (list_of children)))) (sym (widgets_again slots)) (subst (λ ys. IsTypedWidget D (plain look k slots ys)) (sym (widgets_again children)) t) in
      let may = may_build c k (list_of slots) (list_of children) place props look again is fields values (subst (λ p. FitFields D p fields) is fit) e in
      component_handlers c place number (names_in props fields values) (list_of slots) owners checked may (handed_on (number, map type_of fields) owners slots h.1)

  held : (w : PlainWidget) (values : List Value) (number : ℕ) (fields : List Value) → Given w values number fields (child_widgets w)
  held (plain look k slots children) values number fields owners h e t fit = handed_on (number, map type_of fields) owners children h.2

  given : (p : BuildRole) (w : PlainWidget) (values : List Value) (number : ℕ) (fields : List Value) (s : Progress) → build_role_of (look_of w) ≡ p
      → OnGives (given_by (blueprint_of c) p values number fields w s) (λ ws t. Given w values number fields ws)
  given (composes place props) w values number fields s is =
      let ws = component_output c place (names_in props fields values) (slots_of w) number in
      either (nat_lt output_limit (count_in ws)) (stops output_too_large) (gives ws s) (λ ws t. Given w values number fields ws) tt (composed w values number fields place props is)
  given (provides name value) w values number fields s is = held w values number fields
  given (keeps kept) w values number fields s is = held w values number fields
  given (lists extent) w values number fields s is = held w values number fields
  given holds w values number fields s is = held w values number fields

  abbrev Opened : PlainWidget → List Value → Opening → Progress → Type 0
  Opened w values o s = Given w values o.number o.fields o.given

  opens : (values : List Value) (a : Arrival) (s : Progress) → OnGives (opened from values a s) (Opened a.widget values)
  opens values a s =
      let w = a.widget in
      let partner = partner_of from.holder a in
      let fields = fields_for from.program w partner in
      either (nat_le from.program.nodes s.entered) (stops tree_too_large) _ (Opened w values) tt
      (then (met_once (key_of w) s) _ (λ x t. Unit {0}) (Opened w values) (anything (met_once (key_of w) s)) (λ x s1 h1.
      then (given_by from.program (build_role_of (look_of w)) values (number_for partner s1) fields w (counted partner s1)) _ (λ ws t. Given w values (number_for partner s1) fields ws) (Opened w values)
      (given (build_role_of (look_of w)) w values (number_for partner s1) fields (counted partner s1) refl) (λ ws s2 h2.
      then (apart ws s2) _ (λ vs t. Given w values (number_for partner s1) fields vs) (Opened w values)
      (unless (first_repeated [] (map key_of ws)) ws s2 (Given w values (number_for partner s1) fields) h2) (λ vs s3 h3. h3))))

  -- ---- what is entered

  abbrev Arriving : List Owner → List Arrival → Type 0
  Arriving owners [] = Unit {0}
  Arriving owners (a ∷ bs) = HandlersMeet (IsOwned owners) a.widget × Arriving owners bs

  arrive_from : (owners : List Owner) (ns : List PlainNode) (i : ℕ) (ws : List PlainWidget) (ms : List (Option ℕ)) → Meet owners ws → Arriving owners (arrivals_from ns i ws ms)
  arrive_from owners ns i [] ms h = tt
  arrive_from owners ns i (w ∷ ws) [] h = (h.0, arrive_from owners ns (suc i) ws [] h.1)
  arrive_from owners ns i (w ∷ ws) (m ∷ ms) h = (h.0, arrive_from owners ns (suc i) ws ms h.1)

  arrive : (owners : List Owner) (o : Option PlainNode) (ws : List PlainWidget) → Meet owners ws → Arriving owners (arrivals o ws)
  arrive owners o ws h = arrive_from owners (nodes_had o) 0 ws (matching (widgets_had o) ws) h

  some_arrive : (owners : List Owner) (b : Bool) (a : Arrival) (bs : List Arrival) → HandlersMeet (IsOwned owners) a.widget → Arriving owners bs → Arriving owners (cond b (a ∷ bs) bs)
  some_arrive owners true a bs h k = (h, k)
  some_arrive owners false a bs h k = k

  filtered : (owners : List Owner) (test : Arrival → Bool) (bs : List Arrival) → Arriving owners bs → Arriving owners (filter test bs)
  filtered owners test [] h = tt
  filtered owners test (a ∷ bs) h = some_arrive owners (test a) a (filter test bs) h.0 (filtered owners test bs h.1)

  abbrev Owns : List Value → PlainWidget → PlainNode → Progress → Type 0
  Owns values w n s = (owners : List Owner) → HandlersMeet (IsOwned owners) w → Owning owners values n

  abbrev EachOwns : List Value → List Arrival → List PlainNode → Progress → Type 0
  EachOwns values bs ns s = (owners : List Owner) → Arriving owners bs → AllOwning owners values (nodes_of ns)

  abbrev AllOwn : List Value → List PlainWidget → PlainNodes → Type 0
  AllOwn values ws ns = (owners : List Owner) → Meet owners ws → AllOwning owners values ns

  each_owns : (values : List Value) (go : Arrival → Progress → Step PlainNode) → ((a : Arrival) (s : Progress) → OnGives (go a s) (Owns values a.widget))
      → (bs : List Arrival) (s : Progress) → OnGives (each go bs s) (EachOwns values bs)
  each_owns values go step [] s = λ owners h. tt
  each_owns values go step (a ∷ bs) s =
      then (go a s) _ (Owns values a.widget) (EachOwns values (a ∷ bs)) (step a s) (λ n s1 h1.
      then (each go bs s1) _ (EachOwns values bs) (EachOwns values (a ∷ bs)) (each_owns values go step bs s1) (λ ns s2 h2 owners h. (h1 owners h.0, h2 owners h.1)))

  enter_owns : (phase : Phase) (left : ℕ) (values : List Value) (a : Arrival) (s : Progress) → OnGives (enter from phase left values a s) (Owns values a.widget)
  unfolding enter
  enter_owns phase zero values a s = tt
  enter_owns phase (suc left) values a s =
      let w = a.widget in
      let below = values_below w values in
      then (opened from values a s) _ (Opened w values) (Owns values w) (opens values a s) (λ o s1 h1.
      then (entered_below (enter from phase left) phase values w o s1) _ (λ ns t. AllOwn below o.given (nodes_of ns)) (Owns values w)
      (either (waits phase (build_role_of (look_of w))) (put_off o.partner s1) _ (λ ns t. AllOwn below o.given (nodes_of ns)) (λ owners h. tt)
      (weaker (each (enter from phase left below) (arrivals o.partner o.given) s1) (EachOwns below (arrivals o.partner o.given)) (λ ns t. AllOwn below o.given (nodes_of ns))
      (each_owns below (enter from phase left below) (λ b t. enter_owns phase left below b t) (arrivals o.partner o.given) s1)
      (λ ns t h owners m. h owners (arrive owners o.partner o.given m))))
      (λ ns s2 h2 owners h. (h, λ e t fit. h2 ((o.number, map type_of o.fields) ∷ owners) (h1 owners h e t fit))))

  -- ---- the second phase

  items_own : (left : ℕ) (values : List Value) (range : ℕ → Window) (ws : List PlainWidget) (s : Progress) → OnGives (items_entered from left values range ws s) (λ ns t. AllOwn values ws ns)
  items_own left values range ws s =
      let others = arrivals (next_waiting s.waiting) ws in
      let bs = items (range (length ws)) others in
      then (each (enter from second left values) bs (one_served s)) _ (EachOwns values bs) (λ ns t. AllOwn values ws ns)
      (each_owns values (enter from second left values) (λ b t. enter_owns second left values b t) bs (one_served s))
      (λ ns t h owners m. h owners (filtered owners _ others (arrive owners (next_waiting s.waiting) ws m)))

  if_lists : (p : BuildRole) (itemized : ℕ → Progress → Step PlainNodes) (others : Progress → Step PlainNodes) (s : Progress) (Q : PlainNodes → Type 0)
      → ((e : ℕ) → OnGives (itemized e s) (λ ns t. Q ns)) → OnGives (others s) (λ ns t. Q ns) → OnGives (if_lazy p itemized others s) (λ ns t. Q ns)
  if_lists (composes place props) itemized others s Q h k = k
  if_lists (provides name value) itemized others s Q h k = k
  if_lists (keeps kept) itemized others s Q h k = k
  if_lists (lists extent) itemized others s Q h k = h extent
  if_lists holds itemized others s Q h k = k

  abbrev Fills : List Value → PlainNode → PlainNode → Progress → Type 0
  Fills values n m s = (owners : List Owner) → Owning owners values n → Owning owners values m

  abbrev FillAll : List Value → PlainNodes → PlainNodes → Progress → Type 0
  FillAll values ns ms s = (owners : List Owner) → AllOwning owners values ns → AllOwning owners values ms

  module _ (ranges : ℕ → ℕ → ℕ → Window) where
    mutual
      unfolding filled

      fill_owns : (left : ℕ) (values : List Value) (n : PlainNode) (s : Progress) → OnGives (filled from ranges left values n s) (Fills values n)
      fill_owns left values (node number widget fields scroll index children) s =
          let below = values_below widget values in
          let itemized = λ (e : ℕ) (s1 : Progress). items_entered from (left - 1) below (ranges number e) (child_widgets widget) s1 in
          let others = λ (s1 : Progress). all_filled from ranges (left - 1) below children s1 in
          let Q : PlainNodes → Type 0 = λ ns. (owners : List Owner) → Meet owners (child_widgets widget) → AllOwning owners below children → AllOwning owners below ns in
          then (if_lazy (build_role_of (look_of widget)) itemized others s) _ (λ ns t. Q ns) (Fills values (node number widget fields scroll index children))
          (if_lists (build_role_of (look_of widget)) itemized others s Q
          (λ e. weaker (itemized e s) (λ ns t. AllOwn below (child_widgets widget) ns) (λ ns t. Q ns) (items_own (left - 1) below (ranges number e) (child_widgets widget) s) (λ ns t h owners m k. h owners m))
          (weaker (others s) (FillAll below children) (λ ns t. Q ns) (all_fill_own (left - 1) below children s) (λ ns t h owners m k. h owners k)))
          (λ ns t h owners k. (k.0, λ e typed fit. h ((number, map type_of fields) ∷ owners) (held widget values number fields owners k.0 e typed fit) (k.1 e typed fit)))

      all_fill_own : (left : ℕ) (values : List Value) (ns : PlainNodes) (s : Progress) → OnGives (all_filled from ranges left values ns s) (FillAll values ns)
      all_fill_own left values no_nodes s = λ owners h. tt
      all_fill_own left values (more_nodes n ns) s =
          then (filled from ranges left values n s) _ (Fills values n) (FillAll values (more_nodes n ns)) (fill_owns left values n s) (λ m s1 h1.
          then (all_filled from ranges left values ns s1) _ (FillAll values ns) (FillAll values (more_nodes n ns)) (all_fill_own left values ns s1) (λ ms s2 h2 owners h. (h1 owners h.0, h2 owners h.1)))

  second_owns : (ranges : PlainNode → Ranges) (tree : PlainNode) (os : List (Option PlainNode)) (s : Progress) → OnGives (second_phase from ranges tree os s) (Fills from.program.defaults tree)
  second_owns ranges tree [] s = λ owners h. h
  second_owns ranges tree (o ∷ os) s = fill_owns (ranges tree) depth_limit from.program.defaults tree s

  on_built : (w : PlainWidget) (values : List Value) (r : Step PlainNode) (tree : PlainNode) (after : ℕ) → OnGives r (Owns values w) → built_by r ≡ built tree after
      → (owners : List Owner) → HandlersMeet (IsOwned owners) w → Owning owners values tree
  on_built w values (stops f) tree after h e owners m = cc
  on_built w values (gives n s) tree after h e owners m = let same : n ≡ tree = cc in subst (Owning owners values) same (h owners m)

pub are_owned : (c : PlainChecked) (screen : Screen) (old : Option PlainNode) (next after : ℕ) (root : PlainWidget) (tree : PlainNode) → IsTypedChecked c
    → full_build (blueprint_of c) screen old next root ≡ built tree after → IsWellBuilt (declarations_of c) tree → HandlersMeet SetsNothing root → AreOwned ((0, []) ∷ []) tree
unfolding full_build both_phases
are_owned c screen old next after root tree checked e well nothing =
    let b = blueprint_of c in
    let here = basis b old in
    let owners : List Owner = (0, []) ∷ [] in
    let a = root_arrival old root in
    let values_fit : map type_of (default_values c) ≡ (declarations_of c).inherited = values_typed (types_in c.inherited.names) c.inherited.values checked.inherited in
    well_owned c checked old owners (default_values c) tree values_fit well
    (on_built c checked old root (default_values c) (both_phases here (live_ranges screen) a (started next)) tree after
    (then (enter here first depth_limit b.defaults a (started next)) _ (Owns c checked old (default_values c) root) (Owns c checked old (default_values c) root)
    (enter_owns c checked old first depth_limit (default_values c) a (started next))
    (λ t s1 h1. weaker (second_phase here (live_ranges screen) t s1.waiting s1) (Fills c checked old (default_values c) t) (Owns c checked old (default_values c) root) (second_owns c checked old (live_ranges screen) t s1.waiting s1) (λ m s2 h2 os k. h2 os (h1 os k))))
    (small_built (nat_lt output_limit (count_of root)) _ (both_phases here (live_ranges screen) a (started next)) tree after e) owners (meet_more SetsNothing (IsOwned owners) nobodys root nothing))
