-- The tree that a build gives is settled, where it has no lazy list.
use Rattle.std.proofs.Common.{◌≡◌, ℕ, zero, suc, ◌≤◌, nat_lt, nat_le, Bool, true, false, cond, Option, Some, None, List, [], ◌∷◌, map, refl, sym, ap, ◌∙◌, subst}
use Rattle.fx_expr.specs.declared.values.Value.{Value}
use Rattle.widget_keys.specs.declared.keys.Key.{Key}
use Rattle.widget_keys.specs.declared.keys.Key.TheVariants as key
use Rattle.widget_model.specs.Plain.{PlainWidget, look_of, key_of}
use Rattle.widget_model.specs.Size.{count_of as widget_count}
use Rattle.reconcile.specs.Matching.{matching}
use Rattle.plain_tree.specs.PlainNode.{PlainNode, node, PlainNodes, no_nodes, more_nodes, nodes_of, widget_of, index_of, count_of}
use Rattle.build_form.specs.KeptStates.{AllAre}
use Rattle.build_form.specs.Step.{Fault, Progress, Step, stops, gives, and_then, each, tree_too_large, output_too_large, repeated_global_key}
use Rattle.build_form.specs.BuildRole.{BuildRole, composes, provides, keeps, lists, holds, build_role_of, is_lazy}
use Rattle.build_form.specs.Partner.{Arrival, arrivals_from, nodes_had, widgets_had, arrivals, root_arrival, partner_of}
use Rattle.build_form.specs.Entering.{Blueprint, Basis, first, depth_limit, output_limit, met_once, first_repeated, unless_repeated, apart, number_for, fields_for, counted, given_by, values_below, waits, put_off, Opening, opened, entered_below, made, enter}
use Rattle.build_form.specs.FullBuild.{Screen, Built, failed, built, built_by, live_ranges, second_phase, started, basis, first_tree, both_phases, full_build}
use Rattle.build_form.specs.Laws.{NumbersAre, AllNumbersAre}
use Rattle.build_form.proofs.Below.{list_of-nodes_of}
use Rattle.build_form.proofs.OldOrNew.{OnGives, then, either, small_built}
use Rattle.build_form.proofs.Stepping.{weaker, when_false}
use Rattle.versioned_kinds.specs.Lists.{IsNoList, HasNoLists}
use Rattle.build_walk.specs.Fresh.{HasFreshOutputs}
use Rattle.build_walk.specs.Past.{is_marked}
use Rattle.settled_builds.specs.Settled.{AreItsOwn, StandInOrder, IsSettledAbove, IsSettled, AreSettled, IsWithin, AreWithin, met_by, met_after, all_met_after, IsNewKey, AreNewKeys, AllAreNewKeys, IsSettledFor}

abbrev pub HaveNoLists : PlainNodes → Type 0
HaveNoLists ns = AllAre (λ number widget fields scroll. IsNoList (look_of widget)) ns

-- the first phase puts off what is a lazy list, and nothing else
lazy_waits : (p : BuildRole) → waits first p ≡ is_lazy p
lazy_waits (composes place props) = refl
lazy_waits (provides name value) = refl
lazy_waits (keeps kept) = refl
lazy_waits (lists extent) = refl
lazy_waits holds = refl

-- ---- a widget is opened

-- its global key is new, and is met then
abbrev IsTested : Key Value → (Value → Bool) → Progress → Type 0
IsTested k met t = IsNewKey met k × (t.met ≡ met_by k met)

key_tested : (k : Key Value) (s : Progress) → OnGives (met_once k s) (λ x t. IsTested k s.met t)
key_tested key.None s = (tt, refl)
key_tested (key.Local k) s = (tt, refl)
key_tested (key.Global k) s = when_false (s.met k) (stops (repeated_global_key k)) _ (λ x t. IsTested (key.Global k) s.met t) tt (λ e. (e, refl))

-- its child widgets are its own
abbrev IsGiven : BuildRole → PlainWidget → (Value → Bool) → List PlainWidget → Progress → Type 0
IsGiven p w met ws t = (is_lazy p ≡ false → AreItsOwn p w ws) × (t.met ≡ met)

own_given : (b : Blueprint) (p : BuildRole) (values : List Value) (number : ℕ) (fields : List Value) (w : PlainWidget) (s : Progress) → OnGives (given_by b p values number fields w s) (IsGiven p w s.met)
own_given b (composes place props) values number fields w s = either _ (stops output_too_large) (gives _ s) (IsGiven (composes place props) w s.met) tt ((λ e. tt), refl)
own_given b (provides name value) values number fields w s = ((λ e. refl), refl)
own_given b (keeps kept) values number fields w s = ((λ e. refl), refl)
own_given b (lists extent) values number fields w s = ((λ e. cc), refl)
own_given b holds values number fields w s = ((λ e. refl), refl)

-- no two of them have one key
abbrev IsApart : List PlainWidget → (Value → Bool) → List PlainWidget → Progress → Type 0
IsApart ws met vs t = (vs ≡ ws) × (first_repeated [] (map key_of vs) ≡ None) × (t.met ≡ met)

keys_apart : (o : Option (Key Value)) (ws : List PlainWidget) (s : Progress) → first_repeated [] (map key_of ws) ≡ o → OnGives (unless_repeated o ws s) (IsApart ws s.met)
keys_apart None ws s e = (refl, e, refl)
keys_apart (Some k) ws s e = tt

record IsOpened (w : PlainWidget) (met : Value → Bool) (o : Opening) (t : Progress) : Type 0 where
  pub key : IsNewKey met (key_of w)
  pub after : t.met ≡ met_by (key_of w) met
  pub own : is_lazy (build_role_of (look_of w)) ≡ false → AreItsOwn (build_role_of (look_of w)) w o.given
  pub apart : first_repeated [] (map key_of o.given) ≡ None

opens : (from : Basis) (values : List Value) (a : Arrival) (s : Progress) → OnGives (opened from values a s) (IsOpened a.widget s.met)
opens from values a s =
    let w = a.widget in
    let p = build_role_of (look_of w) in
    let partner = partner_of from.holder a in
    let fields = fields_for from.program w partner in
    either (nat_le from.program.nodes s.entered) (stops tree_too_large) _ (IsOpened w s.met) tt
    (then (met_once (key_of w) s) _ (λ x t. IsTested (key_of w) s.met t) (IsOpened w s.met) (key_tested (key_of w) s) (λ x s1 h1.
    then (given_by from.program p values (number_for partner s1) fields w (counted partner s1)) _ (IsGiven p w s1.met) (IsOpened w s.met)
    (own_given from.program p values (number_for partner s1) fields w (counted partner s1)) (λ ws s2 h2.
    then (apart ws s2) _ (IsApart ws s2.met) (IsOpened w s.met) (keys_apart (first_repeated [] (map key_of ws)) ws s2 refl) (λ vs s3 h3.
    record {
      key = h1.0;
      after = h3.2 ∙ h2.1 ∙ h1.1;
      own = λ e. subst (AreItsOwn p w) (sym h3.0) (h2.0 e);
      apart = h3.1;
    }))))

-- ---- nodes of arrivals

abbrev AreFor : List Arrival → List PlainNode → Type 0
AreFor [] [] = Unit {0}
AreFor [] (n ∷ ns) = ⊥
AreFor (a ∷ bs) [] = ⊥
AreFor (a ∷ bs) (n ∷ ns) = (widget_of n ≡ a.widget) × (index_of n ≡ a.place) × AreFor bs ns

module _ (nodes : List PlainNode) where
  for_widgets : (place : ℕ) (ws : List PlainWidget) (ms : List (Option ℕ)) (ns : List PlainNode) → AreFor (arrivals_from nodes place ws ms) ns → map widget_of ns ≡ ws
  for_widgets place [] ms [] h = refl
  for_widgets place [] ms (n ∷ ns) h = absurd h
  for_widgets place (w ∷ ws) [] [] h = absurd h
  for_widgets place (w ∷ ws) [] (n ∷ ns) h = λ i. h.0 i ∷ for_widgets (suc place) ws [] ns h.2 i
  for_widgets place (w ∷ ws) (m ∷ ms) [] h = absurd h
  for_widgets place (w ∷ ws) (m ∷ ms) (n ∷ ns) h = λ i. h.0 i ∷ for_widgets (suc place) ws ms ns h.2 i

  for_order : (place : ℕ) (ws : List PlainWidget) (ms : List (Option ℕ)) (ns : List PlainNode) → AreFor (arrivals_from nodes place ws ms) ns → StandInOrder place ns
  for_order place [] ms [] h = tt
  for_order place [] ms (n ∷ ns) h = absurd h
  for_order place (w ∷ ws) [] [] h = absurd h
  for_order place (w ∷ ws) [] (n ∷ ns) h = (h.1, for_order (suc place) ws [] ns h.2)
  for_order place (w ∷ ws) (m ∷ ms) [] h = absurd h
  for_order place (w ∷ ws) (m ∷ ms) (n ∷ ns) h = (h.1, for_order (suc place) ws ms ns h.2)

-- ---- a widget is entered

-- what comes of it: a settled node with its widget and at its place, whose global keys are new and are met then
pub record IsEntered (left : ℕ) (met : Value → Bool) (a : Arrival) (n : PlainNode) (t : Progress) : Type 0 where
  pub widget : widget_of n ≡ a.widget
  pub place : index_of n ≡ a.place
  pub settled : IsSettled n
  pub within : IsWithin left n
  pub keys : AreNewKeys met n
  pub after : t.met ≡ met_after n met

record AreEntered (left : ℕ) (met : Value → Bool) (bs : List Arrival) (ns : List PlainNode) (t : Progress) : Type 0 where
  pub each : AreFor bs ns
  pub settled : AreSettled (nodes_of ns)
  pub within : AreWithin left (nodes_of ns)
  pub keys : AllAreNewKeys met (nodes_of ns)
  pub after : t.met ≡ all_met_after (nodes_of ns) met

abbrev pub Enters : ℕ → (Value → Bool) → Arrival → PlainNode → Progress → Type 0
Enters left met a n t = HasNoLists n → IsEntered left met a n t

abbrev AllEnter : ℕ → (Value → Bool) → List Arrival → List PlainNode → Progress → Type 0
AllEnter left met bs ns t = HaveNoLists (nodes_of ns) → AreEntered left met bs ns t

one_more : (left : ℕ) (met : Value → Bool) (a : Arrival) (bs : List Arrival) (n : PlainNode) (ns : List PlainNode) (s t : Progress) → IsEntered left met a n s → AreEntered left s.met bs ns t
    → AreEntered left met (a ∷ bs) (n ∷ ns) t
one_more left met a bs n ns s t h k =
    record {
      each = (h.widget, h.place, k.each);
      settled = (h.settled, k.settled);
      within = (h.within, k.within);
      keys = (h.keys, subst (λ m. AllAreNewKeys m (nodes_of ns)) h.after k.keys);
      after = k.after ∙ ap (all_met_after (nodes_of ns)) h.after;
    }

each_enters : (left : ℕ) (go : Arrival → Progress → Step PlainNode) → ((a : Arrival) (s : Progress) → OnGives (go a s) (Enters left s.met a)) → (bs : List Arrival) (s : Progress) → OnGives (each go bs s) (AllEnter left s.met bs)
each_enters left go step [] s = λ none. record { each = tt; settled = tt; within = tt; keys = tt; after = refl }
each_enters left go step (a ∷ bs) s =
    then (go a s) _ (Enters left s.met a) (AllEnter left s.met (a ∷ bs)) (step a s) (λ n s1 h1.
    then (each go bs s1) _ (AllEnter left s1.met bs) (AllEnter left s.met (a ∷ bs)) (each_enters left go step bs s1) (λ ns s2 h2 none.
    one_more left s.met a bs n ns s1 s2 (h1 none.0) (h2 none.1)))

-- a node over what was entered below it
over : (left : ℕ) (met : Value → Bool) (a : Arrival) (o : Opening) (ns : List PlainNode) (s t : Progress) → is_lazy (build_role_of (look_of a.widget)) ≡ false → IsOpened a.widget met o s
    → AreEntered left s.met (arrivals o.partner o.given) ns t → IsEntered (suc left) met a (made a o ns) t
over left met a o ns s t none h k =
    let w = a.widget in
    let widgets : map widget_of ns ≡ o.given = for_widgets (nodes_had o.partner) 0 o.given (matching (widgets_had o.partner) o.given) ns k.each in
    let above : IsSettledAbove w ns =
    record {
      own = subst (AreItsOwn (build_role_of (look_of w)) w) (sym widgets) (h.own none);
      order = for_order (nodes_had o.partner) 0 o.given (matching (widgets_had o.partner) o.given) ns k.each;
      apart = subst (λ ws. first_repeated [] (map key_of ws) ≡ None) (sym widgets) h.apart;
    } in
    record {
      widget = refl;
      place = refl;
      settled = (subst (IsSettledAbove w) (sym (list_of-nodes_of ns)) above, k.settled);
      within = k.within;
      keys = (h.key, subst (λ m. AllAreNewKeys m (nodes_of ns)) h.after k.keys);
      after = k.after ∙ ap (all_met_after (nodes_of ns)) h.after;
    }

pub enters : (from : Basis) (left : ℕ) (values : List Value) (a : Arrival) (s : Progress) → OnGives (enter from first left values a s) (Enters left s.met a)
unfolding enter
enters from zero values a s = tt
enters from (suc left) values a s =
    let w = a.widget in
    let p = build_role_of (look_of w) in
    let below = values_below w values in
    then (opened from values a s) _ (IsOpened w s.met) (Enters (suc left) s.met a) (opens from values a s) (λ o s1 h1.
    let bs = arrivals o.partner o.given in
    let Below : List PlainNode → Progress → Type 0 = λ ns t. is_lazy p ≡ false → AllEnter left s1.met bs ns t in
    then (entered_below (enter from first left) first values w o s1) _ Below (Enters (suc left) s.met a)
    (below_enters (waits first p) o.partner s1 (each (enter from first left below) bs s1) p (AllEnter left s1.met bs) (lazy_waits p)
    (each_enters left (enter from first left below) (λ c t. enters from left below c t) bs s1))
    (λ ns s2 h2 none. over left s.met a o ns s1 s2 none.0 h1 (h2 none.0 none.1)))
  where
    below_enters : (b : Bool) (partner : Option PlainNode) (s : Progress) (later : Step (List PlainNode)) (p : BuildRole) (Q : List PlainNode → Progress → Type 0) → b ≡ is_lazy p → OnGives later Q
        → OnGives (cond b (put_off partner s) later) (λ ns t. is_lazy p ≡ false → Q ns t)
    below_enters true partner s later p Q e h = λ none. cc
    below_enters false partner s later p Q e h = weaker later Q (λ ns t. is_lazy p ≡ false → Q ns t) (λ ns t k none. k) h

-- ---- a whole build

mutual
  none_marked : (n : PlainNode) → NumbersAre (λ number. is_marked [] number ≡ false) n
  none_marked (node number widget fields scroll index children) = (refl, none_marked_in children)

  none_marked_in : (ns : PlainNodes) → AllNumbersAre (λ number. is_marked [] number ≡ false) ns
  none_marked_in no_nodes = tt
  none_marked_in (more_nodes n ns) = (none_marked n, none_marked_in ns)

is_small : (t : Bool) (f : Fault) (r : Built) (tree : PlainNode) (after : ℕ) → cond t (failed f) r ≡ built tree after → t ≡ false
is_small true f r tree after e = cc
is_small false f r tree after e = refl

of_gives : {A : Type 0} (r : Step A) (Q : A → Progress → Type 0) (a : A) (s : Progress) → OnGives r Q → r ≡ gives a s → Q a s
of_gives r Q a s h e = subst (λ r. OnGives r Q) e h

module _ (b : Blueprint) (screen : Screen) (old : Option PlainNode) (next after : ℕ) (root : PlainWidget) (tree : PlainNode) (whole : full_build b screen old next root ≡ built tree after) (none : HasNoLists tree)
    (waits : (mid : PlainNode) (s : Progress) → first_tree b old next root ≡ gives mid s → (s.waiting ≡ [] → ⊥) → ⊥) where
  abbrev later : PlainNode → List (Option PlainNode) → Progress → Step PlainNode
  later mid os s = second_phase (basis b old) (live_ranges screen) mid os s

  none_wait : (mid : PlainNode) (s : Progress) → first_tree b old next root ≡ gives mid s → (os : List (Option PlainNode)) → s.waiting ≡ os → s.waiting ≡ []
  none_wait mid s is [] e = e
  none_wait mid s is (o ∷ os) e = absurd (waits mid s is (λ f. let no : o ∷ os ≡ [] = sym e ∙ f in cc))

  -- the first phase gives the whole tree
  begun : (r : Step PlainNode) → first_tree b old next root ≡ r → built_by (and_then r (λ mid s. later mid s.waiting s)) ≡ built tree after → (s : Progress) × (first_tree b old next root ≡ gives tree s)
  begun (stops f) is e = cc
  begun (gives mid s) is e =
      let done : built mid s.next ≡ built tree after = sym (ap (λ os. built_by (later mid os s)) (none_wait mid s is s.waiting refl)) ∙ e in
      let same : mid ≡ tree = cc in
      (s, is ∙ ap (λ n. gives n s) same)

  pub settled_for : HasFreshOutputs b [] b.defaults tree → count_of tree ≤ b.nodes → IsSettledFor b [] root tree
  unfolding full_build both_phases
  settled_for fresh few =
      let rest = both_phases (basis b old) (live_ranges screen) (root_arrival old root) (started next) in
      let is = begun (first_tree b old next root) refl (small_built (nat_lt output_limit (widget_count root)) output_too_large rest tree after whole) in
      let h : IsEntered depth_limit (λ k. false) (root_arrival old root) tree is.0 =
      of_gives (first_tree b old next root) (Enters depth_limit (λ k. false) (root_arrival old root)) tree is.0
      (enters (basis b old) depth_limit b.defaults (root_arrival old root) (started next)) is.1 none in
      record {
        widget = h.widget;
        place = h.place;
        small = is_small (nat_lt output_limit (widget_count root)) output_too_large (built_by rest) tree after whole;
        settled = h.settled;
        fresh = fresh;
        within = h.within;
        few = few;
        keys = h.keys;
        unmarked = none_marked tree;
      }
