-- A node that took another widget, with those below it in another order, is settled and fresh as it was, and is as many nodes with the same numbers.
use Rattle.std.proofs.Common.{◌≡◌, ℕ, zero, suc, ◌+◌, ◌<◌, eqb, Bool, true, false, not, ◌&&◌, ◌||◌, cond, is_some, Option, Some, None, List, [], ◌∷◌, map, refl, sym, ap, ◌∙◌, subst}
use Rattle.std.specs.Prelude.{slice_get}
use Rattle.std.proofs.lemmas.Bool.{and_parts}
use Rattle.fx_expr.specs.declared.values.Value.{Value}
use Rattle.widget_model.specs.Plain.{PlainWidget, look_of, key_of}
use Rattle.widget_model.specs.Plain.{children_of as child_widgets}
use Rattle.widget_model.specs.Update.{updates}
use Rattle.reconcile.specs.Matching.{matching}
use Rattle.reconcile.proofs.Updates.{updates_key}
use Rattle.plain_tree.specs.PlainNode.{PlainNode, node, PlainNodes, no_nodes, more_nodes, nodes_of, list_of, widget_of, count_of, counts_of}
use Rattle.build_form.specs.BuildRole.{build_role_of}
use Rattle.build_form.specs.Entering.{Blueprint, first_repeated, values_below}
use Rattle.build_form.specs.Laws.{NumbersAre, AllNumbersAre}
use Rattle.build_form.proofs.Times.{one_if, times_of, times_in}
use Rattle.build_walk.proofs.Made.{list_of-nodes_of}
use Rattle.build_walk.specs.Fresh.{HasFreshOutputs, HaveFreshOutputs}
use Rattle.work_sets.specs.Due.{names_read}
use Rattle.work_sets.specs.Members.{is_same_widget}
use Rattle.settled_builds.specs.Places.{IsNoGlobal, HasNoGlobals, HaveNoGlobals}
use Rattle.settled_builds.specs.Retaken.{gathered, all_retaking, all_asked, can_follow_all, can_retake, each_can, retaking}
use Rattle.settled_builds.specs.Settled.{AreItsOwn, StandInOrder, IsSettledAbove, IsSettled, AreSettled, IsWithin, AreWithin, AreComponents, AllAreComponents}
use Rattle.settled_builds.specs.Taken.{has_own_children}
use Rattle.settled_builds.proofs.Alike.{take, each_taking_is, each_can_is, gathered_widgets, gathered_order}
use Rattle.settled_builds.proofs.Picked.{Each, Picks, picked, each_picked, sum_picked}
use Rattle.settled_builds.proofs.Shuffles.{sum}
use Rattle.settled_builds.proofs.Own.{own_children, own_output, own_values, own_reads_nothing}

-- what is asked of a node, and of nodes one after another
pub record Sound (b : Blueprint) (marks comps : List ℕ) (next left : ℕ) (values : List Value) (n : PlainNode) : Type 0 where
  pub settled : IsSettled n
  pub fresh : HasFreshOutputs b marks values n
  pub within : IsWithin left n
  pub keyless : HasNoGlobals n
  pub components : AreComponents comps n
  pub below : NumbersAre (λ k. k < next) n

pub record AllSound (b : Blueprint) (marks comps : List ℕ) (next left : ℕ) (values : List Value) (ns : PlainNodes) : Type 0 where
  pub settled : AreSettled ns
  pub fresh : HaveFreshOutputs b marks values ns
  pub within : AreWithin left ns
  pub keyless : HaveNoGlobals ns
  pub components : AllAreComponents comps ns
  pub below : AllNumbersAre (λ k. k < next) ns

-- it is as many nodes as another one, with the same numbers
pub record AsMany (n m : PlainNode) : Type 0 where
  pub count : count_of m ≡ count_of n
  pub times : (k : ℕ) → times_of k m ≡ times_of k n

pub record AllAsMany (ns ms : PlainNodes) : Type 0 where
  pub count : counts_of ms ≡ counts_of ns
  pub times : (k : ℕ) → times_in k ms ≡ times_in k ns

-- ---- of lists

pub count_sum : (ns : PlainNodes) → counts_of ns ≡ sum count_of (list_of ns)
count_sum no_nodes = refl
count_sum (more_nodes n ns) = ap (λ k. count_of n + k) (count_sum ns)

pub times_sum : (k : ℕ) (ns : PlainNodes) → times_in k ns ≡ sum (times_of k) (list_of ns)
times_sum k no_nodes = refl
times_sum k (more_nodes n ns) = ap (λ x. times_of k n + x) (times_sum k ns)

-- ---- what follows one after another where children take widgets

abbrev pub took : PlainNodes → List PlainWidget → List PlainNode
took ns ws = gathered (map take (list_of ns)) 0 ws (matching (map widget_of (list_of ns)) ws)

abbrev pub kids : PlainNodes → List PlainWidget → PlainNodes
kids ns ws = all_retaking ws ns

abbrev pub Follows : PlainNodes → List PlainWidget → Type 0
Follows ns ws = can_follow_all (map widget_of (list_of ns)) ws (each_can ns) ≡ true

pub kids_are : (ns : PlainNodes) (ws : List PlainWidget) → nodes_of (took ns ws) ≡ kids ns ws
kids_are ns ws = ap (λ ts. nodes_of (gathered ts 0 ws (matching (map widget_of (list_of ns)) ws))) (sym (each_taking_is ns))

pub picks_of : (ns : PlainNodes) (ws : List PlainWidget) → Follows ns ws → Picks (list_of ns) ws (took ns ws)
picks_of ns ws can = picked (list_of ns) ws (ap (λ cs. can_follow_all (map widget_of (list_of ns)) ws cs) (sym (each_can_is ns)) ∙ can)

asked_of : (ns : PlainNodes) (ws : List PlainWidget) → Follows ns ws → all_asked (map can_retake (list_of ns)) ws (matching (map widget_of (list_of ns)) ws) ≡ true
asked_of ns ws can =
    let parts = and_parts _ _ (and_parts _ _ can).1 in ap (λ cs. all_asked cs ws (matching (map widget_of (list_of ns)) ws)) (sym (each_can_is ns)) ∙ parts.1

none_twice : {K : Type 0} (r : Option K) → not (is_some r) ≡ true → r ≡ None
none_twice None e = refl
none_twice (Some k) e = cc

apart_of : (ns : PlainNodes) (ws : List PlainWidget) → Follows ns ws → first_repeated [] (map key_of ws) ≡ None
apart_of ns ws can = let parts = and_parts _ _ (and_parts _ _ can).1 in none_twice (first_repeated [] (map key_of ws)) parts.0

module _ (equal : (v w : PlainWidget) → is_same_widget v w ≡ true → v ≡ w) where
  pub kids_widgets : (ns : PlainNodes) (ws : List PlainWidget) → Follows ns ws → map widget_of (list_of (kids ns ws)) ≡ ws
  kids_widgets ns ws can =
      subst (λ ms. map widget_of (list_of ms) ≡ ws) (kids_are ns ws)
      (ap (map widget_of) (list_of-nodes_of (took ns ws)) ∙ gathered_widgets equal (list_of ns) 0 ws (matching (map widget_of (list_of ns)) ws) (asked_of ns ws can))

  pub kids_above : (w : PlainWidget) (ns : PlainNodes) (ws : List PlainWidget) → AreItsOwn (build_role_of (look_of w)) w ws → Follows ns ws → IsSettledAbove w (list_of (kids ns ws))
  kids_above w ns ws own can =
      let widgets = sym (kids_widgets ns ws can) in
      record {
        own = subst (AreItsOwn (build_role_of (look_of w)) w) widgets own;
        order =
            subst (λ ms. StandInOrder 0 (list_of ms)) (kids_are ns ws)
            (subst (StandInOrder 0) (sym (list_of-nodes_of (took ns ws))) (gathered_order equal (list_of ns) 0 ws (matching (map widget_of (list_of ns)) ws) (asked_of ns ws can)));
        apart = subst (λ vs. first_repeated [] (map key_of vs) ≡ None) widgets (apart_of ns ws can);
      }

pub within_at : (left : ℕ) (ns : PlainNodes) → AreWithin left ns → (j : ℕ) (c : PlainNode) → slice_get (list_of ns) j ≡ Some c → IsWithin left c
within_at left no_nodes h j c at = absurd (cc)
within_at left (more_nodes n ns) h zero c at = subst (IsWithin left) (some_is at) h.0
  where
    some_is : Some n ≡ Some c → n ≡ c
    some_is e = cc
within_at left (more_nodes n ns) h (suc j) c at = within_at left ns h.1 j c at

-- ---- as many nodes, with the same numbers

pub kids_as_many : (ns : PlainNodes) (ws : List PlainWidget) → Follows ns ws → ((j : ℕ) (c : PlainNode) (w : PlainWidget) (place : ℕ) → slice_get (list_of ns) j ≡ Some c → can_retake c w ≡ true → AsMany c (retaking c w place))
    → AllAsMany ns (kids ns ws)
kids_as_many ns ws can step =
    let picks = picks_of ns ws can in
    let gs = took ns ws in
    subst (AllAsMany ns) (kids_are ns ws)
    (record {
      count = count_sum (nodes_of gs) ∙ ap (sum count_of) (list_of-nodes_of gs) ∙ sum_picked (list_of ns) count_of (λ j c w place at ok. (step j c w place at ok).count) ws gs picks ∙ sym (count_sum ns);
      times = λ k. times_sum k (nodes_of gs) ∙ ap (sum (times_of k)) (list_of-nodes_of gs) ∙ sum_picked (list_of ns) (times_of k) (λ j c w place at ok. (step j c w place at ok).times k) ws gs picks ∙ sym (times_sum k ns);
    })

many_by : (number : ℕ) (was w : PlainWidget) (fields : List Value) (scroll index place : ℕ) (ns : PlainNodes) → (Follows ns (child_widgets w) → AllAsMany ns (kids ns (child_widgets w))) → (same : Bool)
    → (same || (updates was w && (has_own_children (build_role_of (look_of was)) && (has_own_children (build_role_of (look_of w)) && can_follow_all (map widget_of (list_of ns)) (child_widgets w) (each_can ns))))) ≡ true
    → AsMany (node number was fields scroll index ns) (cond same (node number was fields scroll place ns) (node number w fields scroll place (kids ns (child_widgets w))))
many_by number was w fields scroll index place ns step true can = record { count = refl; times = λ k. refl }
many_by number was w fields scroll index place ns step false can =
    let h = and_parts (updates was w) _ can in
    let k = and_parts (has_own_children (build_role_of (look_of was))) _ h.1 in
    let l = and_parts (has_own_children (build_role_of (look_of w))) _ k.1 in
    let all = step l.1 in
    record { count = ap suc all.count; times = λ x. ap (λ t. one_if (eqb number x) + t) (all.times x) }

pub as_many : (left : ℕ) (n : PlainNode) (w : PlainWidget) (place : ℕ) → IsWithin left n → can_retake n w ≡ true → AsMany n (retaking n w place)
as_many zero (node number was fields scroll index ns) w place within can = absurd within
as_many (suc left) (node number was fields scroll index ns) w place within can =
    many_by number was w fields scroll index place ns (λ follow. kids_as_many ns (child_widgets w) follow (λ j c v at_place at ok. as_many left c v at_place (within_at left ns within j c at) ok)) (is_same_widget was w) can

-- ---- sound

module _ (b : Blueprint) (marks comps : List ℕ) (next : ℕ) where
  abbrev Is : ℕ → List Value → PlainNode → Type 0
  Is left values n = Sound b marks comps next left values n

  abbrev All : ℕ → List Value → PlainNodes → Type 0
  All left values ns = AllSound b marks comps next left values ns

  pub sound_at : (left : ℕ) (values : List Value) (ns : PlainNodes) → All left values ns → (j : ℕ) (c : PlainNode) → slice_get (list_of ns) j ≡ Some c → Is left values c
  sound_at left values no_nodes h j c at = absurd (cc)
  sound_at left values (more_nodes n ns) h zero c at =
      subst (Is left values) (some_is at)
      (record { settled = h.settled.0; fresh = h.fresh.0; within = h.within.0; keyless = h.keyless.0; components = h.components.0; below = h.below.0 })
    where
      some_is : Some n ≡ Some c → n ≡ c
      some_is e = cc
  sound_at left values (more_nodes n ns) h (suc j) c at =
      sound_at left values ns (record { settled = h.settled.1; fresh = h.fresh.1; within = h.within.1; keyless = h.keyless.1; components = h.components.1; below = h.below.1 }) j c at

  pub sound_list : (left : ℕ) (values : List Value) (gs : List PlainNode) → Each (Is left values) gs → All left values (nodes_of gs)
  sound_list left values [] h = record { settled = tt; fresh = tt; within = tt; keyless = tt; components = tt; below = tt }
  sound_list left values (g ∷ gs) h =
      let rest = sound_list left values gs h.1 in
      record {
        settled = (h.0.settled, rest.settled);
        fresh = (h.0.fresh, rest.fresh);
        within = (h.0.within, rest.within);
        keyless = (h.0.keyless, rest.keyless);
        components = (h.0.components, rest.components);
        below = (h.0.below, rest.below);
      }

  module _ (equal : (v w : PlainWidget) → is_same_widget v w ≡ true → v ≡ w) where
    pub kids_sound : (left : ℕ) (values : List Value) (ns : PlainNodes) (ws : List PlainWidget) → Follows ns ws
        → ((j : ℕ) (c : PlainNode) (w : PlainWidget) (place : ℕ) → slice_get (list_of ns) j ≡ Some c → can_retake c w ≡ true → Is left values (retaking c w place)) → All left values (kids ns ws)
    kids_sound left values ns ws can step =
        subst (All left values) (kids_are ns ws) (sound_list left values (took ns ws) (each_picked (list_of ns) (Is left values) step ws (took ns ws) (picks_of ns ws can)))

    all_below : (left : ℕ) (values : List Value) (number : ℕ) (w : PlainWidget) (fields : List Value) (scroll index : ℕ) (ns : PlainNodes) → Is (suc left) values (node number w fields scroll index ns) → All left (values_below w values) ns
    all_below left values number w fields scroll index ns h =
        record { settled = h.settled.1; fresh = h.fresh.1; within = h.within; keyless = h.keyless.1; components = h.components.1; below = h.below.1 }

    sound_by : (left : ℕ) (values : List Value) (number : ℕ) (was w : PlainWidget) (fields : List Value) (scroll index place : ℕ) (ns : PlainNodes) → Is (suc left) values (node number was fields scroll index ns)
        → (Follows ns (child_widgets w) → All left (values_below was values) (kids ns (child_widgets w))) → (same : Bool)
        → (same || (updates was w && (has_own_children (build_role_of (look_of was)) && (has_own_children (build_role_of (look_of w)) && can_follow_all (map widget_of (list_of ns)) (child_widgets w) (each_can ns))))) ≡ true
        → Is (suc left) values (cond same (node number was fields scroll place ns) (node number w fields scroll place (kids ns (child_widgets w))))
    sound_by left values number was w fields scroll index place ns h step true can =
        record { settled = h.settled; fresh = h.fresh; within = h.within; keyless = h.keyless; components = h.components; below = h.below }
    sound_by left values number was w fields scroll index place ns h step false can =
        let p = and_parts (updates was w) _ can in
        let q = and_parts (has_own_children (build_role_of (look_of was))) _ p.1 in
        let r = and_parts (has_own_children (build_role_of (look_of w))) _ q.1 in
        let all = step r.1 in
        let was_same = own_values (build_role_of (look_of was)) values q.0 in
        let now_same = own_values (build_role_of (look_of w)) values r.0 in
        let none : is_some (names_read (look_of was)) ≡ false = ap (λ (o : Option (List ℕ)). is_some o) (own_reads_nothing (look_of was) q.0) in
        record {
          settled = (kids_above equal w ns (child_widgets w) (own_children (build_role_of (look_of w)) w (child_widgets w) r.0 refl) r.1, all.settled);
          fresh = (
            λ e. own_output b (build_role_of (look_of w)) w fields values number (map widget_of (list_of (kids ns (child_widgets w)))) r.0,
            subst (λ vs. HaveFreshOutputs b marks vs (kids ns (child_widgets w))) (was_same ∙ sym now_same) all.fresh,
          );
          within = all.within;
          keyless = (subst IsNoGlobal (updates_key was w p.0) h.keyless.0, all.keyless);
          components = (λ e. (let wrong : false ≡ true = sym none ∙ h.components.0 e in cc), all.components);
          below = (h.below.0, all.below);
        }

    pub retakes : (left : ℕ) (values : List Value) (n : PlainNode) (w : PlainWidget) (place : ℕ) → Is left values n → can_retake n w ≡ true → Is left values (retaking n w place)
    retakes zero values (node number was fields scroll index ns) w place h can = absurd h.within
    retakes (suc left) values (node number was fields scroll index ns) w place h can =
        let all = all_below left values number was fields scroll index ns h in
        sound_by left values number was w fields scroll index place ns h
        (λ follow. kids_sound left (values_below was values) ns (child_widgets w) follow (λ j c v at_place at ok. retakes left (values_below was values) c v at_place (sound_at left (values_below was values) ns all j c at) ok))
        (is_same_widget was w) can

    pub all_retake : (left : ℕ) (values : List Value) (ns : PlainNodes) (ws : List PlainWidget) → All left values ns → Follows ns ws → All left values (kids ns ws)
    all_retake left values ns ws all can = kids_sound left values ns ws can (λ j c v place at ok. retakes left values c v place (sound_at left values ns all j c at) ok)

pub all_as_many : (left : ℕ) (ns : PlainNodes) (ws : List PlainWidget) → AreWithin left ns → Follows ns ws → AllAsMany ns (kids ns ws)
all_as_many left ns ws within can = kids_as_many ns ws can (λ j c v place at ok. as_many left c v place (within_at left ns within j c at) ok)
