-- Where nodes take other widgets, each node that has no render node has one child, as before.
use Rattle.std.proofs.Common.{◌≡◌, ℕ, zero, suc, ◌+◌, ◌==◌, Bool, true, false, ◌&&◌, ◌||◌, cond, Option, Some, None, List, [], ◌∷◌, map, length, refl, sym, ap, ◌∙◌, subst, arith}
use Rattle.std.specs.Prelude.{slice_get}
use Rattle.std.proofs.lemmas.Bool.{and_parts, eqb-true}
use Rattle.fx_expr.specs.declared.values.Value.{Value}
use Rattle.widget_model.specs.Look.{Look, flexible, positioned, keep, inherit, component}
use Rattle.widget_model.specs.Plain.{PlainWidget, look_of}
use Rattle.widget_model.specs.Plain.{children_of as child_widgets}
use Rattle.widget_model.specs.Update.{updates}
use Rattle.widget_model.specs.UpdateLaws.{updates_mean}
use Rattle.widget_model.specs.WidgetType.{type_of}
use Rattle.work_sets.specs.Members.{is_same_widget}
use Rattle.reconcile.specs.Matching.{matching}
use Rattle.reconcile.proofs.LawLemmas.{length-matching}
use Rattle.plain_tree.specs.At.{is_there}
use Rattle.plain_tree.specs.Laws.{IsOne, OneWhere, VanishAlone, AllVanishAlone}
use Rattle.plain_tree.specs.PlainNode.{PlainNode, node, PlainNodes, no_nodes, more_nodes, nodes_of, list_of, widget_of, count_of, counts_of}
use Rattle.plain_tree.specs.RenderRole.{render_role_of, vanishes}
use Rattle.build_form.specs.BuildRole.{build_role_of}
use Rattle.build_form.specs.Entering.{Blueprint, values_below}
use Rattle.settled_builds.specs.Places.{NodePlace, spot_at, spot_in}
use Rattle.settled_builds.specs.Retaken.{gathered, all_asked, are_apart, can_follow_all, can_retake, each_can, all_retaking, can_retake_below, retaken, retaking}
use Rattle.settled_builds.specs.Settled.{IsWithin, AreWithin}
use Rattle.settled_builds.specs.Regiven.{having_widget, first_having, regiven, CanRegive}
use Rattle.settled_builds.specs.Taken.{has_own_children, nodes_below}
use Rattle.settled_builds.proofs.Changed.{changed, all_changed}
use Rattle.settled_builds.proofs.Alike.{take}
use Rattle.settled_builds.proofs.Picked.{Each, each_picked}
use Rattle.settled_builds.proofs.Reaching.{same_spot}
use Rattle.settled_builds.proofs.Retakes.{took, kids, kids_are, Follows, picks_of, within_at}
use Rattle.settled_builds.proofs.Telling.{alone_at}

-- a kind that has no render node is of a type that has none
type_vanishes : (a b : Look) → type_of a ≡ type_of b → vanishes (render_role_of b) ≡ vanishes (render_role_of a)
type_vanishes (flexible a0 a1) (flexible b0 b1) same = refl
type_vanishes (positioned a0 a1 a2 a3 a4 a5) (positioned b0 b1 b2 b3 b4 b5) same = refl
type_vanishes (keep a0) (keep b0) same = refl
type_vanishes (inherit a0 a1) (inherit b0 b1) same = refl
type_vanishes (component a0 a1 a2) (component b0 b1 b2) same = refl
type_vanishes (flexible a0 a1) b same = cc
type_vanishes (positioned a0 a1 a2 a3 a4 a5) b same = cc
type_vanishes (keep a0) b same = cc
type_vanishes (inherit a0 a1) b same = cc
type_vanishes (component a0 a1 a2) b same = cc
type_vanishes a (flexible b0 b1) same = cc
type_vanishes a (positioned b0 b1 b2 b3 b4 b5) same = cc
type_vanishes a (keep b0) same = cc
type_vanishes a (inherit b0 b1) same = cc
type_vanishes a (component b0 b1 b2) same = cc
type_vanishes a b same = refl

-- ---- children that take widgets

each_alone : (gs : List PlainNode) → Each VanishAlone gs → AllVanishAlone (nodes_of gs)
each_alone [] h = tt
each_alone (g ∷ gs) h = (h.0, each_alone gs h.1)

one_match : (c : PlainNode) (ws : List PlainWidget) (ms : List (Option ℕ)) → length ms ≡ length ws → 1 ≡ length ws → all_asked (can_retake c ∷ []) ws ms ≡ true → IsOne (nodes_of (gathered (take c ∷ []) 0 ws ms))
one_match c ws [] long count can = absurd (omega arith)
one_match c [] (m ∷ ms) long count can = absurd (omega arith)
one_match c (w ∷ v ∷ ws) (m ∷ ms) long count can = absurd (omega arith)
one_match c (w ∷ []) (m ∷ n ∷ ms) long count can = absurd (omega arith)
one_match c (w ∷ []) (None ∷ []) long count can = absurd (cc)
one_match c (w ∷ []) (Some zero ∷ []) long count can = tt
one_match c (w ∷ []) (Some (suc j) ∷ []) long count can = absurd (cc)

one_kid : (ns : PlainNodes) (ws : List PlainWidget) → Follows ns ws → IsOne ns → IsOne (kids ns ws)
one_kid no_nodes ws can one = absurd one
one_kid (more_nodes c (more_nodes d ns)) ws can one = absurd one
one_kid (more_nodes c no_nodes) ws can one =
    let olds = widget_of c ∷ [] in
    let ms = matching olds ws in
    let parts = and_parts (1 == length ws) (are_apart ws && all_asked (can_retake c ∷ []) ws ms) can in
    let apart = and_parts (are_apart ws) (all_asked (can_retake c ∷ []) ws ms) parts.1 in
    one_match c ws ms (length-matching olds ws) (eqb-true 1 (length ws) parts.0) apart.1

one_where : (gone : Bool) (ns : PlainNodes) (ws : List PlainWidget) → Follows ns ws → OneWhere gone ns → OneWhere gone (kids ns ws)
one_where true ns ws can one = one_kid ns ws can one
one_where false ns ws can one = tt

kids_alone : (ns : PlainNodes) (ws : List PlainWidget) → Follows ns ws
    → ((j : ℕ) (c : PlainNode) (w : PlainWidget) (place : ℕ) → slice_get (list_of ns) j ≡ Some c → can_retake c w ≡ true → VanishAlone (retaking c w place)) → AllVanishAlone (kids ns ws)
kids_alone ns ws can step = subst AllVanishAlone (kids_are ns ws) (each_alone (took ns ws) (each_picked (list_of ns) VanishAlone step ws (took ns ws) (picks_of ns ws can)))

taking_by : (same : Bool) (number : ℕ) (v w : PlainWidget) (fs : List Value) (s place : ℕ) (ns : PlainNodes) → (Follows ns (child_widgets w) → AllVanishAlone (kids ns (child_widgets w)))
    → (same || (updates v w && (has_own_children (build_role_of (look_of v)) && (has_own_children (build_role_of (look_of w)) && can_follow_all (map widget_of (list_of ns)) (child_widgets w) (each_can ns))))) ≡ true
    → OneWhere (vanishes (render_role_of (look_of v))) ns → AllVanishAlone ns → VanishAlone (cond same (node number v fs s place ns) (node number w fs s place (kids ns (child_widgets w))))
taking_by true number v w fs s place ns step can one alone = (one, alone)
taking_by false number v w fs s place ns step can one alone =
    let c0 = and_parts (updates v w) _ can in
    let c1 = and_parts (has_own_children (build_role_of (look_of v))) _ c0.1 in
    let c2 = and_parts (has_own_children (build_role_of (look_of w))) _ c1.1 in
    let same_type = type_vanishes (look_of v) (look_of w) ((updates_mean v w).0 c0.0).type in
    (subst (λ gone. OneWhere gone (kids ns (child_widgets w))) (sym same_type) (one_where (vanishes (render_role_of (look_of v))) ns (child_widgets w) c2.1 one), step c2.1)

pub taking_alone : (left : ℕ) (n : PlainNode) (w : PlainWidget) (place : ℕ) → IsWithin left n → can_retake n w ≡ true → VanishAlone n → VanishAlone (retaking n w place)
taking_alone zero (node number v fs s i ns) w place within can alone = absurd within
taking_alone (suc left) (node number v fs s i ns) w place within can alone =
    taking_by (is_same_widget v w) number v w fs s place ns
    (λ follow. kids_alone ns (child_widgets w) follow (λ j c u at_place at ok. taking_alone left c u at_place (within_at left ns within j c at) ok (alone_at ns alone.1 j c at))) can alone.0 alone.1

-- ---- on the way

module _ (below : PlainNodes → PlainNodes) (wanted : ℕ) (p : NodePlace)
    (here_so : (left : ℕ) (ns : PlainNodes) (gone : Bool) → nodes_below p.node ≡ ns → AreWithin left ns → OneWhere gone ns → AllVanishAlone ns → OneWhere gone (below ns) × AllVanishAlone (below ns)) where
  one_by : (there : Bool) (c : PlainNode) → IsOne (cond there (more_nodes (changed below wanted c) no_nodes) (more_nodes c no_nodes))
  one_by true c = tt
  one_by false c = tt

  one_changed : (gone : Bool) (ns : PlainNodes) → OneWhere gone ns → OneWhere gone (all_changed below wanted ns)
  one_changed false ns one = tt
  one_changed true no_nodes one = absurd one
  one_changed true (more_nodes c (more_nodes d ns)) one = absurd one
  one_changed true (more_nodes c no_nodes) one = one_by (is_there wanted c) c

  path_by : (here : Bool) (left : ℕ) (values : List Value) (before behind number : ℕ) (w : PlainWidget) (fs : List Value) (s i : ℕ) (ns : PlainNodes)
      → (spot_in wanted left (values_below w values) (suc before) behind ns ≡ Some p → AllVanishAlone (all_changed below wanted ns))
      → cond here (Some (record { node = node number w fs s i ns; left = suc left; values = values; before = before; after = behind })) (spot_in wanted left (values_below w values) (suc before) behind ns) ≡ Some p → AreWithin left ns
      → OneWhere (vanishes (render_role_of (look_of w))) ns → AllVanishAlone ns → VanishAlone (cond here (node number w fs s i (below ns)) (node number w fs s i (all_changed below wanted ns)))
  path_by true left values before behind number w fs s i ns step at within one alone =
      let q : NodePlace = record { node = node number w fs s i ns; left = suc left; values = values; before = before; after = behind } in
      here_so left ns (vanishes (render_role_of (look_of w))) (ap (λ (x : NodePlace). nodes_below x.node) (sym (same_spot p q at))) within one alone
  path_by false left values before behind number w fs s i ns step at within one alone = (one_changed (vanishes (render_role_of (look_of w))) ns one, step at)

  path_in : (there : Bool) (left : ℕ) (values : List Value) (before behind : ℕ) (n : PlainNode) (ns : PlainNodes) → (spot_at wanted left values before (behind + counts_of ns) n ≡ Some p → VanishAlone (changed below wanted n))
      → (spot_in wanted left values (before + count_of n) behind ns ≡ Some p → AllVanishAlone (all_changed below wanted ns))
      → cond there (spot_at wanted left values before (behind + counts_of ns) n) (spot_in wanted left values (before + count_of n) behind ns) ≡ Some p → VanishAlone n → AllVanishAlone ns
      → AllVanishAlone (cond there (more_nodes (changed below wanted n) ns) (more_nodes n (all_changed below wanted ns)))
  path_in true left values before behind n ns one rest at alone all = (one at, all)
  path_in false left values before behind n ns one rest at alone all = (alone, rest at)

  no_spot : None ≡ Some p → ⊥
  no_spot e = cc

  mutual
    changed_alone : (left : ℕ) (values : List Value) (before behind : ℕ) (n : PlainNode) → spot_at wanted left values before behind n ≡ Some p → IsWithin left n → VanishAlone n → VanishAlone (changed below wanted n)
    changed_alone zero values before behind (node number w fs s i ns) at within alone = absurd (no_spot at)
    changed_alone (suc left) values before behind (node number w fs s i ns) at within alone =
        path_by (number == wanted) left values before behind number w fs s i ns (λ a. all_changed_alone left (values_below w values) (suc before) behind ns a within alone.1) at within alone.0 alone.1

    all_changed_alone : (left : ℕ) (values : List Value) (before behind : ℕ) (ns : PlainNodes) → spot_in wanted left values before behind ns ≡ Some p → AreWithin left ns → AllVanishAlone ns → AllVanishAlone (all_changed below wanted ns)
    all_changed_alone left values before behind no_nodes at within alone = absurd (no_spot at)
    all_changed_alone left values before behind (more_nodes n ns) at within alone =
        path_in (is_there wanted n) left values before behind n ns (λ a. changed_alone left values before (behind + counts_of ns) n a within.0 alone.0) (λ a. all_changed_alone left values (before + count_of n) behind ns a within.1 alone.1) at
        alone.0 alone.1

-- ---- where those below a node take widgets

follows_below : (n : PlainNode) (ws : List PlainWidget) → can_retake_below ws n ≡ true → Follows (nodes_below n) ws
follows_below (node number w fs s i ns) ws can = can

pub retaken_alone : (wanted : ℕ) (ws : List PlainWidget) (p : NodePlace) → can_retake_below ws p.node ≡ true → (left : ℕ) (values : List Value) (tree : PlainNode) → spot_at wanted left values 0 0 tree ≡ Some p → IsWithin left tree → VanishAlone tree
    → VanishAlone (retaken ws wanted tree)
retaken_alone wanted ws p can left values tree at within alone =
    changed_alone (all_retaking ws) wanted p
    (λ deep ns gone is inside one all.
    let follow = subst (λ ms. Follows ms ws) is (follows_below p.node ws can) in
    (one_where gone ns ws follow one, kids_alone ns ws follow (λ j c u place from ok. taking_alone deep c u place (within_at deep ns inside j c from) ok (alone_at ns all j c from)))) left values 0 0 tree at within alone

-- ---- where one takes another value

having_alone : (c : PlainNode) (w : PlainWidget) → updates (widget_of c) w ≡ true → VanishAlone c → VanishAlone (having_widget w c)
having_alone (node number v fs s i ns) w key alone = (subst (λ gone. OneWhere gone ns) (sym (type_vanishes (look_of v) (look_of w) ((updates_mean v w).0 key).type)) alone.0, alone.1)

one_there : (gone : Bool) (c : PlainNode) → OneWhere gone (more_nodes c no_nodes)
one_there true c = tt
one_there false c = tt

first_alone : (gone : Bool) (ns : PlainNodes) (c : PlainNode) (w : PlainWidget) → ns ≡ more_nodes c no_nodes → updates (widget_of c) w ≡ true → AllVanishAlone ns → OneWhere gone (first_having w ns) × AllVanishAlone (first_having w ns)
first_alone gone ns c w is key alone =
    subst (λ ms. OneWhere gone (first_having w ms) × AllVanishAlone (first_having w ms)) (sym is) (one_there gone (having_widget w c), (having_alone c w key (subst AllVanishAlone is alone).0, tt))

pub regiven_alone : (b : Blueprint) (wanted : ℕ) (w : PlainWidget) (name : ℕ) (p : NodePlace) → CanRegive b w name p → (left : ℕ) (values : List Value) (tree : PlainNode) → spot_at wanted left values 0 0 tree ≡ Some p → IsWithin left tree → VanishAlone tree
    → VanishAlone (regiven w wanted tree)
regiven_alone b wanted w name p can left values tree at within alone =
    changed_alone (first_having w) wanted p (λ deep ns gone is inside one all. first_alone gone ns can.child w (sym is ∙ can.below) can.key all) left values 0 0 tree at within alone
