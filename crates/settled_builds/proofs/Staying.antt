-- A build leaves a settled tree as it is.
use Rattle.std.proofs.Common.{◌≡◌, ℕ, zero, suc, ◌+◌, ◌<◌, ◌≤◌, nat_lt, Bool, false, cond, Option, Some, None, List, [], ◌∷◌, map, refl, sym, ap, ◌∙◌, arith}
use Rattle.std.proofs.lemmas.Bool.{lt-leb, le-ltb}
use Rattle.fx_expr.specs.declared.values.Value.{Value}
use Rattle.widget_keys.specs.declared.keys.Key.{Key}
use Rattle.widget_keys.specs.declared.keys.Key.TheVariants as key
use Rattle.widget_model.specs.Plain.{PlainWidget, look_of, key_of}
use Rattle.widget_model.specs.Size.{count_in}
use Rattle.widget_model.specs.Update.{updates}
use Rattle.reconcile.proofs.Updates.{updates_itself}
use Rattle.plain_tree.specs.PlainNode.{PlainNode, node, PlainNodes, no_nodes, more_nodes, list_of, widget_of, index_of, count_of, counts_of}
use Rattle.build_form.specs.Step.{Progress, Step, stops, gives, and_then, each, output_too_large, tree_too_large, repeated_global_key}
use Rattle.build_form.specs.BuildRole.{BuildRole, composes, provides, keeps, lists, holds, build_role_of, is_lazy}
use Rattle.build_form.specs.Partner.{Arrival, arrival, arrivals, partner_of, beside_root, root_arrival}
use Rattle.build_form.specs.Entering.{Blueprint, Basis, Phase, first, second, depth_limit, output_limit, met_once, unless_repeated, apart, number_for, fields_for, counted, given_by, values_below, waits, put_off, Opening, opening, opened, entered_below, made, enter}
use Rattle.build_form.specs.FullBuild.{Screen, failed, built, built_by, live_ranges, second_phase, started, basis, both_phases, full_build}
use Rattle.build_form.proofs.Entered.{nodes_of-list_of}
use Rattle.build_walk.specs.Fresh.{HasOutput, HasFreshOutputs, HaveFreshOutputs}
use Rattle.settled_builds.specs.Settled.{AreItsOwn, IsSettledAbove, IsSettled, AreSettled, IsWithin, AreWithin, met_by, met_after, all_met_after, IsNewKey, AreNewKeys, AllAreNewKeys, IsHeld, AreHeld, AllAreHeld, IsSettledFor, passed}
use Rattle.settled_builds.proofs.Holding.{held_in_tree}
use Rattle.settled_builds.proofs.Selves.{itself, selves, arrivals_are_selves, partner_is_itself}

-- ---- one widget is entered

-- how far a build has come once the widget of a node was entered, and once it has gone through nodes
abbrev pub begun : PlainWidget → Progress → Progress
begun w s = record { entered = suc s.entered; met = met_by (key_of w) s.met; next = s.next; waiting = s.waiting }

abbrev pub all_passed : PlainNodes → Progress → Progress
all_passed ns s = record { entered = s.entered + counts_of ns; met = all_met_after ns s.met; next = s.next; waiting = s.waiting }

pub no_list : (p : BuildRole) (w : PlainWidget) (ws : List PlainWidget) → AreItsOwn p w ws → is_lazy p ≡ false
no_list (composes place props) w ws own = refl
no_list (provides name value) w ws own = refl
no_list (keeps kept) w ws own = refl
no_list (lists extent) w ws own = absurd own
no_list holds w ws own = refl

pub not_put_off : (phase : Phase) (p : BuildRole) (w : PlainWidget) (ws : List PlainWidget) → AreItsOwn p w ws → waits phase p ≡ false
not_put_off first (composes place props) w ws own = refl
not_put_off first (provides name value) w ws own = refl
not_put_off first (keeps kept) w ws own = refl
not_put_off first (lists extent) w ws own = absurd own
not_put_off first holds w ws own = refl
not_put_off second p w ws own = refl

pub met_new : (q : Key Value) (s : Progress) → IsNewKey s.met q → met_once q s ≡ gives tt (record { entered = s.entered; met = met_by q s.met; next = s.next; waiting = s.waiting })
met_new key.None s new = refl
met_new (key.Local k) s new = refl
met_new (key.Global k) s new =
    ap (λ (b : Bool). cond {A = Step (Unit {0})} b (stops (repeated_global_key k)) (gives tt (record { entered = s.entered; met = met_by (key.Global k) s.met; next = s.next; waiting = s.waiting }))) new

pub given_again : (b : Blueprint) (p : BuildRole) (values : List Value) (number : ℕ) (fields : List Value) (w : PlainWidget) (s : Progress) (ws : List PlainWidget)
    → AreItsOwn p w ws → HasOutput b p w fields values number ws → given_by b p values number fields w s ≡ gives ws s
given_again b (composes place props) values number fields w s ws own fresh =
    ap (λ (vs : List PlainWidget). cond {A = Step (List PlainWidget)} (nat_lt output_limit (count_in vs)) (stops output_too_large) (gives vs s)) (sym fresh.0)
    ∙ ap (λ (t : Bool). cond {A = Step (List PlainWidget)} t (stops output_too_large) (gives ws s)) (le-ltb output_limit (count_in ws) fresh.1)
given_again b (provides name value) values number fields w s ws own fresh = ap (λ (vs : List PlainWidget). gives vs s) (sym own)
given_again b (keeps kept) values number fields w s ws own fresh = ap (λ (vs : List PlainWidget). gives vs s) (sym own)
given_again b (lists extent) values number fields w s ws own fresh = absurd own
given_again b holds values number fields w s ws own fresh = ap (λ (vs : List PlainWidget). gives vs s) (sym own)

pub room_for : (e c limit : ℕ) → e + suc c ≤ limit → e < limit
room_for e c limit low = omega arith

pub room_below : (e c limit : ℕ) → e + suc c ≤ limit → suc e + c ≤ limit
room_below e c limit low = omega arith

pub room_at_first : (c limit : ℕ) → c ≤ limit → 0 + c ≤ limit
room_at_first c limit low = omega arith

pub room_first : (e a b limit : ℕ) → e + (a + b) ≤ limit → e + a ≤ limit
room_first e a b limit low = omega arith

pub room_rest : (e a b limit : ℕ) → e + (a + b) ≤ limit → (e + a) + b ≤ limit
room_rest e a b limit low = omega arith

module _ (from : Basis) where
  pub opened_again : (values : List Value) (number : ℕ) (w : PlainWidget) (fields : List Value) (scroll index : ℕ) (children : PlainNodes) (s : Progress)
      → IsSettledAbove w (list_of children) → HasOutput from.program (build_role_of (look_of w)) w fields values number (map widget_of (list_of children))
      → IsNewKey s.met (key_of w) → IsHeld from.holder (key_of w) (node number w fields scroll index children) → s.entered < from.program.nodes
      → opened from values (itself (node number w fields scroll index children)) s
      ≡ gives (opening (Some (node number w fields scroll index children)) number fields (map widget_of (list_of children))) (begun w s)
  opened_again values number w fields scroll index children s settled fresh new held room =
      let n = node number w fields scroll index children in
      let ws = map widget_of (list_of children) in
      let s1 : Progress = record { entered = s.entered; met = met_by (key_of w) s.met; next = s.next; waiting = s.waiting } in
      let part = build_role_of (look_of w) in
      let rest = λ (p : Option PlainNode) (t : Progress).
      and_then (given_by from.program part values (number_for p t) (fields_for from.program w p) w (counted p t))
      (λ (given : List PlainWidget) (s2 : Progress). and_then (apart given s2) (λ (vs : List PlainWidget) (s3 : Progress). gives (opening p (number_for p t) (fields_for from.program w p) vs) s3)) in
      ap (λ (b : Bool). cond {A = Step Opening} b (stops tree_too_large) (and_then (met_once (key_of w) s) (λ (x : Unit {0}) (t : Progress). rest (partner_of from.holder (itself n)) t)))
      (lt-leb from.program.nodes s.entered room)
      ∙ ap (λ (r : Step (Unit {0})). and_then r (λ (x : Unit {0}) (t : Progress). rest (partner_of from.holder (itself n)) t)) (met_new (key_of w) s new)
      ∙ ap (λ (p : Option PlainNode). rest p s1) (partner_is_itself from.holder n held)
      ∙ ap (λ (r : Step (List PlainWidget)). and_then r (λ (given : List PlainWidget) (s2 : Progress). and_then (apart given s2) (λ (vs : List PlainWidget) (s3 : Progress). gives (opening (Some n) number fields vs) s3)))
      (given_again from.program part values number fields w (counted (Some n) s1) ws settled.own fresh)
      ∙ ap (λ (r : Option (Key Value)). and_then (unless_repeated r ws (begun w s)) (λ (vs : List PlainWidget) (s3 : Progress). gives (opening (Some n) number fields vs) s3)) settled.apart

  module _ (phase : Phase) where
    mutual
      unfolding enter

      pub part_stays : (left : ℕ) (values : List Value) (n : PlainNode) (s : Progress) → IsSettled n → HasFreshOutputs from.program [] values n → IsWithin left n → AreNewKeys s.met n → AreHeld from.holder n
          → s.entered + count_of n ≤ from.program.nodes → enter from phase left values (itself n) s ≡ gives n (passed n s)
      part_stays zero values (node number w fields scroll index children) s settled fresh within new held room = absurd within
      part_stays (suc left) values (node number w fields scroll index children) s settled fresh within new held room =
          let n = node number w fields scroll index children in
          let ns = list_of children in
          let o = opening (Some n) number fields (map widget_of ns) in
          let part = build_role_of (look_of w) in
          let below = values_below w values in
          let more : suc s.entered + counts_of children ≡ s.entered + suc (counts_of children) = omega arith in
          ap (λ (r : Step Opening). and_then r (λ (p : Opening) (s1 : Progress). and_then (entered_below (enter from phase left) phase values w p s1) (λ (ms : List PlainNode) (s2 : Progress). gives (made (itself n) p ms) s2)))
          (opened_again values number w fields scroll index children s settled.0 (fresh.0 refl) new.0 held.0 (room_for s.entered (counts_of children) from.program.nodes room))
          ∙ ap (λ (b : Bool). and_then (cond {A = Step (List PlainNode)} b (put_off (Some n) (begun w s)) (each (enter from phase left below) (arrivals (Some n) (map widget_of ns)) (begun w s))) (λ (ms : List PlainNode) (s2 : Progress). gives (made (itself n) o ms) s2))
          (not_put_off phase part w (map widget_of ns) settled.0.own)
          ∙ ap (λ (bs : List Arrival). and_then (each (enter from phase left below) bs (begun w s)) (λ (ms : List PlainNode) (s2 : Progress). gives (made (itself n) o ms) s2))
          (arrivals_are_selves number w fields scroll index children (no_list part w (map widget_of ns) settled.0.own) settled.0.order)
          ∙ ap (λ (r : Step (List PlainNode)). and_then r (λ (ms : List PlainNode) (s2 : Progress). gives (made (itself n) o ms) s2))
          (parts_stay left below children (begun w s) settled.1 fresh.1 within new.1 held.1 (room_below s.entered (counts_of children) from.program.nodes room))
          ∙ (λ i. gives (node number w fields scroll index (nodes_of-list_of children i)) (record { entered = more i; met = all_met_after children (met_by (key_of w) s.met); next = s.next; waiting = s.waiting }))

      parts_stay : (left : ℕ) (values : List Value) (ns : PlainNodes) (s : Progress) → AreSettled ns → HaveFreshOutputs from.program [] values ns → AreWithin left ns → AllAreNewKeys s.met ns → AllAreHeld from.holder ns
          → s.entered + counts_of ns ≤ from.program.nodes → each (enter from phase left values) (selves (list_of ns)) s ≡ gives (list_of ns) (all_passed ns s)
      parts_stay left values no_nodes s settled fresh within new held room =
          let same : s.entered ≡ s.entered + 0 = omega arith in
          λ i. gives [] (record { entered = same i; met = s.met; next = s.next; waiting = s.waiting })
      parts_stay left values (more_nodes n ns) s settled fresh within new held room =
          let more : (s.entered + count_of n) + counts_of ns ≡ s.entered + (count_of n + counts_of ns) = omega arith in
          ap (λ (r : Step PlainNode). and_then r (λ (m : PlainNode) (s1 : Progress). and_then (each (enter from phase left values) (selves (list_of ns)) s1) (λ (ms : List PlainNode) (s2 : Progress). gives (m ∷ ms) s2)))
          (part_stays left values n s settled.0 fresh.0 within.0 new.0 held.0 (room_first s.entered (count_of n) (counts_of ns) from.program.nodes room))
          ∙ ap (λ (r : Step (List PlainNode)). and_then r (λ (ms : List PlainNode) (s2 : Progress). gives (n ∷ ms) s2))
          (parts_stay left values ns (passed n s) settled.1 fresh.1 within.1 new.1 held.1 (room_rest s.entered (count_of n) (counts_of ns) from.program.nodes room))
          ∙ (λ i. gives (n ∷ list_of ns) (record { entered = more i; met = all_met_after ns (met_after n s.met); next = s.next; waiting = s.waiting }))

-- ---- a whole build

-- the root of a tree arrives beside itself
pub arrives_itself : (old : Option PlainNode) (root : PlainWidget) (n : PlainNode) → old ≡ Some n → widget_of n ≡ root → index_of n ≡ 0 → root_arrival old root ≡ itself n
arrives_itself old root n is widget place =
    let stays : beside_root (Some n) root ≡ Some n =
    ap (λ (w : PlainWidget). cond {A = Option PlainNode} (updates w root) (Some n) None) widget ∙ ap (λ (t : Bool). cond {A = Option PlainNode} t (Some n) None) (updates_itself root) in
    let w = sym widget in
    let at = sym place in
    ap (λ (o : Option PlainNode). root_arrival o root) is ∙ (λ i. arrival (w i) (at i) (stays i))

module _ (b : Blueprint) (screen : Screen) (marks : List ℕ) (next : ℕ) (root : PlainWidget) (tree : PlainNode) (h : IsSettledFor b marks root tree) where
  entered : enter (basis b (Some tree)) first depth_limit b.defaults (root_arrival (Some tree) root) (started next) ≡ gives tree (passed tree (started next))
  entered =
      ap (λ (a : Arrival). enter (basis b (Some tree)) first depth_limit b.defaults a (started next)) (arrives_itself (Some tree) root tree refl h.widget h.place)
      ∙ part_stays (basis b (Some tree)) first depth_limit b.defaults tree (started next) h.settled h.fresh h.within h.keys (held_in_tree tree h.keys) (room_at_first (count_of tree) b.nodes h.few)

  pub tree_stays : full_build b screen (Some tree) next root ≡ built tree next
  unfolding full_build both_phases
  tree_stays =
      let from = basis b (Some tree) in
      ap (λ (t : Bool). cond t (failed output_too_large) (built_by (both_phases from (live_ranges screen) (root_arrival (Some tree) root) (started next)))) h.small
      ∙ ap (λ (r : Step PlainNode). built_by (and_then r (λ (m : PlainNode) (s1 : Progress). second_phase from (live_ranges screen) m s1.waiting s1))) entered
