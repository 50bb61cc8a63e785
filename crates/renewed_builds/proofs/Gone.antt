-- How far several components have been built anew, one after another, before any element takes a widget; and the next one.
use Rattle.std.proofs.Common.{◌≡◌, ℕ, suc, ◌+◌, ◌==◌, Bool, true, false, is_some, Option, Some, None, option_map, List, [], ◌∷◌, ◌++◌, map, take, drop, refl, sym, ap, ◌∙◌, subst, arith}
use Rattle.std.specs.Prelude.{slice_get}
use Rattle.std.specs.List.{All, find}
use Rattle.std.proofs.lemmas.List.{append-nil}
use Rattle.std.proofs.lemmas.List.Elements.{All-nil, All-weaker}
use Rattle.fx_handles.specs.declared.Handle.{Handle}
use Rattle.fx_handles.specs.Handle.{AreDistinct}
use Rattle.node_tree.specs.Forest.{TreeNode, Forest, In, below, map_values, tree_of}
use Rattle.node_tree.specs.Tree.{Tree, Is, IsNode, node_at, subtree_at, StandsAt}
use Rattle.node_tree.proofs.ForestLemmas.{node_in as stored_node}
use Rattle.widget_model.specs.Plain.{PlainWidget, look_of}
use Rattle.widget_model.specs.WidgetType.{type_of}
use Rattle.program_check.specs.Checked.{PlainChecked}
use Rattle.program_check.specs.TypedChecked.{IsTypedChecked}
use Rattle.plain_tree.specs.At.{numbers_of, numbers_in}
use Rattle.plain_tree.specs.At.{node_at as plain_node_at}
use Rattle.plain_tree.specs.PlainNode.{PlainNode, widget_of, nodes_of as listed}
use Rattle.build_form.specs.Entering.{Blueprint, depth_limit}
use Rattle.build_form.specs.FullBuild.{Screen, failed, full_build}
use Rattle.build_form.specs.Program.{blueprint_of}
use Rattle.build_form.specs.Step.{Fault, Progress, stops}
use Rattle.element_tree.specs.Element.{Element, element_at, number_at, made_count}
use Rattle.element_tree.specs.Nodes.{IsLike, nodes_of}
use Rattle.work_sets.specs.Due.{names_read}
use Rattle.work_sets.specs.Entered.{entered_widgets}
use Rattle.work_sets.specs.Members.{is_same_widget}
use Rattle.build_walk.specs.Past.{is_marked}
use Rattle.build_walk.specs.Standing.{ElementsStandFor, all_builds, pasts_from}
use Rattle.build_walk.specs.Telling.{TellPasts}
use Rattle.settled_builds.specs.Looks.{NewLook}
use Rattle.settled_builds.specs.Moved.{StandsAlike, AreSpotsAlike}
use Rattle.settled_builds.specs.Places.{NodePlace, spot_at}
use Rattle.settled_builds.specs.Rearranged.{NewOrder, looks_in, orders_in, drawn_in, IsRearrangedFrom}
use Rattle.settled_builds.specs.Retaken.{retaken}
use Rattle.settled_builds.specs.Settled.{IsReadyTree}
use Rattle.settled_builds.specs.Steps.{Leads, IsFirstMarked, IsGivenAt, CanTakeAnew, without}
use Rattle.build_owner.specs.Standing.{next_at}
use Rattle.build_owner.proofs.Elements.{live_stored}
use Rattle.renewed_builds.specs.Renewing.{Change, changes_of, stored_at}
use Rattle.renewed_builds.specs.Taking.{after_changes}
use Rattle.renewed_builds.specs.Stale.{IsComponentAt, given_at}
use Rattle.renewed_builds.specs.Several.{Given, CanTake, KeepsElements, all_changes, all_looks, all_orders, all_stored, can_take_still, flagged_in, IsStaleTree, AreLeft}
use Rattle.renewed_builds.specs.Going.{KeepsNodes, IsStepped}
use Rattle.renewed_builds.proofs.Alongside.{SpotBefore, spots_itself, spot_before, alike_widget, body_alike, found_passes}
use Rattle.renewed_builds.proofs.Anew.{named, is_spot}
use Rattle.renewed_builds.proofs.Becoming.{IsTaking, to_other}
use Rattle.renewed_builds.proofs.Counting.{builds_alike}
use Rattle.renewed_builds.proofs.Flagged.{first_inside, first_flagged}
use Rattle.renewed_builds.proofs.Mapped.{map_itself, tree_of-map, below-map, all_giving, all_giving_like, all_giving_render, all_stored_maps, stored_more, nodes_then, nodes_map, numbers_map, number_after, still_map, changes_map}
use Rattle.renewed_builds.proofs.Spotted.{IsSpotOf}
use Rattle.renewed_builds.proofs.Stored.{stores_at}

-- so many of the flagged ones were built, and these changes were gathered of them: a tree is known to which so many steps lead, and for which
-- the elements would stand once they took them
pub record HasGone (c : PlainChecked) (t u : Tree Element) (hs : List Handle) (x : IsStaleTree c t hs) (done : ℕ) (changed : List Change) : Type 0 where
  pub left : List ℕ
  pub now : PlainNode
  pub begun : done ≡ 0 → now ≡ x.tree
  pub typed : (done ≡ 0 → ⊥) → IsTypedChecked c
  pub stands : ElementsStandFor c left (Some x.tree) x.scrolled u
  pub leads : Leads (blueprint_of c) (next_at t) x.root x.tree x.marks now left done
  pub ready : IsReadyTree (blueprint_of c) left (next_at t) x.root now
  pub entered : (screen : Screen) → entered_widgets (blueprint_of c) screen (Some x.tree) (next_at t) x.root ≡ entered_widgets (blueprint_of c) screen (Some now) (next_at t) x.root
  pub spots : (k : ℕ) → is_marked left k ≡ true → AreSpotsAlike (spot_at k depth_limit (blueprint_of c).defaults 0 0 x.tree) (spot_at k depth_limit (blueprint_of c).defaults 0 0 now)
  pub given : List Given
  pub of : map (λ (g : Given). g.at) given ≡ take done hs
  pub can : All (CanTake t) given
  pub changes : changed ≡ all_changes t given
  pub forest : stands.forest ≡ all_stored given x.stands.forest
  pub rearranged : IsRearrangedFrom (blueprint_of c) left (all_looks x.scrolled t given) (all_orders x.scrolled t given) x.tree now
  pub nodes : now ∷ [] ≡ nodes_of x.scrolled (map_values (after_changes changed) stands.forest)
  pub flagged : flagged_in stands.forest ≡ drop done hs
  pub differ : AreDistinct (map (λ (k : Change). k.element) changed)
  pub takes : All (IsTaking t) changed
  pub keeps : KeepsNodes t u
  pub numbers : (k : Handle) → number_at u k ≡ number_at t k
  pub made : made_count u ≡ made_count t

from_none : (n : ℕ) → n ≡ 0 + n
from_none n = omega arith

-- none so far
pub begins : (c : PlainChecked) (t : Tree Element) (hs : List Handle) (x : IsStaleTree c t hs) (cs : List Change) → cs ≡ [] → IsRearrangedFrom (blueprint_of c) x.marks [] [] x.tree x.tree → HasGone c t t hs x 0 cs
begins c t hs x [] none begun = record {
  left = x.marks;
  now = x.tree;
  begun = λ is. refl;
  typed = λ some. absurd (some refl);
  stands = x.stands;
  leads = record { full = λ screen. refl; count = λ screen. from_none (all_builds (blueprint_of c) screen (Some x.tree) x.marks (next_at t) x.root) };
  ready = x.ready;
  entered = λ screen. refl;
  spots = λ k marked. spots_itself (spot_at k depth_limit (blueprint_of c).defaults 0 0 x.tree);
  given = [];
  of = refl;
  can = All-nil (CanTake t);
  changes = refl;
  forest = refl;
  rearranged = begun;
  nodes = x.stands.nodes ∙ sym (ap (nodes_of x.scrolled) (map_itself x.stands.forest));
  flagged = x.flagged;
  differ = λ k. omega arith;
  takes = All-nil (IsTaking t);
  keeps = λ k v at. (v, at, record { number = refl; widget = refl; fields = refl; index = refl }, refl);
  numbers = λ k. refl;
  made = refl;
}
begins c t hs x (k ∷ cs) none begun = cc

-- what is known of a body that stops a build
abbrev pub StopsLaw : Type 0
StopsLaw = (b : Blueprint) (screen : Screen) (marks : List ℕ) (wanted next : ℕ) (root : PlainWidget) (tree : PlainNode) (p : NodePlace) (f : Fault)
    → IsReadyTree b marks next root tree → IsFirstMarked b marks wanted tree p → ((s : Progress) → given_at b p s ≡ stops f) → full_build b screen (Some tree) next root ≡ failed f

abbrev pub OneLaw : Type 0
OneLaw = (b : Blueprint) (screen : Screen) (marks : List ℕ) (wanted next : ℕ) (root : PlainWidget) (tree : PlainNode) (p : NodePlace) (f : Fault)
    → IsReadyTree b marks next root tree → IsFirstMarked b marks wanted tree p → ((s : Progress) → given_at b p s ≡ stops f) → all_builds b screen (Some tree) marks next root ≡ 1

-- what is known of steps
pub record Laws : Type 0 where
  pub spot : (b : Blueprint) (marks : List ℕ) (wanted next : ℕ) (root : PlainWidget) (tree : PlainNode) → IsReadyTree b marks next root tree → find (is_marked marks) (numbers_of tree) ≡ Some wanted → (p : NodePlace) × IsFirstMarked b marks wanted tree p
  pub node : (b : Blueprint) (marks : List ℕ) (wanted : ℕ) (tree : PlainNode) (p : NodePlace) → IsFirstMarked b marks wanted tree p → plain_node_at wanted tree ≡ Some p.node
  pub component : (b : Blueprint) (marks : List ℕ) (wanted next : ℕ) (root : PlainWidget) (tree : PlainNode) (p : NodePlace) → IsReadyTree b marks next root tree → IsFirstMarked b marks wanted tree p
      → is_some (names_read (look_of (widget_of p.node))) ≡ true
  pub left : (b : Blueprint) (marks : List ℕ) (wanted next : ℕ) (root : PlainWidget) (tree : PlainNode) (p : NodePlace) → IsReadyTree b marks next root tree → IsFirstMarked b marks wanted tree p → Leads b next root tree marks tree (without wanted marks) 1
  pub entered : (b : Blueprint) (screen : Screen) (marks : List ℕ) (wanted next : ℕ) (root : PlainWidget) (tree : PlainNode) (p : NodePlace) (ws : List PlainWidget) → IsReadyTree b marks next root tree → IsFirstMarked b marks wanted tree p → CanTakeAnew b ws p
      → entered_widgets b screen (Some tree) next root ≡ entered_widgets b screen (Some (retaken ws wanted tree)) next root
  pub ready : (b : Blueprint) (marks : List ℕ) (wanted next : ℕ) (root : PlainWidget) (tree : PlainNode) (p : NodePlace) (ws : List PlainWidget) → IsReadyTree b marks next root tree → IsFirstMarked b marks wanted tree p → CanTakeAnew b ws p
      → IsReadyTree b (without wanted marks) next root (retaken ws wanted tree)
  pub leads : (b : Blueprint) (marks : List ℕ) (wanted next : ℕ) (root : PlainWidget) (tree : PlainNode) (p : NodePlace) (ws : List PlainWidget) → IsReadyTree b marks next root tree → IsFirstMarked b marks wanted tree p → CanTakeAnew b ws p
      → Leads b next root tree marks (retaken ws wanted tree) (without wanted marks) 1
  pub follow : (b : Blueprint) (next : ℕ) (root : PlainWidget) (tree new last : PlainNode) (marks left rest : List ℕ) (builds more : ℕ) → Leads b next root tree marks new left builds → Leads b next root new left last rest more
      → Leads b next root tree marks last rest (builds + more)
  pub spots : (b : Blueprint) (marks : List ℕ) (wanted next : ℕ) (root : PlainWidget) (tree : PlainNode) (p : NodePlace) (ws : List PlainWidget) (k : ℕ) → IsReadyTree b marks next root tree → IsFirstMarked b marks wanted tree p → CanTakeAnew b ws p
      → is_marked (without wanted marks) k ≡ true → AreSpotsAlike (spot_at k depth_limit b.defaults 0 0 tree) (spot_at k depth_limit b.defaults 0 0 (retaken ws wanted tree))
  pub rearranged : (b : Blueprint) (marks : List ℕ) (wanted next : ℕ) (root : PlainWidget) (old tree : PlainNode) (p : NodePlace) (ws : List PlainWidget) (looks : List NewLook) (orders : List NewOrder)
      → IsRearrangedFrom b marks looks orders old tree → IsReadyTree b marks next root tree → IsFirstMarked b marks wanted tree p → CanTakeAnew b ws p → drawn_in ws p.node ≡ true
      → IsRearrangedFrom b (without wanted marks) (looks ++ looks_in ws p.node) (orders ++ orders_in ws p.node) old (retaken ws wanted tree)
  pub same : (v w : PlainWidget) → is_same_widget v w ≡ true → v ≡ w
  pub itself : (v : PlainWidget) → is_same_widget v v ≡ true

abbrev value_of : Option (TreeNode Element) → Option Element
value_of o = option_map (λ (n : TreeNode Element). n.value) o

-- ---- the next one

-- the next one of those that are left
pub record Ahead : Type 0 where
  pub c : PlainChecked
  pub t : Tree Element
  pub u : Tree Element
  pub hs : List Handle
  pub x : IsStaleTree c t hs
  pub done : ℕ
  pub cs : List Change
  pub gone : HasGone c t u hs x done cs
  pub laws : Laws
  pub h : Handle
  pub rest : List Handle
  pub next_is : drop done hs ≡ h ∷ rest

module _ (a : Ahead) where
  abbrev x : IsStaleTree a.c a.t a.hs
  x = a.x

  abbrev g : HasGone a.c a.t a.u a.hs a.x a.done a.cs
  g = a.gone

  abbrev pub b : Blueprint
  b = blueprint_of a.c

  abbrev pub forest : Forest Element
  forest = g.stands.forest

  pub flagged : flagged_in forest ≡ a.h ∷ a.rest
  flagged = g.flagged ∙ a.next_is

  pub held : (n : TreeNode Element) × (node_at a.u a.h ≡ Some n)
  held = stored_node (node_at a.u) None forest a.h g.stands.is.stands (first_inside a.h a.rest forest flagged)

  abbrev pub element : Element
  element = held.0.value

  pub at : element_at a.u a.h ≡ Some element
  at = ap value_of held.1

  abbrev pub number : ℕ
  number = element.number

  pub number_there : number_at a.u a.h ≡ Some number
  number_there = ap (option_map (λ (e : Element). e.number)) at

  pub first : find (is_marked g.left) (numbers_of g.now) ≡ Some number
  first =
      ap (find (is_marked g.left))
      (sym (append-nil (numbers_of g.now)) ∙ ap (λ (ns : List PlainNode). numbers_in (listed ns)) g.nodes ∙ numbers_map x.scrolled (after_changes a.cs) forest (number_after a.cs))
      ∙ first_flagged a.u g.left x.scrolled None forest a.h a.rest g.stands.is.stands g.stands.flags flagged
      ∙ number_there

  pub spot : (p : NodePlace) × IsFirstMarked b g.left number g.now p
  spot = a.laws.spot b g.left number (next_at a.t) x.root g.now g.ready first

  abbrev pub later : NodePlace
  later = spot.0

  pub before : SpotBefore (spot_at number depth_limit b.defaults 0 0 x.tree) later
  before =
      spot_before (spot_at number depth_limit b.defaults 0 0 x.tree) later
      (subst (λ (o : Option NodePlace). AreSpotsAlike (spot_at number depth_limit b.defaults 0 0 x.tree) o) spot.1.at (g.spots number (found_passes (is_marked g.left) (numbers_of g.now) number first)))

  abbrev pub place : NodePlace
  place = before.place

  pub reads : (names : List ℕ) × (names_read (look_of (widget_of place.node)) ≡ Some names)
  reads =
      named (names_read (look_of (widget_of place.node)))
      (ap (λ (w : PlainWidget). is_some (names_read (look_of w))) (sym (alike_widget place later before.alike)) ∙ a.laws.component b g.left number (next_at a.t) x.root g.now later g.ready spot.1)

  -- it is a component
  abbrev pub component : IsComponentAt a.c a.u a.h
  component = record {
    marks = g.left;
    tree = x.tree;
    scrolled = x.scrolled;
    stands = g.stands;
    element = element;
    at = at;
    place = place;
    spot = before.is;
    names = reads.0;
    component = reads.1;
  }

  -- where its body stops a build, so does the build end
  module _ (f : Fault) (stopped : (s : Progress) → given_at b place s ≡ stops f) where
    body_stops : (s : Progress) → given_at b later s ≡ stops f
    body_stops s = body_alike place later before.alike b s ∙ stopped s

    pub stops_whole : StopsLaw → (screen : Screen) → full_build b screen (Some x.tree) (next_at a.t) x.root ≡ failed f
    stops_whole law screen = g.leads.full screen ∙ law b screen g.left number (next_at a.t) x.root g.now later f g.ready spot.1 body_stops

    pub stops_builds : OneLaw → (screen : Screen) → all_builds b screen (Some x.tree) x.marks (next_at a.t) x.root ≡ a.done + 1
    stops_builds law screen = g.leads.count screen ∙ ap (λ (n : ℕ). a.done + n) (law b screen g.left number (next_at a.t) x.root g.now later f g.ready spot.1 body_stops)

-- ---- once it was built

-- what became of it
pub record Built : Type 0 where
  pub a : Ahead
  pub v : Tree Element
  pub can : Bool
  pub more : List Change
  pub st : IsStepped a.c a.u v a.h (component a) a.cs more can
  pub found : (k : Handle) (s : Forest Element) → StandsAt a.u k s → subtree_at a.u k ≡ s
  pub once : (n : ℕ) (i j : Handle) → number_at a.u i ≡ Some n → number_at a.u j ≡ Some n → i ≡ j
  pub tells : TellPasts (pasts_from a.c a.gone.stands.forest) (blueprint_of a.c).defaults a.gone.stands.forest
  pub root : v.root ≡ a.u.root
  pub made : made_count v ≡ made_count a.u
  pub keeps : KeepsNodes a.u v
  pub numbers : (k : Handle) → number_at v k ≡ number_at a.u k
  pub part : (w : Tree Element) (f : Forest Element) → Is w f → IsNode w a.h → subtree_at w a.h ≡ tree_of a.h f

module _ (s : Built) where
  abbrev c : PlainChecked
  c = s.a.c

  abbrev t : Tree Element
  t = s.a.t

  abbrev u : Tree Element
  u = s.a.u

  abbrev v : Tree Element
  v = s.v

  abbrev h : Handle
  h = s.a.h

  abbrev y : IsStaleTree s.a.c s.a.t s.a.hs
  y = s.a.x

  abbrev k : HasGone s.a.c s.a.t s.a.u s.a.hs s.a.x s.a.done s.a.cs
  k = s.a.gone

  abbrev pub it : IsComponentAt c u h
  it = component s.a

  abbrev pub e : Element
  e = it.element

  abbrev pub ws : List PlainWidget
  ws = s.st.widget ∷ []

  abbrev pub one : Given
  one = record { at = h; widgets = ws }

  abbrev pub gs : List Given
  gs = k.given ++ one ∷ []

  pub spot_u : IsSpotOf u y.scrolled (pasts_from c k.stands.forest) h e it.place
  spot_u = is_spot c u h it s.found s.once s.tells

  abbrev pub left_now : List ℕ
  left_now = without e.number k.left

  abbrev pub stands_now : ElementsStandFor c left_now (Some y.tree) y.scrolled v
  stands_now = stores_at c u v h it spot_u ws s.st.given refl s.once s.tells (s.st.stored k.stands.forest k.stands.is) s.root s.made

  pub forest_now : stands_now.forest ≡ all_stored gs y.stands.forest
  forest_now = ap (stored_at h ws) k.forest ∙ sym (stored_more k.given one y.stands.forest)

  pub was : (z : Element) × (element_at t h ≡ Some z) × IsLike z e × (e.render ≡ z.render)
  was = k.keeps h e it.at

  pub live_u : IsNode u h
  live_u = live_stored u h e it.at

  pub live_t : IsNode t h
  live_t = live_stored t h was.0 was.1

  some_number : (o : Option Element) (n : ℕ) → option_map (λ (z : Element). z.number) o ≡ Some n → (z : Element) × (o ≡ Some z)
  some_number None n is = cc
  some_number (Some z) n is = (z, refl)

  pub there_v : (z : Element) × (element_at v h ≡ Some z)
  there_v = some_number (element_at v h) e.number (s.numbers h ∙ ap (option_map (λ (z : Element). z.number)) it.at)

  pub live_v : IsNode v h
  live_v = live_stored v h there_v.0 there_v.1

  abbrev pub low : Forest Element
  low = below (subtree_at t h)

  low_by : (w : Tree Element) (xs : List Given) → Is w (all_stored xs y.stands.forest) → IsNode w h → below (subtree_at w h) ≡ map_values (all_giving xs) low
  low_by w xs is live =
      ap below (s.part w (all_stored xs y.stands.forest) is live ∙ ap (tree_of h) (all_stored_maps xs y.stands.forest) ∙ tree_of-map (all_giving xs) h y.stands.forest)
      ∙ below-map (all_giving xs) (tree_of h y.stands.forest)
      ∙ ap (λ (s : Forest Element). map_values (all_giving xs) (below s)) (sym (s.part t y.stands.forest y.stands.is live_t))

  pub low_u : below (subtree_at u h) ≡ map_values (all_giving k.given) low
  low_u = low_by u k.given (subst (Is u) k.forest k.stands.is) live_u

  pub low_v : below (subtree_at v h) ≡ map_values (all_giving gs) low
  low_v = low_by v gs (subst (Is v) forest_now stands_now.is) live_v

  pub nodes_u : nodes_of y.scrolled (below (subtree_at u h)) ≡ nodes_of y.scrolled low
  nodes_u = ap (nodes_of y.scrolled) low_u ∙ nodes_map y.scrolled (all_giving k.given) low (all_giving_like k.given)

  pub nodes_v : nodes_of y.scrolled (below (subtree_at v h)) ≡ nodes_of y.scrolled low
  nodes_v = ap (nodes_of y.scrolled) low_v ∙ nodes_map y.scrolled (all_giving gs) low (all_giving_like gs)

  pub still_is : s.can ≡ can_take_still low ws
  still_is = s.st.can_is ∙ ap (λ (f : Forest Element). can_take_still f ws) low_v ∙ still_map (all_giving gs) (λ j z. (all_giving_like gs j z).widget) (all_giving_render gs) low ws

  pub changes_is : changes_of (below (subtree_at v h)) ws ≡ changes_of low ws
  changes_is = ap (λ (f : Forest Element). changes_of f ws) low_v ∙ changes_map (all_giving gs) (λ j z. (all_giving_like gs j z).widget) (all_giving_render gs) low ws

  -- where it isn't taken, the rest is left
  one_more : (n m : ℕ) → s.a.done + (1 + n) ≡ (s.a.done + 1) + n
  one_more n m = omega arith

  all_u : All (IsTaking u) s.a.cs
  all_u = All-weaker (IsTaking t) (IsTaking u) (to_other t u k.keeps) s.a.cs k.takes

  pub counted : (screen : Screen) → all_builds (blueprint_of c) screen (Some y.tree) y.marks (next_at t) y.root ≡ (s.a.done + 1) + all_builds (blueprint_of c) screen (Some y.tree) left_now (next_at t) y.root
  counted screen =
      k.leads.count screen
      ∙ ap (λ (n : ℕ). s.a.done + n)
      ((s.a.laws.left (blueprint_of c) k.left e.number (next_at t) y.root k.now (later s.a) k.ready (spot s.a).1).count screen
      ∙ ap (λ (n : ℕ). 1 + n) (sym (builds_alike s.a.laws.same y.scrolled u s.a.cs all_u k.stands.forest k.stands.is.stands (blueprint_of c) y.tree k.now k.stands.nodes k.nodes screen (next_at t) y.root (k.entered screen) left_now)))
      ∙ one_more (all_builds (blueprint_of c) screen (Some y.tree) left_now (next_at t) y.root) 0

  pub keeps_all : KeepsElements t v
  keeps_all = λ j z is.
      let q = nodes_then t u v k.keeps s.keeps j z is in
      (q.0, q.1, q.3, q.2.number, ap (λ (w : PlainWidget). type_of (look_of w)) (sym q.2.widget))

  pub left_so : slice_get s.a.hs s.a.done ≡ Some h → s.can ≡ false → AreLeft c t v s.a.hs y (s.a.done + 1)
  left_so nth refused = record {
    left = left_now;
    stands = stands_now;
    keeps = keeps_all;
    count = counted;
    before = s.a.done;
    built_is = refl;
    at = h;
    nth = nth;
    element = was.0;
    there = was.1;
    place = it.place;
    spot = ap (λ (n : ℕ). spot_at n depth_limit (blueprint_of c).defaults 0 0 y.tree) (sym was.2.number) ∙ it.spot;
    given = ws;
    is = s.st.given;
    cannot = sym still_is ∙ refused;
  }
