-- The items so far, and what they are.
use Rattle.std.proofs.Common.{◌≡◌, ℕ, suc, ◌+◌, ◌<◌, Bool, true, false, cond, ◌||◌, Option, None, IfSome, List, [], ◌∷◌, ◌++◌, length, map, filter, drop, drop-cons, get_or, sym, ap, ◌∙◌, subst, arith}
use Rattle.std.specs.List.{All}
use Rattle.std.proofs.lemmas.List.{append_assoc, get_or-map, length-map}
use Rattle.widget_model.specs.Look.{Look, sliver_lazy}
use Rattle.fx_expr.specs.declared.values.Value.{Value}
use Rattle.widget_keys.specs.declared.keys.Key.{Key}
use Rattle.widget_model.specs.Plain.{PlainWidget, plain, Widgets, widgets_of}
use Rattle.widget_model.specs.Typed.{Declarations, box, sort_of, sorts_of, AllAre, FitChildren, IsTypedWidget, AreTypedWidgets}
use Rattle.widget_model.specs.View.{shared}
use Rattle.reconcile.specs.Matching.{matching}
use Rattle.sliver_layout.specs.declared.protocol.Window.{Window}
use Rattle.layout_form.specs.SliverRule.{is_among}
use Rattle.plain_tree.specs.PlainNode.{PlainNode, widget_of}
use Rattle.plain_build.specs.declared.partners.Arrival.{Arrival as ArrivalOfWidget}
use Rattle.build_form.specs.BuildRole.{lists, build_role_of}
use Rattle.build_form.specs.Partner.{Arrival, arrival, node_at_any, arrivals_from, arrivals, nodes_had, widgets_had}
use Rattle.plain_build.specs.PartnerView.{plain_arrival}
use Rattle.build_form.specs.FullBuild.{next_waiting, others_waiting, stays, items}
use Rattle.build_form.specs.WellBuilt.{IsWellBuilt, IsTypedArrival, AreWaiting}
use Rattle.build_form.specs.Filling.{AreBoxes}
use Rattle.build_form.proofs.Entered.{all_cons, arrivals_typed}

front : (live : Window) (rs : List ArrivalOfWidget) (i : ℕ) (r : ArrivalOfWidget) → i < length rs → r ≡ get_or rs i r
    → items live (drop i (map plain_arrival rs)) ≡ cond (is_among live (plain_arrival r).place || stays (plain_arrival r)) (plain_arrival r ∷ items live (drop (suc i) (map plain_arrival rs))) (items live (drop (suc i) (map plain_arrival rs)))
front live rs i r low at =
    ap (items live) (drop-cons (map plain_arrival rs) i (plain_arrival r) (rw length-map low)
    ∙ ap (λ a. a ∷ drop (suc i) (map plain_arrival rs)) (get_or-map plain_arrival rs i r (plain_arrival r) low ∙ ap plain_arrival (sym at)))

module _ (live : Window) (rs : List ArrivalOfWidget) (i : ℕ) (r : ArrivalOfWidget) (low : i < length rs) (at : r ≡ get_or rs i r) (done : List Arrival) (whole : List Arrival)
    (so_far : done ++ items live (drop i (map plain_arrival rs)) ≡ whole) where
  pub item_more : (more : List Arrival) → (is_among live (plain_arrival r).place || stays (plain_arrival r)) ≡ true → more ≡ done ++ plain_arrival r ∷ [] → more ++ items live (drop (i + 1) (map plain_arrival rs)) ≡ whole
  item_more more there is =
      let next : suc i ≡ i + 1 = omega arith in
      let rest = items live (drop (suc i) (map plain_arrival rs)) in
      sym (ap (λ k. more ++ items live (drop k (map plain_arrival rs))) next)
      ∙ ap (λ l. l ++ rest) is
      ∙ append_assoc done (plain_arrival r ∷ []) rest
      ∙ sym (ap (λ l. done ++ l) (front live rs i r low at ∙ ap (λ b. cond b (plain_arrival r ∷ rest) rest) there))
      ∙ so_far

  pub item_less : (is_among live (plain_arrival r).place || stays (plain_arrival r)) ≡ false → done ++ items live (drop (i + 1) (map plain_arrival rs)) ≡ whole
  item_less gone =
      let next : suc i ≡ i + 1 = omega arith in
      let rest = items live (drop (suc i) (map plain_arrival rs)) in
      sym (ap (λ k. done ++ items live (drop k (map plain_arrival rs))) next)
      ∙ sym (ap (λ l. done ++ l) (front live rs i r low at ∙ ap (λ b. cond b (plain_arrival r ∷ rest) rest) gone))
      ∙ so_far

all_kept : {A : Type 0} (P : A → Type 0) (test : A → Bool) (b : Bool) (x : A) (xs : List A) → P x → All P xs → All P (cond b (x ∷ xs) xs)
all_kept P test true x xs h t = all_cons P x xs h t
all_kept P test false x xs h t = t

pub all_filtered : {A : Type 0} (P : A → Type 0) (test : A → Bool) (xs : List A) → All P xs → All P (filter test xs)
all_filtered P test [] h = h
all_filtered P test (x ∷ xs) h = all_kept P test (test x) x (filter test xs) (h 0 x (omega arith)) (all_filtered P test xs (λ k d low. h (suc k) d (omega arith)))

-- ---- the children of a lazy list are boxes

lists_look : (look : Look) (extent : ℕ) → build_role_of look ≡ lists extent → look ≡ sliver_lazy extent
lists_look (sliver_lazy e) extent is = cc
lists_look _ extent is = cc

all_boxes : (d : Declarations) (ws : List PlainWidget) → AllAre box (sorts_of d (widgets_of ws)) → All (λ w. sort_of d w ≡ box) ws
all_boxes d [] h = λ k e low. absurd (omega arith)
all_boxes d (w ∷ ws) h = all_cons (λ w. sort_of d w ≡ box) w ws h.0 (all_boxes d ws h.1)

pub lazy_boxes : (d : Declarations) (look : Look) (k : Key Value) (slots : Widgets) (ws : List PlainWidget) (extent : ℕ) → IsTypedWidget d (plain look k slots (widgets_of ws)) → build_role_of look ≡ lists extent
    → All (λ w. sort_of d w ≡ box) ws
lazy_boxes d look k slots ws extent typed is =
    all_boxes d ws (subst (λ l. FitChildren l (sorts_of d (widgets_of ws))) (lists_look look extent is) typed.held)

boxes_from : (d : Declarations) (ns : List PlainNode) (i : ℕ) (ws : List PlainWidget) (ms : List (Option ℕ)) → All (λ w. sort_of d w ≡ box) ws → All (λ (a : Arrival). sort_of d a.widget ≡ box) (arrivals_from ns i ws ms)
boxes_from d ns i [] ms h = λ k e low. absurd (omega arith)
boxes_from d ns i (w ∷ ws) [] h =
    all_cons (λ (a : Arrival). sort_of d a.widget ≡ box) (arrival w i None) (arrivals_from ns (suc i) ws []) (h 0 w (omega arith)) (boxes_from d ns (suc i) ws [] (λ k e low. h (suc k) e (omega arith)))
boxes_from d ns i (w ∷ ws) (m ∷ ms) h =
    all_cons (λ (a : Arrival). sort_of d a.widget ≡ box) (arrival w i (node_at_any ns m)) (arrivals_from ns (suc i) ws ms) (h 0 w (omega arith)) (boxes_from d ns (suc i) ws ms (λ k e low. h (suc k) e (omega arith)))

module _ (d : Declarations) (live : Window) (o : Option PlainNode) (ws : List PlainWidget) where
  pub items_boxes : All (λ w. sort_of d w ≡ box) ws → All (λ (a : Arrival). sort_of d a.widget ≡ box) (items live (arrivals o ws))
  items_boxes h =
      all_filtered (λ (a : Arrival). sort_of d a.widget ≡ box) (λ a. is_among live a.place || stays a) (arrivals o ws) (boxes_from d (nodes_had o) 0 ws (matching (widgets_had o) ws) h)

  pub items_typed : IfSome o (IsWellBuilt d) → AreTypedWidgets d (widgets_of ws) → All (IsTypedArrival d) (items live (arrivals o ws))
  items_typed built typed = all_filtered (IsTypedArrival d) (λ a. is_among live a.place || stays a) (arrivals o ws) (arrivals_typed d o ws built typed)

-- nodes for arrivals that are boxes are boxes
pub nodes_boxes : (d : Declarations) (ns : List PlainNode) (rs : List ArrivalOfWidget) → map widget_of ns ≡ map (λ (a : ArrivalOfWidget). shared a.widget) rs
    → All (λ (a : Arrival). sort_of d a.widget ≡ box) (map plain_arrival rs) → AreBoxes d ns
nodes_boxes d [] rs e h = tt
nodes_boxes d (n ∷ ns) [] e h = cc
nodes_boxes d (n ∷ ns) (r ∷ rs) e h =
    let here : widget_of n ≡ shared r.widget = cc in
    let rest : map widget_of ns ≡ map (λ (a : ArrivalOfWidget). shared a.widget) rs = cc in
    (ap (sort_of d) here ∙ h 0 (plain_arrival r) (omega arith), nodes_boxes d ns rs rest (λ k x low. h (suc k) x (omega arith)))

-- ---- what waits

pub next_built : (d : Declarations) (os : List (Option PlainNode)) → AreWaiting d os → IfSome (next_waiting os) (IsWellBuilt d)
next_built d [] h = tt
next_built d (o ∷ os) h = h 0 o (omega arith)

pub others_built : (d : Declarations) (os : List (Option PlainNode)) → AreWaiting d os → AreWaiting d (others_waiting os)
others_built d [] h = h
others_built d (o ∷ os) h = λ k x low. h (suc k) x (omega arith)
