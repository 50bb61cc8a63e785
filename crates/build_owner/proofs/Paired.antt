-- Elements that stand at the places of as many widgets, to which theirs can update, are what the widgets are matched to.
use Rattle.std.proofs.Common.{◌≡◌, ◌≢◌, Bool, true, false, ℕ, zero, suc, ◌+◌, ◌<◌, ◌≤◌, cond, eqb, Option, Some, None, IfSome, option_map, List, [], ◌∷◌, ◌++◌, length, map, drop, drop-cons, get_or, slice_get, refl, sym, ap, ◌∙◌, subst, arith, append_assoc}
use Rattle.std.specs.List.{All}
use Rattle.std.specs.declared.rc.Rc.{Rc}
use Rattle.std.specs.declared.alloc.Global.{Global}
use Rattle.std.proofs.lemmas.Bool.{eq-eqb, ne_eqb, eqb-true, eqb-false}
use Rattle.std.proofs.lemmas.List.{get_or-map, length-map}
use Rattle.std.proofs.lemmas.List.Elements.{All-nil, All-cons, All-head, All-tail}
use Rattle.std.proofs.lemmas.Option.{slice_get_within, slice_get-get_or}
use Rattle.fx_handles.specs.declared.Handle.{Handle}
use Rattle.fx_handles.specs.Handle.{Among}
use Rattle.fx_handles.specs.HandleLaws.{times-cons, times_here}
use Rattle.node_tree.specs.Forest.{Forest, below}
use Rattle.node_tree.specs.Forest.Forest.{none, tree}
use Rattle.node_tree.specs.Tree.{Tree, subtree_at}
use Rattle.widget_model.specs.declared.widgets.Widget.{Widget}
use Rattle.widget_model.specs.Plain.{PlainWidget, look_of}
use Rattle.widget_model.specs.Plain.{children_of as child_widgets}
use Rattle.widget_model.specs.UpdateLaws.{updates_mean}
use Rattle.widget_model.specs.View.{shared}
use Rattle.reconcile.specs.Laws.{CanUpdateAt}
use Rattle.reconcile.specs.Matching.{matching, prefix_len}
use Rattle.reconcile.proofs.LawLemmas.{front_kept, front_greatest, length-matching}
use Rattle.plain_tree.specs.PlainNode.{PlainNode, widget_of, index_of, list_of}
use Rattle.plain_tree.specs.PlainNode.{nodes_of as listed}
use Rattle.build_form.specs.BuildRole.{build_role_of, is_lazy}
use Rattle.build_form.specs.Numbered.{StandAt}
use Rattle.build_form.specs.Partner.{Arrival, arrival, arrivals_from, widgets_below, widgets_had, node_at, node_at_any}
use Rattle.element_tree.specs.Element.{Element, element_at}
use Rattle.element_tree.specs.Nodes.{nodes_of}
use Rattle.build_walk.specs.Kept.{node_over, plain_at, plain_at_any}
use Rattle.build_owner.specs.declared.arriving.Arrival.{Arrival as ArrivalOfWidget}
use Rattle.build_owner.specs.ArrivalView.{widget_at, place_at, arrives_in, ComingWidget, coming, coming_from, IsPair, ArePaired}

heads : {A : Type 0} {x y : A} {xs ys : List A} → x ∷ xs ≡ y ∷ ys → x ≡ y
heads e = cc

tails : {A : Type 0} {x y : A} {xs ys : List A} → x ∷ xs ≡ y ∷ ys → xs ≡ ys
tails e = cc

some_is : {A : Type 0} {x y : A} → Some x ≡ Some y → x ≡ y
some_is e = cc

some_at : {A : Type 0} (xs : List A) (i : ℕ) → i < length xs → (x : A) × (slice_get xs i ≡ Some x)
some_at [] i low = absurd (omega arith)
some_at (x ∷ xs) zero low = (x, refl)
some_at (x ∷ xs) (suc i) low = some_at xs i (omega arith)

among_there : (hs : List Handle) (i : ℕ) (h : Handle) → slice_get hs i ≡ Some h → Among h hs
among_there [] i h is = cc
among_there (k ∷ hs) zero h is = subst (λ x. Among x (k ∷ hs)) (some_is is) (omega (arith, times_here k hs))
among_there (k ∷ hs) (suc i) h is = omega (arith, times-cons h k hs, among_there hs i h is)

-- ---- the whole list of child widgets doesn't tell how far anything is scrolled

same_widgets : (s z : ℕ → ℕ) (f : Forest Element) → map widget_of (list_of (listed (nodes_of s f))) ≡ map widget_of (list_of (listed (nodes_of z f)))
same_widgets s z none = refl
same_widgets s z (tree h e kids rest) = ap (λ l. e.widget ∷ l) (same_widgets s z rest)

had_over : (s z : ℕ → ℕ) (e : Element) (kids : Forest Element) → widgets_below (node_over s e kids) ≡ widgets_below (node_over z e kids)
had_over s z e kids = ap (λ l. cond (is_lazy (build_role_of (look_of e.widget))) (child_widgets e.widget) l) (same_widgets s z kids)

pub had_same : (s z : ℕ → ℕ) (t : Tree Element) (o : Option Handle) → ((scrolled : ℕ → ℕ) → IfSome o (λ h. (e : Element) × (plain_at scrolled t h ≡ Some (node_over scrolled e (below (subtree_at t h))))
    × (element_at t h ≡ Some e))) → widgets_had (plain_at_any s t o) ≡ widgets_had (plain_at_any z t o)
had_same s z t None known = refl
had_same s z t (Some h) known =
    let a = known s in
    let b = known z in
    let same : a.0 ≡ b.0 = some_is (sym a.2 ∙ b.2) in
    ap widgets_had a.1 ∙ ap (λ e. widgets_below (node_over s e (below (subtree_at t h)))) same ∙ had_over s z b.0 (below (subtree_at t h)) ∙ sym (ap widgets_had b.1)

-- ---- nodes that stand at the places of a list, one after another

node_there : (q : ℕ) (ns : List PlainNode) (i : ℕ) (n : PlainNode) → ((j : ℕ) (m : PlainNode) → slice_get ns j ≡ Some m → index_of m ≡ q + j) → slice_get ns i ≡ Some n → node_at ns (q + i) ≡ Some n
node_there q [] i n places is = cc
node_there q (m ∷ ns) zero n places is =
    let here : index_of m ≡ q + 0 = places 0 m refl in
    ap (λ b. cond b (Some m) (node_at ns (q + 0))) (eq-eqb (index_of m) (q + 0) here) ∙ is
node_there q (m ∷ ns) (suc i) n places is =
    let here : index_of m ≡ q + 0 = places 0 m refl in
    let next : q + suc i ≡ suc q + i = omega arith in
    ap (λ b. cond b (Some m) (node_at ns (q + suc i))) (ne_eqb (index_of m) (q + suc i) (λ e. absurd (omega (arith, here, e))))
    ∙ ap (node_at ns) next
    ∙ node_there (suc q) ns i n (λ j x at. let at_x : index_of x ≡ q + suc j = places (suc j) x at in omega (arith, at_x)) is

stands_there : (olds : List PlainWidget) (ns : List PlainNode) (i : ℕ) (n : PlainNode) → StandAt olds ns → slice_get ns i ≡ Some n → slice_get olds (index_of n) ≡ Some (widget_of n)
stands_there olds [] i n stands is = cc
stands_there olds (m ∷ ns) zero n stands is = subst (λ x. slice_get olds (index_of x) ≡ Some (widget_of x)) (some_is is) stands.0
stands_there olds (m ∷ ns) (suc i) n stands is = stands_there olds ns i n stands.1 is

-- ---- the plain nodes at handles, place by place

module _ (F : Handle → Option PlainNode) where
  plain_there : (hs : List Handle) (ns : List PlainNode) → map F hs ≡ map Some ns → (i : ℕ) (h : Handle) → slice_get hs i ≡ Some h → (n : PlainNode) × (slice_get ns i ≡ Some n) × (F h ≡ Some n)
  plain_there [] ns known i h is = cc
  plain_there (k ∷ hs) [] known i h is = cc
  plain_there (k ∷ hs) (n ∷ ns) known zero h is = (n, refl, ap F (sym (some_is is)) ∙ heads known)
  plain_there (k ∷ hs) (n ∷ ns) known (suc i) h is = plain_there hs ns (tails known) i h is

  handle_there : (hs : List Handle) (ns : List PlainNode) → map F hs ≡ map Some ns → (i : ℕ) (n : PlainNode) → slice_get ns i ≡ Some n → (h : Handle) × (slice_get hs i ≡ Some h) × (F h ≡ Some n)
  handle_there hs [] known i n is = cc
  handle_there [] (m ∷ ns) known i n is = cc
  handle_there (k ∷ hs) (m ∷ ns) known zero n is = (k, refl, heads known ∙ is)
  handle_there (k ∷ hs) (m ∷ ns) known (suc i) n is = handle_there hs ns (tails known) i n is

-- ---- pairs are what is matched

module _ (t : Tree Element) (scrolled : ℕ → ℕ) (hs : List Handle) (ns : List PlainNode) (news : List PlainWidget) (known : map (plain_at scrolled t) hs ≡ map Some ns) (paired : ArePaired t hs news)
    (places : (h : Handle) → Among h hs → option_map index_of (plain_at scrolled t h) ≡ place_at t h) where
  in_place : (j : ℕ) (m : PlainNode) → slice_get ns j ≡ Some m → index_of m ≡ j
  in_place j m is =
      let k = handle_there (plain_at scrolled t) hs ns known j m is in
      let low = slice_get_within hs j k.0 k.1 in
      let w = some_at news j (omega (arith, low, paired.0)) in
      some_is (sym (ap (option_map index_of) k.2) ∙ places k.0 (among_there hs j k.0 k.1) ∙ (paired.1 j k.0 w.0 k.1 w.1).0)

  pub found : (j : ℕ) (h : Handle) → slice_get hs j ≡ Some h → node_at ns j ≡ plain_at scrolled t h
  found j h is =
      let n = plain_there (plain_at scrolled t) hs ns known j h is in
      let zeroth : j ≡ 0 + j = omega arith in
      ap (node_at ns) zeroth ∙ node_there 0 ns j n.0 (λ i m at. let at_m = in_place i m at in omega (arith, at_m)) n.1 ∙ sym n.2

  module _ (olds : List PlainWidget) (widgets : (h : Handle) → Among h hs → option_map widget_of (plain_at scrolled t h) ≡ widget_at t h) (stands : StandAt olds ns) where
    can : (j : ℕ) → j < length news → CanUpdateAt olds news j j
    can j low =
        let k = some_at hs j (omega (arith, low, paired.0)) in
        let w = some_at news j low in
        let n = plain_there (plain_at scrolled t) hs ns known j k.0 k.1 in
        let pair = paired.1 j k.0 w.0 k.1 w.1 in
        let old = pair.1.0 in
        let same : widget_of n.0 ≡ old = some_is (sym (ap (option_map widget_of) n.2) ∙ widgets k.0 (among_there hs j k.0 k.1) ∙ pair.1.1) in
        let at : slice_get olds j ≡ Some old = ap (slice_get olds) (sym (in_place j n.0 n.1)) ∙ stands_there olds ns j n.0 stands n.1 ∙ ap Some same in
        (old, w.0, at, w.1, (updates_mean old w.0).1 pair.1.2)

    pub matched : (j : ℕ) → j < length news → slice_get (matching olds news) j ≡ Some (Some j)
    matched j low =
        let most : length news ≤ prefix_len olds news = (front_greatest olds news).1 (length news) can in
        front_kept olds news j (omega (arith, low, most))

-- ---- widgets that come to places, with what stands there

module _ (G : Option Handle → Option PlainNode) (all : List PlainNode) where
  abbrev in_nodes : ComingWidget → Arrival
  in_nodes c = arrival c.widget c.place (G c.beside)

  arrive_all : (p : ℕ) (hs : List Handle) (ws : List PlainWidget) (ms : List (Option ℕ)) → length hs ≡ length ws → length ms ≡ length ws
      → ((i : ℕ) → i < length ws → slice_get ms i ≡ Some (Some (p + i))) → ((i : ℕ) (h : Handle) → slice_get hs i ≡ Some h → node_at all (p + i) ≡ G (Some h))
      → map in_nodes (coming_from p hs ws) ≡ arrivals_from all p ws ms
  arrive_all p [] [] ms lh lm places there = refl
  arrive_all p [] (w ∷ ws) ms lh lm places there = cc
  arrive_all p (h ∷ hs) [] ms lh lm places there = cc
  arrive_all p (h ∷ hs) (w ∷ ws) [] lh lm places there = cc
  arrive_all p (h ∷ hs) (w ∷ ws) (m ∷ ms) lh lm places there =
      let is_m : m ≡ Some (p + 0) = some_is (places 0 (omega arith)) in
      let here : node_at_any all m ≡ G (Some h) = ap (node_at_any all) is_m ∙ there 0 h refl in
      let next : (i : ℕ) → p + suc i ≡ suc p + i = λ i. omega arith in
      let rest = arrive_all (suc p) hs ws ms (omega (arith, lh)) (omega (arith, lm)) (λ i low. places (suc i) (omega (arith, low)) ∙ ap (λ k. Some (Some k)) (next i))
      (λ i k is. sym (ap (node_at all) (next i)) ∙ there (suc i) k is) in
      λ j. arrival w p (sym here j) ∷ rest j

came_in : (scrolled : ℕ → ℕ) (t : Tree Element) (ns : List PlainNode) (xs : List ArrivalOfWidget) → map (arrives_in scrolled t) xs ≡ map (in_nodes (plain_at_any scrolled t) ns) (map coming xs)
came_in scrolled t ns [] = refl
came_in scrolled t ns (x ∷ xs) = ap (λ l. arrives_in scrolled t x ∷ l) (came_in scrolled t ns xs)

pub arrive_paired : (scrolled : ℕ → ℕ) (t : Tree Element) (ns : List PlainNode) (olds news : List PlainWidget) (hs : List Handle) (xs : List ArrivalOfWidget) → length hs ≡ length news
    → ((j : ℕ) → j < length news → slice_get (matching olds news) j ≡ Some (Some j)) → ((j : ℕ) (h : Handle) → slice_get hs j ≡ Some h → node_at ns j ≡ plain_at scrolled t h)
    → map coming xs ≡ coming_from 0 hs news → map (arrives_in scrolled t) xs ≡ arrivals_from ns 0 news (matching olds news)
arrive_paired scrolled t ns olds news hs xs long places there is =
    let zeroth : (i : ℕ) → i ≡ 0 + i = λ i. omega arith in
    came_in scrolled t ns xs ∙ ap (map (in_nodes (plain_at_any scrolled t) ns)) is
    ∙ arrive_all (plain_at_any scrolled t) ns 0 hs news (matching olds news) long (length-matching olds news) (λ i low. places i low ∙ ap (λ k. Some (Some k)) (zeroth i)) (λ i h at. sym (ap (node_at ns) (zeroth i)) ∙ there i h at)

-- what holds of each of them
all_from : (P : ComingWidget → Type 0) (p : ℕ) (hs : List Handle) (ws : List PlainWidget)
    → ((i : ℕ) (h : Handle) (w : PlainWidget) → slice_get hs i ≡ Some h → slice_get ws i ≡ Some w → (place : ℕ) → P (record { widget = w; place = place; beside = Some h }))
    → All P (coming_from p hs ws)
all_from P p [] ws each = All-nil P
all_from P p (h ∷ hs) [] each = All-nil P
all_from P p (h ∷ hs) (w ∷ ws) each =
    All-cons P (record { widget = w; place = p; beside = Some h }) (coming_from (suc p) hs ws) (each 0 h w refl refl p) (all_from P (suc p) hs ws (λ i k v at_k at_v place. each (suc i) k v at_k at_v place))

all_came : (P : ComingWidget → Type 0) (xs : List ArrivalOfWidget) → All P (map coming xs) → All (λ (a : ArrivalOfWidget). P (coming a)) xs
all_came P [] all = All-nil (λ (a : ArrivalOfWidget). P (coming a))
all_came P (x ∷ xs) all = All-cons (λ (a : ArrivalOfWidget). P (coming a)) x xs (All-head P (coming x) (map coming xs) all) (all_came P xs (All-tail P (coming x) (map coming xs) all))

pub each_came : (P : ComingWidget → Type 0) (hs : List Handle) (ws : List PlainWidget) (xs : List ArrivalOfWidget) → map coming xs ≡ coming_from 0 hs ws
    → ((i : ℕ) (h : Handle) (w : PlainWidget) → slice_get hs i ≡ Some h → slice_get ws i ≡ Some w → (place : ℕ) → P (record { widget = w; place = place; beside = Some h }))
    → All (λ (a : ArrivalOfWidget). P (coming a)) xs
each_came P hs ws xs is each = all_came P xs (subst (All P) (sym is) (all_from P 0 hs ws each))

-- a handle of the list stands in it
pub stands_among : (hs : List Handle) (i : ℕ) (h : Handle) → slice_get hs i ≡ Some h → Among h hs
stands_among hs i h is = among_there hs i h is

-- one widget more
pub coming_more : (hs : List Handle) (rs : List (Rc Widget Global)) (i : ℕ) (old new whole : List ComingWidget) (h : Handle) (r : Rc Widget Global) (c : ComingWidget)
    → i < length hs → i < length rs → h ≡ get_or hs i h → r ≡ get_or rs i r → c ≡ record { widget = shared r; place = i; beside = Some h } → new ≡ old ++ c ∷ []
    → old ++ coming_from i (drop i hs) (drop i (map shared rs)) ≡ whole
    → new ++ coming_from (i + 1) (drop (i + 1) hs) (drop (i + 1) (map shared rs)) ≡ whole
coming_more hs rs i old new whole h r c in_hs in_rs at_h at_r is_c is_new so_far =
    let next : suc i ≡ i + 1 = omega arith in
    let ws = map shared rs in
    let in_ws : i < length ws = rw length-map in_rs in
    let w_is : get_or ws i (shared r) ≡ shared r = get_or-map shared rs i r (shared r) in_rs ∙ ap shared (sym at_r) in
    let ws_is : drop i ws ≡ shared r ∷ drop (suc i) ws = drop-cons ws i (shared r) in_ws ∙ ap (λ w. w ∷ drop (suc i) ws) w_is in
    let hs_is : drop i hs ≡ h ∷ drop (suc i) hs = drop-cons hs i h in_hs ∙ ap (λ x. x ∷ drop (suc i) hs) (sym at_h) in
    let rest = coming_from (suc i) (drop (suc i) hs) (drop (suc i) ws) in
    ap (λ k. new ++ coming_from k (drop k hs) (drop k ws)) (sym next)
    ∙ ap (λ l. l ++ rest) is_new
    ∙ append_assoc old (c ∷ []) rest
    ∙ ap (λ b. old ++ (b ∷ rest)) is_c
    ∙ sym (ap (λ l. old ++ coming_from i l (shared r ∷ drop (suc i) ws)) hs_is)
    ∙ sym (ap (λ l. old ++ coming_from i (drop i hs) l) ws_is)
    ∙ so_far

-- ---- pairs so far

pub pair_there : (hs : List Handle) (rs : List (Rc Widget Global)) (i : ℕ) (d : Handle) (r : Rc Widget Global) → i < length hs → i < length rs → r ≡ get_or rs i r
    → (slice_get hs i ≡ Some (get_or hs i d)) × (slice_get (map shared rs) i ≡ Some (shared r))
pair_there hs rs i d r in_hs in_rs at_r =
    let ws = map shared rs in
    let in_ws : i < length ws = rw length-map in_rs in
    let w_is : get_or ws i (shared r) ≡ shared r = get_or-map shared rs i r (shared r) in_rs ∙ ap shared (sym at_r) in
    (slice_get-get_or hs i d in_hs, slice_get-get_or ws i (shared r) in_ws ∙ ap Some w_is)

module _ (t : Tree Element) (hs : List Handle) (ws : List PlainWidget) (i : ℕ) (h : Handle) (w : PlainWidget) (at_h : slice_get hs i ≡ Some h) (at_w : slice_get ws i ≡ Some w) (pair : IsPair t i h w)
    (so_far : (k : ℕ) (x : Handle) (v : PlainWidget) → k < i → slice_get hs k ≡ Some x → slice_get ws k ≡ Some v → IsPair t k x v) (k : ℕ) (x : Handle) (v : PlainWidget) (low : k < i + 1)
    (at_x : slice_get hs k ≡ Some x) (at_v : slice_get ws k ≡ Some v) where
  by_test : (b : Bool) → eqb k i ≡ b → IsPair t k x v
  by_test true e =
      let same : i ≡ k = sym (eqb-true k i e) in
      let is_x : h ≡ x = some_is (sym at_h ∙ ap (slice_get hs) same ∙ at_x) in
      let is_v : w ≡ v = some_is (sym at_w ∙ ap (slice_get ws) same ∙ at_v) in
      subst (λ n. IsPair t n x v) same (subst (λ y. IsPair t i y v) is_x (subst (λ u. IsPair t i h u) is_v pair))
  by_test false e =
      let other : k ≢ i = λ s. eqb-false k i e s in
      so_far k x v (omega (arith, low, other)) at_x at_v

  pub pair_more : IsPair t k x v
  pair_more = by_test (eqb k i) refl
