-- Where an element has nothing below it, its child widgets come with nothing beside them.
use Rattle.std.proofs.Common.{◌≡◌, ℕ, suc, ◌+◌, ◌<◌, Option, Some, None, List, [], ◌∷◌, ◌++◌, length, map, drop, drop-cons, get_or, refl, sym, ap, ◌∙◌, subst, arith, append_assoc}
use Rattle.std.specs.List.{All}
use Rattle.std.specs.declared.rc.Rc.{Rc}
use Rattle.std.specs.declared.alloc.Global.{Global}
use Rattle.std.proofs.lemmas.List.{get_or-map, length-map}
use Rattle.std.proofs.lemmas.List.Elements.{All-nil, All-cons, All-head, All-tail}
use Rattle.fx_handles.specs.declared.Handle.{Handle}
use Rattle.node_tree.specs.Tree.{Tree}
use Rattle.widget_model.specs.declared.widgets.Widget.{Widget}
use Rattle.widget_model.specs.Plain.{PlainWidget}
use Rattle.widget_model.specs.View.{shared}
use Rattle.plain_tree.specs.PlainNode.{PlainNode}
use Rattle.build_form.specs.Partner.{Arrival, arrival, arrivals_from, node_at_any}
use Rattle.element_tree.specs.Element.{Element}
use Rattle.build_walk.specs.Kept.{plain_at_any}
use Rattle.build_owner.specs.declared.arriving.Arrival.{Arrival as ArrivalOfWidget}
use Rattle.build_owner.specs.ArrivalView.{arrives_in, ComingWidget, coming, coming_anew, coming_from, lone_coming}

-- no node is at any place of none
nothing_there : (m : Option ℕ) → None ≡ node_at_any [] m
nothing_there None = refl
nothing_there (Some place) = refl

pub none_had : (F : Handle → Option PlainNode) (hs : List Handle) (ns : List PlainNode) → map F hs ≡ map Some ns → length hs ≡ 0 → ns ≡ []
none_had F [] [] known none = refl
none_had F [] (n ∷ ns) known none = cc
none_had F (h ∷ hs) ns known none = absurd (omega (arith, none))

-- ---- widgets that come to places where nothing stands

module _ (G : Option Handle → Option PlainNode) (none : G None ≡ None) where
  abbrev in_nodes : ComingWidget → Arrival
  in_nodes c = arrival c.widget c.place (G c.beside)

  arrive_all : (p : ℕ) (ws : List PlainWidget) (ms : List (Option ℕ)) → map in_nodes (coming_anew p ws) ≡ arrivals_from [] p ws ms
  arrive_all p [] ms = refl
  arrive_all p (w ∷ ws) [] = let rest = arrive_all (suc p) ws [] in λ i. arrival w p (none i) ∷ rest i
  arrive_all p (w ∷ ws) (m ∷ ms) =
      let here : G None ≡ node_at_any [] m = none ∙ nothing_there m in
      let rest = arrive_all (suc p) ws ms in
      λ i. arrival w p (here i) ∷ rest i

came_in : (scrolled : ℕ → ℕ) (t : Tree Element) (xs : List ArrivalOfWidget) → map (arrives_in scrolled t) xs ≡ map (in_nodes (plain_at_any scrolled t) refl) (map coming xs)
came_in scrolled t [] = refl
came_in scrolled t (x ∷ xs) = ap (λ l. arrives_in scrolled t x ∷ l) (came_in scrolled t xs)

pub arrive_anew : (scrolled : ℕ → ℕ) (t : Tree Element) (ns : List PlainNode) (ws : List PlainWidget) (ms : List (Option ℕ)) (xs : List ArrivalOfWidget) → ns ≡ []
    → map coming xs ≡ coming_anew 0 ws → map (arrives_in scrolled t) xs ≡ arrivals_from ns 0 ws ms
arrive_anew scrolled t ns ws ms xs empty is =
    came_in scrolled t xs ∙ ap (map (in_nodes (plain_at_any scrolled t) refl)) is ∙ arrive_all (plain_at_any scrolled t) refl 0 ws ms
    ∙ ap (λ l. arrivals_from l 0 ws ms) (sym empty)

-- what holds of each of them
all_anew : (P : ComingWidget → Type 0) (p : ℕ) (ws : List PlainWidget) → ((w : PlainWidget) (place : ℕ) → P (record { widget = w; place = place; beside = None })) → All P (coming_anew p ws)
all_anew P p [] each = All-nil P
all_anew P p (w ∷ ws) each = All-cons P (record { widget = w; place = p; beside = None }) (coming_anew (suc p) ws) (each w p) (all_anew P (suc p) ws each)

all_came : (P : ComingWidget → Type 0) (xs : List ArrivalOfWidget) → All P (map coming xs) → All (λ (a : ArrivalOfWidget). P (coming a)) xs
all_came P [] all = All-nil (λ (a : ArrivalOfWidget). P (coming a))
all_came P (x ∷ xs) all = All-cons (λ (a : ArrivalOfWidget). P (coming a)) x xs (All-head P (coming x) (map coming xs) all) (all_came P xs (All-tail P (coming x) (map coming xs) all))

pub each_anew : (P : ComingWidget → Type 0) (ws : List PlainWidget) (xs : List ArrivalOfWidget) → map coming xs ≡ coming_anew 0 ws
    → ((w : PlainWidget) (place : ℕ) → P (record { widget = w; place = place; beside = None })) → All (λ (a : ArrivalOfWidget). P (coming a)) xs
each_anew P ws xs is each = all_came P xs (subst (All P) (sym is) (all_anew P 0 ws each))

-- one widget more
pub anew_more : (rs : List (Rc Widget Global)) (i : ℕ) (old new whole : List ComingWidget) (r : Rc Widget Global) (c : ComingWidget)
    → i < length rs → r ≡ get_or rs i r → c ≡ record { widget = shared r; place = i; beside = None } → new ≡ old ++ c ∷ []
    → old ++ coming_anew i (drop i (map shared rs)) ≡ whole
    → new ++ coming_anew (i + 1) (drop (i + 1) (map shared rs)) ≡ whole
anew_more rs i old new whole r c in_rs at_r is_c is_new so_far =
    let next : suc i ≡ i + 1 = omega arith in
    let ws = map shared rs in
    let in_ws : i < length ws = rw length-map in_rs in
    let w_is : get_or ws i (shared r) ≡ shared r = get_or-map shared rs i r (shared r) in_rs ∙ ap shared (sym at_r) in
    let ws_is : drop i ws ≡ shared r ∷ drop (suc i) ws = drop-cons ws i (shared r) in_ws ∙ ap (λ w. w ∷ drop (suc i) ws) w_is in
    let rest = coming_anew (suc i) (drop (suc i) ws) in
    ap (λ k. new ++ coming_anew k (drop k ws)) (sym next)
    ∙ ap (λ l. l ++ rest) is_new
    ∙ append_assoc old (c ∷ []) rest
    ∙ ap (λ b. old ++ (b ∷ rest)) is_c
    ∙ sym (ap (λ l. old ++ coming_anew i l) ws_is)
    ∙ so_far

-- ---- one widget alone

pub lone_anew : (rs : List (Rc Widget Global)) (r : Rc Widget Global) → length rs ≡ 1 → r ≡ get_or rs 0 r → lone_coming (shared r) None ≡ coming_anew 0 (map shared rs)
lone_anew [] r one at = absurd (omega (arith, one))
lone_anew (x ∷ []) r one at = ap (λ (z : Rc Widget Global). lone_coming (shared z) None) at
lone_anew (x ∷ y ∷ rs) r one at = absurd (omega (arith, one))

pub lone_paired : (hs : List Handle) (rs : List (Rc Widget Global)) (h d : Handle) (r : Rc Widget Global) → length hs ≡ length rs → length rs ≡ 1 → h ≡ get_or hs 0 d → r ≡ get_or rs 0 r
    → lone_coming (shared r) (Some h) ≡ coming_from 0 hs (map shared rs)
lone_paired hs [] h d r long one at_h at_r = absurd (omega (arith, one))
lone_paired [] (x ∷ rs) h d r long one at_h at_r = absurd (omega (arith, long))
lone_paired (k ∷ hs) (x ∷ y ∷ rs) h d r long one at_h at_r = absurd (omega (arith, one))
lone_paired (k ∷ i ∷ hs) (x ∷ []) h d r long one at_h at_r = absurd (omega (arith, long))
lone_paired (k ∷ []) (x ∷ []) h d r long one at_h at_r = λ j. lone_coming (shared (at_r j)) (Some (at_h j))
