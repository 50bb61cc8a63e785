-- Which children of a lazy list are entered.
use Rattle.std.proofs.Common.{◌≡◌, ℕ, ◌+◌, ◌<◌, Bool, true, false, ◌&&◌, ◌||◌, cond, is_some, Option, Some, None, IfSome, List, [], ◌∷◌, ◌++◌, length, map, filter, take, get_or, refl, sym, ap, ◌∙◌, subst, arith}
use Rattle.std.specs.List.{All}
use Rattle.std.proofs.lemmas.List.{map-append, take_more}
use Rattle.std.proofs.lemmas.List.Elements.{All-cons, All-head, All-tail}
use Rattle.fx_expr.specs.declared.values.Value.{Value}
use Rattle.fx_handles.specs.declared.Handle.{Handle}
use Rattle.node_tree.specs.Tree.{Tree, IsNode}
use Rattle.sliver_layout.specs.declared.protocol.Window.{Window}
use Rattle.plain_tree.specs.PlainNode.{PlainNode}
use Rattle.widget_model.specs.Plain.{look_of}
use Rattle.widget_model.specs.Typed.{Declarations, IsTypedWidget}
use Rattle.layout_form.specs.SliverRule.{is_among}
use Rattle.build_form.specs.BuildRole.{build_role_of}
use Rattle.build_form.specs.FullBuild.{keeps_alive, stays, items}
use Rattle.build_form.specs.Partner.{Arrival as PlainArrival, arrival}
use Rattle.element_tree.specs.Element.{Element}
use Rattle.build_walk.specs.Kept.{plain_at, plain_at_any}
use Rattle.build_owner.specs.declared.arriving.Arrival.{Arrival}
use Rattle.build_owner.specs.ArrivalView.{arrives_in, ComingWidget, coming, is_there}
use Rattle.build_owner.specs.LastFrame.{LastFrame, IsOld}
use Rattle.build_owner.specs.Ready.{IsMatched, IsTypedArrival}

filter_append : {A : Type 0} (p : A → Bool) (xs ys : List A) → filter p (xs ++ ys) ≡ filter p xs ++ filter p ys
filter_append p [] ys = refl
filter_append p (x ∷ xs) ys = by_test (p x) (filter_append p xs ys)
  where
    by_test : (b : Bool) → filter p (xs ++ ys) ≡ filter p xs ++ filter p ys → cond b (x ∷ filter p (xs ++ ys)) (filter p (xs ++ ys)) ≡ cond b (x ∷ filter p xs) (filter p xs) ++ filter p ys
    by_test true e = ap (λ l. x ∷ l) e
    by_test false e = e

-- those so far, and one more
pub item_more : (range : Window) (xs : List Arrival) (i : ℕ) (x : Arrival) (so_far new : List ComingWidget) → i < length xs → x ≡ get_or xs i x
    → so_far ≡ filter (is_there range) (map coming (take i xs)) → new ≡ so_far ++ filter (is_there range) (coming x ∷ []) → new ≡ filter (is_there range) (map coming (take (i + 1) xs))
item_more range xs i x so_far new low at before is =
    is
    ∙ ap (λ l. l ++ filter (is_there range) (coming x ∷ [])) before
    ∙ sym (filter_append (is_there range) (map coming (take i xs)) (coming x ∷ []))
    ∙ ap (filter (is_there range)) (sym (map-append coming (take i xs) (x ∷ [])) ∙ ap (map coming) (ap (λ y. take i xs ++ y ∷ []) at ∙ sym (take_more xs i x low)))

-- one that is there, and one that isn't
pub one_there : (range : Window) (c : ComingWidget) → is_there range c ≡ true → c ∷ [] ≡ filter (is_there range) (c ∷ [])
one_there range c e = ap (λ b. cond b (c ∷ []) []) (sym e)

pub none_there : (range : Window) (c : ComingWidget) → is_there range c ≡ false → [] ≡ filter (is_there range) (c ∷ [])
none_there range c e = ap (λ b. cond b (c ∷ []) []) (sym e)

-- ---- what holds of all that come holds of the items

all_filtered : {A : Type 0} (P : A → Type 0) (p : A → Bool) (xs : List A) → All P xs → All P (filter p xs)
all_filtered P p [] all = all
all_filtered P p (x ∷ xs) all = by_test (p x) (all_filtered P p xs (All-tail P x xs all))
  where
    by_test : (b : Bool) → All P (filter p xs) → All P (cond b (x ∷ filter p xs) (filter p xs))
    by_test true rest = All-cons P x (filter p xs) (All-head P x xs all) rest
    by_test false rest = rest

all_coming : (P : ComingWidget → Type 0) (xs : List Arrival) → All (λ (a : Arrival). P (coming a)) xs → All P (map coming xs)
all_coming P [] all = λ i x low. absurd (omega (arith, low))
all_coming P (x ∷ xs) all = All-cons P (coming x) (map coming xs) (All-head (λ (a : Arrival). P (coming a)) x xs all) (all_coming P xs (All-tail (λ (a : Arrival). P (coming a)) x xs all))

all_came : (P : ComingWidget → Type 0) (xs : List Arrival) → All P (map coming xs) → All (λ (a : Arrival). P (coming a)) xs
all_came P [] all = λ i x low. absurd (omega (arith, low))
all_came P (x ∷ xs) all = All-cons (λ (a : Arrival). P (coming a)) x xs (All-head P (coming x) (map coming xs) all) (all_came P xs (All-tail P (coming x) (map coming xs) all))

module _ (range : Window) (xs ys : List Arrival) (is : map coming ys ≡ filter (is_there range) (map coming xs)) where
  among_items : (P : ComingWidget → Type 0) → All (λ (a : Arrival). P (coming a)) xs → All (λ (a : Arrival). P (coming a)) ys
  among_items P all = all_came P ys (subst (All P) (sym is) (all_filtered P (is_there range) (map coming xs) (all_coming P xs all)))

  pub items_typed : (d : Declarations) (t : Tree Element) → All (IsTypedArrival d t) xs → All (IsTypedArrival d t) ys
  items_typed d t all =
      let both = among_items (λ c. IsTypedWidget d c.widget × IfSome c.beside (IsMatched d t c.widget)) (λ i a low. let one = all i a low in (one.widget, one.beside)) in
      λ i a low. let one = both i a low in record { widget = one.0; beside = one.1 }

  pub items_old : (f : LastFrame) (was : List Value) → All (λ (a : Arrival). IfSome a.beside (IsOld f was)) xs → All (λ (a : Arrival). IfSome a.beside (IsOld f was)) ys
  items_old f was all = among_items (λ c. IfSome c.beside (IsOld f was)) all

  -- ---- they are the definition's
  module _ (scrolled : ℕ → ℕ) (t : Tree Element) (known : (h : Handle) → IsNode t h → (n : PlainNode) × (plain_at scrolled t h ≡ Some n)) where
    abbrev in_tree : ComingWidget → PlainArrival
    in_tree c = arrival c.widget c.place (plain_at_any scrolled t c.beside)

    there_same : (o : Option Handle) → IfSome o (IsNode t) → is_some (plain_at_any scrolled t o) ≡ is_some o
    there_same None live = refl
    there_same (Some h) live = ap is_some (known h live).1

    filter_same : (cs : List ComingWidget) → All (λ (c : ComingWidget). IfSome c.beside (IsNode t)) cs → map in_tree (filter (is_there range) cs) ≡ items range (map in_tree cs)
    filter_same [] live = refl
    filter_same (c ∷ cs) live =
        let here : (is_among range c.place || stays (in_tree c)) ≡ is_there range c =
        ap (λ b. is_among range c.place || (keeps_alive (build_role_of (look_of c.widget)) && b)) (there_same c.beside (All-head (λ (x : ComingWidget). IfSome x.beside (IsNode t)) c cs live)) in
        let rest = filter_same cs (All-tail (λ (x : ComingWidget). IfSome x.beside (IsNode t)) c cs live) in
        by_test (is_there range c) rest ∙ ap (λ b. cond b (in_tree c ∷ items range (map in_tree cs)) (items range (map in_tree cs))) (sym here)
      where
        by_test : (b : Bool) → map in_tree (filter (is_there range) cs) ≡ items range (map in_tree cs)
            → map in_tree (cond b (c ∷ filter (is_there range) cs) (filter (is_there range) cs)) ≡ cond b (in_tree c ∷ items range (map in_tree cs)) (items range (map in_tree cs))
        by_test true e = ap (λ l. in_tree c ∷ l) e
        by_test false e = e

    map_twice : (rs : List Arrival) → map (arrives_in scrolled t) rs ≡ map in_tree (map coming rs)
    map_twice [] = refl
    map_twice (a ∷ rs) = ap (λ l. in_tree (coming a) ∷ l) (map_twice rs)

    pub items_are : All (λ (a : Arrival). IfSome a.beside (IsNode t)) xs → map (arrives_in scrolled t) ys ≡ items range (map (arrives_in scrolled t) xs)
    items_are live =
        map_twice ys
        ∙ ap (map in_tree) is
        ∙ filter_same (map coming xs) (all_coming (λ (c : ComingWidget). IfSome c.beside (IsNode t)) xs live)
        ∙ ap (items range) (sym (map_twice xs))
