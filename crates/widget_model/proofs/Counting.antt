-- Counts of widgets that stop at 2^32 - 1.
use Rattle.std.proofs.Common.{◌≡◌, ℕ, ◌+◌, ◌-◌, ◌^◌, ◌<◌, ◌≤◌, min, zero, suc, List, [], ◌∷◌, ◌++◌, length, map, take, get_or, sym, ap, ◌∙◌, subst, arith}
use Rattle.std.proofs.lemmas.List.{map_more}
use Rattle.std.proofs.lemmas.List.Elements.{All-get_or}
use Rattle.std.specs.declared.rc.Rc.{Rc}
use Rattle.std.specs.declared.alloc.Global.{Global}
use Rattle.widget_model.specs.declared.widgets.Widget.{Widget}
use Rattle.widget_model.specs.Plain.{PlainWidget, widgets_of}
use Rattle.widget_model.specs.Size.{count_of, counts_of, count_in}
use Rattle.widget_model.specs.View.{plain_of, shared, slots_in}
use Rattle.widget_model.specs.Sized.{IsSized, AreSized}
use Rattle.widget_model.specs.PlainLaws.{counts_of-widgets_of}

pub count_in-append : (vs ws : List PlainWidget) → count_in (vs ++ ws) ≡ count_in vs + count_in ws
count_in-append [] ws = omega arith
count_in-append (v ∷ vs) ws = omega (arith, count_in-append vs ws)

-- a sum that stops, with one more count that stops
stops : (n m top : ℕ) → min (min n top + min m top) top ≡ min (n + m) top
stops n m top = omega arith

sized_at : (ws : List (Rc Widget Global)) (i : ℕ) (d : Rc Widget Global) → AreSized ws → i < length ws → IsSized (get_or ws i d).value
sized_at ws i d all below = All-get_or (λ (r : Rc Widget Global). IsSized r.value) ws i d below all

-- one widget more in the sum
pub sum_more : (ws : List (Rc Widget Global)) (i n : ℕ) (r : Rc Widget Global) (w : Widget) → AreSized ws → i < length ws → r ≡ get_or ws i r → w ≡ r.value
    → n ≡ min (count_in (map shared (take i ws))) (2 ^ 32 - 1)
    → min (n + w.size) (2 ^ 32 - 1) ≡ min (count_in (map shared (take (i + 1) ws))) (2 ^ 32 - 1)
sum_more ws i n r w all below at is so_far =
    let here = subst (λ (r : Rc Widget Global). IsSized r.value) (sym at) (sized_at ws i r all below) in
    let sized : w.size ≡ min (count_of (shared r)) (2 ^ 32 - 1) = ap (λ (w : Widget). w.size) is ∙ here in
    let more : map shared (take (i + 1) ws) ≡ map shared (take i ws) ++ shared r ∷ [] = map_more shared ws i r below ∙ ap (λ v. map shared (take i ws) ++ v ∷ []) (ap shared (sym at)) in
    let counted : count_in (map shared (take (i + 1) ws)) ≡ count_in (map shared (take i ws)) + count_of (shared r) = ap count_in more ∙ count_in-append (map shared (take i ws)) (shared r ∷ []) ∙ omega arith in
    omega (arith, stops (count_in (map shared (take i ws))) (count_of (shared r)) (2 ^ 32 - 1))

-- a widget around its slots and its children
pub size_around : (slots children : List PlainWidget) (n m below size : ℕ)
    → n ≡ min (count_in slots) (2 ^ 32 - 1) → m ≡ min (count_in children) (2 ^ 32 - 1) → below ≡ min (n + m) (2 ^ 32 - 1) → size ≡ min (below + 1) (2 ^ 32 - 1)
    → size ≡ min (suc (counts_of (widgets_of slots) + counts_of (widgets_of children))) (2 ^ 32 - 1)
size_around slots children n m below size is_n is_m is_below is_size =
    omega (arith, counts_of-widgets_of slots, counts_of-widgets_of children)

-- the lists in a widget hold fewer widgets than it is
pub slots_fewer : (w : Widget) (ws : List PlainWidget) → ws ≡ slots_in w.kind → count_in ws < count_of (plain_of w)
slots_fewer w ws is = omega (arith, ap count_in is, counts_of-widgets_of (slots_in w.kind))

pub children_fewer : (w : Widget) → count_in w.children < count_of (plain_of w)
children_fewer w = omega (arith, counts_of-widgets_of w.children)

-- a widget of a list is no more than the list
pub counted_within : (ws : List PlainWidget) (i : ℕ) (d : PlainWidget) → i < length ws → count_of (get_or ws i d) ≤ count_in ws
counted_within [] i d below = absurd (omega arith)
counted_within (w ∷ ws) zero d below = omega arith
counted_within (w ∷ ws) (suc i) d below = omega (arith, counted_within ws i d (omega arith))
