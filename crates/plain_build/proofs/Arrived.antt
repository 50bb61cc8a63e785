-- What the program's arrivals are, and the nodes that were made of them.
use Rattle.std.proofs.Common.{◌≡◌, ℕ, ◌+◌, ◌<◌, Bool, true, false, Option, List, [], ◌∷◌, ◌++◌, length, map, take, get_or, refl, sym, ap, ◌∙◌}
use Rattle.std.proofs.lemmas.List.{map-append, take_more}
use Rattle.widget_model.specs.Plain.{PlainWidget}
use Rattle.widget_model.specs.View.{shared}
use Rattle.reconcile.specs.Matching.{matching}
use Rattle.plain_tree.specs.PlainNode.{PlainNode, widget_of}
use Rattle.plain_build.specs.declared.partners.Arrival.{Arrival as ArrivalOfWidget}
use Rattle.build_form.specs.Partner.{Arrival, arrivals, nodes_had, widgets_had}
use Rattle.plain_build.specs.PartnerView.{plain_arrival}
use Rattle.build_form.specs.WellBuilt.{AreBelow}
use Rattle.build_form.proofs.Entered.{widgets_from}

plain_widgets : (rs : List ArrivalOfWidget) → map (λ (a : ArrivalOfWidget). shared a.widget) rs ≡ map (λ (a : Arrival). a.widget) (map plain_arrival rs)
plain_widgets [] = refl
plain_widgets (r ∷ rs) = ap (λ l. shared r.widget ∷ l) (plain_widgets rs)

pub arrived_below : (b : Bool) (o : Option PlainNode) (ws : List PlainWidget) (rs : List ArrivalOfWidget) (ns : List PlainNode) → b ≡ false → map plain_arrival rs ≡ arrivals o ws
    → map widget_of ns ≡ map (λ (a : ArrivalOfWidget). shared a.widget) rs → AreBelow b ws ns
arrived_below true o ws rs ns e arriving widgets = cc
arrived_below false o ws rs ns e arriving widgets =
    widgets ∙ plain_widgets rs ∙ ap (map (λ (a : Arrival). a.widget)) arriving ∙ widgets_from (nodes_had o) 0 ws (matching (widgets_had o) ws)

pub widgets_pushed : (xs ys : List PlainNode) (x : PlainNode) (rs : List ArrivalOfWidget) (i : ℕ) (r : ArrivalOfWidget) → ys ≡ xs ++ x ∷ [] → widget_of x ≡ shared r.widget → i < length rs → r ≡ get_or rs i r
    → map widget_of xs ≡ map (λ (a : ArrivalOfWidget). shared a.widget) (take i rs) → map widget_of ys ≡ map (λ (a : ArrivalOfWidget). shared a.widget) (take (i + 1) rs)
widgets_pushed xs ys x rs i r e w low at h =
    let f = λ (a : ArrivalOfWidget). shared a.widget in
    ap (map widget_of) e ∙ map-append widget_of xs (x ∷ [])
    ∙ ap (λ l. l ++ widget_of x ∷ []) h
    ∙ ap (λ z. map f (take i rs) ++ z ∷ []) w
    ∙ sym (map-append f (take i rs) (r ∷ []))
    ∙ ap (map f) (ap (λ z. take i rs ++ z ∷ []) at ∙ sym (take_more rs i r low))
